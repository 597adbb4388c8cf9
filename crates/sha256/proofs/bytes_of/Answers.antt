-- `sha256::bytes_of` meets its contract.
use Rattle.std.proofs.Common.{◌∙◌}
use native.Mathlib.Nat.{div-one}
use Rattle.wire.specs.Number.{big_endian}
use Rattle.hash_layout.specs.Sha256.{bytes_of}
use Rattle.sha256.proofs.bytes_of.Goals as goal

pub returns : goal.returns
unfolding bytes_of big_endian
returns c =
    let a = c.copy_from_slice.ensures.after ∙ c.to_be_bytes.ensures in
    let b = c.copy_from_slice-2.ensures.after ∙ c.to_be_bytes-2.ensures in
    let d = c.copy_from_slice-3.ensures.after ∙ c.to_be_bytes-3.ensures in
    let e = c.copy_from_slice-4.ensures.after ∙ c.to_be_bytes-4.ensures in
    let f = c.copy_from_slice-5.ensures.after ∙ c.to_be_bytes-5.ensures in
    let g = c.copy_from_slice-6.ensures.after ∙ c.to_be_bytes-6.ensures in
    let h = c.copy_from_slice-7.ensures.after ∙ c.to_be_bytes-7.ensures in
    let i = c.copy_from_slice-8.ensures.after ∙ c.to_be_bytes-8.ensures in
    rw (a, b, d, e, f, g, h, i) (simp div-one)
