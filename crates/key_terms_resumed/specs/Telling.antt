-- Two options by which a record is resumed tell its own role, where its halves differ, and the nonces behind the halves. Assumes nothing.
use Rattle.std.specs.Prelude.{ℕ, ◌+◌, ◌-◌, ◌%◌, ◌≤◌, ◌<◌, ◌≡◌, List, ◌∷◌, ◌++◌, ◌&&◌}
use Rattle.std.proofs.Common.{◌∙◌}
use Rattle.wire.specs.Bytes.{part}
use Rattle.eno.specs.Suboption.{Sent}
use Rattle.eno.specs.Session.{half_size}

-- the nonce behind the half
abbrev pub nonce_by : List ℕ → Sent → List ℕ
nonce_by o x = part (x.start + half_size) (x.len - half_size) o
