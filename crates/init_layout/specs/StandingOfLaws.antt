-- How the bytes of an Init message stand: its list of ciphers beside magic, length and fields. Assumes nothing.
use Rattle.std.specs.Prelude.{ℕ, ◌≡◌, List, false}
use Rattle.std.proofs.Common.{◌∙◌}
use Rattle.init_layout.specs.Layout.{Init, magic_of}
use Rattle.init_layout.specs.Reading.{count_at, fields_end, void_at}
use Rattle.init_layout.specs.StandingLaws.{Hopeful, Whole}

-- the bytes at hand may still be readable
pub record HopefulFor (i : Init) (keys : ℕ) (p : List ℕ) : Type 0 where
  pub fields : Hopeful (magic_of i) (fields_end i keys (count_at i p)) p
  pub clear : void_at i p ≡ false

-- they are a message that is whole
pub record WholeFor (i : Init) (keys : ℕ) (p : List ℕ) : Type 0 where
  pub fields : Whole (magic_of i) (fields_end i keys (count_at i p)) p
  pub clear : void_at i p ≡ false
