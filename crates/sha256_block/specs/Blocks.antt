-- The hash value after the block that stands at a place of a message, for any place.
use Rattle.std.specs.Prelude.{ℕ, ◌+◌, List, cond, leb, length, take, drop}
use Rattle.hash_layout.specs.declared.Words.{Words}
use Rattle.hash_layout.specs.Sha256.{compressed}

-- the 64 bytes from `at` on; h itself where no 64 bytes stand there
unfoldable pub compressed_at : Words → List ℕ → ℕ → Words
compressed_at h m at = cond (leb (at + 64) (length m)) (compressed h (take 64 (drop at m))) h
