-- An exported call on pieces gives back what the call that it wraps gives back, in plain numbers.
use Rattle.std.specs.Prelude.{ℕ, ◌+◌, ◌*◌, ◌≤◌, ◌<◌, ◌≡◌, refl, List, []}
use Rattle.std.proofs.Common.{◌∙◌, ap, lt-ltb, le-ltb}
use Rattle.init_layout.specs.Reading.{ciphers_from, nonce_from}
use Rattle.pieces_layout.specs.Step.{Taken}
use Rattle.pieces_layout.specs.Starts.{Begun}
use Rattle.pieces_layout.specs.Answers.{told_of, taken_of, start_number, begun_of}
use Rattle.pieces_layout.specs.declared.PieceSays.{PieceSays}
use Rattle.pieces_layout.specs.declared.PieceSays.TheVariants as p
use Rattle.pieces_layout.specs.declared.Fed.{Fed}
use Rattle.pieces_layout.specs.declared.PieceStart.{PieceStart}
use Rattle.host_reply.specs.declared.ReplyNumbers.{ReplyNumbers}
use Rattle.host_pieces_numbers.specs.Replies.{nonce_place, fed_numbers, GivesFed, start_numbers, GivesStart}
use Rattle.host_pieces_numbers.specs.declared.FedNumbers.{FedNumbers}

-- the numbers do not hang on the gathered bytes, in which nonce and key stand
same_numbers : (u : ℕ) (x : PieceSays) (g : List ℕ) → fed_numbers u (told_of x []) ≡ fed_numbers u (told_of x g)
unfolding fed_numbers
same_numbers u p.Waiting g = refl
same_numbers u (p.Init1 cipher count n keys) g = refl
same_numbers u (p.Init2 cipher n keys) g = refl
same_numbers u (p.Header rekey clen next control high low) g = refl
same_numbers u (p.Body begins ends) g = refl
same_numbers u (p.Unreadable position) g = refl
same_numbers u (p.NoCommonCipher position) g = refl
same_numbers u (p.NoFrame position) g = refl
same_numbers u p.NoRoom g = refl

pub gives_fed : (r : FedNumbers) (f : Fed) (n g : List ℕ) (t : Taken) → r ≡ fed_numbers f.used (told_of f.says []) → taken_of f n g ≡ t → GivesFed r n g t
gives_fed r f n g t e q = (e ∙ (same_numbers f.used f.says g ∙ ap (λ (x : Taken). fed_numbers x.used x.told) q), ap (λ (x : Taken). x.reader) q)

pub gives_start : (r : ReplyNumbers) (a : PieceStart) (n g : List ℕ) (b : Begun) → r ≡ start_numbers (start_number a) → begun_of a n g ≡ b → GivesStart r n g b
gives_start r a n g b e q = (e ∙ ap (λ (x : Begun). start_numbers x.refused_by) q, ap (λ (x : Begun). x.reader) q)

-- where the nonce of an Init1 stands
pub place_far : (count : ℕ) → 255 < count → 0 ≡ nonce_place count
unfolding nonce_place
place_far count h = rw (lt-ltb 255 count h)

pub place_near : (count : ℕ) → count ≤ 255 → 9 + 2 * count ≡ nonce_place count
unfolding nonce_place nonce_from ciphers_from
place_near count h = rw (le-ltb 255 count h)
