-- The answers of the calls on pieces, in document 01's numbers and values; each view loses nothing.
use Rattle.std.specs.Prelude.{ℕ, ◌+◌, ◌≡◌, refl, List, ◌∷◌, cond, eqb, get_or}
use Rattle.std.proofs.Common.{sym, ◌∙◌, ap}
use Rattle.std.proofs.Math.Option.{Option, none, some}
use Rattle.init_layout.specs.Layout.{Init, init1, init2}
use Rattle.init_layout.specs.Reading.{Says, took, refused_with}
use Rattle.frame_layout.specs.Outcome as frame
use Rattle.pieces_layout.specs.Step.{Item, init, header, body, Told, waiting, item, refused, short, Taken}
use Rattle.pieces_layout.specs.declared.PieceSays.{PieceSays}
use Rattle.pieces_layout.specs.declared.PieceSays.TheVariants as p
use Rattle.pieces_layout.specs.declared.Fed.{Fed}
use Rattle.pieces_layout.specs.declared.PieceStart.{PieceStart}
use Rattle.pieces_layout.specs.declared.PieceStart.TheVariants as s
use Rattle.pieces_layout.specs.Answers.{told_of, taken_of, start_number}

-- the views lose nothing: an answer is read back from what it tells
abbrev init_in : Init → (keys : ℕ) → Says → PieceSays
init_in init1 keys (took cipher count n) = p.Init1 cipher count n keys
init_in init2 keys (took cipher count n) = p.Init2 cipher n keys
init_in i keys (refused_with n) = p.Waiting

abbrev header_in : frame.Reply → (bytes : List ℕ) → PieceSays
header_in (frame.header rekey clen next) b = p.Header rekey clen next (get_or b 0 0) (get_or b 1 0) (get_or b 2 0)
header_in (frame.refused n) b = p.Waiting
header_in (frame.begins o) b = p.Waiting
header_in frame.made b = p.Waiting
header_in (frame.written n) b = p.Waiting
header_in (frame.plaintext fin urg urgent at) b = p.Waiting

abbrev item_in : Item → PieceSays
item_in (init i keys x) = init_in i keys x.says
item_in (header x) = header_in x.reply x.bytes
item_in (body begins ends) = p.Body begins ends

abbrev says_in : Told → PieceSays
says_in waiting = p.Waiting
says_in (item x) = item_in x
says_in (refused n k) = cond (eqb n 8) (p.Unreadable k) (cond (eqb n 10) (p.NoCommonCipher k) (p.NoFrame k))
says_in short = p.NoRoom

says_back : (a : PieceSays) (g : List ℕ) → says_in (told_of a g) ≡ a
says_back p.Waiting g = refl
says_back (p.Init1 cipher count n keys) g = refl
says_back (p.Init2 cipher n keys) g = refl
says_back (p.Header rekey clen next control high low) g = refl
says_back (p.Body begins ends) g = refl
says_back (p.Unreadable k) g = refl
says_back (p.NoCommonCipher k) g = refl
says_back (p.NoFrame k) g = refl
says_back p.NoRoom g = refl

pub told_tells : (a b : PieceSays) (g : List ℕ) → told_of a g ≡ told_of b g → a ≡ b
told_tells a b g e = sym (says_back a g) ∙ (ap says_in e ∙ says_back b g)

pub fed_tells : (a b : Fed) (n g : List ℕ) → taken_of a n g ≡ taken_of b n g → a ≡ b
fed_tells a b n g e =
    let q = told_tells a.says b.says g (ap (λ (x : Taken). x.told) e) in
    let u = ap (λ (x : Taken). x.used) e in
    λ i. record { used = u i; says = q i }

abbrev start_in : Option ℕ → PieceStart
start_in none = s.Started
start_in (some n) = cond (eqb n 3) s.Unfit s.NoRoom

start_back : (a : PieceStart) → start_in (start_number a) ≡ a
start_back s.Started = refl
start_back s.Unfit = refl
start_back s.NoRoom = refl

pub start_tells : (a b : PieceStart) → start_number a ≡ start_number b → a ≡ b
start_tells a b e = sym (start_back a) ∙ (ap start_in e ∙ start_back b)
