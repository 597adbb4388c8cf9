-- The plain numbers of the calls on pieces lose nothing: what was told is read back from them. The host knows which Init message it reads and how long its keys are; nonce and key stand in the gathered bytes.
use Rattle.std.specs.Prelude.{ℕ, ◌≡◌, refl, List, [], true, false, cond, eqb}
use Rattle.std.proofs.Common.{sym, ◌∙◌, ap}
use Rattle.std.proofs.Math.Option.{Option, none, some}
use Rattle.init_layout.specs.Layout.{Init, init1, init2}
use Rattle.frame_layout.specs.Outcome as frame
use Rattle.pieces_layout.specs.Step.{header, body, Told, waiting, item, refused, short}
use Rattle.pieces_layout.specs.Answers.{init_seen, told_of}
use Rattle.pieces_layout.specs.declared.PieceSays.{PieceSays}
use Rattle.pieces_layout.specs.declared.PieceSays.TheVariants as p
use Rattle.host_reply.specs.declared.ReplyNumbers.{ReplyNumbers}
use Rattle.host_pieces_numbers.specs.Replies.{fed_numbers, start_numbers}
use Rattle.host_pieces_numbers.specs.declared.FedNumbers.{FedNumbers}

-- an Init message that is told is the one that is read
abbrev pub OfKind : Init → (keys : ℕ) → PieceSays → Type 0
OfKind i keys p.Waiting = Unit {0}
OfKind i keys (p.Init1 cipher count n k) = (i ≡ init1) × (keys ≡ k)
OfKind i keys (p.Init2 cipher n k) = (i ≡ init2) × (keys ≡ k)
OfKind i keys (p.Header rekey clen next control high low) = Unit {0}
OfKind i keys (p.Body begins ends) = Unit {0}
OfKind i keys (p.Unreadable position) = Unit {0}
OfKind i keys (p.NoCommonCipher position) = Unit {0}
OfKind i keys (p.NoFrame position) = Unit {0}
OfKind i keys p.NoRoom = Unit {0}

abbrev told_back : Init → (keys : ℕ) → (gathered : List ℕ) → FedNumbers → Told
told_back i keys g r =
    cond (eqb r.kind 17) waiting
    (cond (eqb r.kind 10) (item (init_seen i r.cipher r.count r.number keys g))
    (cond (eqb r.kind 12) (item (header (record { reply = frame.header (eqb r.rekey 1) r.clen r.number; bytes = r.associated; buffer = [] })))
    (cond (eqb r.kind 18) (item (body r.place r.number))
    (cond (eqb r.number 5) short (refused r.number r.place)))))

pub fed_back : (i : Init) (keys used : ℕ) (g : List ℕ) (x : PieceSays) → OfKind i keys x → told_back i keys g (fed_numbers used (told_of x g)) ≡ told_of x g
unfolding fed_numbers
fed_back i keys used g p.Waiting h = refl
fed_back i keys used g (p.Init1 cipher count n k) h = λ j. item (init_seen (h.0 j) cipher count n (h.1 j) g)
fed_back i keys used g (p.Init2 cipher n k) h = λ j. item (init_seen (h.0 j) cipher 1 n (h.1 j) g)
fed_back i keys used g (p.Header true clen next control high low) h = refl
fed_back i keys used g (p.Header false clen next control high low) h = refl
fed_back i keys used g (p.Body begins ends) h = refl
fed_back i keys used g (p.Unreadable position) h = refl
fed_back i keys used g (p.NoCommonCipher position) h = refl
fed_back i keys used g (p.NoFrame position) h = refl
fed_back i keys used g p.NoRoom h = refl

pub used_back : (used : ℕ) (g : List ℕ) (x : PieceSays) → (fed_numbers used (told_of x g)).used ≡ used
unfolding fed_numbers
used_back used g p.Waiting = refl
used_back used g (p.Init1 cipher count n k) = refl
used_back used g (p.Init2 cipher n k) = refl
used_back used g (p.Header rekey clen next control high low) = refl
used_back used g (p.Body begins ends) = refl
used_back used g (p.Unreadable position) = refl
used_back used g (p.NoCommonCipher position) = refl
used_back used g (p.NoFrame position) = refl
used_back used g p.NoRoom = refl

-- two answers with the same numbers, of one reader, are the same
pub fed_numbers_tell : (i : Init) (keys used : ℕ) (g : List ℕ) (x y : PieceSays) → OfKind i keys x → OfKind i keys y → fed_numbers used (told_of x g) ≡ fed_numbers used (told_of y g) → told_of x g ≡ told_of y g
fed_numbers_tell i keys used g x y h k e = sym (fed_back i keys used g x h) ∙ (ap (told_back i keys g) e ∙ fed_back i keys used g y k)

abbrev start_back : ReplyNumbers → Option ℕ
start_back r = cond (eqb r.kind 5) none (some r.number)

start_back_lem : (x : Option ℕ) → start_back (start_numbers x) ≡ x
unfolding start_numbers
start_back_lem none = refl
start_back_lem (some n) = refl

pub start_numbers_tell : (x y : Option ℕ) → start_numbers x ≡ start_numbers y → x ≡ y
start_numbers_tell x y e = sym (start_back_lem x) ∙ (ap start_back e ∙ start_back_lem y)
