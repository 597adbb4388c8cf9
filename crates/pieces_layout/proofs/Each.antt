-- A stream byte by byte, on over refusals: what the theorems go through. No definition cites it.
use Rattle.std.specs.Prelude.{ℕ, ◌≡◌, refl, List, [], ◌∷◌, ◌++◌}
use Rattle.std.proofs.Common.{sym, ◌∙◌, ap}
use Rattle.pieces_layout.specs.Reader.{Reader}
use Rattle.pieces_layout.specs.Step.{Told, waiting, item, refused, short, after_byte}
use Rattle.pieces_layout.specs.Run.{Ran}
use Rattle.pieces_layout.specs.Each.{noting, each, both}

noting_both : (t : Told) (r : Reader) (x y : Ran) → noting t r (both x y) ≡ both (noting t r x) y
unfolding noting
noting_both waiting r x y = refl
noting_both (item v) r x y = refl
noting_both (refused n p) r x y = refl
noting_both short r x y = refl

pub noting_reader : (t : Told) (r : Reader) (y : Ran) → (noting t r y).reader ≡ y.reader
unfolding noting
noting_reader waiting r y = refl
noting_reader (item v) r y = refl
noting_reader (refused n p) r y = refl
noting_reader short r y = refl

-- one part of a stream after the other
pub each_append : (a b : List ℕ) (r : Reader) → each r (a ++ b) ≡ both (each r a) (each (each r a).reader b)
unfolding each
each_append [] b r = refl
each_append (c ∷ a) b r =
    let t = after_byte r c in
    ap (noting t.told t.reader) (each_append a b t.reader)
    ∙ (noting_both t.told t.reader (each t.reader a) (each (each t.reader a).reader b)
    ∙ ap (λ x. both (noting t.told t.reader (each t.reader a)) (each x b)) (sym (noting_reader t.told t.reader (each t.reader a))))
