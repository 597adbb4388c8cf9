-- Laws of the records that a view shows, and of the search for the first that passes a test. Assumes nothing.
use Prim.Native.Nat.{ℕ, suc, ◌+◌, ◌≤◌, ◌<◌, min}
use Rattle.std.specs.Prelude.{◌≡◌, List, Bool, true, false, length, get_or, drop}
use Rattle.std.proofs.Math.Path.{sym, ap}
use Rattle.std.proofs.Common.{◌∙◌, add-one, arith, length-take, drop_of_length-le, drop-cons, get_or-take}
use Rattle.eno.specs.declared.SessionRecord.{SessionRecord}
use Rattle.door.specs.Numbers.{each_n}
use Rattle.door.specs.Record.{first_that, past_end}
use Rattle.door.specs.Door.{seen_of}
use Rattle.door.specs.declared.View.{View}

-- a record that is seen is the one in the array
pub seen_at : (v : View) (i : ℕ) → i < length (seen_of v).held → get_or (seen_of v).held i past_end ≡ get_or v.held i past_end
unfolding seen_of
seen_at v i h = get_or-take (min v.count each_n) v.held i past_end (omega (arith, length-take (min v.count each_n) v.held))

-- a search that passed i records
module _ (test : SessionRecord → Bool) (l : List SessionRecord) (i : ℕ) (passed : first_that test l ≡ i + first_that test (drop i l)) where
  pub first_nowhere : length l ≤ i → i ≡ first_that test l
  unfolding first_that
  first_nowhere h = sym (passed ∙ omega (arith, ap (first_that test) (drop_of_length-le l {i = i} h)))

  module _ (in_List : i < length l) where
    pub first_here : test (get_or l i past_end) ≡ true → i ≡ first_that test l
    unfolding first_that
    first_here e =
        let f : first_that test (drop i l) ≡ 0 = rw (drop-cons l i past_end in_List, e) in
        sym (passed ∙ omega (arith, f))

    pub first_later : test (get_or l i past_end) ≡ false → first_that test l ≡ i + 1 + first_that test (drop (i + 1) l)
    unfolding first_that
    first_later e =
        let f : first_that test (drop i l) ≡ suc (first_that test (drop (i + 1) l)) = rw (drop-cons l i past_end in_List, e, add-one) in
        passed ∙ omega (arith, f)
