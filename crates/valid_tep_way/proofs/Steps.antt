-- The cases of the way in which a TEP is valid, each from facts about numbers. Assumes nothing.
use Prim.Native.Nat.{ℕ, ◌-◌}
use mathlib.Core.Path.{◌≡◌}
use mathlib.Core.List.{List}
use mathlib.Core.Bool.{Bool, true, false}
use mathlib.Core.Option.{Option, none, some}
use borrow.Author.Tests.{eq-eqb, ne_eqb}
use Rattle.eno.specs.Judge.{is_fresh, is_bad, fresh, resumed}
use Rattle.eno.specs.declared.SessionRecord.{SessionRecord}
use Rattle.suboptions.specs.Summary.{as_sent}
use Rattle.suboptions.specs.declared.Entry.{Entry}
use Rattle.valid_tep.specs.Best.{matches_at, way_of_entries}

-- the way in which a TEP is valid
module _ (a b : List ℕ) (hand : Option SessionRecord) (own_is_b : Bool) (t : ℕ) (ea eb : Entry) where
  pub way_not_a : (ea.times ≡ 1 → ⊥) → none ≡ way_of_entries a b hand own_is_b t ea eb
  unfolding way_of_entries
  way_not_a h = simp (ne_eqb _ _ h)

  module _ (one : ea.times ≡ 1) where
    pub way_not_b : (eb.times ≡ 1 → ⊥) → none ≡ way_of_entries a b hand own_is_b t ea eb
    unfolding way_of_entries
    way_not_b h = simp (eq-eqb _ _ one, ne_eqb _ _ h)

    module _ (once : eb.times ≡ 1) (bad-a : Bool) (ba : bad-a ≡ is_bad (as_sent ea)) where
      pub way_bad_a : bad-a ≡ true → none ≡ way_of_entries a b hand own_is_b t ea eb
      unfolding way_of_entries
      way_bad_a e = simp (eq-eqb _ _ one, eq-eqb _ _ once, ← ba, e)

      module _ (good-a : bad-a ≡ false) (bad-b : Bool) (bb : bad-b ≡ is_bad (as_sent eb)) where
        pub way_bad_b : bad-b ≡ true → none ≡ way_of_entries a b hand own_is_b t ea eb
        unfolding way_of_entries
        way_bad_b e = simp (eq-eqb _ _ one, eq-eqb _ _ once, ← ba, good-a, ← bb, e)

        module _ (good-b : bad-b ≡ false) (fresh_b : Bool) (fb : fresh_b ≡ is_fresh (as_sent eb)) where
          pub way_fresh : fresh_b ≡ true → some fresh ≡ way_of_entries a b hand own_is_b t ea eb
          unfolding way_of_entries
          way_fresh e = simp (eq-eqb _ _ one, eq-eqb _ _ once, ← ba, good-a, ← bb, good-b, ← fb, e)

          module _ (long-b : fresh_b ≡ false) (fresh-a : Bool) (fa : fresh-a ≡ is_fresh (as_sent ea)) where
            pub way_fresh_a : fresh-a ≡ true → none ≡ way_of_entries a b hand own_is_b t ea eb
            unfolding way_of_entries
            way_fresh_a e = simp (eq-eqb _ _ one, eq-eqb _ _ once, ← ba, good-a, ← bb, good-b, ← fb, long-b, ← fa, e)

            module _ (long-a : fresh-a ≡ false) (m : Bool) (is : m ≡ matches_at a b hand own_is_b t ea.start eb.start) where
              pub way_resumed : m ≡ true → some resumed ≡ way_of_entries a b hand own_is_b t ea eb
              unfolding way_of_entries
              way_resumed e = simp (eq-eqb _ _ one, eq-eqb _ _ once, ← ba, good-a, ← bb, good-b, ← fb, long-b, ← fa, long-a, ← is, e)

              pub way_no_match : m ≡ false → none ≡ way_of_entries a b hand own_is_b t ea eb
              unfolding way_of_entries
              way_no_match e = simp (eq-eqb _ _ one, eq-eqb _ _ once, ← ba, good-a, ← bb, good-b, ← fb, long-b, ← fa, long-a, ← is, e)
