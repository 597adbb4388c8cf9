-- The cases of a TEP's validity, as the code meets them. Assumes nothing.
use Prim.Native.Nat.{ℕ}
use mathlib.Core.Path.{◌≡◌, refl, sym, ◌∙◌, ap, ap₂}
use mathlib.Core.List.{List, [], ◌∷◌}
use mathlib.Core.Bool.{Bool, true, false}
use mathlib.Core.Option.{Option, none, some}
use native.Mathlib.Omega.{arith}
use lib.ListN.{length}
use Rattle.eno.specs.Suboption.{Sent}
use Rattle.eno.specs.Tep.{is_known}
use Rattle.eno.specs.Judge.{is_fresh, is_bad, is_resumption, half_of, Way, fresh, resumed, matches, named, once, of_b, Sides, way_of, way_of_both}
use Rattle.judgement.proofs.Steps.{by_b}
use Rattle.suboption_list.specs.List.{sent_of, first_item}
use Rattle.suboption_list.specs.declared.SuboptionItem.{SuboptionItem}
use Rattle.plain_validity.specs.Validity.{validity_in}

not_once : (l : List Sent) (n : ℕ) → n ≡ length l → (n ≡ 1 → ⊥) → once l ≡ none
unfolding once
not_once [] n e h = refl
not_once (x ∷ []) n e h = absurd (h e)
not_once (x ∷ y ∷ l) n e h = refl

one_sent : (l : List Sent) (n : ℕ) → n ≡ length l → n ≡ 1 → (x : SuboptionItem) → x ≡ first_item l → once l ≡ some (sent_of x)
unfolding once first_item
one_sent [] n e o x q = absurd (omega arith)
one_sent (y ∷ []) n e o x q = ap (λ z. some (sent_of z)) (sym q)
one_sent (y ∷ z ∷ l) n e o x q = absurd (omega arith)

module _ (s : Sides) (l m : List Sent) (t : ℕ) where
  abbrev way_sought : Option Way
  way_sought = validity_in s l m t

  none_theirs : (x : Option Sent) → way_of_both s t x none ≡ none
  unfolding way_of_both
  none_theirs none = refl
  none_theirs (some x) = refl

  module _ (known_t : Bool) (is : known_t ≡ is_known t) where
    pub valid_unknown : known_t ≡ false → none ≡ way_sought
    unfolding validity_in
    valid_unknown e = simp (← is, e)

    module _ (known : known_t ≡ true) where
      when_known : way_sought ≡ way_of_both s t (once (named t l)) (once (named t m))
      unfolding validity_in
      when_known = simp (← is, known)

      module _ (n : ℕ) (en : n ≡ length (named t l)) where
        pub valid_own_times : (n ≡ 1 → ⊥) → none ≡ way_sought
        unfolding way_of_both
        valid_own_times h = sym (when_known ∙ ap (λ x. way_of_both s t x (once (named t m))) (not_once (named t l) n en h))

        module _ (one : n ≡ 1) (k : ℕ) (ek : k ≡ length (named t m)) where
          pub valid_peer_times : (k ≡ 1 → ⊥) → none ≡ way_sought
          valid_peer_times h = sym (when_known ∙ (ap (way_of_both s t (once (named t l))) (not_once (named t m) k ek h) ∙ none_theirs (once (named t l))))

          module _ (once-too : k ≡ 1) (x y : SuboptionItem) (ex : x ≡ first_item (named t l)) (ey : y ≡ first_item (named t m)) where
            both : way_sought ≡ way_of s t (sent_of x) (sent_of y)
            unfolding way_of_both
            both = when_known ∙ ap₂ (way_of_both s t) (one_sent (named t l) n en one x ex) (one_sent (named t m) k ek once-too y ey)

            module _ (bx : Bool) (is-bx : bx ≡ is_bad (sent_of x)) where
              pub valid_bad_own : bx ≡ true → none ≡ way_sought
              unfolding way_of
              valid_bad_own e = sym (both ∙ simp (← is-bx, e))

              module _ (good : bx ≡ false) (by : Bool) (is-by : by ≡ is_bad (sent_of y)) where
                pub valid_bad_peer : by ≡ true → none ≡ way_sought
                unfolding way_of
                valid_bad_peer e = sym (both ∙ simp (← is-bx, good, ← is-by, e))

                module _ (good-too : by ≡ false) (z : SuboptionItem) (ez : z ≡ of_b s.own_is_b x y) (f : Bool) (is_f : f ≡ is_fresh (sent_of z)) where
                  fresh_b : is_fresh (of_b s.own_is_b (sent_of x) (sent_of y)) ≡ f
                  fresh_b = sym (is_f ∙ ap is_fresh (ap sent_of ez ∙ by_b sent_of s.own_is_b x y))

                  pub valid_fresh : f ≡ true → some fresh ≡ way_sought
                  unfolding way_of
                  valid_fresh e = sym (both ∙ simp (← is-bx, good, ← is-by, good-too, fresh_b, e))

                  module _ (long : f ≡ false) (rx : Bool) (is-rx : rx ≡ is_resumption (sent_of x)) where
                    pub valid_no_resumption_own : rx ≡ false → none ≡ way_sought
                    unfolding way_of
                    valid_no_resumption_own e = sym (both ∙ simp (← is-bx, good, ← is-by, good-too, fresh_b, long, ← is-rx, e))

                    module _ (again : rx ≡ true) (ry : Bool) (is-ry : ry ≡ is_resumption (sent_of y)) where
                      pub valid_no_resumption_peer : ry ≡ false → none ≡ way_sought
                      unfolding way_of
                      valid_no_resumption_peer e = sym (both ∙ simp (← is-bx, good, ← is-by, good-too, fresh_b, long, ← is-rx, again, ← is-ry, e))

                      module _ (again-too : ry ≡ true) (b : Bool) (is_b : b ≡ matches s.hand t (half_of s.own (sent_of x)) (half_of s.peer (sent_of y))) where
                        pub valid_resumed : b ≡ true → some resumed ≡ way_sought
                        unfolding way_of
                        valid_resumed e = sym (both ∙ simp (← is-bx, good, ← is-by, good-too, fresh_b, long, ← is-rx, again, ← is-ry, again-too, ← is_b, e))

                        pub valid_no_match : b ≡ false → none ≡ way_sought
                        unfolding way_of
                        valid_no_match e = sym (both ∙ simp (← is-bx, good, ← is-by, good-too, fresh_b, long, ← is-rx, again, ← is-ry, again-too, ← is_b, e))
