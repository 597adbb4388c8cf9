-- Laws of the TEPs that are sent fresh: one, and the first of a list.
use Rattle.std.specs.Prelude.{ℕ, ◌+◌, ◌≤◌, ◌<◌, ◌≡◌, Bool, cond, eqb, length, get_or, take, drop}
use Rattle.std.proofs.Math.Path.{refl}
use Rattle.std.proofs.Common.{◌∙◌, ap, add-one, arith, length-append, take-append-drop, take_all, take-suc}
use mathlib.Core.List.{List, [], ◌∷◌, ◌++◌}
use Rattle.std.proofs.Math.Bool.{true, false}
use Rattle.std.proofs.lemmas.Bool.{false≢true}
use Rattle.std.proofs.Math.Option.{Option, none, some}
use Rattle.wire.specs.Bytes.{pasted}
use Rattle.eno.specs.Option.{without, fresh_teps}
use Rattle.eno.specs.declared.SessionRecord.{SessionRecord}
use Rattle.option_layout.specs.Puts.{Puts, of_hand}
use Rattle.option_layout.specs.PutLaws.{puts_none, puts_both, puts_length}

without_append : (t : ℕ) (a b : List ℕ) → without t (a ++ b) ≡ without t a ++ without t b
unfolding without
without_append t [] b = refl
without_append t (x ∷ a) b = go (eqb x t) (without_append t a b)
  where
    go : (y : Bool) → without t (a ++ b) ≡ without t a ++ without t b
        → cond y (without t (a ++ b)) (x ∷ without t (a ++ b)) ≡ cond y (without t a) (x ∷ without t a) ++ without t b
    go true e = e
    go false e = ap (λ l. x ∷ l) e

module _ (hand : Option SessionRecord) where
  fresh_append : (a b : List ℕ) → fresh_teps hand (a ++ b) ≡ fresh_teps hand a ++ fresh_teps hand b
  unfolding fresh_teps
  fresh_append a b = go hand
    where
      go : (h : Option SessionRecord) → fresh_teps h (a ++ b) ≡ fresh_teps h a ++ fresh_teps h b
      go none = refl
      go (some r) = without_append r.tep a b

  fresh_step : (l : List ℕ) (i : ℕ) → i < length l → fresh_teps hand (take (i + 1) l) ≡ fresh_teps hand (take i l) ++ fresh_teps hand (get_or l i 0 ∷ [])
  fresh_step l i h = ap (λ k. fresh_teps hand (take k l)) (add-one i) ∙ (ap (fresh_teps hand) (take-suc l i 0 h) ∙ fresh_append (take i l) (get_or l i 0 ∷ []))

  fresh_within : (l : List ℕ) (i : ℕ) → length (fresh_teps hand (take i l)) ≤ length (fresh_teps hand l)
  fresh_within l i =
      let e = ap (λ m. length (fresh_teps hand m)) (take-append-drop i l) in
      let f = ap length (fresh_append (take i l) (drop i l)) in
      let g = length-append (fresh_teps hand (take i l)) (fresh_teps hand (drop i l)) in
      omega arith

  -- one
  module _ (s : List ℕ) (at t : ℕ) where
    pub puts_not_fresh : of_hand hand t ≡ true → Puts s at (fresh_teps hand (t ∷ [])) s at
    unfolding of_hand fresh_teps without
    puts_not_fresh e = go hand e
      where
        go : (h : Option SessionRecord) → of_hand h t ≡ true → Puts s at (fresh_teps h (t ∷ [])) s at
        go none e = absurd (false≢true e)
        go (some r) e = simp e (puts_none s at)

    one_fresh : of_hand hand t ≡ false → fresh_teps hand (t ∷ []) ≡ t ∷ []
    unfolding of_hand fresh_teps without
    one_fresh e = go hand e
      where
        go : (h : Option SessionRecord) → of_hand h t ≡ false → fresh_teps h (t ∷ []) ≡ t ∷ []
        go none e = refl
        go (some r) e = simp e

    pub one_fresh_room : of_hand hand t ≡ false → at + length (fresh_teps hand (t ∷ [])) ≤ length s → at + 1 ≤ length s
    one_fresh_room e h = omega (arith, ap length (one_fresh e))

    pub puts_fresh : (u : List ℕ) → of_hand hand t ≡ false → u ≡ pasted s at (t ∷ []) → Puts s at (fresh_teps hand (t ∷ [])) u (at + 1)
    puts_fresh u e p = rw (one_fresh e) (record { bytes = p; next = refl })

  -- the first i of a list
  module _ (s list : List ℕ) (at : ℕ) where
    pub fresh_begin : Puts s at (fresh_teps hand (take 0 list)) s at
    unfolding fresh_teps without
    fresh_begin = go hand
      where
        go : (h : Option SessionRecord) → Puts s at (fresh_teps h []) s at
        go none = puts_none s at
        go (some r) = puts_none s at

    module _ (i : ℕ) (t : List ℕ) (n : ℕ) (so_far : Puts s at (fresh_teps hand (take i list)) t n) where
      pub fresh_end : length list ≤ i → Puts s at (fresh_teps hand list) t n
      fresh_end h = rw (take_all i list h) at so_far

      module _ (room : at + length (fresh_teps hand list) ≤ length s) (in_List : i < length list) where
        room_for_next : at + length (fresh_teps hand (take i list)) + length (fresh_teps hand (get_or list i 0 ∷ [])) ≤ length s
        room_for_next =
            omega (
              arith,
              ap length (fresh_step list i in_List),
              fresh_within list (i + 1),
              length-append (fresh_teps hand (take i list)) (fresh_teps hand (get_or list i 0 ∷ [])),
            )

        pub next_room : n + length (fresh_teps hand (get_or list i 0 ∷ [])) ≤ length t
        next_room = omega (arith, room_for_next, puts_length s (fresh_teps hand (take i list)) t at n so_far, so_far.next)

        pub puts_next : (u : List ℕ) (m : ℕ) → Puts t n (fresh_teps hand (get_or list i 0 ∷ [])) u m → Puts s at (fresh_teps hand (take (i + 1) list)) u m
        puts_next u m p =
            rw (fresh_step list i in_List)
            (puts_both s (fresh_teps hand (take i list)) t (fresh_teps hand (get_or list i 0 ∷ [])) u at n m room_for_next so_far p)
