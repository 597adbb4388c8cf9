-- The loop over the four TEPs: what is left to look at, beside the best so far. Assumes nothing.
use Prim.Native.Nat.{ℕ, suc, ◌+◌, ◌-◌, ◌≤◌, ◌<◌}
use mathlib.Core.Path.{◌≡◌, refl, sym, ◌∙◌, ap, ap₂}
use mathlib.Core.List.{List}
use mathlib.Core.Bool.{Bool}
use mathlib.Core.Option.{Option}
use Rattle.std.specs.Prelude as code
use native.Mathlib.Omega.{arith}
use Rattle.eno.specs.Judge.{Way, of_a, of_b}
use Rattle.eno.specs.declared.SessionRecord.{SessionRecord}
use Rattle.suboptions.specs.declared.Entry.{Entry}
use Rattle.valid_tep.specs.Best.{way_of_entries, better_of, best_from, none_yet, entry_at, ways_of, starts_of, best_of}
use Rattle.valid_tep.specs.declared.Best.{Best}

module _ (a b : List ℕ) (hand : Option SessionRecord) (own_is_b : Bool) (own peer : List Entry) where
  pub record Chosen (best : code.Option Best) (t : ℕ) : Type 0 where
    pub low : 0x21 ≤ t
    pub high : t ≤ 0x25
    pub rest : best_from (ways_of a b hand own_is_b own peer) (starts_of own_is_b own peer) (0x25 - t) t best ≡ best_of a b hand own_is_b own peer

  pub chosen_start : Chosen none_yet 0x21
  unfolding best_of
  chosen_start = record { low = omega arith; high = omega arith; rest = refl }

  module _ {best : code.Option Best} {t : ℕ} (c : Chosen best t) where
    pub chosen_step : t < 0x25 → (next : code.Option Best) (w : Option Way) (ea eb : Entry) → ea ≡ of_a own_is_b (entry_at own t) (entry_at peer t)
        → eb ≡ of_b own_is_b (entry_at own t) (entry_at peer t) → w ≡ way_of_entries a b hand own_is_b t ea eb → next ≡ better_of best w eb.start → Chosen next (t + 1)
    unfolding best_from ways_of starts_of
    chosen_step h next w ea eb pa pb e n =
        let more : 0x25 - t ≡ suc (0x25 - (t + 1)) = omega arith in
        let way : w ≡ ways_of a b hand own_is_b own peer t = e ∙ ap₂ (way_of_entries a b hand own_is_b t) pa pb in
        let start : eb.start ≡ starts_of own_is_b own peer t = ap (λ (x : Entry). x.start) pb in
        let this : next ≡ better_of best (ways_of a b hand own_is_b own peer t) (starts_of own_is_b own peer t) = n ∙ ap₂ (better_of best) way start in
        let l = c.low in
        record {
          low = omega arith;
          high = omega arith;
          rest =
              ap (best_from (ways_of a b hand own_is_b own peer) (starts_of own_is_b own peer) (0x25 - (t + 1)) (t + 1)) this
              ∙ (ap (λ k. best_from (ways_of a b hand own_is_b own peer) (starts_of own_is_b own peer) k t best) (sym more) ∙ c.rest);
        }

    pub chosen_all : 0x25 ≤ t → best ≡ best_of a b hand own_is_b own peer
    unfolding best_from
    chosen_all h =
        let none_left : 0x25 - t ≡ 0 = omega arith in
        sym (ap (λ k. best_from (ways_of a b hand own_is_b own peer) (starts_of own_is_b own peer) k t best) none_left) ∙ c.rest
