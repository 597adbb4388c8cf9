-- What is looked for decides how a record is tested.
use Prim.Native.Nat.{ℕ}
use mathlib.Core.Path.{◌≡◌, sym, ◌∙◌, ap}
use mathlib.Core.List.{List}
use mathlib.Core.Bool.{Bool}
use Rattle.eno.specs.Option.{is_listed}
use Rattle.eno.specs.declared.SessionRecord.{SessionRecord}
use Rattle.door.specs.Record.{is_session}
use Rattle.door_search.specs.Search.{expects, is_sought}
use Rattle.door_search.specs.declared.Sought.{Sought}
use Rattle.door_search.specs.declared.Sought.TheVariants as sought

module _ (x : Sought) (bytes : List ℕ) (r : SessionRecord) (b : Bool) where
  pub by_list : x ≡ sought.Listed → b ≡ is_listed r.tep bytes → b ≡ is_sought x bytes r
  unfolding is_sought
  by_list p e = e ∙ sym (ap (λ y. is_sought y bytes r) p)

  pub by_half : (t at : ℕ) → x ≡ sought.Expecting t at → b ≡ expects bytes t at r → b ≡ is_sought x bytes r
  unfolding is_sought
  by_half t at p e = e ∙ sym (ap (λ y. is_sought y bytes r) p)

  pub by_name : (t : ℕ) → x ≡ sought.Named t → b ≡ is_session t bytes r → b ≡ is_sought x bytes r
  unfolding is_sought
  by_name t p e = e ∙ sym (ap (λ y. is_sought y bytes r) p)
