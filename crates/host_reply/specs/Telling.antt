-- A value in plain numbers: by the variant that it is, and by what the wrapped call equates it with.
use Rattle.std.specs.Prelude.{◌≡◌}
use Rattle.std.proofs.Common.{sym, ◌∙◌, ap}

module _ {X Y : Type 0} (f : X → Y) where
  -- the value is the variant y, whose numbers are k
  pub told : {x y : X} {k : Y} → x ≡ y → k ≡ f y → k ≡ f x
  told e g = g ∙ ap f (sym e)

  -- the numbers of the value x, which the wrapped call equates with y
  pub wrapped : {x y : X} {k : Y} → k ≡ f x → x ≡ y → k ≡ f y
  wrapped g e = g ∙ ap f e
