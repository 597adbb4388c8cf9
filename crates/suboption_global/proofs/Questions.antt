-- The first global byte, by what is left of a list from a place on. Assumes nothing.
use Prim.Native.Nat.{◌-◌}
use mathlib.Core.Path.{◌≡◌, refl}
use mathlib.Core.List.{List, [], ◌∷◌}
use mathlib.Core.Bool.{true, false}
use Rattle.eno.specs.Suboption.{Suboption, globals, global_byte}
use Rattle.suboption_list.specs.List.{suboption_of}
use Rattle.suboption_list.proofs.Left.{is_global, is_tep}
use Rattle.suboption_list.specs.declared.SuboptionItem.{SuboptionItem}

-- the first global byte
pub global_here : (x : SuboptionItem) (r m : List Suboption) → m ≡ suboption_of x ∷ r → x.is_tep ≡ false → x.byte ≡ global_byte m
unfolding global_byte globals
global_here x r m q e = rw (q, is_global x e) refl

pub global_next : (x : SuboptionItem) (r m : List Suboption) → m ≡ suboption_of x ∷ r → x.is_tep ≡ true → global_byte r ≡ global_byte m
unfolding global_byte globals
global_next x r m q e = rw (q, is_tep x e) refl

pub global_none : (m : List Suboption) → m ≡ [] → 0 ≡ global_byte m
unfolding global_byte globals
global_none m q = rw q refl
