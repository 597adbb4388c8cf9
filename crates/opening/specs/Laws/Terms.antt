-- What terms that fit tell.
use Rattle.std.specs.Prelude.{ℕ, ◌≤◌, ◌≡◌, List, Bool, true, ◌&&◌, ◌||◌, length}
use Rattle.std.proofs.Math.Bool.{not}
use borrow.Author.Tests.{leb-true}
use Rattle.std.proofs.Math.Dec.{leb}
use Rattle.eno.specs.Option.{is_tep_list}
use Rattle.eno.proofs.Laws.Asked.{and_true}
use Rattle.door.specs.Offer.{terms_fit}

module _ (aware mandatory : Bool) (list nonce : List ℕ) (fit : terms_fit aware mandatory list nonce ≡ true) where
  pub terms_list : is_tep_list list ≡ true
  unfolding terms_fit
  terms_list = (and_true _ _ (and_true (is_tep_list list && leb (length nonce) 8) (aware || not mandatory) fit).0).0

  pub terms_nonce : length nonce ≤ 8
  unfolding terms_fit
  terms_nonce = leb-true _ _ (and_true (is_tep_list list) (leb (length nonce) 8) (and_true (is_tep_list list && leb (length nonce) 8) (aware || not mandatory) fit).0).1
