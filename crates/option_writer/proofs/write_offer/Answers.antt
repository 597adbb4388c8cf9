-- `option_writer::write_offer` meets its contract.
use mathlib.Core.Path.{refl, sym}
use Rattle.option_layout.specs.OfferLaws.{offer_unfit, role_fits, fresh_fits, last_fits, contents_put}
use Rattle.option_writer.proofs.write_offer.Goals as goal

pub returns-then-not-offer_fits : goal.returns-then-not-offer_fits
returns-then-not-offer_fits c = offer_unfit _ _ _ _ _ _ (sym c.if-not-offer_fits.ensures)

pub global_byte-g-requires : goal.global_byte-g-requires
global_byte-g-requires c = role_fits _ _ _ _ (sym c.if-not-offer_fits.ensures)

pub put_fresh-next-requires : goal.put_fresh-next-requires
put_fresh-next-requires c =
    fresh_fits _ _ _ _ _ (sym c.if-not-offer_fits.ensures) _ refl _ c.global_byte-g.ensures _ _ c.put_global-at.ensures

pub put_last-n-requires : goal.put_last-n-requires
put_last-n-requires c =
    last_fits _ _ _ _ _ (sym c.if-not-offer_fits.ensures) _ refl _ c.global_byte-g.ensures _ _ c.put_global-at.ensures
    _ _ c.put_fresh-next.ensures

pub returns : goal.returns
returns c = ((contents_put _ _ _ _ _ (sym c.if-not-offer_fits.ensures) _ refl _ c.global_byte-g.ensures _ _ c.put_global-at.ensures
    _ _ c.put_fresh-next.ensures _ _ c.put_last-n.ensures)).written _ _ c.finish.ensures

pub slice_bounds-finish-end : goal.slice_bounds-finish-end
slice_bounds-finish-end c = ((contents_put _ _ _ _ _ (sym c.if-not-offer_fits.ensures) _ refl _ c.global_byte-g.ensures _ _ c.put_global-at.ensures
    _ _ c.put_fresh-next.ensures _ _ c.put_last-n.ensures)).within

pub finish-requires : goal.finish-requires
finish-requires c = ((contents_put _ _ _ _ _ (sym c.if-not-offer_fits.ensures) _ refl _ c.global_byte-g.ensures _ _ c.put_global-at.ensures
    _ _ c.put_fresh-next.ensures _ _ c.put_last-n.ensures)).short
