-- An option that is written part after part: what is put where, and the laws of the parts.
pub mod Puts
pub mod Steps
pub mod PutLaws
pub mod PartLaws
pub mod FreshLaws
pub mod LastLaws
pub mod WholeLaws
pub mod OfferLaws
