-- A byte on offer.
pub mod Offer
