-- The types that this crate speaks of, and their cases, under one name.
pub use Rattle.party.specs.declared.Source.{Source}
pub use Rattle.party.specs.declared.Source.TheVariants.{Sids, Sgns, Sdys, Strs}
pub use Rattle.offer.specs.declared.Byte.{Byte}
pub use Rattle.offer.specs.declared.Kind.{Kind}
pub use Rattle.offer.specs.declared.Kind.TheVariants.{Command}
pub use Rattle.event.specs.declared.Event.TheVariants as ev
pub use Rattle.party.specs.declared.Place.{Place}
pub use Rattle.effect.specs.declared.Standing.{Standing}
pub use Rattle.effect.specs.declared.After.{After}
pub use Rattle.effect.specs.declared.After.TheVariants as after
pub use Rattle.effect.specs.declared.Effect.{Effect}
pub use Rattle.effect.specs.declared.View.{View}
