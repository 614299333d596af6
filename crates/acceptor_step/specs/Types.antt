-- The types that this crate speaks of, and their cases, under one name.
pub use Rattle.party.specs.declared.Acceptor.{Acceptor}
pub use Rattle.party.specs.declared.Acceptor.TheVariants.{Aids, Anrs, Acrs, Acds, Awns}
pub use Rattle.event.specs.declared.Event.TheVariants as ev
pub use Rattle.effect.specs.declared.Standing.{Standing}
pub use Rattle.effect.specs.declared.Effect.{Effect}
pub use Rattle.effect.specs.declared.View.{View}
