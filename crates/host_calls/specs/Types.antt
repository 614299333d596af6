-- The types that this crate speaks of, and their cases, under one name.
pub use Rattle.party.specs.declared.Control.{Control}
pub use Rattle.party.specs.declared.Control.TheVariants.{Active}
pub use Rattle.party.specs.declared.Acceptor.{Acceptor}
pub use Rattle.party.specs.declared.Acceptor.TheVariants.{Aids, Anrs, Awns}
pub use Rattle.offer.specs.declared.Byte.{Byte}
pub use Rattle.event.specs.declared.Event.TheVariants as ev
pub use Rattle.service.specs.declared.Request.{Request}
pub use Rattle.party.specs.declared.Party.{Party}
pub use Rattle.parties.specs.declared.EachLine.{EachLine}
pub use Rattle.effect.specs.declared.After.TheVariants as after
pub use Rattle.effect.specs.declared.Outcome.{Outcome}
pub use Rattle.effect.specs.declared.View.{View}
