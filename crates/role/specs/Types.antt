-- The types that this crate speaks of, and their cases, under one name.
pub use Rattle.message.specs.declared.Address.{Address}
pub use Rattle.message.specs.declared.SecondaryAddress.{SecondaryAddress}
pub use Rattle.message.specs.declared.Meaning.{Meaning}
pub use Rattle.event.specs.declared.Event.{Event}
pub use Rattle.event.specs.declared.Event.TheVariants as ev
pub use Rattle.names.specs.declared.Name.{Name}
pub use Rattle.role.specs.declared.Mark.{Mark}
pub use Rattle.role.specs.declared.Mark.TheVariants.{Unmarked, TalkPrimary, ListenPrimary, Configuring}
pub use Rattle.role.specs.declared.Response.{Response}
pub use Rattle.role.specs.declared.Role.{Role}
