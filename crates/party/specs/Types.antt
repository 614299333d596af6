-- The types of src/lib.rt and their cases, under one name.
pub use Rattle.party.specs.declared.Control.{Control}
pub use Rattle.party.specs.declared.Control.TheVariants.{Idle, Standby, Active}
pub use Rattle.party.specs.declared.Source.{Source}
pub use Rattle.party.specs.declared.Source.TheVariants.{Sids, Sgns, Sdys, Strs}
pub use Rattle.party.specs.declared.Acceptor.{Acceptor}
pub use Rattle.party.specs.declared.Acceptor.TheVariants.{Aids, Anrs, Acrs, Acds, Awns}
pub use Rattle.service.specs.declared.Service.{Service}
pub use Rattle.service.specs.declared.Service.TheVariants.{Nprs, Srqs, Aprs}
pub use Rattle.offer.specs.declared.Byte.{Byte}
pub use Rattle.offer.specs.declared.Kind.{Kind}
pub use Rattle.offer.specs.declared.Kind.TheVariants.{Command, Data, Status}
pub use Rattle.names.specs.declared.Name.{Name}
pub use Rattle.role.specs.declared.Role.{Role}
pub use Rattle.service.specs.declared.Request.{Request}
pub use Rattle.party.specs.declared.Latches.{Latches}
pub use Rattle.party.specs.declared.Party.{Party}
