-- The types that this crate speaks of, and their cases, under one name.
pub use Rattle.party.specs.declared.Place.{Place}
pub use Rattle.party.specs.declared.Party.{Party}
pub use Rattle.parties.specs.declared.EachLine.{EachLine}
pub use Rattle.parties.specs.declared.Sweep.{Sweep}
pub use Rattle.parties.specs.declared.Scan.{Scan}
