-- The types that this crate speaks of, and their cases, under one name.
pub use Rattle.party.specs.declared.Control.{Control}
pub use Rattle.party.specs.declared.Control.TheVariants.{Idle, Standby, Active}
pub use Rattle.effect.specs.declared.View.{View}
pub use Rattle.effect.specs.Types.{Verdict}
pub use Rattle.effect.specs.declared.Refusal.TheVariants as ruling
pub use Rattle.effect.specs.declared.Call.{Call}
pub use Rattle.effect.specs.declared.Call.TheVariants as call_of
pub use Rattle.effect.specs.declared.Act.{Act}
pub use Rattle.effect.specs.declared.Act.TheVariants as act_of
