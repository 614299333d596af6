-- The types that this crate speaks of, and their cases, under one name.
pub use Rattle.party.specs.declared.Control.TheVariants.{Standby, Active}
pub use Rattle.effect.specs.declared.View.{View}
pub use Rattle.effect.specs.declared.Call.{Call}
pub use Rattle.effect.specs.declared.Call.TheVariants as call_of
pub use Rattle.effect.specs.declared.Act.{Act}
pub use Rattle.effect.specs.declared.Act.TheVariants as act_of
pub use Rattle.effect.specs.declared.Effect.{Effect}
