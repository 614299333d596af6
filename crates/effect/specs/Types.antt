-- The types that the machine speaks of, and their cases, under one name.
pub use Rattle.party.specs.declared.Place.{Place}
pub use Rattle.offer.specs.declared.Kind.{Kind}
pub use Rattle.offer.specs.declared.Kind.TheVariants.{Command, Data, Status}
pub use Rattle.event.specs.declared.Event.{Event}
pub use Rattle.event.specs.declared.Event.TheVariants as ev
pub use Rattle.party.specs.declared.Party.{Party}
pub use Rattle.effect.specs.declared.Standing.{Standing}
pub use Rattle.effect.specs.declared.Refusal.{Refusal}
pub use Rattle.effect.specs.declared.Refusal.TheVariants as ruling
pub use Rattle.effect.specs.Verdicts.{Verdict}
pub use Rattle.effect.specs.declared.Call.{Call}
pub use Rattle.effect.specs.declared.Call.TheVariants as call_of
pub use Rattle.effect.specs.declared.Act.{Act}
pub use Rattle.effect.specs.declared.Act.TheVariants as act_of
pub use Rattle.effect.specs.declared.Said.{Said}
pub use Rattle.effect.specs.declared.After.{After}
pub use Rattle.effect.specs.declared.After.TheVariants as after
pub use Rattle.effect.specs.declared.Outcome.{Outcome}
pub use Rattle.effect.specs.declared.Effect.{Effect}
pub use Rattle.effect.specs.declared.View.{View}
