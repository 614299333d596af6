-- The types that this crate speaks of, and their cases, under one name.
pub use Rattle.effect.specs.declared.Act.{Act}
pub use Rattle.effect.specs.declared.Act.TheVariants as act_of
pub use Rattle.registers.specs.declared.Access.{Access}
pub use Rattle.registers.specs.declared.Access.TheVariants as access
pub use Rattle.registers.specs.declared.Auxiliary.{Auxiliary}
pub use Rattle.registers.specs.declared.Auxiliary.TheVariants as aux
