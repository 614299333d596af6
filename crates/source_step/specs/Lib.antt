-- The source step.
pub mod Types
pub mod SourceStep
