-- Small steps of argument, which the crates above find here.
pub use Rattle.names.proofs.Logic.{no, test, cond-elim, cond-elim₂, or_left, or_right, or_either, both}
