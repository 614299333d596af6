-- The acceptor step.
pub mod Types
pub mod AcceptorStep
