-- What holds of every bus there is, and of every answer.
pub mod States
