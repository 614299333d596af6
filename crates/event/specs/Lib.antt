-- What an answer says has happened.
pub mod Words
