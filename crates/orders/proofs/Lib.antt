-- Laws of a build's addresses.
pub mod Building
