-- A bus as bytes. Image.antt says which byte stands where.
pub mod Types
pub mod Image
