-- The request for service.
pub mod Service
