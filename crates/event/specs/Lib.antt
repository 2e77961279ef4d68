pub mod Events
pub mod Written
