pub mod Rest
