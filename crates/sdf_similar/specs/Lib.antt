pub mod Similar
