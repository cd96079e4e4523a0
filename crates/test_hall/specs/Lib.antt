pub mod Gone
