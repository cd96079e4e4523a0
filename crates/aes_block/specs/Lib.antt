pub mod Words
pub mod StoredKey
