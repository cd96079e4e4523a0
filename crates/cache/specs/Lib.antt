pub mod CachedState
