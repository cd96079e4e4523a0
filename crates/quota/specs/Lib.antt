pub mod QuotaState
