pub mod KeyedMessage
pub mod Authentication
pub mod Tags
pub mod CmacFields
pub mod States
pub mod MacFields
