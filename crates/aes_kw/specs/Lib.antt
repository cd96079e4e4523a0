pub mod KeyWrap
