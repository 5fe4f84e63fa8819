pub mod Bytes
pub mod Headers
pub mod Wholes
pub mod Reading
pub mod Refusing
