pub mod Numbers
pub mod Kills
pub mod Grammar
pub mod Texts
pub mod Verbs
pub mod Apps
