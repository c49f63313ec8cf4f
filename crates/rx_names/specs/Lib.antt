pub mod Places
pub mod Words
pub mod Entries
pub mod Names
