pub mod Answering
pub mod Conversation
pub mod Laws
pub mod Replies
pub mod Inner
