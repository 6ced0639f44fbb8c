pub mod OneCall
pub mod BackCalls
pub mod VsCalls
