pub mod Answers
mod Asked
