pub mod Lexemes
pub mod Numbers
pub mod Quotes
pub mod Tokens
pub mod Words
