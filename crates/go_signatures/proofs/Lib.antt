pub mod Variadics
