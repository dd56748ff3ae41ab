pub mod Here
pub mod Trees
pub mod inner
