pub mod TypedNodes
