pub mod GrowContexts
pub mod SamePlaces
pub mod ReceiverTrees
pub mod TypedTrees
pub mod Unflagged
pub mod OneVetted
