pub mod FrozenLists
pub mod InputAnswers
pub mod OneFile
pub mod OneFrozen
pub mod OneInputs
