pub mod OneNext
