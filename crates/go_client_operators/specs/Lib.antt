pub mod FollowedOperands
