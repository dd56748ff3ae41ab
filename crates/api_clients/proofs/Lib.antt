pub mod AlikeAnswers
pub mod OnePlatform
pub mod OneVetting
pub mod PlatformAnswers
pub mod PlatformOutcomes
