pub mod AlikeAnswers
pub mod FirstAlike
pub mod HeaderConstraints
pub mod ListedQuestions
