pub mod ExpressionCauses
pub mod ExpressionParts
pub mod HeaderLines
pub mod NameParts
pub mod PackageKeyword
pub mod ParserAnswers
pub mod RecursiveDescent
