pub mod DeclaredNames
pub mod SortedMethods
pub mod TypedPackages
pub mod PackageOutcomes
pub mod SkippedOutcomes
pub mod WorldOutcomes
