pub mod FeatureRests
pub mod FeatureSets
pub mod MethodRests
pub mod OwnMethodSets
pub mod QuotedPieces
pub mod TypeParts
pub mod ValueTexts
