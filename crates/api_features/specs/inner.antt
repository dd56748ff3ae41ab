pub mod FeatureLines
pub mod Pushed
