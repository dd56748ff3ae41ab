pub mod StdSources
pub mod TwoModules
