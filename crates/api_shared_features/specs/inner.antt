pub mod KeptFeatures
