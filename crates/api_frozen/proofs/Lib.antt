pub mod Arranged
pub mod Compared
pub mod Cutting
pub mod LineParts
pub mod ReadLines
pub mod Words
