pub mod LineTexts
pub mod OneVerdict
pub mod OrderedBreaks
pub mod SortedTexts
