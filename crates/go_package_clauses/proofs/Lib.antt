mod Clauses
mod FolderNames
mod Openings
mod OutlineNames
mod Words
