pub mod JudgedTrees
