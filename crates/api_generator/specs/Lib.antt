pub mod MadeTrees
