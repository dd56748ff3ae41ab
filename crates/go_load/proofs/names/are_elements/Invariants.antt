use Rattle.std.proofs.Common.{◌≡◌, length}
use Rattle.go_model.specs.files.Trees.{are_elements}
use Rattle.go_load.proofs.names.are_elements.Given as goal

abbrev pub invariant-loop-part : goal.invariant-loop-part
invariant-loop-part l = are_elements l.path ≡ are_elements l.rest

abbrev pub decreases-loop-part : goal.decreases-loop-part
decreases-loop-part l = length l.rest
