use Rattle.std.proofs.Common.{◌≡◌, drop}
use Rattle.go_base.specs.Keys.{first_with}
use Rattle.go_model.specs.worlds.Worlds.{name_of}
use Rattle.worlds.proofs.admission.named_defined.Given as goal

abbrev pub invariant-loop-defined : goal.invariant-loop-defined
invariant-loop-defined l = first_with name_of (drop l.defined-index l.types) l.name ≡ first_with name_of l.types l.name
