use Rattle.std.proofs.Common.{◌≡◌, ◌++◌, map, drop}
use Rattle.go_references.specs.References.{all_specs, var_references}
use Rattle.go_references.proofs.references.add_vars.Given as goal

abbrev pub invariant-loop-spec : goal.invariant-loop-spec
invariant-loop-spec l = l.refs ++ all_specs (map var_references (drop l.spec-index l.specs)) ≡ l.initial.refs ++ all_specs (map var_references l.specs)
