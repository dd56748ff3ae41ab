use Rattle.std.proofs.Common.{◌≡◌, map, take}
use Rattle.go_model.specs.worlds.Worlds.{type_object}
use Rattle.go_types_tests.proofs.worlds.package_of.Given as goal

abbrev pub invariant-loop-defined : goal.invariant-loop-defined
invariant-loop-defined l = l.objects ≡ map (λ d. type_object l.path d.name) (take l.defined-index l.defined-items)
