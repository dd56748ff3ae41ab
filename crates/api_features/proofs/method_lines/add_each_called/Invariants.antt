use Rattle.std.proofs.Common.{◌≡◌, ◌++◌, List}
use Rattle.std.specs.BTreeMap.{keys}
use Rattle.go_base.specs.Growing.{Grows}
use Rattle.go_model.specs.declared.types.names.Sel.{Sel}
use Rattle.api_features.specs.inner.FeatureLines.{IsCalledRest, IsLineOfSome}
use Rattle.api_features.proofs.method_lines.add_each_called.Given as goal

abbrev pub invariant-loop-sel : goal.invariant-loop-sel
invariant-loop-sel l = (done : List Sel) × (done ++ l.sel-iterator ≡ keys l.callable) × Grows (IsLineOfSome (IsCalledRest l.of.world.now.packages l.of.path.now l.of.name.now l.pointer l.except l.callable) done l.of.path.now) l.fn.lines l.lines
