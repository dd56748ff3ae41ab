use Rattle.std.proofs.Common.{take}
use Rattle.go_base.specs.Growing.{Grows}
use Rattle.api_features.specs.inner.FeatureLines.{IsDeclaredRest, IsLineOfSome}
use Rattle.api_features.proofs.method_lines.add_each_declared.Given as goal

abbrev pub invariant-loop-method : goal.invariant-loop-method
invariant-loop-method l = Grows (IsLineOfSome (IsDeclaredRest l.of.world.now.packages l.of.path.now l.of.name.now) (take l.method-index l.methods) l.of.path.now) l.fn.lines l.lines
