use Rattle.std.proofs.Common.{take}
use Rattle.go_base.specs.Growing.{Grows}
use Rattle.api_features.specs.inner.FeatureLines.{IsFieldRest, IsLineOfSome}
use Rattle.api_features.proofs.struct_lines.add_fields.Given as goal

abbrev pub invariant-loop-field : goal.invariant-loop-field
invariant-loop-field l = Grows (IsLineOfSome (IsFieldRest l.of.world.now.packages l.of.path.now l.of.name.now) (take l.field-index l.fields) l.of.path.now) l.fn.lines l.lines
