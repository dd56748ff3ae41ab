use Rattle.std.proofs.Common.{take}
use Rattle.go_base.specs.Growing.{Grows}
use Rattle.api_features.specs.inner.FeatureLines.{IsObjectLine}
use Rattle.api_lines.proofs.Growing.{OfSome}
use Rattle.api_features.proofs.features.add_objects.Given as goal

abbrev pub invariant-loop-object : goal.invariant-loop-object
invariant-loop-object l = Grows (OfSome (IsObjectLine l.world l.«package») (take l.object-index l.objects)) l.fn.lines l.lines
