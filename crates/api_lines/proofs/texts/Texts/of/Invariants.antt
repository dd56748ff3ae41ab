use Rattle.std.proofs.Common.{[], take}
use Rattle.go_base.specs.Lists.{Has}
use Rattle.go_base.specs.Growing.{Grows}
use Rattle.api_lines.proofs.texts.Texts.of.Given as goal

abbrev pub invariant-loop-text : goal.invariant-loop-text
invariant-loop-text l = Grows (Has (take l.text-index l.all)) [] l.texts
