use Rattle.std.proofs.Common.{take}
use Rattle.go_types.specs.Parts.{PushesFields}
use Rattle.go_types.proofs.comparison.push_fields.Given as goal

abbrev pub invariant-loop-field : goal.invariant-loop-field
invariant-loop-field l = PushesFields l.fn.all.items l.fn.seen.keys l.all.items l.seen.keys (take l.field-index l.fields)
