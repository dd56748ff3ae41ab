use Rattle.std.proofs.Common.{take}
use Rattle.api_correspond.specs.inner.Spreading.{PushesEmbedded}
use Rattle.api_correspond.proofs.embedded.push_embedded.Given as goal

abbrev pub invariant-loop-field : goal.invariant-loop-field
invariant-loop-field l = PushesEmbedded l.fn.all.items l.fn.seen.keys l.all.items l.seen.keys (take l.field-index l.fields)
