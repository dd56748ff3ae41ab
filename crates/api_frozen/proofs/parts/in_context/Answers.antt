use Rattle.std.proofs.Common.{refl}
use Rattle.api_frozen.proofs.LineParts.{no_context, no_end}
use Rattle.api_frozen.proofs.parts.in_context.Goals as goal

pub returns-in_default-word-clause-none : goal.returns-in_default-word-clause-none
returns-in_default-word-clause-none c = λ u. no_context c.args.bytes.now c.in-Some.after.now c.in-Some.ensures.some (c.in_default-word.ensures.none refl)

pub returns-in_default-rest_after-clause-none : goal.returns-in_default-rest_after-clause-none
returns-in_default-rest_after-clause-none c = λ u. no_end c.args.bytes.now c.in-Some.after.now c.in-Some-word.context.now c.in-Some-word.after.now c.in-Some.ensures.some c.in-Some-word.ensures.some (c.in_default-rest_after.ensures.none refl)
