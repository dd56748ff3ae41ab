use Rattle.std.proofs.Common.{List, ℕ, Option, subst}
use Rattle.api_frozen.specs.LineShapes.{HasParts}
use Rattle.api_frozen.proofs.LineParts.{no_plain, no_context_of}
use Rattle.api_frozen.proofs.compare.without_context.Goals as goal

pub returns-then-is_none : goal.returns-then-is_none
returns-then-is_none c =
    no_plain c.args.text.now c.in-Some.parts.path.now c.in-Some.parts.rest.now
    (subst (λ (w : Option (List ℕ)). HasParts c.args.text.now c.in-Some.parts.path.now w c.in-Some.parts.rest.now) (no_context_of c.in-Some.parts.context c.if-is_none.ensures) c.in-Some.ensures.some)
