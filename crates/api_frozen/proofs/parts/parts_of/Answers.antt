use Rattle.std.proofs.Common.{refl}
use Rattle.api_frozen.proofs.LineParts.{no_path, no_rest}
use Rattle.api_frozen.proofs.parts.parts_of.Goals as goal

pub returns-in_default-word-clause-none : goal.returns-in_default-word-clause-none
returns-in_default-word-clause-none c = λ u. no_path c.args.text.now c.in-Some.after.now c.in-Some.ensures.some (c.in_default-word.ensures.none refl)

pub returns-in_default-after_path-clause-none : goal.returns-in_default-after_path-clause-none
returns-in_default-after_path-clause-none c = λ u. no_rest c.args.text.now c.in-Some.after.now c.in-Some-word.path.now c.in-Some-word.after.now c.in-Some.ensures.some c.in-Some-word.ensures.some (c.in_default-after_path.ensures.none refl)
