use Rattle.std.proofs.lemmas.Option.{slice_get_within}
use Rattle.go_typings.specs.Declarations.{declarations}
use Rattle.go_soundness.proofs.Sound.{first_unsound, typed}
use Rattle.go_soundness.proofs.laws.typed_or_refused.Goals as goal

pub returns-clause-typed : goal.returns-clause-typed
returns-clause-typed c = λ s u a lost p once found A F h k. record { once = once; found = found; entries = a; typing = typed s u a A lost F h; «package» = k }

pub returns-clause-refused : goal.returns-clause-refused
returns-clause-refused c = λ s u a lost n p apart once found A F e h k. (once, found, (n, first_unsound s u a A lost F apart n (slice_get_within (declarations u) n k.0 k.1) e h, k))
