use Rattle.go_rules.specs.Scopes.{env_of}
use Rattle.go_operators.proofs.Shifting.{count_no_natural, counts_typed, counts_untyped}
use Rattle.go_operators.proofs.shifts.is_constant_count.Goals as goal

pub returns-then-not-is_natural : goal.returns-then-not-is_natural
returns-then-not-is_natural c = count_no_natural (env_of c.args.context.now.env.now) c.args.term.now c.args.value.now c.if-not-is_natural.ensures

pub returns-in-OfTerm : goal.returns-in-OfTerm
returns-in-OfTerm c = counts_typed (env_of c.args.context.now.env.now) c.args.term.now _ c.args.value.now c.is_integer.result c.in-OfTerm.is c.if-not-is_natural.ensures c.is_integer.ensures

pub returns-in-OfKind : goal.returns-in-OfKind
returns-in-OfKind c = counts_untyped (env_of c.args.context.now.env.now) c.args.term.now _ c.args.value.now c.bits.result c.representable.result c.in-OfKind.is c.if-not-is_natural.ensures c.bits.ensures.bits c.representable.ensures
