use Rattle.go_rules.specs.Scopes.{env_of}
use Rattle.go_usability.proofs.Whole.{not_candidates, are_held}
use Rattle.go_usability.proofs.implementing.holds_many.Goals as goal

pub returns-then-not-are_candidates : goal.returns-then-not-are_candidates
returns-then-not-are_candidates c = not_candidates (env_of c.args.context.now.env.now) c.args.term.now c.in_ok-callable.callable c.args.methods.now c.in_ok-callable.ensures c.are_candidates.result c.if-not-are_candidates.true c.are_candidates.ensures

pub returns-then-branch : goal.returns-then-branch
returns-then-branch c = are_held (env_of c.args.context.now.env.now) c.args.term.now c.in_ok-callable.callable c.args.methods.now c.in_ok-callable.ensures c.are_candidates.result c.if-not-are_candidates.false c.are_candidates.ensures (c.in_ok-told_for.ensures c.if-branch.true)
