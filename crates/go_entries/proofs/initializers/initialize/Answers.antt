use Rattle.std.proofs.Common.{◌≡◌, ◌≤◌, ◌∷◌, [], length, arith}
use Rattle.go_rules.specs.Expressions.{HasEach}
use Rattle.go_type_terms.specs.Answers.{env_in}
use Rattle.go_type_terms.proofs.NamedTypes.{same_tells}
use Rattle.go_typings.specs.Initializers.{Initialize, by_each}
use Rattle.go_entries.specs.inner.Values.{GivesSeveral}
use Rattle.go_entries.proofs.Initializing.{alone, alone_each, in_one, to_one}
use Rattle.go_entries.proofs.initializers.initialize.Goals as goal

pub returns-then-exprs-count : goal.returns-then-exprs-count
returns-then-exprs-count c =
    let E = env_in c.args.context.now in
    let n = c.args.count in
    let es = c.args.exprs.now in
    same_tells (HasEach E es) (Initialize E n es) c.each.result (λ os h. by_each h c.if-exprs-count.true) (alone_each E n es c.if-exprs-count.true) c.each.ensures

pub returns-in-len1 : goal.returns-in-len1
returns-in-len1 c =
    let E = env_in c.args.context.now in
    let n = c.args.count in
    let es = c.args.exprs.now in
    let e = c.expr-item.result in
    let a : 1 ≤ length es = omega arith in
    let b : length es ≤ 1 = omega arith in
    let i : es ≡ e ∷ [] = alone es e a b c.expr-item.is in
    same_tells (GivesSeveral E n e) (Initialize E n es) c.by_one.result (to_one E n e es i) (in_one E n e es i c.if-exprs-count.false) c.by_one.ensures
