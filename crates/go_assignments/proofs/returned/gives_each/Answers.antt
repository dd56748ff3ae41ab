use Rattle.std.proofs.Common.{List, length, refl, subst, sym}
use Rattle.go_entries.proofs.Initializing.{alone_each}
use Rattle.go_operators.proofs.Answers.{decided_false, decided_true}
use Rattle.go_rules.specs.declared.operand.Operand.{Operand}
use Rattle.go_statement_rules.specs.Assignments.{AreResults}
use Rattle.go_type_terms.specs.Answers.{env_in}
use Rattle.go_type_terms.proofs.Handed.{told_told}
use Rattle.go_typings.specs.Initializers.{Initialize, by_each}
use Rattle.go_assignments.specs.inner.Results.{GivesEach}
use Rattle.go_assignments.proofs.Results.{not_results}
use Rattle.go_assignments.proofs.returned.gives_each.Goals as goal

pub returns-in_err-values : goal.returns-in_err-values
returns-in_err-values c =
    let E = env_in c.args.context.now in
    let es = c.args.exprs.now in
    told_told (Initialize E (length es) es) (λ (u : Unit {0}). GivesEach E c.args.results.now es) c.in_err-values.field-0.0 c.from_residual.result c.from_residual.ensures.1 c.in_err-values.ensures (λ u h. (h.0, by_each h.1 refl))

pub returns-then-not-branch : goal.returns-then-not-branch
returns-then-not-branch c =
    let E = env_in c.args.context.now in
    let none = decided_false (AreResults E c.items.result.now c.args.results.now) _ c.if-not-branch.true c.in_ok-are_results.ensures in
    λ u. not_results E c.in_ok-values.ensures (λ a. none (subst (λ (os : List Operand). AreResults E os c.args.results.now) (sym c.items.ensures) a))

pub returns : goal.returns
returns c =
    let E = env_in c.args.context.now in
    let es = c.args.exprs.now in (
      c.in_ok-values.values,
      alone_each E (length es) es refl c.in_ok-values.values c.in_ok-values.ensures,
      subst (λ (os : List Operand). AreResults E os c.args.results.now) c.items.ensures (decided_true (AreResults E c.items.result.now c.args.results.now) _ c.if-not-branch.false c.in_ok-are_results.ensures),
    )
