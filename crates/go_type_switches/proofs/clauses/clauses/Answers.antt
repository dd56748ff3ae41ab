use Rattle.std.proofs.Common.{List, Option, subst}
use Rattle.go_base.specs.Lists.{Once}
use Rattle.go_model.specs.declared.types.term.Term.{Term}
use Rattle.go_operators.proofs.Answers.{decided_false, decided_true}
use Rattle.go_statement_rules.specs.Statements.{ListsClauses}
use Rattle.go_type_terms.specs.Answers.{env_in}
use Rattle.go_type_terms.proofs.Handed.{told_told}
use Rattle.go_type_switches.specs.Switches.{AreClausesOf}
use Rattle.go_type_switches.proofs.Listing.{twice_listed}
use Rattle.go_type_switches.proofs.clauses.clauses.Goals as goal

pub returns-in_err-all : goal.returns-in_err-all
returns-in_err-all c =
    let E = env_in c.args.context.now in
    told_told (ListsClauses E c.args.interface.now c.args.clauses.now) (λ (u : Unit {0}). AreClausesOf E c.args.interface.now c.args.clauses.now) c.in_err-all.field-0.0 c.from_residual.result c.from_residual.ensures.1 c.in_err-all.ensures (λ u h. (h.0, h.1))

pub returns-then-not-once : goal.returns-then-not-once
returns-then-not-once c =
    λ u. twice_listed (env_in c.args.context.now) c.args.interface.now c.args.clauses.now c.in_ok-all.all c.items.result.now c.in_ok-all.ensures c.items.ensures
    (decided_false (Once c.items.result.now) _ c.if-not-once.true c.in_ok-once.ensures)

pub returns : goal.returns
returns c =
    (c.in_ok-all.all, c.in_ok-all.ensures, subst (λ (xs : List (Option Term)). Once xs) c.items.ensures (decided_true (Once c.items.result.now) _ c.if-not-once.false c.in_ok-once.ensures))
