use Rattle.std.proofs.Common.{map}
use Rattle.go_rules.specs.Operands.{plain}
use Rattle.go_statement_rules.specs.Assignments.{AreResults, Returns}
use Rattle.go_type_terms.specs.Answers.{env_in}
use Rattle.go_type_terms.proofs.NamedTypes.{same_tells}
use Rattle.go_assignments.specs.inner.Results.{GivesEach}
use Rattle.go_assignments.proofs.Results.{call_in, call_returns, each_alone, each_of}
use Rattle.go_assignments.proofs.returned.gives_operand.Goals as goal

pub returns-in-Some : goal.returns-in-Some
returns-in-Some c =
    let E = env_in c.args.context.now in
    let es = c.args.exprs.now in
    let rs = c.args.results.now in
    let q = c.requires in
    let us = c.items.result.now in
    same_tells (λ (u : Unit {0}). AreResults E (map plain us) rs) (λ (u : Unit {0}). Returns E rs es) c.gives_all.result
    (λ u r. call_returns E es q.0 rs q.1 c.args.operand.now c.in-Some.terms.now us q.2 c.in-Some.ensures c.items.ensures r) (λ u h. call_in E es q.0 rs q.1 c.args.operand.now c.in-Some.terms.now us q.2 c.in-Some.ensures c.items.ensures h) c.gives_all.ensures

pub returns-in-None : goal.returns-in-None
returns-in-None c =
    let E = env_in c.args.context.now in
    let es = c.args.exprs.now in
    let rs = c.args.results.now in
    let q = c.requires in
    same_tells (λ (u : Unit {0}). GivesEach E rs es) (λ (u : Unit {0}). Returns E rs es) c.gives_each.result (λ u h. each_of E es q.0 rs q.1 h) (λ u h. each_alone E es q.0 rs q.1 c.args.operand.now q.2 c.in-None.ensures h) c.gives_each.ensures
