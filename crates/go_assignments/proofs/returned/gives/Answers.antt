use Rattle.std.proofs.Common.{◌≤◌, arith, length}
use Rattle.go_entries.proofs.Initializing.{alone}
use Rattle.go_statement_rules.specs.Assignments.{Returns}
use Rattle.go_type_terms.specs.Answers.{env_in}
use Rattle.go_type_terms.proofs.NamedTypes.{same_tells}
use Rattle.go_assignments.specs.inner.Results.{GivesEach}
use Rattle.go_assignments.proofs.Results.{many_in, many_of, nothing_of}
use Rattle.go_assignments.proofs.returned.gives.Goals as goal

pub returns-in-empty : goal.returns-in-empty
returns-in-empty c = let h : length c.args.exprs.now ≤ 0 = omega arith in nothing_of (env_in c.args.context.now) c.args.exprs.now c.args.results.now h

pub gives_by_one-requires : goal.gives_by_one-requires
gives_by_one-requires c =
    let a : 1 ≤ length c.args.exprs.now = omega arith in
    let b : length c.args.exprs.now ≤ 1 = omega arith in
    alone c.args.exprs.now c.expr-item.result a b c.expr-item.is

pub returns-in_default : goal.returns-in_default
returns-in_default c =
    let E = env_in c.args.context.now in
    let es = c.args.exprs.now in
    let rs = c.args.results.now in
    let h : 2 ≤ length es = omega arith in
    same_tells (λ (u : Unit {0}). GivesEach E rs es) (λ (u : Unit {0}). Returns E rs es) c.gives_each.result (λ u g. many_of E es rs h g) (λ u r. many_in E es rs h r) c.gives_each.ensures
