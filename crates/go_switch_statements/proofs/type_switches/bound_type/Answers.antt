use Rattle.go_statement_rules.specs.Clauses.{bound_type}
use Rattle.go_switch_statements.proofs.Guarded.{alone, several_bound, unlisted_bound}
use Rattle.std.proofs.Common.{◌∙◌, ◌≤◌, ap, arith, length, sym}
use Rattle.go_switch_statements.proofs.type_switches.bound_type.Goals as goal

pub returns-in-empty : goal.returns-in-empty
returns-in-empty c = let h : length c.args.listed.now ≤ 0 = omega arith in unlisted_bound c.args.term.now c.args.listed.now h

pub returns-in-len1 : goal.returns-in-len1
returns-in-len1 c =
    let xs = c.args.listed.now in
    let a : 1 ≤ length xs = omega arith in
    let b : length xs ≤ 1 = omega arith in
    c.type_of_one.ensures ∙ sym (ap (bound_type c.args.term.now) (alone xs c.one-item.result a b c.one-item.is))

pub returns-in_default : goal.returns-in_default
returns-in_default c = let h : 2 ≤ length c.args.listed.now = omega arith in several_bound c.args.term.now c.args.listed.now h
