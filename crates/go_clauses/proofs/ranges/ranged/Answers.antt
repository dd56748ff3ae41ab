use Rattle.std.proofs.Common.{subst, sym}
use Rattle.go_statement_rules.specs.Clauses.{Ranges, ranges_string}
use Rattle.go_type_terms.specs.Answers.{env_in}
use Rattle.go_type_terms.proofs.NamedTypes.{same_tells}
use Rattle.go_clauses.specs.inner.Levels.{RangesValue}
use Rattle.go_clauses.proofs.Ranging.{in_ranges, to_ranges}
use Rattle.go_clauses.proofs.ranges.ranged.Goals as goal

pub returns-in_ok-of_string-in-Some : goal.returns-in_ok-of_string-in-Some
returns-in_ok-of_string-in-Some c = subst (Ranges (env_in c.args.context.now) c.args.operand.now) (sym c.in_ok-of_string-in-Some.ensures) (ranges_string c.in-Some.ensures)

pub returns-in-None : goal.returns-in-None
returns-in-None c =
    let E = env_in c.args.context.now in
    let o = c.args.operand.now in
    same_tells (RangesValue E o) (Ranges E o) c.ranged_value.result (to_ranges E o) (in_ranges E o c.in-None.ensures) c.ranged_value.ensures
