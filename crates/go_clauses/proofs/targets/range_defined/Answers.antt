use Rattle.std.proofs.Common.{◌≤◌, arith, length}
use Rattle.go_assignments.proofs.Decided.{decided_so}
use Rattle.go_statement_rules.specs.Statements.{IsNew}
use Rattle.go_clauses.specs.Clauses.{TakesNames}
use Rattle.go_clauses.proofs.targets.range_defined.Goals as goal

pub returns-then-few : goal.returns-then-few
returns-then-few c = λ h. let k : length c.args.names.now ≤ length c.args.terms.now = h.0 in omega arith

pub returns : goal.returns
returns c = let k : length c.args.names.now ≤ length c.args.terms.now = omega arith in decided_so (IsNew c.args.names.now) (TakesNames c.args.names.now c.args.terms.now) c.is_new.result (λ h. (k, h)) (λ h. h.1) c.is_new.ensures
