use Rattle.std.proofs.Common.{◌≡◌, take}
use Rattle.go_base.specs.Lists.{Each}
use Rattle.go_judged.specs.Judging.{Among, Judges}
use Rattle.go_local_scopes.specs.States.{IsAt}
use Rattle.go_rules.specs.Environments.{Env}
use Rattle.go_statement_rules.specs.Scopes.{Scopes}
use Rattle.go_walks.specs.Below.{blocks_of, enclosing_of}
use Rattle.go_walks.specs.Literals.{EntersLiteral, IsTypedLiteral}
use Rattle.go_walks.proofs.walk.Walk.each_literal.Given as goal

abbrev pub invariant-loop-literal : goal.invariant-loop-literal
invariant-loop-literal g l =
    let B = blocks_of l.self.frame.now in
    let r = enclosing_of l.self.frame.now in
    record {
      same : l.env ≡ l.fn.env;
      judged : (E : Env) (s : Scopes) → IsAt E s l.fn.env → Judges E B (Each (IsTypedLiteral E B r s) (take l.literal-index l.literals)) (Among (EntersLiteral E B r s) (take l.literal-index l.literals)) l.judged;
    }
