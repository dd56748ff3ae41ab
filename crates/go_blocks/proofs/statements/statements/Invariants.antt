use Rattle.std.proofs.Common.{◌≡◌, [], drop}
use Rattle.go_blocks.proofs.Placed.{StatementsOn}
use Rattle.go_local_scopes.specs.States.{IsAt, Kept}
use Rattle.go_rules.specs.Environments.{Env}
use Rattle.go_statement_rules.specs.Scopes.{Scopes}
use Rattle.go_switch_statements.specs.go_walks.Below.{blocks_of, enclosing_of}
use Rattle.go_blocks.proofs.statements.statements.Given as goal

abbrev pub invariant-loop-one : goal.invariant-loop-one
invariant-loop-one g l =
    let f = l.walk.frame.now in
    record {
      kept : Kept l.fn.env l.env;
      some : l.env.opened ≡ [] → ⊥;
      on : (E : Env) (s : Scopes) → IsAt E s l.fn.env → StatementsOn E (blocks_of f) (enclosing_of f) s l.list l.env.opened (drop l.one-index l.list);
    }
