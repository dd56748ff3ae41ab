use Rattle.std.proofs.Common.{◌≡◌, [], drop}
use Rattle.go_flat_statements.proofs.Declaring.{SpecsOn}
use Rattle.go_local_scopes.specs.States.{IsAt, Kept}
use Rattle.go_local_specs.specs.LocalForms.{AreLocal, forms_in}
use Rattle.go_rules.specs.Environments.{Env}
use Rattle.go_statement_rules.specs.Scopes.{Scopes}
use Rattle.go_walks.specs.Below.{blocks_of, enclosing_of}
use Rattle.go_flat_statements.proofs.declared.specs.Given as goal

abbrev pub invariant-loop-declaration : goal.invariant-loop-declaration
invariant-loop-declaration g l =
    let f = l.walk.frame.now in
    record {
      kept : Kept l.fn.env l.env;
      some : l.env.opened ≡ [] → ⊥;
      on : AreLocal (forms_in l.listed) → (E : Env) (s : Scopes) → IsAt E s l.fn.env → SpecsOn E (blocks_of f) (enclosing_of f) s (forms_in l.listed) l.env.opened (drop l.declaration-index (forms_in l.listed));
    }
