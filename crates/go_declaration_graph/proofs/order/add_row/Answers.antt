use Rattle.std.proofs.Common.{subst}
use Rattle.go_declarations.specs.Forms.{form_of}
use Rattle.go_rules.specs.Scopes.{Scopes, env_of}
use Rattle.go_declaration_graph.specs.inner.Orders.{IsKindRow}
use Rattle.go_declaration_graph.proofs.order.add_row.Goals as goal

pub returns-clause-row : goal.returns-clause-row
returns-clause-row c =
    let row = c.in_ok-row.row in (
      row,
      c.in_ok-push.ensures.ok,
      subst (λ (z : Scopes). IsKindRow c.args.names.now c.args.kind (env_of z) (form_of c.args.declaration.now.form) row) c.turn_to.ensures c.in_ok-row.ensures,
    )
