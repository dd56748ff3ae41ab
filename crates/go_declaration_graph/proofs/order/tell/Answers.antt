use Rattle.std.proofs.Common.{ℕ, List, ◌++◌, ap, ◌∙◌, subst}
use Rattle.go_declarations.specs.Forms.{form_of}
use Rattle.go_rules.specs.Scopes.{Scopes, env_of}
use Rattle.go_declaration_graph.specs.inner.Rows.{LeadsIn}
use Rattle.go_declaration_graph.proofs.order.tell.Goals as goal

pub returns-clause-row : goal.returns-clause-row
returns-clause-row c =
    let row = c.in_ok-row.row in (
      row,
      c.put_row.ensures,
      c.in_ok-push_all.ensures ∙ ap (λ (xs : List ℕ). c.args.pending.now.items ++ xs) c.items.ensures,
      subst (λ (z : Scopes). LeadsIn c.args.names.now c.args.index.now.tables (env_of z) (form_of c.args.declaration.now.form) row) c.turn_to.ensures c.in_ok-row.ensures,
    )
