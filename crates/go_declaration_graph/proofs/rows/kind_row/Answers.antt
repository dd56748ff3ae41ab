use Rattle.std.proofs.Common.{List, ◌∙◌, subst}
use Rattle.std.specs.Prelude.{IfOk}
use Rattle.go_declarations.specs.Forms.{form_of}
use Rattle.go_references.specs.declared.references.Reference.{Reference}
use Rattle.go_rules.specs.Scopes.{env_of}
use Rattle.go_declaration_graph.specs.inner.Rows.{NamesIn}
use Rattle.go_declaration_graph.proofs.rows.kind_row.Goals as goal

pub returns : goal.returns
returns c =
    subst (λ (rs : List Reference). IfOk c.counted_row.result (NamesIn c.args.names.now (env_of c.args.env.now) (form_of c.args.form) rs))
    (c.items.ensures ∙ c.in_ok-references.ensures) c.counted_row.ensures
