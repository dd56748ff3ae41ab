use Rattle.std.proofs.Common.{List, ◌∙◌, subst}
use Rattle.go_declarations.specs.Forms.{form_of}
use Rattle.go_references.specs.declared.references.Reference.{Reference}
use Rattle.go_rules.specs.Scopes.{env_of}
use Rattle.go_declaration_graph.specs.inner.Rows.{NamesIn}
use Rattle.go_declaration_graph.proofs.FoundNumbers.{leads_in}
use Rattle.go_declaration_graph.proofs.rows.leads_by.Goals as goal

pub returns : goal.returns
returns c =
    let E = env_of c.args.env.now in
    let f = form_of c.args.form in
    leads_in E c.args.names.now c.args.index.now.tables f c.items.result.now c.in_ok-row.row c.push_found_in_each.new.row
    (c.items.ensures ∙ c.in_ok-each.ensures)
    (subst (λ (rs : List Reference). NamesIn c.args.names.now E f rs c.in_ok-row.row) c.requires c.in_ok-row.ensures)
    c.in_ok-push_found_in_each.ensures
