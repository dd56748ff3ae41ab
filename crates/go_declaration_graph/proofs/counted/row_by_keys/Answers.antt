use Rattle.std.proofs.Common.{◌++◌, ap, ◌∙◌, subst, sym}
use Rattle.go_base.specs.Gathered.{gather}
use Rattle.go_declarations.specs.Forms.{form_of}
use Rattle.go_leads.specs.Listed.{Lists}
use Rattle.go_rules.specs.Scopes.{env_of}
use Rattle.go_typings.specs.References.{NamesDeclaration}
use Rattle.go_declaration_graph.specs.inner.NamedNumbers.{counted}
use Rattle.go_declaration_graph.proofs.NamedNumbers.{counted_tell}
use Rattle.go_declaration_graph.proofs.counted.row_by_keys.Goals as goal

pub returns : goal.returns
returns c u are =
    let E = env_of c.args.env.now in
    let f = form_of c.args.form in
    let names = c.args.names.now in
    let keys = c.in_ok-keys.keys.keys in
    let rs = c.args.references.now in
    subst (Lists (NamesDeclaration E u f rs)) (sym (c.in_ok-push_all_counted.ensures ∙ ap (λ row. row ++ gather (counted names keys) rs) c.new-row.ensures))
    (counted_tell u names are E f keys c.in_ok-keys.ensures rs)
