use Rattle.std.proofs.Common.{◌≡◌, List, ℕ, ◌∙◌, subst, sym}
use Rattle.std.proofs.lemmas.Result.{IfOk-weaker}
use Rattle.go_base.specs.Gathered.{gather}
use Rattle.go_declarations.specs.Forms.{form_of}
use Rattle.go_leads.specs.Listed.{Lists}
use Rattle.go_rules.specs.Scopes.{env_of}
use Rattle.go_typings.specs.References.{NamesDeclaration}
use Rattle.go_declaration_graph.specs.inner.NamedNumbers.{named}
use Rattle.go_declaration_graph.specs.inner.Rows.{NamesIn}
use Rattle.go_declaration_graph.proofs.NamedNumbers.{named_tell}
use Rattle.go_declaration_graph.proofs.counted.counted_row.Goals as goal

pub returns : goal.returns
returns c =
    let E = env_of c.args.env.now in
    let f = form_of c.args.form in
    let names = c.args.names.now in
    let rs = c.args.references.now in
    IfOk-weaker c.named_row.result (λ (row : List ℕ). row ≡ gather (named names) rs) (NamesIn names E f rs)
    (λ row e u are. subst (Lists (NamesDeclaration E u f rs)) (sym e) (named_tell u names are E f rs (sym c.has_declared_key.ensures ∙ c.if-has_declared_key.false))) c.named_row.ensures
