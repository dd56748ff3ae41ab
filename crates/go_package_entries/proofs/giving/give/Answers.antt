use Rattle.std.proofs.Common.{◌≡◌, subst, ap, ◌∙◌}
use Rattle.go_declarations.specs.Listings.{declaration_of, declarations_of}
use Rattle.go_entries.specs.Entries.{entry_of}
use Rattle.go_package_scopes.specs.PackageScopes.{at_declaration}
use Rattle.go_rules.specs.Scopes.{Scopes, env_of}
use Rattle.go_type_terms.specs.Answers.{Tells, env_in}
use Rattle.go_typings.specs.DeclarationRules.{Gives}
use Rattle.go_typings.specs.PackageEnvironments.{iota_of}
use Rattle.go_package_entries.proofs.giving.give.Goals as goal

pub returns-clause-given : goal.returns-clause-given
returns-clause-given c =
    let ds = declarations_of c.args.tables.now.declarations.now in
    let d = declaration_of c.args.declaration.now in
    let moved : c.set_iota.new.self ≡ at_declaration c.args.env.now d =
    c.set_iota.ensures ∙ ap (λ i. record c.turn_to.new.self { iota = i }) c.iota.ensures ∙ ap (λ (s : Scopes). record s { iota = iota_of d.form }) c.turn_to.ensures in
    subst (λ (s : Scopes). Tells (λ x. Gives (env_of s) ds d.form (entry_of x)) c.entry.result) moved
    (subst (λ (s : Scopes). Tells (λ x. Gives (env_of s) ds d.form (entry_of x)) c.entry.result) c.new-context.ensures
    (c.entry.ensures ds (c.is_qualified_form-qualified.ensures (env_in c.new-context.result))))
