use Rattle.std.proofs.Common.{Some, ap, ◌∙◌, sym}
use Rattle.go_rules.specs.Environments.{is_exported}
use Rattle.go_rules.specs.Expressions.{is_blank}
use Rattle.go_rules.specs.Meanings.{seen_of}
use Rattle.go_type_terms.specs.Answers.{env_in}
use Rattle.go_type_terms.proofs.NamedTypes.{tells_imported}
use Rattle.go_type_terms.proofs.type_names.imported.Goals as goal

pub returns-in-Some : goal.returns-in-Some
returns-in-Some c =
    let E = env_in c.args.context.now in
    tells_imported E c.args.package.now c.args.name.now (ap is_blank (sym c.bytes.ensures) ∙ sym c.is_blank.ensures ∙ c.if-is_blank.false)
    (ap is_exported (sym c.bytes-else-is_blank.ensures) ∙ sym c.is_exported.ensures ∙ c.if-not-is_exported.false) c.in-Some-Import.path.now
    (sym c.in-Some-Import.ensures ∙ ap (λ m. Some (seen_of m)) c.in-Some-Import.field-0-is) c.in-Some.entity.now
    (ap (λ p. E.object p c.args.name.now.text) (sym c.bytes-in-Some-Import.ensures) ∙ ap (λ n. E.object c.bytes-in-Some-Import.result.now n) (sym c.bytes-in-Some-Import-2.ensures) ∙ sym c.in-Some.ensures)
    c.type_of.result c.type_of.ensures
