use Rattle.go_type_terms.specs.Answers.{env_in}
use Rattle.go_type_terms.proofs.NamedTypes.{same_tells}
use Rattle.go_entries.specs.inner.Types.{IsDefinitionOf, IsUnderneath}
use Rattle.go_entries.proofs.DefinedTypes.{in_defined, to_defined}
use Rattle.go_entries.proofs.types.definition.Goals as goal

pub returns : goal.returns
returns c =
    let E = env_in c.args.context.now in
    let q = c.args.qualified in
    let t = c.args.form.now in
    let u = c.in_ok-term.term in
    let b = c.is_barred.result in
    same_tells (IsUnderneath E b u) (IsDefinitionOf E q t) c.underneath.result (to_defined E q t u c.in_ok-term.ensures b c.is_barred.ensures) (in_defined E q t u c.in_ok-term.ensures b c.is_barred.ensures) c.underneath.ensures
