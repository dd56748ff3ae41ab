use Rattle.std.proofs.Common.{refl, subst}
use Rattle.go_model.specs.declared.types.term.Term.{Term}
use Rattle.go_rules.specs.Environments.{Env}
use Rattle.go_rules.specs.Expressions.{IsTypeName}
use Rattle.go_rules.specs.Growth.{Grows}
use Rattle.go_rules.proofs.GrowResults.{type_name_more}
use Rattle.go_rules.proofs.GrowTypes.{joined_is}
use Rattle.go_syntax.specs.declared.name.QualifiedName.{QualifiedName}
use Rattle.go_client_types.proofs.Hypotheses.{embeds, embeds_too, universe}
use Rattle.go_client_types.proofs.TypeForms.{type_kept}
use Rattle.go_client_types.proofs.laws.kept_type_forms.Goals as goal

more : (E G : Env) → Grows E G → (q : QualifiedName) (t : Term) → IsTypeName E q t → IsTypeName G q t
more E G grows q t a = subst (λ D. IsTypeName D q t) (joined_is E G grows) (type_name_more E G grows q t a)

pub returns : goal.returns
returns c = λ E F G r pairs std is_open K grows barred lengths t u h m.
    type_kept E F G r pairs std is_open K (universe r pairs std is_open (K.types.own _ refl) E.iota) (embeds E G (more E G grows) barred) (embeds_too E G (more E G grows) barred) lengths h m
