-- Names of types, by what they mean.
use Rattle.std.proofs.Common.{◌≡◌, ℕ, List, sym, ap, ◌∙◌, true, false, Some, Result, Ok, Err}
use Rattle.go_model.specs.declared.types.package.Entity.{Entity}
use Rattle.go_model.specs.declared.types.term.Term.{Term}
use Rattle.go_syntax.specs.declared.name.Name.{Name}
use Rattle.go_rules.specs.Environments.{Env, is_exported}
use Rattle.go_rules.specs.Expressions.{Denotes, DenotesImported, is_blank, seen_operand}
use Rattle.go_rules.specs.Operands.{denoted, type_name}
use Rattle.go_rules.specs.declared.operand.Operand.{Operand}
use Rattle.go_rules.specs.declared.seen.Seen.{Seen}
use Rattle.go_rules.specs.declared.seen.Seen.TheVariants as seen
use Rattle.go_rules.proofs.OneName.{one_some}
use Rattle.go_type_terms.specs.Answers.{Tells}
use Rattle.go_type_terms.specs.declared.error.ExprError.{ExprError}
use Rattle.go_type_terms.specs.declared.error.ExprError.TheVariants.{NoMemory, Untyped}

-- two facts that hold of the same
pub same_tells : {A : Type 0} (P Q : A → Type 0) (r : Result A ExprError) → ((a : A) → P a → Q a) → ((a : A) → Q a → P a) → Tells {A = A} P r → Tells {A = A} Q r
same_tells P Q (Ok a) to from t = to a t
same_tells P Q (Err NoMemory) to from t = tt
same_tells P Q (Err Untyped) to from t = λ a q. t a (from a q)

module _ (E : Env) (n : Name) (named : is_blank n.text ≡ false) (s : Seen) (means : E.meaning n.text ≡ Some s) where
  to_denotes : (o : Operand) → seen_operand E.iota s ≡ Some o → Denotes E n o
  to_denotes o e = record { names = named; meaning = s; means = means; denotes = e }

  from_denotes : (o : Operand) → Denotes E n o → seen_operand E.iota s ≡ Some o
  from_denotes o d = ap (seen_operand E.iota) (one_some (sym means ∙ d.means)) ∙ d.denotes

  -- what a name means tells which type it stands for
  pub tells_named : (P : Term → Type 0) (r : Result Term ExprError) → ((t : Term) → P t → seen_operand E.iota s ≡ Some (type_name t)) → ((t : Term) → seen_operand E.iota s ≡ Some (type_name t) → P t)
      → Tells {A = Term} P r → Tells {A = Term} (λ t. Denotes E n (type_name t)) r
  tells_named P r to from = same_tells P (λ t. Denotes E n (type_name t)) r (λ t p. to_denotes (type_name t) (to t p)) (λ t d. from t (from_denotes (type_name t) d))

module _ (E : Env) (q n : Name) (named : is_blank q.text ≡ false) (exported : is_exported n.text ≡ true) (path : List ℕ) (imports : E.meaning q.text ≡ Some (seen.Import path)) (object : Entity) (has : E.object path n.text ≡ Some object) where
  path_of : Seen → List ℕ
  path_of (seen.Import p) = p
  path_of s = path

  pub tells_imported : (r : Result Term ExprError) → Tells {A = Term} (λ t. denoted object ≡ type_name t) r → Tells {A = Term} (λ t. DenotesImported E q n (type_name t)) r
  unfolding path_of
  tells_imported r = same_tells (λ t. denoted object ≡ type_name t) (λ t. DenotesImported E q n (type_name t)) r
      (λ t e. record { names = named; path = path; object = object; imported = imports; exported = exported; declared = has; denotes = e })
      (λ t d.
      let same : path ≡ d.path = ap path_of (one_some (sym imports ∙ d.imported)) in
      ap denoted (one_some (sym has ∙ ap (λ p. E.object p n.text) same ∙ d.declared)) ∙ d.denotes)
