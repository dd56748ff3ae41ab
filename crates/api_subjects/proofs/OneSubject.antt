-- What is broken has one subject.
use Rattle.std.proofs.Common.{◌≡◌, ℕ, List, ◌++◌, refl, sym, ap, ◌∙◌, codes}
use Rattle.go_model.specs.declared.types.term.Term.{Term}
use Rattle.go_model.specs.declared.types.package.Entity.{Entity}
use Rattle.go_model.specs.declared.types.package.Entity.TheVariants as entity
use Rattle.go_model.specs.declared.types.package.Package.{Package}
use Rattle.go_model.specs.worlds.Worlds.{Packages}
use Rattle.api_features.specs.TypeTexts.{constant_type}
use Rattle.api_features.proofs.ValueTexts.{quoted_once, value_once}
use Rattle.api_breaks.specs.declared.broken.Break.{Break}
use Rattle.api_breaks.specs.declared.broken.Lost.{Lost}
use Rattle.api_breaks.specs.declared.broken.Lost.TheVariants as lost
use Rattle.api_subjects.specs.declared.broken.Broken.{Broken}
use Rattle.api_subjects.specs.Subjects.{change_text, IsChange, IsConstantText, IsSubject}
use Rattle.api_subjects.specs.Told.{IsTold}
use Rattle.api_subjects.specs.TypeTexts.{IsTypeText, type_text}

-- two texts with the property are one
abbrev pub IsOne : (List ℕ → Type 0) → Type 0
IsOne P = (a b : List ℕ) → P a → P b → a ≡ b

type_once : (t : Term) → IsOne (IsTypeText t)
type_once t a b p q = p.2 ∙ (λ i. type_text (λ bytes. quoted_once (p.1 bytes) bytes (q.0 bytes) refl (q.1 bytes) i) t) ∙ sym q.2

constant_once : (packages : List Package) (path : List ℕ) (e : Entity) → IsOne (IsConstantText packages path e)
constant_once packages path (entity.Const t v) a b p q = p.2 ∙ ap (λ (w : List ℕ). constant_type packages path t ++ codes " " ++ w) (value_once v p.0 q.0 p.1 q.1) ∙ sym q.2
constant_once packages path (entity.Var t) a b p q = p ∙ sym q
constant_once packages path (entity.Function g) a b p q = p ∙ sym q
constant_once packages path (entity.TypeOf t) a b p q = p ∙ sym q

change_once : (P Q : List ℕ → Type 0) → IsOne P → IsOne Q → IsOne (IsChange P Q)
change_once P Q f g a b p q = p.4 ∙ (λ i. change_text (f p.0 q.0 p.2 q.2 i) (g p.1 q.1 p.3 q.3 i)) ∙ sym q.4

subject_once : (old new : Packages) (l : Lost) → IsOne (IsSubject old new l)
subject_once old new lost.Package a b p q = p ∙ sym q
subject_once old new (lost.Name name) a b p q = p ∙ sym q
subject_once old new lost.Removed a b p q = p ∙ sym q
subject_once old new (lost.Kind s t) a b p q = p ∙ sym q
subject_once old new (lost.Constant path s t) a b p q = change_once (IsConstantText old.packages path s) (IsConstantText new.packages path t) (constant_once old.packages path s) (constant_once new.packages path t) a b p q
subject_once old new (lost.Type s t) a b p q = change_once (IsTypeText s) (IsTypeText t) (type_once s) (type_once t) a b p q
subject_once old new (lost.Underlying s t) a b p q = change_once (IsTypeText s) (IsTypeText t) (type_once s) (type_once t) a b p q
subject_once old new (lost.Field name) a b p q = p ∙ sym q
subject_once old new (lost.Selectable name) a b p q = p ∙ sym q
subject_once old new lost.Comparable a b p q = p ∙ sym q
subject_once old new lost.Sealing a b p q = p ∙ sym q
subject_once old new (lost.InterfaceMethod sel) a b p q = p ∙ sym q
subject_once old new (lost.Method sel) a b p q = p ∙ sym q
subject_once old new (lost.Implements t) a b p q = type_once t a b p q
subject_once old new (lost.OneToOne s t) a b p q = change_once (IsTypeText s) (IsTypeText t) (type_once s) (type_once t) a b p q

pub told_once : (old new : Packages) (b : Break) (x y : Broken) → IsTold old new b x → IsTold old new b y → x ≡ y
told_once old new b x y p q = (λ i. record {
  owner = (p.owner ∙ sym q.owner) i;
  rule = (p.rule ∙ sym q.rule) i;
  subject = subject_once old new b.lost x.subject y.subject p.subject q.subject i;
})
