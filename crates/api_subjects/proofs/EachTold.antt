-- Everything that is broken has a subject.
use Rattle.std.proofs.Common.{◌≡◌, ℕ, List, [], ◌∷◌, ◌++◌, refl, codes}
use Rattle.std.specs.Fmt.{signed_decimal}
use Rattle.go_model.specs.declared.constants.value.Value.{Value}
use Rattle.go_model.specs.declared.constants.value.Value.TheVariants as value
use Rattle.go_model.specs.declared.types.term.Term.{Term}
use Rattle.go_model.specs.declared.types.package.Entity.{Entity}
use Rattle.go_model.specs.declared.types.package.Entity.TheVariants as entity
use Rattle.go_model.specs.declared.types.package.Package.{Package}
use Rattle.go_model.specs.worlds.Worlds.{Packages}
use Rattle.api_features.specs.ConstantTexts.{IsValueText, number, string, truth, truth_text}
use Rattle.api_features.specs.TypeTexts.{constant_type}
use Rattle.api_breaks.specs.declared.broken.Break.{Break}
use Rattle.api_breaks.specs.declared.broken.Lost.{Lost}
use Rattle.api_breaks.specs.declared.broken.Lost.TheVariants as lost
use Rattle.api_subjects.specs.declared.broken.Broken.{Broken}
use Rattle.api_subjects.specs.Rules.{rule_of}
use Rattle.api_subjects.specs.Subjects.{change_text, IsChange, IsConstantText, IsSubject, sel_text, sort_text}
use Rattle.api_subjects.specs.Told.{IsTold}
use Rattle.api_subjects.specs.TypeTexts.{IsTypeText, type_text}
use Rattle.api_subjects.specs.inner.Quoting.{quoted}
use Rattle.api_subjects.proofs.Changes.{type_so}
use Rattle.api_subjects.proofs.Quotes.{quotes}

-- a text with the property
abbrev Some : (List ℕ → Type 0) → Type 0
Some P = (text : List ℕ) × P text

the_text : (text : List ℕ) → Some (λ t. t ≡ text)
the_text text = (text, refl)

some_value : (v : Value) → Some (IsValueText v)
some_value (value.Int x) = (signed_decimal x, number)
some_value (value.Truth b) = (truth_text b, truth)
some_value (value.Str bytes) = (34 ∷ (quoted bytes ++ 34 ∷ []), string (quotes bytes))

some_constant : (packages : List Package) (path : List ℕ) (e : Entity) → Some (IsConstantText packages path e)
some_constant packages path (entity.Const t v) = let w = some_value v in (constant_type packages path t ++ codes " " ++ w.0, (w.0, w.1, refl))
some_constant packages path (entity.Var t) = ([], refl)
some_constant packages path (entity.Function g) = ([], refl)
some_constant packages path (entity.TypeOf t) = ([], refl)

some_type : (t : Term) → Some (IsTypeText t)
some_type t = (type_text quoted t, type_so t (type_text quoted t) refl)

some_change : (P Q : List ℕ → Type 0) → Some P → Some Q → Some (IsChange P Q)
some_change P Q p q = (change_text p.0 q.0, (p.0, q.0, p.1, q.1, refl))

some_types : (s t : Term) → Some (IsChange (IsTypeText s) (IsTypeText t))
some_types s t = some_change (IsTypeText s) (IsTypeText t) (some_type s) (some_type t)

some_subject : (old new : Packages) (l : Lost) → Some (IsSubject old new l)
some_subject old new lost.Package = the_text (codes "-")
some_subject old new (lost.Name name) = the_text name
some_subject old new lost.Removed = the_text (codes "-")
some_subject old new (lost.Kind s t) = the_text (change_text (sort_text s) (sort_text t))
some_subject old new (lost.Constant path s t) = some_change (IsConstantText old.packages path s) (IsConstantText new.packages path t) (some_constant old.packages path s) (some_constant new.packages path t)
some_subject old new (lost.Type s t) = some_types s t
some_subject old new (lost.Underlying s t) = some_types s t
some_subject old new (lost.Field name) = the_text name
some_subject old new (lost.Selectable name) = the_text name
some_subject old new lost.Comparable = the_text (codes "-")
some_subject old new lost.Sealing = the_text (codes "unexported methods")
some_subject old new (lost.InterfaceMethod sel) = the_text (sel_text sel)
some_subject old new (lost.Method sel) = the_text (sel_text sel)
some_subject old new (lost.Implements t) = some_type t
some_subject old new (lost.OneToOne s t) = some_types s t

pub told_some : (old new : Packages) (b : Break) → (told : Broken) × IsTold old new b told
told_some old new b = let s = some_subject old new b.lost in (record { owner = b.owner; rule = rule_of b.lost; subject = s.0 }, record { owner = refl; rule = refl; subject = s.1 })
