-- Fields of other names, one by one and all.
use Rattle.std.proofs.Common.{◌≡◌, ℕ, Bool, true, false, not, List, [], ◌∷◌, refl, ap, ◌∙◌, subst, inl, inr}
use Rattle.std.specs.Prelude.{◌≢◌}
use Rattle.std.specs.Str.{bytes_eq}
use Rattle.std.specs.Cmp.Lexicographic.{bytes_decides}
use mathlib.Core.Bool.{true≢false}
use Rattle.go_base.specs.Lists.{Has, Each}
use Rattle.go_base.proofs.Members.{each_has}
use Rattle.go_model.specs.declared.types.term.Field.{Field, out-Field}
use Rattle.go_model.specs.types.Terms.{Layer}
use Rattle.go_model.specs.types.Underlying.{fields_of}
use Rattle.go_selectors.specs.Answers.{Decides}
use Rattle.go_typings.specs.DeclarationAsks.{IsApart}
use Rattle.go_declaration_asks.specs.inner.MethodsOf.{HasOtherName}

negated : (b : Bool) → false ≡ not b → b ≡ true
negated true h = refl
negated false h = absurd (cc)

pub other_text : (a b : List ℕ) (r : Bool) → r ≡ not (bytes_eq a b) → Decides r (a ≢ b)
other_text a b true e = λ s. true≢false (e ∙ ap not ((bytes_decides a b).1 s))
other_text a b false e = λ f. f ((bytes_decides a b).0 (negated (bytes_eq a b) e))

each_of : {A : Type 0} (P : A → Type 0) (xs : List A) → ((x : A) → Has xs x → P x) → Each P xs
each_of P [] f = tt
each_of P (x ∷ xs) f = (f x (inl refl), each_of P xs (λ y h. f y (inr h)))

pub apart_decided : (fs : List Field) (name : List ℕ) (b : Bool) → Decides b (Each (HasOtherName name) fs) → Decides b ((x : Field) → Has fs x → (out-Field x).sel.name ≢ name)
apart_decided fs name true e = λ x h. each_has (HasOtherName name) fs x e h
apart_decided fs name false none = λ f. none (each_of (HasOtherName name) fs f)

pub apart_by : (l : Layer) (fs : List Field) (name : List ℕ) → fs ≡ fields_of l → (b : Bool) → Decides b (Each (HasOtherName name) fs) → Decides b (IsApart l name)
apart_by l fs name e b d = apart_decided (fields_of l) name b (subst (λ (xs : List Field). Decides b (Each (HasOtherName name) xs)) e d)
