-- A package is refused for one cause, and not where it is typed.
use Rattle.std.proofs.Common.{◌≡◌, ℕ, ◌<◌, List, refl, sym, ap, ◌∙◌, ◌⊎◌, inl, inr, arith}
use Rattle.std.specs.Prelude.{slice_get}
use Rattle.go_rules.specs.go_model.declared.types.package.Package.{Package}
use Rattle.go_rules.proofs.OneKind.{no_truth}
use Rattle.go_references.specs.go_syntax.declared.name.Place.{Place}
use Rattle.go_typings.specs.Declarations.{declarations}
use Rattle.go_typings.specs.Redeclarations.{IsRedeclared, Site, sites}
use Rattle.go_typings.specs.Refusals.{IsFirstMissing, missing_here, missing_later, IsRefused, Refusal, redeclared, missing_import, unsound, place_of}
use Rattle.go_typings.specs.Sources.{Import, PackageSource, Setting}
use Rattle.go_typings.specs.TypedPackages.{IsTypedAs}
use Rattle.go_typings.specs.Typings.{IsFirstUnsound}
use Rattle.go_typings.proofs.Cells.{some_once}
use Rattle.go_typings.proofs.SoundDeclarations.{typed_sound}

order : (m n : ℕ) → (m < n) ⊎ ((m ≡ n) ⊎ (n < m))
order m n = grind (arith)

one_redeclared : (u : PackageSource) (p q : Place) → IsRedeclared u p → IsRedeclared u q → p ≡ q
one_redeclared u p q a b = elim (order a.number b.number) [
  | inl l ↦ absurd (b.first a.number a.site l a.later)
  | inr k ↦ elim k [
    | inl e ↦ sym a.place ∙ ap (λ (z : Site). z.place) (some_once a.site b.site (sym a.later.is ∙ ap (slice_get (sites u)) e ∙ b.later.is)) ∙ b.place
    | inr l ↦ absurd (a.first b.number b.site l b.later)
  ]
]

one_missing : (xs : List (ℕ × Import)) (p q : Place) → IsFirstMissing xs p → IsFirstMissing xs q → p ≡ q
one_missing xs p q (missing_here e) (missing_here f) = refl
one_missing xs p q (missing_here e) (missing_later f b) = absurd (no_truth (sym f ∙ e))
one_missing xs p q (missing_later e a) (missing_here f) = absurd (no_truth (sym e ∙ f))
one_missing xs p q (missing_later {is = is} e a) (missing_later f b) = one_missing is p q a b

one_unsound : (s : Setting) (u : PackageSource) (m n : ℕ) → IsFirstUnsound s u m → IsFirstUnsound s u n → m ≡ n
one_unsound s u m n a b = elim (order m n) [
  | inl l ↦ absurd (a.unsound (b.first m l))
  | inr k ↦ elim k [
    | inl e ↦ e
    | inr l ↦ absurd (b.unsound (a.first n l))
  ]
]

module _ (s : Setting) (u : PackageSource) where
  pub one_refusal : (q r : Refusal) → IsRefused s u q → IsRefused s u r → q ≡ r
  one_refusal (redeclared p) (redeclared q) a b = ap redeclared (one_redeclared u p q a b)
  one_refusal (redeclared p) (missing_import q) a b = absurd (b.0 p a)
  one_refusal (redeclared p) (unsound q) a b = absurd (b.0 p a)
  one_refusal (missing_import p) (redeclared q) a b = absurd (a.0 q b)
  one_refusal (missing_import p) (missing_import q) a b = ap missing_import (one_missing _ p q a.1 b.1)
  one_refusal (missing_import p) (unsound q) a b = absurd (b.1 p a.1)
  one_refusal (unsound p) (redeclared q) a b = absurd (a.0 q b)
  one_refusal (unsound p) (missing_import q) a b = absurd (a.1 q b.1)
  one_refusal (unsound p) (unsound q) a b =
      let k = a.2 in let l = b.2 in
      let e = one_unsound s u k.0 l.0 k.1 l.1 in
      let d = some_once k.2.0 l.2.0 (sym k.2.1 ∙ ap (slice_get (declarations u)) e ∙ l.2.1) in
      ap unsound (sym k.2.2 ∙ ap place_of d ∙ l.2.2)

  pub typed_or_refused : (p : Package) (r : Refusal) → IsTypedAs s u p → IsRefused s u r → ⊥
  typed_or_refused p (redeclared q) t k = t.once q k
  typed_or_refused p (missing_import q) t k = t.found q k.1
  typed_or_refused p (unsound q) t k = let f = k.2.1 in f.unsound (typed_sound s u t.entries t.typing k.2.0 f.is)
