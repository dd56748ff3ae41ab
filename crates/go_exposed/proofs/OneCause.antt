-- A package is refused for one cause, and not where it is offered.
use Rattle.std.proofs.Common.{◌≡◌, ℕ, ◌<◌, List, refl, sym, ap, ◌∙◌, ◌⊎◌, inl, inr, arith}
use Rattle.std.specs.Prelude.{slice_get}
use Rattle.go_model.specs.declared.types.package.Package.{Package}
use Rattle.go_syntax.specs.declared.name.Place.{Place}
use Rattle.go_typings.specs.Declarations.{declarations}
use Rattle.go_typings.specs.Redeclarations.{IsRedeclared}
use Rattle.go_typings.specs.Refusals.{Refusal, redeclared, missing_import, unsound, place_of}
use Rattle.go_typings.specs.Sources.{Import, PackageSource, Setting}
use Rattle.go_typings.specs.Typings.{IsSound}
use Rattle.go_typings.proofs.Cells.{either, some_once}
use Rattle.go_typings.proofs.OneRefusal.{one_refusal as one_of_all}
use Rattle.go_exposed.specs.KeptDeclarations.{IsLeftOut}
use Rattle.go_exposed.specs.OfferedPackages.{IsOfferedAs}
use Rattle.go_exposed.specs.Refusals.{IsFirstMissing, missing_here, missing_later, IsFirstWrong, IsRefused, IsWrong}
use Rattle.go_exposed.proofs.OneKeptSet.{kept_sound}

pub order : (m n : ℕ) → (m < n) ⊎ ((m ≡ n) ⊎ (n < m))
order m n = grind (arith)

one_redeclared : (s : Setting) (u : PackageSource) (p q : Place) → IsRedeclared u p → IsRedeclared u q → ◌≡◌ {A = Refusal} (redeclared p) (redeclared q)
one_redeclared s u p q a b = one_of_all s u (redeclared p) (redeclared q) a b

one_missing : (u : PackageSource) (xs : List (ℕ × Import)) (p q : Place) → IsFirstMissing u xs p → IsFirstMissing u xs q → p ≡ q
one_missing u xs p q (missing_here e) (missing_here f) = refl
one_missing u xs p q (missing_here e) (missing_later f b) = absurd (f e)
one_missing u xs p q (missing_later e a) (missing_here f) = absurd (e f)
one_missing u xs p q (missing_later {is = is} e a) (missing_later f b) = one_missing u is p q a b

module _ (s : Setting) (u : PackageSource) where
  -- what is wrong is neither sound nor left out
  pub not_wrong : (n : ℕ) → IsWrong s u n → IsSound s u n ⊎ IsLeftOut s u n → ⊥
  not_wrong n w (inl h) = w.unsound h
  not_wrong n w (inr h) = elim w.counts [ inl e ↦ h.unseen e | inr f ↦ f h.beyond ]

  one_wrong : (m n : ℕ) → IsFirstWrong s u m → IsFirstWrong s u n → m ≡ n
  one_wrong m n a b = elim (order m n) [
    | inl l ↦ absurd (not_wrong m a.wrong (b.first m l))
    | inr k ↦ elim k [
      | inl e ↦ e
      | inr l ↦ absurd (not_wrong n b.wrong (a.first n l))
    ]
  ]

  pub one_cause : (q r : Refusal) → IsRefused s u q → IsRefused s u r → q ≡ r
  one_cause (redeclared p) (redeclared q) a b = one_redeclared s u p q a b
  one_cause (redeclared p) (missing_import q) a b = absurd (b.0 p a)
  one_cause (redeclared p) (unsound q) a b = absurd (b.0 p a)
  one_cause (missing_import p) (redeclared q) a b = absurd (a.0 q b)
  one_cause (missing_import p) (missing_import q) a b = ap missing_import (one_missing u _ p q a.1 b.1)
  one_cause (missing_import p) (unsound q) a b = absurd (b.1 p a.1)
  one_cause (unsound p) (redeclared q) a b = absurd (a.0 q b)
  one_cause (unsound p) (missing_import q) a b = absurd (a.1 q b.1)
  one_cause (unsound p) (unsound q) a b =
      let k = a.2 in let l = b.2 in
      let e = one_wrong k.0 l.0 k.1 l.1 in
      let d = some_once k.2.0 l.2.0 (sym k.2.1 ∙ ap (slice_get (declarations u)) e ∙ l.2.1) in
      ap unsound (sym k.2.2 ∙ ap place_of d ∙ l.2.2)

  -- of a package that is offered nothing is wrong
  pub offered_right : (p : Package) → IsOfferedAs s u p → (n : ℕ) → IsFirstWrong s u n → ⊥
  offered_right p o n w = not_wrong n w.wrong (elim (either (o.within n)) [
    | inl i ↦ inl (kept_sound s u o.within o.entries o.kept n i)
    | inr e ↦ inr (o.kept.rest n w.is e)
  ])

  pub offered_or_refused : (p : Package) (r : Refusal) → IsOfferedAs s u p → IsRefused s u r → ⊥
  offered_or_refused p (redeclared q) o k = o.once q k
  offered_or_refused p (missing_import q) o k = o.found q k.1
  offered_or_refused p (unsound q) o k = offered_right p o k.2.0 k.2.1
