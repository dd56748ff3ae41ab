-- Of packages that became something some list is what is left out.
use Rattle.std.proofs.Common.{◌≡◌, ◌≢◌, ◌⊎◌, ◌<◌, ◌+◌, ℕ, zero, suc, Bool, true, false, nat_eq, List, [], ◌∷◌, length, Some, slice_get, refl, subst, inl, inr, arith}
use Rattle.std.proofs.lemmas.Bool.{eqb-false, eqb-true}
use Rattle.go_existence.specs.Existence.{NotNone}
use Rattle.go_existence.proofs.DoubleNegation.{bind, decided, so, sure}
use Rattle.go_exposed.specs.BeyondProfile.{IsBeyond, beyond_number, beyond_type, beyond_value, beyond_import, beyond_another}
use Rattle.go_exposed.specs.Causes.{Cause, number, constant_type, import_not_found, by_another, HasCause, IsFirstThrough, IsInexactConstant, IsOfMissing, IsOfNumber, IsThrough, first_name, shown_names, of_number, of_constant_type, of_import, of_another}
use Rattle.go_exposed.specs.KeptDeclarations.{IsLeftOut}
use Rattle.go_exposed.specs.OfferedWorlds.{Become, Becomes, IsWorldOf, become_more, become_none}
use Rattle.go_exposed.specs.SkippedDeclarations.{AreSkippedFrom, IsSkippedOf, Skipped, skipped_as, skipped_kept, skipped_more, skipped_none}
use Rattle.go_exposed.specs.SkippedWorlds.{AreSkipped, IsSkippedAs, Skip, skip_more, skip_none}
use Rattle.go_model.specs.worlds.Worlds.{Packages}
use Rattle.go_typings.proofs.Cells.{either}
use Rattle.go_typings.specs.Assignments.{At}
use Rattle.go_typings.specs.Declarations.{Declaration, declarations}
use Rattle.go_typings.specs.PackageWorlds.{Outcome, blocked, over, refused, typed}
use Rattle.go_typings.specs.References.{DependsOn}
use Rattle.go_typings.specs.Sources.{PackageSource, Setting}

same_by : (m n : ℕ) (r : Bool) → nat_eq m n ≡ r → (m ≡ n) ⊎ (m ≢ n)
same_by m n true e = inl (eqb-true m n e)
same_by m n false e = inr (eqb-false m n e)

same_or : (m n : ℕ) → (m ≡ n) ⊎ (m ≢ n)
same_or m n = same_by m n (nat_eq m n) refl

module _ (s : Setting) (u : PackageSource) where
  there : (n : ℕ) → IsBeyond s u n → (d : Declaration) × (slice_get (declarations u) n ≡ Some d)
  there n (beyond_number at) = (at.0, at.1)
  there n (beyond_type h) = (h.holds.0, h.holds.1)
  there n (beyond_value h) = (h.holds.0, h.holds.1)
  there n (beyond_import at) = (at.0, at.1)
  there n (beyond_another m at b) = (at.0, at.1)

  -- ---- the cause of a declaration

  module _ (n : ℕ) where
    abbrev Through : ℕ → Type 0
    Through m = IsThrough u (IsInexactConstant s u) (IsBeyond s u) n m

    -- a declaration that isn't beyond the profile by itself is so for another
    another : {k : ℕ} → IsBeyond s u k → k ≡ n → (IsOfNumber u (IsInexactConstant s u) (IsBeyond s u) n → ⊥) → (IsInexactConstant s u n → ⊥) → (IsOfMissing u (IsInexactConstant s u) (IsBeyond s u) n → ⊥) → (m : ℕ) × Through m
    another (beyond_number h) e a b c = absurd (a (subst (IsOfNumber u (IsInexactConstant s u) (IsBeyond s u)) e h))
    another (beyond_type h) e a b c = absurd (b (subst (IsInexactConstant s u) e (inl h)))
    another (beyond_value h) e a b c = absurd (b (subst (IsInexactConstant s u) e (inr h)))
    another (beyond_import h) e a b c = absurd (c (subst (IsOfMissing u (IsInexactConstant s u) (IsBeyond s u)) e h))
    another (beyond_another m at i) e a b c = elim (same_or m n) [
      | inl f ↦ another i f a b c
      | inr f ↦ (m, record { other = f; depends = subst (λ (j : ℕ). At (declarations u) j (λ d. DependsOn u d.form m)) e at; beyond = i })
    ]

    first : (b m : ℕ) → m < b → Through m → NotNone ((l : ℕ) × IsFirstThrough u (IsInexactConstant s u) (IsBeyond s u) n l)
    first zero m h t = absurd (omega (arith, h))
    first (suc b) m h t = bind (decided ((k : ℕ) × (k < m) × Through k)) (λ d. elim d [
      | inl k ↦ first b k.0 (omega (arith, h, k.1)) k.2
      | inr never ↦ sure (m, record { through = t; first = λ k l p. never (k, l, p) })
    ])

    caused : IsBeyond s u n → NotNone ((c : Cause) × HasCause s u n c)
    caused b = bind (decided (IsOfNumber u (IsInexactConstant s u) (IsBeyond s u) n)) (λ p. elim p [
      | inl h ↦ sure (number, of_number h)
      | inr not_number ↦ bind (decided (IsInexactConstant s u n)) (λ q. elim q [
        | inl h ↦ sure (constant_type, of_constant_type not_number h)
        | inr exact ↦ bind (decided (IsOfMissing u (IsInexactConstant s u) (IsBeyond s u) n)) (λ r. elim r [
          | inl h ↦ sure (import_not_found, of_import not_number exact h)
          | inr found ↦ (
              let m = another b refl not_number exact found in
              so (first (suc m.0) m.0 (omega arith) m.1) (λ l. (let d = there l.0 l.1.through.beyond in
              (by_another (first_name (shown_names d.0.form)), of_another not_number exact found l.1 (d.0, d.1, refl))))
              )
        ])
      ])
    ])

  -- ---- what is left out of a package

  module _ (within : ℕ → Bool) (rest : (n : ℕ) → n < length (declarations u) → within n ≡ false → IsLeftOut s u n) where
    from : (n : ℕ) (ds : List Declaration) → n + length ds ≡ length (declarations u) → NotNone ((xs : List Skipped) × AreSkippedFrom s u within n ds xs)
    from n [] e = sure ([], skipped_none)
    from n (d ∷ ds) e =
        let behind = from (suc n) ds (omega (arith, e)) in
        elim (either (within n)) [
          | inl f ↦ so behind (λ xs. (xs.0, skipped_kept f xs.1))
          | inr f ↦ bind (caused n (rest n (omega (arith, e)) f).beyond) (λ c. so behind (λ xs. (skipped_as d c.0 ∷ xs.0, skipped_more f c.1 xs.1)))
        ]

    pub package_skips : NotNone ((xs : List Skipped) × IsSkippedOf s u within xs)
    package_skips = from 0 (declarations u) (omega arith)

-- ---- of packages in a list

of_outcome : (s : Setting) (u : PackageSource) (x : Outcome) → Becomes s u x → NotNone ((xs : List Skipped) × IsSkippedAs s u x xs)
of_outcome s u (typed p) b = so (package_skips s u b.1.within b.1.kept.rest) (λ xs. (xs.0, record { within = b.1.within; entries = b.1.entries; kept = b.1.kept; skipped = xs.1 }))
of_outcome s u (refused r) b = sure ([], refl)
of_outcome s u blocked b = sure ([], refl)

of_list : (bits : ℕ) {w v : Packages} {us : List PackageSource} {xs : List Outcome} → Become bits w us xs v → NotNone ((xss : List (List Skipped)) × Skip bits w us xss)
of_list bits become_none = sure ([], skip_none)
of_list bits {w = w} (become_more {u = u} {x = x} b more) = bind (of_outcome (over bits w) u x b) (λ xs. so (of_list bits more) (λ xss. (xs.0 ∷ xss.0, skip_more x b xs.1 xss.1)))

pub skips_there : (bits : ℕ) (us : List PackageSource) (w : Packages) → IsWorldOf bits us w → NotNone ((xss : List (List Skipped)) × AreSkipped bits us xss)
skips_there bits us w i = of_list bits i.become
