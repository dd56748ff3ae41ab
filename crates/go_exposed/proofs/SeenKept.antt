-- What is seen is kept, and where it has no typing the package is refused.
use Rattle.std.proofs.Common.{◌+◌, List, [], ◌∷◌, map, ap, ◌≡◌, ℕ, zero, suc, ◌<◌, Bool, true, length, refl, sym, subst, ◌⊎◌, inl, inr, arith}
use Rattle.std.specs.Prelude.{slice_get}
use Rattle.std.proofs.lemmas.Option.{slice_get_cases, slice_get_within}
use Rattle.go_model.specs.declared.types.package.Package.{Package}
use Rattle.go_syntax.specs.declared.name.Place.{Place}
use Rattle.go_typings.specs.Declarations.{declarations}
use Rattle.go_typings.specs.PackageEnvironments.{Entries}
use Rattle.go_typings.specs.Redeclarations.{IsRedeclared}
use Rattle.go_typings.specs.Refusals.{Refusal, redeclared, missing_import, unsound, import_at, imports_from, place_of}
use Rattle.go_base.specs.Lists.{Has}
use Rattle.go_soundness.proofs.Members.{has_left, has_right}
use Rattle.go_typings.specs.Assignments.{At}
use Rattle.go_typings.specs.Sources.{Import, PackageSource, Setting, SourceFile, imports_in}
use Rattle.go_typings.proofs.ReachedRegion.{import_has}
use Rattle.go_exposed.specs.ImportUses.{SelectsFrom}
use Rattle.go_typings.specs.Typings.{IsSound}
use Rattle.go_typings.proofs.Cells.{either}
use Rattle.go_typings.proofs.JoinedEntries.{is_last}
use Rattle.go_typings.proofs.SoundDeclarations.{refers_within}
use Rattle.go_exposed.specs.ExposedDeclarations.{IsExposed, exposed_by_name, exposed_through}
use Rattle.go_exposed.specs.KeptDeclarations.{IsLeftOut, LeavesOut}
use Rattle.go_exposed.specs.OfferedPackages.{IsOfferedAs}
use Rattle.go_exposed.specs.Refusals.{IsFirstMissing, missing_here, missing_later, IsFirstWrong, IsMissing, IsNeeded, IsRefused, IsWrong, import_place}
use Rattle.go_exposed.proofs.OneKeptSet.{kept_sound}

pub seen_within : (u : PackageSource) (n : ℕ) → IsExposed u n → n < length (declarations u)
seen_within u n (exposed_by_name k) = slice_get_within (declarations u) n k.0 k.1
seen_within u n (exposed_through m e k) = refers_within u k.0.form n k.2

-- ---- imports

import_in : (k : ℕ) (fs : List SourceFile) (file : ℕ) (i : Import) → Has (imports_in (slice_get fs file)) i → Has (imports_from k fs) (k + file, i)
import_in k [] file i h = absurd h
import_in k (f ∷ fs) zero i h = subst (λ (j : ℕ). Has (imports_from k (f ∷ fs)) (j, i)) (omega arith) (has_left (map (import_at k) f.imports) (imports_from (suc k) fs) (k, i) (at_file f.imports h))
  where
    at_file : (is : List Import) → Has is i → Has (map (import_at k) is) (k, i)
    at_file [] g = absurd g
    at_file (j ∷ js) (inl e) = inl (ap (import_at k) e)
    at_file (j ∷ js) (inr g) = inr (at_file js g)
import_in k (f ∷ fs) (suc n) i h = has_right (map (import_at k) f.imports) (imports_from (suc k) fs) (k + suc n, i) (subst (λ (j : ℕ). Has (imports_from (suc k) fs) (j, i)) (omega arith) (import_in (suc k) fs n i h))

first_needed : (u : PackageSource) (xs : List (ℕ × Import)) (x : ℕ × Import) → Has xs x → IsNeeded u x → ((q : Place) → IsFirstMissing u xs q → ⊥) → ⊥
first_needed u [] x h k none = h
first_needed u (y ∷ ys) x (inl e) k none = none (import_place y) (missing_here (subst (IsNeeded u) (sym e) k))
first_needed u (y ∷ ys) x (inr h) k none = first_needed u ys x h k (λ q f. none q (missing_later (λ n. none (import_place y) (missing_here n)) f))

-- where no import is the first that is missing, each is found from which a declaration selects that is seen
pub found_seen : (u : PackageSource) (n : ℕ) (i : Import) → ((q : Place) → IsMissing u q → ⊥) → IsExposed u n → At (declarations u) n (λ d. SelectsFrom u d i) → i.is_found ≡ true
found_seen u n i none e k = elim (either i.is_found) [
  | inl f ↦ f
  | inr f ↦ absurd (first_needed u (imports_from 0 u.files) (k.0.file, i) (subst (λ (j : ℕ). Has (imports_from 0 u.files) (j, i)) (omega arith) (import_in 0 u.files k.0.file i (import_has u k.0.file k.2.reference.name.text i k.2.means)))
      (record { missing = f; seen = record { number = n; seen = e; selects = (k.0, k.1, (refl, k.2)) } }) none)
]

-- ---- declarations

module _ (s : Setting) (u : PackageSource) where
  pub seen_kept : (S : ℕ → Bool) (a : Entries) (n : ℕ) → LeavesOut s u S a → IsExposed u n → S n ≡ true
  seen_kept S a n k h = elim (either (S n)) [ inl i ↦ i | inr e ↦ absurd ((k.rest n (seen_within u n h) e).unseen h) ]

  pub seen_sound : (p : Package) (n : ℕ) → IsOfferedAs s u p → IsExposed u n → IsSound s u n
  seen_sound p n o h = kept_sound s u o.within o.entries o.kept n (seen_kept o.within o.entries n o.kept h)

  -- ---- what isn't refused is right

  abbrev IsRight : ℕ → Type 0
  IsRight n = IsSound s u n ⊎ IsLeftOut s u n

  -- what isn't right is wrong, where nothing follows from it
  wrong_absurd : (n : ℕ) → (IsRight n → ⊥) → (IsWrong s u n → ⊥) → ⊥
  wrong_absurd n h f = f (record {
    unsound = λ k. h (inl k);
    counts = inr (λ b. h (inr (record { unsound = λ k. h (inl k); unseen = λ e. f (record { unsound = λ k. h (inl k); counts = inl e }); beyond = b })));
  })

  up_to : (k : ℕ) → ((n : ℕ) → n < length (declarations u) → IsFirstWrong s u n → ⊥) → (((n : ℕ) → n < k → n < length (declarations u) → IsRight n) → ⊥) → ⊥
  up_to zero f h = h (λ n l. absurd (omega (arith, l)))
  up_to (suc k) f h = up_to k f (λ g.
      (let last : (k < length (declarations u) → IsRight k) → ⊥ = λ r. h (λ n l i. elim (is_last n k l) [ inl e ↦ subst (λ (j : ℕ). IsRight j) (sym e) (r (subst (λ (j : ℕ). j < length (declarations u)) e i)) | inr j ↦ g n j i ]) in
      last (λ i. absurd (wrong_absurd k (λ r. last (λ j. r)) (λ w. f k i (record { is = i; wrong = w; first = λ m l. g m l (omega (arith, l, i)) }))))))

  module _ (none : (r : Refusal) → IsRefused s u r → ⊥) where
    once : (q : Place) → IsRedeclared u q → ⊥
    once q k = none (redeclared q) k

    found : (q : Place) → IsMissing u q → ⊥
    found q k = none (missing_import q) (once, k)

    none_wrong : (n : ℕ) → n < length (declarations u) → IsFirstWrong s u n → ⊥
    none_wrong n l w = elim ((slice_get_cases (declarations u) n).1) [
      | inl x ↦ none (unsound (place_of x.0)) (once, found, (n, w, (x.0, x.2, refl)))
      | inr e ↦ (let h = e.0 in absurd (omega (arith, h, l)))
    ]

    pub not_unsound : (n : ℕ) → IsExposed u n → (IsSound s u n → ⊥) → ⊥
    not_unsound n e h = up_to (suc n) none_wrong (λ g. elim (g n (omega arith) (seen_within u n e)) [ inl k ↦ h k | inr k ↦ k.unseen e ])
