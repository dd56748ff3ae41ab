-- A package is offered, or is refused for a first cause.
use Rattle.std.proofs.Common.{◌≡◌, ◌≢◌, ◌⊎◌, ℕ, zero, suc, ◌<◌, Bool, true, false, ◌||◌, nat_eq, List, [], ◌∷◌, None, Some, length, refl, sym, ◌∙◌, subst, inl, inr, arith}
use Rattle.std.specs.Prelude.{slice_get}
use Rattle.std.proofs.lemmas.Bool.{eq-eqb, eqb-true}
use Rattle.go_base.specs.Keys.{first_with}
use Rattle.go_existence.specs.Existence.{NotNone}
use Rattle.go_existence.proofs.DoubleNegation.{below_or, decided, of_below, so, sure, bind}
use Rattle.go_existence.proofs.LeastNumbers.{least_or_none}
use Rattle.go_exposed.proofs.OneKeptSet.{typed_within}
use Rattle.go_exposed.proofs.SoundTogether.{sound_closed, sound_typing}
use Rattle.go_exposed.specs.BeyondProfile.{IsBeyond}
use Rattle.go_exposed.specs.KeptDeclarations.{IsLeftOut}
use Rattle.go_exposed.specs.OfferedPackages.{IsOfferedAs}
use Rattle.go_exposed.specs.Refusals.{IsMissing, IsRefused, IsWrong}
use Rattle.go_model.specs.declared.types.package.Package.{Package}
use Rattle.go_model.specs.worlds.Worlds.{IsWorld, path_of}
use Rattle.go_rules.proofs.OneKind.{no_truth}
use Rattle.go_soundness.proofs.WorldsApart.{world_apart}
use Rattle.go_soundness.specs.Apart.{IsApart}
use Rattle.go_syntax.specs.declared.name.Place.{Place}
use Rattle.go_typings.proofs.Cells.{either}
use Rattle.go_typings.specs.Declarations.{declarations}
use Rattle.go_typings.specs.Redeclarations.{IsRedeclared}
use Rattle.go_typings.specs.Refusals.{Refusal, missing_import, place_of, redeclared, unsound}
use Rattle.go_typings.specs.Sources.{PackageSource, Setting}
use Rattle.go_typings.specs.Typings.{IsSound}
use Rattle.go_world_outcomes.proofs.TypedPackages.{kept_package}

there : {A : Type 0} (xs : List A) (n : ℕ) → n < length xs → (x : A) × (slice_get xs n ≡ Some x)
there [] n h = absurd (omega (arith, h))
there (x ∷ xs) zero h = (x, refl)
there (x ∷ xs) (suc n) h = there xs n (omega (arith, h))

neither : (b c : Bool) → (b || c) ≡ false → (b ≡ false) × (c ≡ false)
neither true c e = absurd (no_truth e)
neither false c e = (refl, e)

one_of : (b c : Bool) → (b || c) ≡ true → (b ≡ true) ⊎ (c ≡ true)
one_of true c e = inl refl
one_of false c e = inr e

module _ (s : Setting) (u : PackageSource) (apart : IsApart s u) where
  abbrev Ends : Type 0
  Ends = ((p : Package) × IsOfferedAs s u p) ⊎ ((r : Refusal) × IsRefused s u r)

  -- ---- which declarations are sound

  -- those below a number that are sound
  record Told (k : ℕ) : Type 0 where
    within : ℕ → Bool
    sound : (n : ℕ) → within n ≡ true → IsSound s u n
    rest : (n : ℕ) → n < k → within n ≡ false → IsSound s u n → ⊥

  told_none : Told 0
  told_none = record { within = λ n. false; sound = λ n e. absurd (no_truth (sym e)); rest = λ n l e h. absurd (omega (arith, l)) }

  told_sound : (k : ℕ) → Told k → IsSound s u k → Told (suc k)
  told_sound k t x = record {
    within = λ n. t.within n || nat_eq n k;
    sound = λ n e. elim (one_of (t.within n) (nat_eq n k) e) [ inl i ↦ t.sound n i | inr q ↦ subst (IsSound s u) (sym (eqb-true n k q)) x ];
    rest = λ n l e h. (let f = neither (t.within n) (nat_eq n k) e in elim (below_or n k l) [
      | inl m ↦ t.rest n m f.0 h
      | inr q ↦ no_truth (sym (eq-eqb n k (sym q)) ∙ f.1)
    ]);
  }

  told_lost : (k : ℕ) → Told k → (IsSound s u k → ⊥) → Told (suc k)
  told_lost k t lost = record {
    within = t.within;
    sound = t.sound;
    rest = λ n l e h. elim (below_or n k l) [ inl m ↦ t.rest n m e h | inr q ↦ lost (subst (IsSound s u) (sym q) h) ];
  }

  told_below : (k : ℕ) → NotNone (Told k)
  told_below zero = sure told_none
  told_below (suc k) = bind (told_below k) (λ t. so (decided (IsSound s u k)) (λ d. elim d [ inl x ↦ told_sound k t x | inr lost ↦ told_lost k t lost ]))

  -- ---- what is wrong

  abbrev IsWrongHere : ℕ → Type 0
  IsWrongHere n = (n < length (declarations u)) × IsWrong s u n

  -- what is neither sound nor wrong is left out
  left_out : (n : ℕ) → n < length (declarations u) → (IsSound s u n → ⊥) → (IsWrongHere n → ⊥) → NotNone (IsLeftOut s u n)
  left_out n l lost right = so (decided (IsBeyond s u n)) (λ d. record {
    unsound = lost;
    unseen = λ e. right (l, record { unsound = lost; counts = inl e });
    beyond = elim d [ inl b ↦ b | inr never ↦ absurd (right (l, record { unsound = lost; counts = inr never })) ];
  })

  sound_or_left : (n : ℕ) → n < length (declarations u) → (IsWrongHere n → ⊥) → NotNone (IsSound s u n ⊎ IsLeftOut s u n)
  sound_or_left n l right = bind (decided (IsSound s u n)) (λ d. elim d [ inl h ↦ sure (inl h) | inr lost ↦ so (left_out n l lost right) inr ])

  module _ (once : (q : Place) → IsRedeclared u q → ⊥) (found : (q : Place) → IsMissing u q → ⊥) where
    refused : (n : ℕ) → IsWrongHere n → ((m : ℕ) → m < n → IsSound s u m ⊎ IsLeftOut s u m) → Ends
    refused n w before =
        let d = there (declarations u) n w.0 in
        inr (unsound (place_of d.0), (once, found, (n, record { is = w.0; wrong = w.1; first = before }, (d.0, d.1, refl))))

    module _ (t : Told (length (declarations u))) where
      rest : (n : ℕ) → t.within n ≡ false → IsSound s u n → ⊥
      rest n e h = t.rest n (typed_within s u h.within h.entries h.typing n h.holds) e h

      offered : ((n : ℕ) → n < length (declarations u) → t.within n ≡ false → IsLeftOut s u n) → Ends
      offered out =
          let k = sound_typing s u apart t.within t.sound rest in
          let closed = sound_closed s u apart t.within t.sound rest in
          let p = kept_package s u t.within k.0 k.1 in
          inl (p.0, record { once = once; found = found; within = t.within; entries = k.0; kept = record { typing = k.1; closed = closed; rest = out }; «package» = p.1 })

      none_wrong : ((n : ℕ) → n < length (declarations u) → IsWrongHere n → ⊥) → NotNone Ends
      none_wrong right = so (of_below (λ n. t.within n ≡ false → IsLeftOut s u n) (length (declarations u)) (λ n l. elim (either (t.within n)) [
        | inl i ↦ sure (λ e. absurd (no_truth (sym i ∙ e)))
        | inr e ↦ so (left_out n l (rest n e) (right n l)) (λ x f. x)
      ])) offered

    judged : NotNone Ends
    judged = bind (told_below (length (declarations u))) (λ t. bind (least_or_none IsWrongHere (length (declarations u))) (λ k. elim k [
      | inl m ↦ so (of_below (λ n. IsSound s u n ⊎ IsLeftOut s u n) m.0 (λ n l. (let i = m.2.0.0 in sound_or_left n (omega (arith, l, i)) (m.2.1 n l)))) (refused m.0 m.2.0)
      | inr right ↦ none_wrong t right
    ]))

  pub package_ends : NotNone Ends
  package_ends = bind (decided ((q : Place) × IsRedeclared u q)) (λ d. elim d [
    | inl q ↦ sure (inr (redeclared q.0, q.1))
    | inr once ↦ bind (decided ((q : Place) × IsMissing u q)) (λ e. elim e [
      | inl q ↦ sure (inr (missing_import q.0, ((λ p i. once (p, i)), q.1)))
      | inr found ↦ judged (λ p i. once (p, i)) (λ p i. found (p, i))
    ])
  ])

pub offered_or_refused : (s : Setting) (u : PackageSource) → IsWorld s.world → u.path ≢ [] → first_with path_of s.world.packages u.path ≡ None → NotNone (((p : Package) × IsOfferedAs s u p) ⊎ ((r : Refusal) × IsRefused s u r))
offered_or_refused s u w some new = package_ends s u (world_apart s u w some new)
