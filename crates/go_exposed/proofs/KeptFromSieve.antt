-- What a sieve lets through has the entries that are had as its typing, and is kept where nobody sees the rest and it is beyond.
use Rattle.std.proofs.Common.{◌≡◌, ℕ, ◌<◌, Bool, true, false, ◌&&◌, length, None, refl, sym, ◌∙◌, subst, ◌⊎◌, inl, inr, arith}
use Rattle.std.specs.Prelude.{not}
use Rattle.std.proofs.lemmas.Bool.Decides.{nat_tests}
use Rattle.go_syntax.specs.declared.name.Place.{Place}
use Rattle.go_typings.specs.Assignments.{At, all_of}
use Rattle.go_typings.specs.Declarations.{declarations}
use Rattle.go_typings.specs.PackageEnvironments.{Entries}
use Rattle.go_typings.specs.Redeclarations.{IsRedeclared}
use Rattle.go_typings.specs.Refusals.{place_of, unsound}
use Rattle.go_typings.specs.Sources.{PackageSource, Setting}
use Rattle.go_typings.specs.Typings.{IsClosed, IsSound, Typing}
use Rattle.go_typings.proofs.Cells.{either, if_false, if_true}
use Rattle.go_typings.proofs.OneTyping.{typings_agree}
use Rattle.go_soundness.specs.Apart.{IsApart}
use Rattle.go_soundness.specs.Settled.{AreAll, AreSifted}
use Rattle.go_soundness.proofs.Sound.{sound}
use Rattle.go_soundness.proofs.Unsound.{lost_unsound, same_entries}
use Rattle.std.proofs.lemmas.Option.{slice_get_within}
use Rattle.go_exposed.specs.BeyondProfile.{IsBeyond}
use Rattle.go_exposed.specs.ExposedDeclarations.{IsExposed}
use Rattle.go_exposed.specs.KeptDeclarations.{LeavesOut, entries_of, not_lost}
use Rattle.go_exposed.specs.Refusals.{IsMissing, IsRefused}
use Rattle.go_exposed.proofs.OneKeptSet.{kept_sound, sound_kept, typed_within}
use Rattle.go_exposed.proofs.SoundTogether.{sound_closed, sound_typing}

both : (b c : Bool) → (b && c) ≡ true → (b ≡ true) × (c ≡ true)
both true c e = (refl, e)
both false c e = let g : false ≡ true = e in absurd (cc)

one_fails : (b c : Bool) → b ≡ true → (b && not c) ≡ false → c ≡ true
one_fails true true e f = refl
one_fails true false e f = let g : true ≡ false = f in absurd (cc)
one_fails false c e f = let g : false ≡ true = e in absurd (cc)

not_true : (b : Bool) → not b ≡ true → b ≡ false
not_true true e = let g : false ≡ true = e in absurd (cc)
not_true false e = refl

module _ (s : Setting) (u : PackageSource) (a : Entries) (lost : ℕ → Bool) (apart : IsApart s u) (A : AreAll s u a) (F : AreSifted s u a lost) where
  abbrev S : ℕ → Bool
  S = not_lost u lost

  is_within : (n : ℕ) → S n ≡ true → n < length (declarations u)
  is_within n i = let h = (both (all_of (declarations u) n) (not (lost n)) i).0 in grind (arith, nat_tests, h)

  is_lost : (n : ℕ) → n < length (declarations u) → S n ≡ false → lost n ≡ true
  is_lost n l e = one_fails (all_of (declarations u) n) (lost n) (grind (arith, nat_tests, l)) e

  pub through_sound : (n : ℕ) → S n ≡ true → IsSound s u n
  through_sound n i = sound s u a A lost F apart n (is_within n i) (not_true (lost n) (both (all_of (declarations u) n) (not (lost n)) i).1)

  pub rest_unsound : (n : ℕ) → S n ≡ false → IsSound s u n → ⊥
  rest_unsound n e h = lost_unsound s u a n apart A (F.marked n (typed_within s u h.within h.entries h.typing n h.holds) (is_lost n (typed_within s u h.within h.entries h.typing n h.holds) e)) h

  pub through_closed : IsClosed s u S
  through_closed = sound_closed s u apart S through_sound rest_unsound

  pub through_typing : Typing s u S (entries_of S a)
  through_typing = let t = sound_typing s u apart S through_sound rest_unsound in subst (Typing s u S) (λ i n. same t.0 t.1 n i) t.1
    where
      same : (b : Entries) → Typing s u S b → (n : ℕ) → b n ≡ entries_of S a n
      same b T n = elim (either (S n)) [
        | inl i ↦ same_entries s u a A S b T.had n i ∙ sym (if_true (S n) (a n) None i)
        | inr e ↦ T.had.only n e ∙ sym (if_false (S n) (a n) None e)
      ]

  -- what is kept is what the sieve lets through
  pub kept_through : (T : ℕ → Bool) (b : Entries) → LeavesOut s u T b → (n : ℕ) → T n ≡ S n
  kept_through T b k n = elim (either (T n)) [
    | inl i ↦ i ∙ sym (elim (either (S n)) [ inl j ↦ j | inr e ↦ absurd (rest_unsound n e (kept_sound s u T b k n i)) ])
    | inr e ↦ elim (either (S n)) [ inl j ↦ sound_kept s u T b k n (is_within n j) (through_sound n j) ∙ sym j | inr f ↦ e ∙ sym f ]
  ]

  pub entries_through : (T : ℕ → Bool) (b : Entries) → LeavesOut s u T b → (n : ℕ) → b n ≡ entries_of S a n
  entries_through T b k n = elim (either (T n)) [
    | inl i ↦ typings_agree s u T S b (entries_of S a) k.typing through_typing n i (sym (kept_through T b k n) ∙ i)
    | inr e ↦ k.typing.had.only n e ∙ sym (if_false (S n) (a n) None (sym (kept_through T b k n) ∙ e))
  ]

  -- ---- what is lost

  module _ (idle : (n : ℕ) → n < length (declarations u) → lost n ≡ true → (IsExposed u n → ⊥) × IsBeyond s u n) where
    pub sieve_kept : LeavesOut s u S (entries_of S a)
    sieve_kept = record {
      typing = through_typing;
      closed = through_closed;
      rest = λ n l e. (let h = idle n l (is_lost n l e) in record { unsound = rest_unsound n e; unseen = h.0; beyond = h.1 });
    }

  pub sieve_refused : (n : ℕ) (p : Place) → ((q : Place) → IsRedeclared u q → ⊥) → ((q : Place) → IsMissing u q → ⊥) → lost n ≡ true → IsExposed u n ⊎ (IsBeyond s u n → ⊥)
      → ((m : ℕ) → m < n → lost m ≡ true → (IsExposed u m → ⊥) × IsBeyond s u m) → At (declarations u) n (λ d. place_of d ≡ p) → IsRefused s u (unsound p)
  sieve_refused n p once found e counts before k = (
    once,
    found,
    (
      n,
      record {
        is = slice_get_within (declarations u) n k.0 k.1;
        wrong = record { unsound = λ h. lost_unsound s u a n apart A (F.marked n (slice_get_within (declarations u) n k.0 k.1) e) h; counts = counts };
        first = λ m l. (let d = slice_get_within (declarations u) n k.0 k.1 in let i : m < length (declarations u) = omega (arith, l, d) in elim (either (lost m)) [
          | inl f ↦ (let h = before m l f in inr (record { unsound = λ g. lost_unsound s u a m apart A (F.marked m i f) g; unseen = h.0; beyond = h.1 }))
          | inr f ↦ inl (sound s u a A lost F apart m i f)
        ]);
      },
      k,
    ),
  )
