-- There is one set of declarations that are kept.
use Rattle.std.proofs.Common.{◌≡◌, ℕ, ◌<◌, Bool, true, length, sym, ◌∙◌, inl, inr}
use Rattle.std.proofs.lemmas.Option.{slice_get_within}
use Rattle.go_typings.specs.Declarations.{declarations}
use Rattle.go_typings.specs.PackageEnvironments.{Entries}
use Rattle.go_typings.specs.Sources.{PackageSource, Setting}
use Rattle.go_typings.specs.Typings.{IsSound, Typing}
use Rattle.go_typings.proofs.Cells.{either}
use Rattle.go_typings.proofs.OneTyping.{typings_agree}
use Rattle.go_exposed.specs.KeptDeclarations.{LeavesOut}

module _ (s : Setting) (u : PackageSource) where
  -- what is typed is declared
  pub typed_within : (S : ℕ → Bool) (a : Entries) → Typing s u S a → (n : ℕ) → S n ≡ true → n < length (declarations u)
  typed_within S a t n i = let k = t.had.below n i in slice_get_within (declarations u) n k.0 k.1

  -- what is kept is sound
  pub kept_sound : (S : ℕ → Bool) (a : Entries) → LeavesOut s u S a → (n : ℕ) → S n ≡ true → IsSound s u n
  kept_sound S a k n i = record { within = S; entries = a; holds = i; closed = k.closed; typing = k.typing }

  -- what is sound is kept
  pub sound_kept : (S : ℕ → Bool) (a : Entries) → LeavesOut s u S a → (n : ℕ) → n < length (declarations u) → IsSound s u n → S n ≡ true
  sound_kept S a k n l h = elim (either (S n)) [ inl i ↦ i | inr e ↦ absurd ((k.rest n l e).unsound h) ]

  module _ (S T : ℕ → Bool) (a b : Entries) (k : LeavesOut s u S a) (l : LeavesOut s u T b) where
    kept_both : (n : ℕ) → S n ≡ true → T n ≡ true
    kept_both n i = sound_kept T b l n (typed_within S a k.typing n i) (kept_sound S a k n i)

  pub one_kept : (S T : ℕ → Bool) (a b : Entries) → LeavesOut s u S a → LeavesOut s u T b → (n : ℕ) → S n ≡ T n
  one_kept S T a b k l n = elim (either (S n)) [
    | inl i ↦ i ∙ sym (kept_both S T a b k l n i)
    | inr e ↦ elim (either (T n)) [ inl j ↦ kept_both T S b a l k n j ∙ sym j | inr f ↦ e ∙ sym f ]
  ]

  pub one_entries : (S T : ℕ → Bool) (a b : Entries) → LeavesOut s u S a → LeavesOut s u T b → (n : ℕ) → a n ≡ b n
  one_entries S T a b k l n = elim (either (S n)) [
    | inl i ↦ typings_agree s u S T a b k.typing l.typing n i (kept_both S T a b k l n i)
    | inr e ↦ k.typing.had.only n e ∙ sym (l.typing.had.only n (sym (one_kept S T a b k l n) ∙ e))
  ]
