-- Words at the front of bytes.
use Rattle.std.proofs.Common.{◌≡◌, ◌≢◌, ℕ, suc, ◌+◌, ◌<◌, ◌≤◌, Bool, true, false, not, cond, List, [], ◌∷◌, ◌++◌, length, take, drop, refl, sym, ap, ◌∙◌, subst, arith, Option, Some, None}
use mathlib.Core.Bool.{true≢false}
use Rattle.std.specs.Prelude.{bytes_eq, MatchOption, IfSome, IsNone}
use Rattle.std.specs.Cmp.Lexicographic.{bytes_decides}
use Rattle.std.specs.List.{position_or_len}
use Rattle.std.proofs.lemmas.List.{take-append-drop, take_at}
use denote.Ref.{Bor}
use Rattle.go_base.specs.Lists.{Each}
use Rattle.go_base.proofs.Lists.{length_take}
use Rattle.api_frozen.specs.LineShapes.{IsWord}
use Rattle.api_frozen.specs.inner.Readings.{IsStopped, IsSplit}

-- ---- fronts

pub stripped : (r : Option (Bor (List ℕ))) (bytes front : List ℕ) → MatchOption r (bytes_eq (take (length front) bytes) front ≡ false) (λ x. (bytes_eq (take (length front) bytes) front ≡ true) × (x.now ≡ drop (length front) bytes) × (length x.now + length front ≡ length bytes)) → IfSome r (λ x. bytes ≡ front ++ x.now)
stripped None bytes front h = tt
stripped (Some x) bytes front h =
    let t : take (length front) bytes ≡ front = (bytes_decides (take (length front) bytes) front).0 h.0 in
    sym (take-append-drop (length front) bytes) ∙ (λ i. t i ++ sym h.1 i)

pub not_stripped : (r : Option (Bor (List ℕ))) (bytes front : List ℕ) → MatchOption r (bytes_eq (take (length front) bytes) front ≡ false) (λ x. (bytes_eq (take (length front) bytes) front ≡ true) × (x.now ≡ drop (length front) bytes) × (length x.now + length front ≡ length bytes)) → IsNone r → (rest : List ℕ) → bytes ≡ front ++ rest → ⊥
not_stripped None bytes front h none rest e =
    let t : take (length front) bytes ≡ front = ap (take (length front)) e ∙ take_at front rest (length front) refl in
    true≢false (sym ((bytes_decides (take (length front) bytes) front).1 t) ∙ h)
not_stripped (Some x) bytes front h none rest e = absurd (true≢false none)

-- ---- words

-- the bytes up to a place end nothing, and what follows ends them
abbrev Parted : (ℕ → Bool) → List ℕ → ℕ → Type 0
Parted ends bytes n = Each (λ b. ends b ≡ false) (take n bytes) × IsStopped ends (drop n bytes)

parted_first : (ends : ℕ → Bool) (b : ℕ) (bytes : List ℕ) (v : Bool) (n : ℕ) → ends b ≡ v → Parted ends bytes n → Parted ends (b ∷ bytes) (cond (not v) (1 + n) 0)
parted_first ends b bytes true n e h = (tt, e)
parted_first ends b bytes false n e h = let one : suc n ≡ 1 + n = omega arith in subst (Parted ends (b ∷ bytes)) one ((e, h.0), h.1)

parted : (ends : ℕ → Bool) (bytes : List ℕ) → Parted ends bytes (position_or_len ends bytes)
parted ends [] = (tt, tt)
parted ends (b ∷ bytes) = parted_first ends b bytes (ends b) (position_or_len ends bytes) refl (parted ends bytes)

not_empty : (bytes : List ℕ) (n : ℕ) → n ≤ length bytes → 0 < n → take n bytes ≢ []
not_empty bytes n within some e = omega (arith, ap length e, length_take n bytes within)

pub split_word : (ends : ℕ → Bool) (bytes : List ℕ) (n : ℕ) → n ≡ position_or_len ends bytes → n ≤ length bytes → (n ≡ 0 → ⊥) → IsSplit ends bytes (take n bytes) (drop n bytes)
split_word ends bytes n is within some =
    let p : Parted ends bytes n = subst (Parted ends bytes) (sym is) (parted ends bytes) in
    record {
      is = sym (take-append-drop n bytes);
      word_is = record { some = not_empty bytes n within (omega (arith, some)); plain = p.0 };
      stopped = p.1;
    }

pub no_word : (ends : ℕ → Bool) (bytes : List ℕ) (n : ℕ) → n ≡ position_or_len ends bytes → n ≡ 0 → IsStopped ends bytes
no_word ends bytes n is zero_is = (subst (Parted ends bytes) (sym is ∙ zero_is) (parted ends bytes)).1

-- what ends a word begins none
pub not_word : (ends : ℕ → Bool) (bytes word rest : List ℕ) → IsStopped ends bytes → IsWord ends word → bytes ≡ word ++ rest → ⊥
not_word ends bytes [] rest stopped w e = w.some refl
not_word ends bytes (b ∷ word) rest stopped w e = true≢false (sym (subst (IsStopped ends) e stopped) ∙ w.plain.0)

-- bytes begin with one word
pub word_once : (ends : ℕ → Bool) (a r b s : List ℕ) → Each (λ x. ends x ≡ false) a → IsStopped ends r → Each (λ x. ends x ≡ false) b → IsStopped ends s → a ++ r ≡ b ++ s → (a ≡ b) × (r ≡ s)
word_once ends [] r [] s p t q u e = (refl, e)
word_once ends [] r (y ∷ b) s p t q u e = absurd (true≢false (sym (subst (IsStopped ends) e t) ∙ q.0))
word_once ends (x ∷ a) r [] s p t q u e = absurd (true≢false (sym (subst (IsStopped ends) (sym e) u) ∙ p.0))
word_once ends (x ∷ a) r (y ∷ b) s p t q u e =
    let first : x ≡ y = cc in
    let rest : a ++ r ≡ b ++ s = cc in
    let k = word_once ends a r b s p.1 t q.1 u rest in
    ((λ i. first i ∷ k.0 i), k.1)
