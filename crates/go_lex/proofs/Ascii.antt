-- Which characters of ASCII are letters.
use Rattle.std.proofs.Common.{◌≡◌, ℕ, zero, suc, ◌<◌, Bool, true, false, ◌||◌, ◌&&◌, not, refl, sym, subst, arith, ◌⊎◌, inl, inr}
use Rattle.ucd_category.proofs.Computing.{ucd_category}
use Rattle.go_base.specs.Characters.{is_letter}
use Rattle.go_lex.specs.inner.Starts.{is_name_start}

all_below : (ℕ → Bool) → ℕ → Bool
all_below test zero = true
all_below test (suc n) = test n && all_below test n

abbrev starts_if_letter : ℕ → Bool
starts_if_letter c = not (is_letter c) || is_name_start c

checked : all_below starts_if_letter 128 ≡ true
unfolding all_below ucd_category
checked = refl

and_parts : (a b : Bool) → (a && b) ≡ true → (a ≡ true) × (b ≡ true)
and_parts true b h = (refl, h)
and_parts false b h = absurd (cc)

at_most : (a b : ℕ) → a < suc b → (a ≡ b) ⊎ (a < b)
at_most zero zero h = inl refl
at_most zero (suc b) h = inr (omega arith)
at_most (suc a) zero h = absurd (omega arith)
at_most (suc a) (suc b) h = elim (at_most a b (omega arith)) [ inl e ↦ inl (omega arith) | inr l ↦ inr (omega arith) ]

below : (test : ℕ → Bool) (n c : ℕ) → all_below test n ≡ true → c < n → test c ≡ true
unfolding all_below
below test zero c h l = absurd (omega arith)
below test (suc n) c h l =
    let parts = and_parts (test n) (all_below test n) h in
    elim (at_most c n l) [ inl e ↦ subst (λ (x : ℕ). test x ≡ true) (sym e) parts.0 | inr k ↦ below test n c parts.1 k ]

implied : (a b : Bool) → (not a || b) ≡ true → a ≡ true → b ≡ true
implied true b h e = h
implied false b h e = absurd (cc)

-- a letter of ASCII begins a name by its byte
pub ascii_letter : (c : ℕ) → c < 128 → is_letter c ≡ true → is_name_start c ≡ true
ascii_letter c h l = implied (is_letter c) (is_name_start c) (below starts_if_letter 128 c checked h) l
