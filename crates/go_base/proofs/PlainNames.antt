-- The letters and digits of ASCII, which names and tags may have.
use Rattle.std.proofs.Common.{◌≡◌, ◌<◌, ℕ, zero, suc, Bool, true, false, ◌&&◌, ◌||◌, ◌==◌, not, List, ◌++◌, drop, refl, ap, ◌∙◌, sym, subst, arith}
use Rattle.std.specs.Char.{IsScalar, encode_utf8, len_utf8, is_ascii_alphanumeric}
use Rattle.std.proofs.lemmas.Str.{len_utf8_ascii}
use Rattle.unicode.specs.GeneralCategory.{general_category}
use Rattle.ucd_table.specs.Rows.{value_in}
use Rattle.ucd_category.specs.GeneralCategoryRows.{general_category_rows}
use Rattle.go_base.specs.Characters.{is_name_character}
use Rattle.go_base.specs.declared.characters.Alphabet.TheVariants as alphabet
use Rattle.go_base.specs.declared.characters.Alphabet.{Alphabet}
use Rattle.go_base.specs.Alphabets.{has, BeginsWith}

-- the test passes at each number below
abbrev all_below : ℕ → (ℕ → Bool) → Bool
all_below zero p = true
all_below (suc n) p = p zero && all_below n (λ k. p (suc k))

both : (a b : Bool) → (a && b) ≡ true → (a ≡ true) × (b ≡ true)
both true b h = (refl, h)
both false b h = absurd (cc)

below : (n k : ℕ) (p : ℕ → Bool) → all_below n p ≡ true → k < n → p k ≡ true
below zero k p h less = absurd (omega arith)
below (suc n) zero p h less = (both (p zero) (all_below n (λ k. p (suc k))) h).0
below (suc n) (suc k) p h less = below n k (λ m. p (suc m)) (both (p zero) (all_below n (λ m. p (suc m))) h).1 (omega arith)

abbrev named_if_plain : ℕ → Bool
named_if_plain b = not (is_ascii_alphanumeric b) || is_name_character b

checked : all_below 128 named_if_plain ≡ true
unfolding general_category value_in general_category_rows
checked = refl

then_named : (a b : Bool) → (not a || b) ≡ true → a ≡ true → b ≡ true
then_named true b h e = h
then_named false b h e = absurd (cc)

-- each is a character of names
pub plain_named : (b : ℕ) → b < 128 → is_ascii_alphanumeric b ≡ true → is_name_character b ≡ true
plain_named b less plain = then_named _ _ (below 128 b named_if_plain checked less) plain

or_true : (a : Bool) → (a || true) ≡ true
or_true true = refl
or_true false = refl

-- and of tags
pub plain_has : (a : Alphabet) (b : ℕ) → is_name_character b ≡ true → has a b ≡ true
plain_has alphabet.Name b named = named
plain_has alphabet.Tag b named = ap (λ (x : Bool). b == 46 || x) named ∙ or_true (b == 46)

pub begins_plain : (a : Alphabet) (b : ℕ) (bytes : List ℕ) → b < 128 → is_name_character b ≡ true → IsScalar b → bytes ≡ encode_utf8 b ++ drop (len_utf8 b) bytes → BeginsWith (has a) bytes 1
begins_plain a b bytes ascii named scalar begins =
    let width = len_utf8_ascii b ascii in
    (b, plain_has a b named, scalar, sym width, subst (λ n. bytes ≡ encode_utf8 b ++ drop n bytes) width begins)
