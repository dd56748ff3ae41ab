-- What the characters of a string literal stand for.
use Rattle.std.proofs.Common.{◌≡◌, ℕ, ◌+◌, ◌*◌, ◌<◌, ◌≤◌, zero, suc, false, ◌==◌, true, List, [], ◌∷◌, ◌++◌, length, get_or, take, drop, refl, sym, ap, ◌∙◌, subst, arith, length-drop, append_assoc}
use Rattle.std.proofs.lemmas.List.{append-nil, drop-drop, take-append-drop}
use Rattle.std.proofs.Math.Nat.{mul-le-mul_left}
use Rattle.go_syntax.specs.lexical.Numbers.{value_from}
use Rattle.go_syntax.specs.lexical.Quotes.{meaning_bytes, AreCharacters, no_character, character_more}
use Rattle.go_lex.specs.declared.quote.Character.{Character as CharacterPrefix}
use Rattle.go_lex.specs.inner.CharacterPrefixes.{BeginsCharacter, BeginsNoCharacter}
use Rattle.go_lex.specs.inner.DigitValues.{value_more}
use Rattle.go_lex.proofs.Literals.{same_first, double}

-- the characters up to an index are decoded, and characters follow
pub record Decoded (inner : List ℕ) (at : ℕ) (out : List ℕ) : Type 0 where
  pub within : at ≤ length inner
  pub whole : (more : List ℕ) → AreCharacters 34 (drop at inner) more → AreCharacters 34 inner (out ++ more)
  pub rest : (more : List ℕ) × AreCharacters 34 (drop at inner) more

pub decoded_start : (inner : List ℕ) → (out : List ℕ) × AreCharacters 34 inner out → Decoded inner 0 []
decoded_start inner h = record { within = omega arith; whole = λ more a. a; rest = h }

-- what follows the first character
abbrev Follows : List ℕ → CharacterPrefix → List ℕ → Type 0
Follows bytes x more = (later : List ℕ) × AreCharacters 34 (drop x.len bytes) later

follow : (bytes text out : List ℕ) (x : CharacterPrefix) → BeginsCharacter 34 bytes x → AreCharacters 34 text out → bytes ≡ text → Follows bytes x out
follow bytes text out x b no_character e = absurd (omega (arith, ap length e, b.some, b.within))
follow bytes text out x b (character_more {text = t} {rest = rs} {bytes = o} {meaning = m} is a) e =
    let first = same_first 34 bytes t rs m x double b is e in
    (o, subst (λ (xs : List ℕ). AreCharacters 34 xs o) (sym first.3) a)

pub decoded_step : (inner out : List ℕ) (at : ℕ) (x : CharacterPrefix) → Decoded inner at out → BeginsCharacter 34 (drop at inner) x → Decoded inner (at + x.len) (out ++ meaning_bytes x.meaning)
decoded_step inner out at x d b =
    let past = drop-drop x.len at inner in
    let f = follow (drop at inner) (drop at inner) d.rest.0 x b d.rest.1 refl in
    record {
      within = omega (arith, b.within, length-drop at inner, d.within);
      whole = λ more a.
          let prefix : AreCharacters 34 (take x.len (drop at inner) ++ drop x.len (drop at inner)) (meaning_bytes x.meaning ++ more) =
          character_more b.stands (subst (λ (xs : List ℕ). AreCharacters 34 xs more) (sym past) a) in
          subst (AreCharacters 34 inner) (sym (append_assoc out (meaning_bytes x.meaning) more))
          (d.whole (meaning_bytes x.meaning ++ more) (subst (λ (xs : List ℕ). AreCharacters 34 xs (meaning_bytes x.meaning ++ more)) (take-append-drop x.len (drop at inner)) prefix));
      rest = (f.0, subst (λ (xs : List ℕ). AreCharacters 34 xs f.0) past f.1);
    }

ends : (bytes text out : List ℕ) → BeginsNoCharacter 34 bytes → AreCharacters 34 text out → bytes ≡ text → AreCharacters 34 bytes []
ends bytes text out none no_character e = subst (λ (xs : List ℕ). AreCharacters 34 xs []) (sym e) no_character
ends bytes text out none (character_more {text = t} {rest = rs} {meaning = m} is a) e = absurd (none t rs m is e)

pub decoded_all : (inner out : List ℕ) (at : ℕ) → Decoded inner at out → BeginsNoCharacter 34 (drop at inner) → AreCharacters 34 inner out
decoded_all inner out at d none = subst (AreCharacters 34 inner) (append-nil out) (d.whole [] (ends (drop at inner) (drop at inner) d.rest.0 none d.rest.1 refl))

-- integers
more_no_smaller : (base n b : ℕ) → 1 ≤ base → n ≤ value_more base n b
more_no_smaller base n b h =
    elim (b == 95) as (λ t. (b == 95) ≡ t → n ≤ value_more base n b) [
      | true ↦ (λ e. rw e (omega arith))
      | false ↦ (λ e. let product : n * 1 ≤ n * base = mul-le-mul_left n h in rw e (omega arith))
    ]
    refl

pub value_step : (base n b : ℕ) (bs : List ℕ) → value_from base n (b ∷ bs) ≡ value_from base (value_more base n b) bs
value_step base n b bs = elim (b == 95) as (λ t. (b == 95) ≡ t → value_from base n (b ∷ bs) ≡ value_from base (value_more base n b) bs) [ true ↦ (λ e. rw e refl) | false ↦ (λ e. rw e refl) ] refl

no_smaller : (base n : ℕ) (ds : List ℕ) → 1 ≤ base → n ≤ value_from base n ds
no_smaller base n [] h = omega arith
no_smaller base n (d ∷ ds) h = omega (arith, value_step base n d ds, more_no_smaller base n d h, no_smaller base (value_more base n d) ds h)

pub value_at : (base n i : ℕ) (ds : List ℕ) → i < length ds → value_from base n (drop i ds) ≡ value_from base (value_more base n (get_or ds i 0)) (drop (i + 1) ds)
value_at base n i [] h = absurd (omega arith)
value_at base n zero (d ∷ ds) h = value_step base n d ds
value_at base n (suc i) (d ∷ ds) h =
    let next : suc i + 1 ≡ suc (i + 1) = omega arith in
    value_at base n i ds (omega arith) ∙ ap (λ (m : ℕ). value_from base (value_more base n (get_or ds i 0)) (drop m (d ∷ ds))) (sym next)

pub front_smaller : (base n i whole : ℕ) (ds : List ℕ) → 1 ≤ base → i < length ds → value_from base n (drop i ds) ≡ whole → value_more base n (get_or ds i 0) ≤ whole
front_smaller base n i whole ds b h e = omega (arith, value_at base n i ds h, e, no_smaller base (value_more base n (get_or ds i 0)) (drop (i + 1) ds) b)
