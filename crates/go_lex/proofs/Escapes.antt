-- The characters and escapes of literals: bytes begin with one at most.
use Rattle.std.proofs.Common.{◌≡◌, ◌⊎◌, inl, inr, ℕ, ◌<◌, ◌≤◌, Bool, true, false, ◌||◌, ◌==◌, List, [], ◌∷◌, ◌++◌, length, take, drop, refl, sym, ap, ◌∙◌, subst, arith, Option, Some, None, if◌then◌else◌}
use Rattle.std.specs.Char.{IsScalar, encode_utf8}
use Rattle.std.proofs.lemmas.Bool.Decides.{nat_tests}
use Rattle.std.proofs.lemmas.Str.{encode_same, length-encode, len_utf8_bounds}
use Rattle.go_syntax.specs.declared.token.Meaning.{Meaning}
use Rattle.go_syntax.specs.declared.token.Meaning.TheVariants.{Character, Byte}
use Rattle.go_syntax.specs.lexical.Numbers.{is_digit_of, value_from}
use Rattle.go_syntax.specs.lexical.Quotes.{is_plain, sign_of, count_of, AreCounted, IsCharacter, plain, sign, octal, hexadecimal, point}
use Rattle.go_lex.proofs.CountedDigits.{front_counted}

pub tail_same : (a b : ℕ) (xs ys : List ℕ) → a ∷ xs ≡ b ∷ ys → xs ≡ ys
tail_same a b xs ys e = cc

pub head_same : (a b : ℕ) (xs ys : List ℕ) → a ∷ xs ≡ b ∷ ys → a ≡ b
head_same a b xs ys e = cc

-- what the bytes behind a backslash make
pub data Form : Type 0 where
  Sign : ℕ → Form
  Hex : Form
  Point : ℕ → Form
  Octal : Form

abbrev pub form_counted : Option ℕ → Form
form_counted None = Octal
form_counted (Some count) = Point count

abbrev pub form_after : Option ℕ → ℕ → Form
form_after (Some c) e = Sign c
form_after None e = if e == 120 then Hex else form_counted (count_of e)

abbrev pub form_of : ℕ → List ℕ → Form
form_of quote [] = Octal
form_of quote (e ∷ more) = form_after (sign_of quote e) e

-- the escape of this form behind a backslash
abbrev pub Meant : Form → List ℕ → List ℕ → Meaning → Type 0
Meant (Sign c) rest text m = (text ≡ 92 ∷ take 1 rest) × (m ≡ Character c)
Meant Hex rest text m = AreCounted 16 2 (take 2 (drop 1 rest)) × (text ≡ 92 ∷ take 3 rest) × (m ≡ Byte (value_from 16 0 (take 2 (drop 1 rest)))) × (rest ≡ 120 ∷ drop 1 rest)
Meant (Point count) rest text m =
    AreCounted 16 count (take count (drop 1 rest)) × (text ≡ 92 ∷ (take 1 rest ++ take count (drop 1 rest))) × (m ≡ Character (value_from 16 0 (take count (drop 1 rest))))
    × IsScalar (value_from 16 0 (take count (drop 1 rest)))
Meant Octal rest text m = AreCounted 8 3 (take 3 rest) × (text ≡ 92 ∷ take 3 rest) × (m ≡ Byte (value_from 8 0 (take 3 rest))) × (value_from 8 0 (take 3 rest) ≤ 255)

meant_once : (f : Form) (rest t s : List ℕ) (m k : Meaning) → Meant f rest t m → Meant f rest s k → (t ≡ s) × (m ≡ k)
meant_once (Sign c) rest t s m k a b = (a.0 ∙ sym b.0, a.1 ∙ sym b.1)
meant_once Hex rest t s m k a b = (a.1 ∙ sym b.1, a.2 ∙ sym b.2)
meant_once (Point count) rest t s m k a b = (a.1 ∙ sym b.1, a.2 ∙ sym b.2)
meant_once Octal rest t s m k a b = (a.1 ∙ sym b.1, a.2 ∙ sym b.2)

abbrev pub IsQuote : ℕ → Type 0
IsQuote quote = (quote ≡ 34) ⊎ (quote ≡ 39)

quote_cases : (P : ℕ → Type 0) (quote : ℕ) → IsQuote quote → P 34 → P 39 → P quote
quote_cases P quote h p q = elim h [ inl e ↦ subst P (sym e) p | inr e ↦ subst P (sym e) q ]

octal_range : (d : ℕ) → is_digit_of 8 d ≡ true → (48 ≤ d) × (d ≤ 55)
octal_range d h = grind (arith, nat_tests)

differs : (d k : ℕ) → 48 ≤ d → d ≤ 55 → (55 < k) ⊎ (k < 48) → (d == k) ≡ false
differs d k a b o = elim o [ inl c ↦ grind (arith, nat_tests) | inr c ↦ grind (arith, nat_tests) ]

octal_form : (quote d : ℕ) (more : List ℕ) → IsQuote quote → is_digit_of 8 d ≡ true → form_of quote (d ∷ more) ≡ Octal
octal_form quote d more q h =
    let r = octal_range d h in
    let away = λ (k : ℕ) (o : (55 < k) ⊎ (k < 48)). differs d k r.0 r.1 o in
    let a = away 97 (inl (omega arith)) in
    let b = away 98 (inl (omega arith)) in
    let f = away 102 (inl (omega arith)) in
    let n = away 110 (inl (omega arith)) in
    let cr = away 114 (inl (omega arith)) in
    let t = away 116 (inl (omega arith)) in
    let v = away 118 (inl (omega arith)) in
    let s = away 92 (inl (omega arith)) in
    let own : (d == quote) ≡ false = quote_cases (λ k. (d == k) ≡ false) quote q (away 34 (inr (omega arith))) (away 39 (inr (omega arith))) in
    let x = away 120 (inl (omega arith)) in
    let u = away 117 (inl (omega arith)) in
    let w = away 85 (inl (omega arith)) in
    rw (a, b, f, n, cr, t, v, s, own, x, u, w) refl

hex_form : (quote : ℕ) (more : List ℕ) → IsQuote quote → form_of quote (120 ∷ more) ≡ Hex
hex_form quote more q = quote_cases (λ k. form_of k (120 ∷ more) ≡ Hex) quote q refl refl

sign_form : (quote e c : ℕ) (more : List ℕ) → sign_of quote e ≡ Some c → form_of quote (e ∷ more) ≡ Sign c
sign_form quote e c more h = ap (λ (o : Option ℕ). form_after o e) h

some_same : (m n : ℕ) → ◌≡◌ {A = Option ℕ} (Some m) (Some n) → m ≡ n
some_same m n e = cc

is_byte : (a b : ℕ) → (a == b) ≡ true → a ≡ b
is_byte a b h = grind (arith, nat_tests)

count_cases : (P : ℕ → ℕ → Type 0) (e count : ℕ) → count_of e ≡ Some count → P 117 4 → P 85 8 → P e count
count_cases P e count h p q =
    elim (e == 117) as (λ t. (e == 117) ≡ t → P e count) [
      | true ↦ (λ a. let n : 4 ≡ count = some_same 4 count (rw a at h) in subst (λ (x : ℕ × ℕ). P x.0 x.1) (λ i. (sym (is_byte e 117 a) i, n i)) p)
      | false ↦ (λ a. elim (e == 85) as (λ t. (e == 85) ≡ t → P e count) [
        | true ↦ (λ b. let n : 8 ≡ count = some_same 8 count (rw (a, b) at h) in subst (λ (x : ℕ × ℕ). P x.0 x.1) (λ i. (sym (is_byte e 85 b) i, n i)) q)
        | false ↦ (λ b. absurd (let none : ◌≡◌ {A = Option ℕ} None (Some count) = rw (a, b) at h in cc))
      ] refl)
    ]
    refl

point_form : (quote e count : ℕ) (more : List ℕ) → IsQuote quote → count_of e ≡ Some count → form_of quote (e ∷ more) ≡ Point count
point_form quote e count more q h =
    count_cases (λ x n. form_of quote (x ∷ more) ≡ Point n) e count h (quote_cases (λ k. form_of k (117 ∷ more) ≡ Point 4) quote q refl refl) (quote_cases (λ k. form_of k (85 ∷ more) ≡ Point 8) quote q refl refl)

or_true : (a : Bool) → (a || true) ≡ true
or_true true = refl
or_true false = refl

not_plain : (quote : ℕ) → is_plain quote 92 ≡ true → ⊥
not_plain quote h = let no : false ≡ true = rw or_true at h in absurd (cc)

no_backslash : (quote c : ℕ) (more rest : List ℕ) → is_plain quote c ≡ true → encode_utf8 c ++ more ≡ 92 ∷ rest → ⊥
unfolding encode_utf8
no_backslash quote c more rest h e = not_plain quote (subst (λ (x : ℕ). is_plain quote x ≡ true) (encode_same c 92 more rest e).0 h)

first_octal : (ds : List ℕ) → AreCounted 8 3 ds → (d : ℕ) × (es : List ℕ) × (ds ≡ d ∷ es) × (is_digit_of 8 d ≡ true)
first_octal [] c = absurd (omega (arith, c.count_is))
first_octal (d ∷ es) c = (d, es, refl, c.digits.0)

octal_here : (quote : ℕ) (ds more : List ℕ) → IsQuote quote → AreCounted 8 3 ds → form_of quote (ds ++ more) ≡ Octal
octal_here quote ds more q c =
    let f = first_octal ds c in
    subst (λ (xs : List ℕ). form_of quote (xs ++ more) ≡ Octal) (sym f.2) (octal_form quote f.0 (f.1 ++ more) q f.3)

-- what an escape is, by the bytes behind the backslash
pub meant : (quote : ℕ) (text more rest : List ℕ) (m : Meaning) → IsQuote quote → IsCharacter quote text m → text ++ more ≡ 92 ∷ rest → Meant (form_of quote rest) rest text m
meant quote text more rest m q (plain {c = c} scalar h) e = absurd (no_backslash quote c more rest h e)
meant quote text more rest m q (sign {e = x} {c = c} h) e =
    let is : x ∷ more ≡ rest = tail_same 92 92 (x ∷ more) rest e in
    subst (λ (xs : List ℕ). Meant (form_of quote xs) xs (92 ∷ (x ∷ [])) (Character c)) is
    (subst (λ (f : Form). Meant f (x ∷ more) (92 ∷ (x ∷ [])) (Character c)) (sym (sign_form quote x c more h)) (refl, refl))
meant quote text more rest m q (octal {ds = ds} c small) e =
    let is : ds ++ more ≡ rest = tail_same 92 92 (ds ++ more) rest e in
    let prefix = front_counted 8 3 (ds ++ more) ds more c refl in
    subst (λ (xs : List ℕ). Meant (form_of quote xs) xs (92 ∷ ds) (Byte (value_from 8 0 ds))) is
    (subst (λ (f : Form). Meant f (ds ++ more) (92 ∷ ds) (Byte (value_from 8 0 ds))) (sym (octal_here quote ds more q c))
    (subst (λ (xs : List ℕ). AreCounted 8 3 xs × (92 ∷ ds ≡ 92 ∷ xs) × (Byte (value_from 8 0 ds) ≡ Byte (value_from 8 0 xs)) × (value_from 8 0 xs ≤ 255)) (sym prefix.0) (c, refl, refl, small)))
meant quote text more rest m q (hexadecimal {ds = ds} c) e =
    let is : 120 ∷ (ds ++ more) ≡ rest = tail_same 92 92 (120 ∷ (ds ++ more)) rest e in
    let prefix = front_counted 16 2 (ds ++ more) ds more c refl in
    subst (λ (xs : List ℕ). Meant (form_of quote xs) xs (92 ∷ (120 ∷ ds)) (Byte (value_from 16 0 ds))) is
    (subst (λ (f : Form). Meant f (120 ∷ (ds ++ more)) (92 ∷ (120 ∷ ds)) (Byte (value_from 16 0 ds))) (sym (hex_form quote (ds ++ more) q))
    (subst (λ (xs : List ℕ). AreCounted 16 2 xs × (92 ∷ (120 ∷ ds) ≡ 92 ∷ (120 ∷ xs)) × (Byte (value_from 16 0 ds) ≡ Byte (value_from 16 0 xs)) × (120 ∷ (ds ++ more) ≡ 120 ∷ (ds ++ more))) (sym prefix.0)
    (c, refl, refl, refl)))
meant quote text more rest m q (point {e = x} {count = count} {ds = ds} h c scalar) e =
    let is : x ∷ (ds ++ more) ≡ rest = tail_same 92 92 (x ∷ (ds ++ more)) rest e in
    let prefix = front_counted 16 count (ds ++ more) ds more c refl in
    subst (λ (xs : List ℕ). Meant (form_of quote xs) xs (92 ∷ (x ∷ ds)) (Character (value_from 16 0 ds))) is
    (subst (λ (f : Form). Meant f (x ∷ (ds ++ more)) (92 ∷ (x ∷ ds)) (Character (value_from 16 0 ds))) (sym (point_form quote x count (ds ++ more) q h))
    (subst (λ (xs : List ℕ). AreCounted 16 count xs × (92 ∷ (x ∷ ds) ≡ 92 ∷ (x ∷ xs)) × (Character (value_from 16 0 ds) ≡ Character (value_from 16 0 xs)) × IsScalar (value_from 16 0 xs)) (sym prefix.0) (c, refl, refl, scalar)))

-- a plain character or an escape
pub data Split (quote : ℕ) (text : List ℕ) (m : Meaning) : Type 0 where
  is_plain_one : (c : ℕ) → IsScalar c → is_plain quote c ≡ true → text ≡ encode_utf8 c → m ≡ Character c → Split quote text m
  is_escape : (rest : List ℕ) → text ≡ 92 ∷ rest → Split quote text m

pub split_of : (quote : ℕ) (text : List ℕ) (m : Meaning) → IsCharacter quote text m → Split quote text m
split_of quote text m (plain {c = c} scalar h) = is_plain_one c scalar h refl refl
split_of quote text m (sign {e = e} h) = is_escape (e ∷ []) refl
split_of quote text m (octal {ds = ds} c small) = is_escape ds refl
split_of quote text m (hexadecimal {ds = ds} c) = is_escape (120 ∷ ds) refl
split_of quote text m (point {e = e} {ds = ds} h c scalar) = is_escape (e ∷ ds) refl

append_from : (t s r : List ℕ) → t ≡ s → t ++ r ≡ s ++ r
append_from t s r e = ap (λ (xs : List ℕ). xs ++ r) e

once_by : (quote : ℕ) (t s r u : List ℕ) (m k : Meaning) → IsQuote quote → IsCharacter quote t m → IsCharacter quote s k → t ++ r ≡ s ++ u → Split quote t m → Split quote s k → (t ≡ s) × (m ≡ k)
once_by quote t s r u m k q a b e (is_plain_one c sc hc tc mc) (is_plain_one d sd hd td md) =
    let same : c ≡ d = (encode_same c d r u (sym (append_from t (encode_utf8 c) r tc) ∙ e ∙ append_from s (encode_utf8 d) u td)).0 in
    (tc ∙ ap encode_utf8 same ∙ sym td, mc ∙ ap Character same ∙ sym md)
once_by quote t s r u m k q a b e (is_plain_one c sc hc tc mc) (is_escape rest es) =
    absurd (no_backslash quote c r (rest ++ u) hc (sym (append_from t (encode_utf8 c) r tc) ∙ e ∙ append_from s (92 ∷ rest) u es))
once_by quote t s r u m k q a b e (is_escape rest et) (is_plain_one d sd hd td md) =
    absurd (no_backslash quote d u (rest ++ r) hd (sym (append_from s (encode_utf8 d) u td) ∙ sym e ∙ append_from t (92 ∷ rest) r et))
once_by quote t s r u m k q a b e (is_escape rest et) (is_escape other es) =
    let here : t ++ r ≡ 92 ∷ (rest ++ r) = append_from t (92 ∷ rest) r et in
    meant_once (form_of quote (rest ++ r)) (rest ++ r) t s m k (meant quote t r (rest ++ r) m q a here) (meant quote s u (rest ++ r) k q b (sym e ∙ here))

-- bytes begin with one character at most
pub character_once : (quote : ℕ) (t s r u : List ℕ) (m k : Meaning) → IsQuote quote → IsCharacter quote t m → IsCharacter quote s k → t ++ r ≡ s ++ u → (t ≡ s) × (m ≡ k)
character_once quote t s r u m k q a b e = once_by quote t s r u m k q a b e (split_of quote t m a) (split_of quote s k b)

pub character_some : (quote : ℕ) (t : List ℕ) (m : Meaning) → IsCharacter quote t m → 0 < length t
character_some quote t m (plain {c = c} scalar h) = omega (arith, length-encode c, (len_utf8_bounds c).0)
character_some quote t m (sign h) = omega arith
character_some quote t m (octal c small) = omega arith
character_some quote t m (hexadecimal c) = omega arith
character_some quote t m (point h c scalar) = omega arith
