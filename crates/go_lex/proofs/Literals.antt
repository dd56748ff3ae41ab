-- The one literal in quotes at the start of some bytes.
use Rattle.std.proofs.Common.{◌≡◌, inl, inr, ℕ, suc, ◌+◌, ◌<◌, ◌≤◌, Bool, true, false, ◌&&◌, ◌==◌, not, List, [], ◌∷◌, ◌++◌, length, take, drop, refl, sym, ap, ◌∙◌, subst, arith, length-append, length-drop, append_assoc, Option, Some, None}
use Rattle.std.specs.List.{list_all, prefix_len}
use Rattle.std.specs.Char.{encode_utf8}
use Rattle.std.proofs.lemmas.Bool.Decides.{nat_tests}
use Rattle.std.proofs.lemmas.Str.{encode_same}
use Rattle.std.proofs.lemmas.List.{append-nil, drop-drop, drop_at, take_at, take-append-drop}
use Rattle.std.proofs.Math.Seq.{take-add}
use Rattle.go_syntax.specs.declared.token.Meaning.{Meaning}
use Rattle.go_base.specs.Comments.{is_text, text_len}
use Rattle.go_syntax.specs.lexical.Quotes.{is_plain, meaning_bytes, IsCharacter, AreCharacters, no_character, character_more}
use Rattle.go_syntax.specs.lexical.Lexemes.{quoted}
use Rattle.go_base.proofs.Lists.{length_take}
use Rattle.go_lex.specs.declared.quote.Character.{Character as CharacterPrefix}
use Rattle.go_lex.specs.inner.CharacterPrefixes.{BeginsCharacter, BeginsNoCharacter}
use Rattle.go_lex.specs.inner.Starts.{begins_byte}
use Rattle.go_lex.specs.inner.OnlyTexts.{IsOnly, HasNone, IsRune, IsString, IsRaw}
use Rattle.go_lex.proofs.Escapes.{head_same, tail_same, IsQuote, character_once, Split, is_plain_one, is_escape, split_of}

byte_is : (a b : ℕ) → (a == b) ≡ true → a ≡ b
byte_is a b h = grind (arith, nat_tests)

begins_is : (c : ℕ) (bytes : List ℕ) → begins_byte c bytes ≡ true → bytes ≡ c ∷ drop 1 bytes
begins_is c [] h = absurd (cc)
begins_is c (b ∷ bs) h = ap (λ (x : ℕ). x ∷ bs) (byte_is b c h)

byte_self : (c : ℕ) → (c == c) ≡ true
byte_self c = grind (arith, nat_tests)

not_begins : (c : ℕ) (bytes more : List ℕ) → begins_byte c bytes ≡ false → bytes ≡ c ∷ more → ⊥
not_begins c bytes more h e = let here : begins_byte c bytes ≡ true = ap (begins_byte c) e ∙ byte_self c in absurd (cc)

-- a quoted text at the start
quoted_front : (q n : ℕ) (behind : List ℕ) → begins_byte q (drop n behind) ≡ true → (take (n + 2) (q ∷ behind) ≡ quoted q (take n behind)) × (n + 2 ≤ length (q ∷ behind))
quoted_front q n behind h =
    let is = begins_is q (drop n behind) h in
    let sum : n + 2 ≡ suc (n + 1) = omega arith in (
      ap (λ (m : ℕ). take m (q ∷ behind)) sum ∙ ap (λ (xs : List ℕ). q ∷ xs) (take-add n 1 behind ∙ ap (λ (xs : List ℕ). take n behind ++ take 1 xs) is),
      omega (arith, ap length is, length-drop n behind),
    )

-- what follows a quoted text's first quote
behind_quoted : (q : ℕ) (behind text inner more : List ℕ) → q ∷ behind ≡ text ++ more → text ≡ quoted q inner → behind ≡ inner ++ (q ∷ more)
behind_quoted q behind text inner more e t =
    tail_same q q behind (inner ++ (q ∷ more)) (e ∙ ap (λ (xs : List ℕ). xs ++ more) t ∙ ap (λ (xs : List ℕ). q ∷ xs) (append_assoc inner (q ∷ []) more))

quoted_length : (q : ℕ) (text inner : List ℕ) → text ≡ quoted q inner → length text ≡ length inner + 2
quoted_length q text inner t = omega (arith, ap length t, length-append inner (q ∷ []))

not_plain : (q : ℕ) → is_plain q q ≡ true → ⊥
not_plain q h = let no' : false ≡ true = rw byte_self at h in absurd (cc)

quote_by : (q : ℕ) (t r more : List ℕ) (m : Meaning) → q < 92 → t ++ r ≡ q ∷ more → Split q t m → encode_utf8 q ≡ q ∷ [] → ⊥
quote_by q t r more m small e (is_plain_one c scalar h tc mc) own =
    let same : c ≡ q = (encode_same c q r more (sym (ap (λ (xs : List ℕ). xs ++ r) tc) ∙ e ∙ ap (λ (xs : List ℕ). xs ++ more) (sym own))).0 in
    not_plain q (subst (λ (x : ℕ). is_plain q x ≡ true) same h)
quote_by q t r more m small e (is_escape rest te) own =
    let first : 92 ≡ q = head_same 92 q (rest ++ r) more (sym (ap (λ (xs : List ℕ). xs ++ r) te) ∙ e) in absurd (omega arith)

-- no character begins with the quote
quote_ends : (t r more : List ℕ) (m : Meaning) → IsCharacter 34 t m → t ++ r ≡ 34 ∷ more → ⊥
unfolding encode_utf8
quote_ends t r more m is e = quote_by 34 t r more m (omega arith) e (split_of 34 t m is) refl

-- the first character is the one found
pub same_first : (q : ℕ) (bytes t r : List ℕ) (m : Meaning) (x : CharacterPrefix) → IsQuote q → BeginsCharacter q bytes x → IsCharacter q t m → bytes ≡ t ++ r → (take x.len bytes ≡ t) × (x.meaning ≡ m) × (x.len ≡ length t) × (drop x.len bytes ≡ r)
same_first q bytes t r m x quote b is e =
    let same = character_once q (take x.len bytes) t (drop x.len bytes) r x.meaning m quote b.stands is (take-append-drop x.len bytes ∙ e) in
    let len : x.len ≡ length t = sym (length_take x.len bytes b.within) ∙ ap length same.0 in
    (same.0, same.1, len, ap (λ (xs : List ℕ). drop x.len xs) e ∙ drop_at t r x.len (sym len))

pub single : IsQuote 39
single = inr refl

pub double : IsQuote 34
double = inl refl

-- rune literals
pub rune_only : (behind : List ℕ) (x : CharacterPrefix) → BeginsCharacter 39 behind x → begins_byte 39 (drop x.len behind) ≡ true → IsOnly IsRune (39 ∷ behind) (x.len + 2)
rune_only behind x b end =
    let prefix = quoted_front 39 x.len behind end in
    record {
      some = omega arith;
      within = prefix.1;
      stands = (take x.len behind, x.meaning, b.stands, prefix.0);
      only = λ text more is e.
          let first = same_first 39 behind is.0 (39 ∷ more) is.1 x single b is.2 (behind_quoted 39 behind text is.0 more e is.3) in
          omega (arith, quoted_length 39 text is.0 is.3, first.2);
    }

pub rune_open : (behind : List ℕ) (x : CharacterPrefix) → BeginsCharacter 39 behind x → begins_byte 39 (drop x.len behind) ≡ false → HasNone IsRune (39 ∷ behind)
rune_open behind x b end text more is e =
    let first = same_first 39 behind is.0 (39 ∷ more) is.1 x single b is.2 (behind_quoted 39 behind text is.0 more e is.3) in
    not_begins 39 (drop x.len behind) more end first.3

pub rune_none : (behind : List ℕ) → BeginsNoCharacter 39 behind → HasNone IsRune (39 ∷ behind)
rune_none behind none text more is e = none is.0 (39 ∷ more) is.1 is.2 (behind_quoted 39 behind text is.0 more e is.3)

-- strings
-- what is left of a string's characters at an index
abbrev Left : List ℕ → ℕ → List ℕ → List ℕ → Type 0
Left behind at text more = (rest : List ℕ) × (out : List ℕ) × AreCharacters 34 rest out × (drop at behind ≡ rest ++ (34 ∷ more)) × (length text ≡ at + length rest)

-- characters up to an index, which each string has
pub record StringTo (behind : List ℕ) (at : ℕ) : Type 0 where
  pub within : at ≤ length behind
  pub whole : (text out : List ℕ) → AreCharacters 34 text out → (all : List ℕ) × AreCharacters 34 (take at behind ++ text) all
  pub every : (text out more : List ℕ) → AreCharacters 34 text out → behind ≡ text ++ (34 ∷ more) → Left behind at text more

pub string_start : (behind : List ℕ) → StringTo behind 0
string_start behind = record {
  within = omega arith;
  whole = λ text out a. (out, a);
  every = λ text out more a e. (text, out, a, e, (let zero_more : length text ≡ 0 + length text = omega arith in zero_more));
}

left_step : (behind : List ℕ) (at : ℕ) (x : CharacterPrefix) (text rest out more : List ℕ) → BeginsCharacter 34 (drop at behind) x → AreCharacters 34 rest out → drop at behind ≡ rest ++ (34 ∷ more) → length text ≡ at + length rest
    → Left behind (at + x.len) text more
left_step behind at x text rest out more b no_character e l = absurd (quote_ends (take x.len (drop at behind)) (drop x.len (drop at behind)) more x.meaning b.stands (take-append-drop x.len (drop at behind) ∙ e))
left_step behind at x text rest out more b (character_more {text = t} {rest = rs} {bytes = o} {meaning = m} is a) e l =
    let first = same_first 34 (drop at behind) t (rs ++ (34 ∷ more)) m x double b is (e ∙ append_assoc t rs (34 ∷ more)) in
    (rs, o, a, sym (drop-drop x.len at behind) ∙ first.3, omega (arith, l, length-append t rs, first.2))

pub string_step : (behind : List ℕ) (at : ℕ) (x : CharacterPrefix) → StringTo behind at → BeginsCharacter 34 (drop at behind) x → StringTo behind (at + x.len)
string_step behind at x s b = record {
  within = omega (arith, b.within, length-drop at behind, s.within);
  whole = λ text out a.
      let w = s.whole (take x.len (drop at behind) ++ text) (meaning_bytes x.meaning ++ out) (character_more b.stands a) in
      (w.0, subst (λ (xs : List ℕ). AreCharacters 34 xs w.0) (sym (append_assoc (take at behind) (take x.len (drop at behind)) text) ∙ ap (λ (xs : List ℕ). xs ++ text) (sym (take-add at x.len behind))) w.1);
  every = λ text out more a e. let f = s.every text out more a e in left_step behind at x text f.0 f.1 more b f.2 f.3 f.4;
}

left_end : (behind : List ℕ) (at : ℕ) (text rest out more : List ℕ) → BeginsNoCharacter 34 (drop at behind) → AreCharacters 34 rest out → drop at behind ≡ rest ++ (34 ∷ more) → length text ≡ at + length rest → (length text ≡ at) × (drop at behind ≡ 34 ∷ more)
left_end behind at text rest out more none no_character e l = (omega arith, e)
left_end behind at text rest out more none (character_more {text = t} {rest = rs} {meaning = m} is a) e l = absurd (none t (rs ++ (34 ∷ more)) m is (e ∙ append_assoc t rs (34 ∷ more)))

pub string_only : (behind : List ℕ) (at : ℕ) → StringTo behind at → BeginsNoCharacter 34 (drop at behind) → begins_byte 34 (drop at behind) ≡ true → IsOnly IsString (34 ∷ behind) (at + 2)
string_only behind at s none end =
    let prefix = quoted_front 34 at behind end in
    let w = s.whole [] [] no_character in
    record {
      some = omega arith;
      within = prefix.1;
      stands = (take at behind, w.0, subst (λ (xs : List ℕ). AreCharacters 34 xs w.0) (append-nil (take at behind)) w.1, prefix.0);
      only = λ text more is e.
          let f = s.every is.0 is.1 more is.2 (behind_quoted 34 behind text is.0 more e is.3) in
          omega (arith, quoted_length 34 text is.0 is.3, (left_end behind at is.0 f.0 f.1 more none f.2 f.3 f.4).0);
    }

pub string_open : (behind : List ℕ) (at : ℕ) → StringTo behind at → BeginsNoCharacter 34 (drop at behind) → begins_byte 34 (drop at behind) ≡ false → HasNone IsString (34 ∷ behind)
string_open behind at s none end text more is e =
    let f = s.every is.0 is.1 more is.2 (behind_quoted 34 behind text is.0 more e is.3) in
    not_begins 34 (drop at behind) more end (left_end behind at is.0 f.0 f.1 more none f.2 f.3 f.4).1

-- raw strings
abbrev no_quote : ℕ → Bool
no_quote b = not (b == 96)

both : (a b : Bool) → (a && b) ≡ true → (a ≡ true) × (b ≡ true)
both true b h = (refl, h)
both false b h = absurd (cc)

raw_exact : (inner more : List ℕ) → list_all no_quote inner ≡ true → prefix_len no_quote (inner ++ (96 ∷ more)) ≡ length inner
raw_exact [] more h = refl
raw_exact (b ∷ bs) more h = let p = both (no_quote b) (list_all no_quote bs) h in rw p.0 (omega (arith, raw_exact bs more p.1))

raw_more : (b : ℕ) (bs : List ℕ) → no_quote b ≡ true → prefix_len no_quote (b ∷ bs) ≡ suc (prefix_len no_quote bs)
raw_more b bs e = rw e (omega arith)

raw_all : (behind : List ℕ) → list_all no_quote (take (prefix_len no_quote behind) behind) ≡ true
raw_all [] = refl
raw_all (b ∷ bs) =
    elim (no_quote b) as (λ t. no_quote b ≡ t → list_all no_quote (take (prefix_len no_quote (b ∷ bs)) (b ∷ bs)) ≡ true) [
      | true ↦ (λ e. subst (λ (n : ℕ). list_all no_quote (take n (b ∷ bs)) ≡ true) (sym (raw_more b bs e)) (rw e (raw_all bs)))
      | false ↦ (λ e. let len : prefix_len no_quote (b ∷ bs) ≡ 0 = rw e refl in subst (λ (n : ℕ). list_all no_quote (take n (b ∷ bs)) ≡ true) (sym len) refl)
    ]
    refl

raw_quote : (behind : List ℕ) → prefix_len no_quote behind < length behind → begins_byte 96 (drop (prefix_len no_quote behind) behind) ≡ true
raw_quote [] h = absurd (omega arith)
raw_quote (b ∷ bs) h =
    elim (b == 96) as (λ t. (b == 96) ≡ t → begins_byte 96 (drop (prefix_len no_quote (b ∷ bs)) (b ∷ bs)) ≡ true) [
      | true ↦ (λ e. let len : prefix_len no_quote (b ∷ bs) ≡ 0 = rw e refl in subst (λ (n : ℕ). begins_byte 96 (drop n (b ∷ bs)) ≡ true) (sym len) e)
      | false ↦ (λ e.
          let passes : no_quote b ≡ true = rw e refl in
          let len = raw_more b bs passes in
          subst (λ (n : ℕ). begins_byte 96 (drop n (b ∷ bs)) ≡ true) (sym len) (raw_quote bs (omega arith)))
    ]
    refl

raw_same : (behind text more : List ℕ) (is : IsRaw text) → 96 ∷ behind ≡ text ++ more → prefix_len no_quote behind ≡ length is.0
raw_same behind text more is e = ap (prefix_len no_quote) (behind_quoted 96 behind text is.0 more e is.3) ∙ raw_exact is.0 more is.2

text_tested : (bytes : List ℕ) (n m : ℕ) → text_len bytes (Some n) ≡ Some m → is_text (take n bytes) ≡ true
text_tested bytes n m h =
    elim (is_text (take n bytes)) as (λ t. is_text (take n bytes) ≡ t → t ≡ true) [ true ↦ (λ e. refl) | false ↦ (λ e. absurd (let none : ◌≡◌ {A = Option ℕ} None (Some m) = rw e at h in cc)) ] refl

pub raw_only : (behind : List ℕ) (n m : ℕ) → n ≡ prefix_len no_quote behind → n < length behind → text_len behind (Some n) ≡ Some m → IsOnly IsRaw (96 ∷ behind) (n + 2)
raw_only behind n m is more text =
    let end : begins_byte 96 (drop n behind) ≡ true = subst (λ (k : ℕ). begins_byte 96 (drop k behind) ≡ true) (sym is) (raw_quote behind (omega arith)) in
    let prefix = quoted_front 96 n behind end in
    record {
      some = omega arith;
      within = prefix.1;
      stands = (take n behind, text_tested behind n m text, subst (λ (k : ℕ). list_all no_quote (take k behind) ≡ true) (sym is) (raw_all behind), prefix.0);
      only = λ other rest raw e. omega (arith, quoted_length 96 other raw.0 raw.3, raw_same behind other rest raw e);
    }

pub raw_open : (behind : List ℕ) → prefix_len no_quote behind ≡ length behind → HasNone IsRaw (96 ∷ behind)
raw_open behind whole text more is e =
    omega (arith, raw_same behind text more is e, ap length (behind_quoted 96 behind text is.0 more e is.3), length-append is.0 (96 ∷ more))

pub raw_bad : (behind : List ℕ) (n : ℕ) → n ≡ prefix_len no_quote behind → text_len behind (Some n) ≡ None → HasNone IsRaw (96 ∷ behind)
raw_bad behind n is bad text more raw e =
    let len : n ≡ length raw.0 = is ∙ raw_same behind text more raw e in
    let prefix : take n behind ≡ raw.0 = ap (λ (xs : List ℕ). take n xs) (behind_quoted 96 behind text raw.0 more e raw.3) ∙ take_at raw.0 (96 ∷ more) n (sym len) in
    let good : is_text (take n behind) ≡ true = ap is_text prefix ∙ raw.1 in
    let some : ◌≡◌ {A = Option ℕ} (Some n) None = rw good at bad in
    absurd (cc)
