-- A value has one text.
use Rattle.std.proofs.Common.{◌≡◌, ℕ, ◌+◌, ◌≤◌, List, [], ◌∷◌, ◌++◌, length, drop, refl, sym, ap, ◌∙◌, subst, arith, append_assoc, length-append, append-nil}
use Rattle.std.specs.Prelude.{codes}
use Rattle.std.specs.Char.{encode_utf8}
use Rattle.std.proofs.lemmas.Str.{encode_same, length-encode, len_utf8_bounds}
use Rattle.std.proofs.lemmas.List.{drop-drop}
use Rattle.go_model.specs.declared.constants.value.Value.{Value}
use Rattle.api_features.specs.ConstantTexts.{char_text, hex_2, IsQuoted, quoted_none, quoted_char, quoted_byte, IsValueText, number, truth, string}
use Rattle.api_features.specs.inner.Pushed.{AppendsPiece}

no_encoded : (c : ℕ) (bytes : List ℕ) → [] ≡ encode_utf8 c ++ bytes → ⊥
no_encoded c bytes e = omega (arith, ap length e, length-append (encode_utf8 c) bytes, length-encode c, (len_utf8_bounds c).0)

pub quoted_once : {bytes a : List ℕ} → IsQuoted bytes a → (others b : List ℕ) → bytes ≡ others → IsQuoted others b → a ≡ b
quoted_once quoted_none others b e quoted_none = refl
quoted_once quoted_none others b e (quoted_char c {bytes = bytes} s d) = absurd (no_encoded c bytes e)
quoted_once quoted_none others b e (quoted_byte n d) = absurd (cc)
quoted_once (quoted_char c {bytes = bytes} s d) others b e quoted_none = absurd (no_encoded c bytes (sym e))
quoted_once (quoted_char c {bytes = bytes} s d) others b e (quoted_char k {bytes = more} {text = text} t f) =
    let k2 = encode_same c k bytes more e in
    let rest = quoted_once d more text k2.1 f in
    (λ i. char_text (k2.0 i) ++ rest i)
quoted_once (quoted_char c {bytes = bytes} s d) others b e (quoted_byte n f) = absurd (n c bytes s (sym e))
quoted_once (quoted_byte n d) others b e quoted_none = absurd (cc)
quoted_once (quoted_byte n d) others b e (quoted_char c {bytes = bytes} s f) = absurd (n c bytes s e)
quoted_once (quoted_byte {b = x} {bytes = bytes} n d) others b e (quoted_byte {b = y} {bytes = more} {text = text} m f) =
    let first : x ≡ y = cc in
    let later : bytes ≡ more = cc in
    let rest = quoted_once d more text later f in
    (λ i. codes "\\x" ++ hex_2 (first i) ++ rest i)

pub value_once : (v : Value) (a b : List ℕ) → IsValueText v a → IsValueText v b → a ≡ b
value_once v a b number number = refl
value_once v a b truth truth = refl
value_once v a b (string {bytes = bytes} d) (string {text = text} e) = ap (λ (w : List ℕ). 34 ∷ (w ++ 34 ∷ [])) (quoted_once d bytes text refl e)

-- ---- quoting piece by piece

-- however the text of what is left goes on, it is that of all bytes behind what went so far
pub record Quoting (bytes old now : List ℕ) (at : ℕ) : Type 0 where
  pub within : at ≤ length bytes
  pub front : List ℕ
  pub is : now ≡ old ++ front
  pub whole : (text : List ℕ) → IsQuoted (drop at bytes) text → IsQuoted bytes (front ++ text)

pub quoting_none : (bytes old : List ℕ) → Quoting bytes old old 0
quoting_none bytes old = record { within = omega arith; front = []; is = sym (append-nil old); whole = λ text d. d }

pub quoting_more : (bytes old now new : List ℕ) (at count : ℕ) → Quoting bytes old now at → AppendsPiece (drop at bytes) now new count → at + count ≤ length bytes → Quoting bytes old new (at + count)
quoting_more bytes old now new at count q p fits = record {
  within = fits;
  front = q.front ++ p.piece;
  is = p.is ∙ ap (λ (w : List ℕ). w ++ p.piece) q.is ∙ append_assoc old q.front p.piece;
  whole = λ text d. subst (IsQuoted bytes) (sym (append_assoc q.front p.piece text)) (q.whole (p.piece ++ text) (p.quoted text (subst (λ (w : List ℕ). IsQuoted w text) (sym (drop-drop count at bytes)) d)));
}
