-- The pieces of a quoted text, and values that are appended.
use Rattle.std.proofs.Common.{◌≡◌, ℕ, ℤ, Bool, ◌+◌, ◌-◌, ◌<◌, ◌≤◌, List, [], ◌∷◌, ◌++◌, length, take, drop, get_or, refl, sym, ap, ◌∙◌, subst, arith, append_assoc, length-append, length-drop, append-nil}
use Rattle.std.specs.Prelude.{codes}
use Rattle.std.specs.Char.{IsScalar, encode_utf8, len_utf8}
use Rattle.std.specs.Fmt.{signed_decimal}
use Rattle.std.specs.Str.{StartsWithNoChar}
use Rattle.std.proofs.lemmas.Str.{length-encode, len_utf8_bounds}
use Rattle.std.proofs.lemmas.List.{drop_all}
use Rattle.go_base.proofs.Lists.{rest_from}
use Rattle.go_model.specs.declared.constants.value.Value.{Value}
use Rattle.go_model.specs.declared.constants.value.Value.TheVariants as value
use Rattle.api_features.specs.ConstantTexts.{AppendsQuoted, AppendsValue, char_text, hex_2, IsQuoted, quoted_none, quoted_char, quoted_byte, number, truth, string, truth_text}
use Rattle.api_features.specs.inner.Pushed.{AppendsPiece}
use Rattle.api_features.proofs.ValueTexts.{Quoting, quoting_more}

pub piece_of_char : (bytes old new : List ℕ) (c n : ℕ) → bytes ≡ encode_utf8 c ++ drop (len_utf8 c) bytes → IsScalar c → n ≡ len_utf8 c → new ≡ old ++ char_text c → AppendsPiece bytes old new n
piece_of_char bytes old new c n e scalar is so = record {
  some = omega (arith, is, (len_utf8_bounds c).0);
  within = omega (arith, is, ap length e, length-append (encode_utf8 c) (drop (len_utf8 c) bytes), length-encode c);
  piece = char_text c;
  is = so;
  quoted = λ text d. subst (λ (w : List ℕ). IsQuoted w (char_text c ++ text)) (sym e) (quoted_char c scalar (subst (λ (m : ℕ). IsQuoted (drop m bytes) text) is d));
}

pub piece_of_byte : (bytes old new : List ℕ) (b : ℕ) → 0 < length bytes → b ≡ get_or bytes 0 0 → StartsWithNoChar bytes → new ≡ old ++ (codes "\\x" ++ hex_2 b) → AppendsPiece bytes old new 1
piece_of_byte [] old new b some is none so = absurd (omega arith)
piece_of_byte (x ∷ bytes) old new b some is none so = record {
  some = omega arith;
  within = omega arith;
  piece = codes "\\x" ++ hex_2 b;
  is = so;
  quoted = λ text d. subst (λ (y : ℕ). IsQuoted (x ∷ bytes) (codes "\\x" ++ hex_2 y ++ text)) (sym is) (quoted_byte none d);
}

-- a piece from a slice from a place on
pub quoting_next : (bytes old now new : List ℕ) (at count : ℕ) → Quoting bytes old now at → AppendsPiece (take (length bytes - at) (drop at bytes)) now new count → Quoting bytes old new (at + count)
quoting_next bytes old now new at count q p =
    let k : AppendsPiece (drop at bytes) now new count = subst (λ (w : List ℕ). AppendsPiece w now new count) (rest_from at bytes) p in
    quoting_more bytes old now new at count q k (omega (arith, k.within, length-drop at bytes, q.within))

pub piece_fits : (bytes old now new : List ℕ) (at count : ℕ) → Quoting bytes old now at → AppendsPiece (take (length bytes - at) (drop at bytes)) now new count → at + count ≤ length bytes
piece_fits bytes old now new at count q p = (quoting_next bytes old now new at count q p).within

pub quoting_smaller : (bytes old now new : List ℕ) (at count : ℕ) → Quoting bytes old now at → AppendsPiece (take (length bytes - at) (drop at bytes)) now new count → length bytes - (at + count) < length bytes - at
quoting_smaller bytes old now new at count q p = omega (arith, piece_fits bytes old now new at count q p, p.some)

pub quoting_all : (bytes old now : List ℕ) (at : ℕ) → length bytes ≤ at → Quoting bytes old now at → AppendsQuoted bytes old now
quoting_all bytes old now at h q =
    let d : IsQuoted (drop at bytes) [] = subst (λ (w : List ℕ). IsQuoted w []) (sym (drop_all at bytes h)) quoted_none in
    (q.front ++ [], q.whole [] d, q.is ∙ ap (λ (w : List ℕ). old ++ w) (sym (append-nil q.front)))

-- a string between its quotes
pub string_appended : (bytes old one two new : List ℕ) → one ≡ old ++ 34 ∷ [] → AppendsQuoted bytes one two → new ≡ two ++ 34 ∷ [] → AppendsValue (value.Str bytes) old new
string_appended bytes old one two new e q f = (
  34 ∷ (q.0 ++ 34 ∷ []),
  string q.1,
  f ∙ ap (λ (w : List ℕ). w ++ 34 ∷ []) (q.2 ∙ ap (λ (w : List ℕ). w ++ q.0) e ∙ append_assoc old (34 ∷ []) q.0) ∙ append_assoc old (34 ∷ q.0) (34 ∷ []),
)

pub number_appended : (v : Value) (x : ℤ) (text old new : List ℕ) → v ≡ value.Int x → text ≡ signed_decimal x → new ≡ old ++ text → AppendsValue v old new
number_appended v x text old new e t so = subst (λ (w : Value). AppendsValue w old new) (sym e) (signed_decimal x, number, so ∙ ap (λ (w : List ℕ). old ++ w) t)

pub truth_appended : (v : Value) (b : Bool) (text old new : List ℕ) → v ≡ value.Truth b → text ≡ truth_text b → new ≡ old ++ text → AppendsValue v old new
truth_appended v b text old new e t so = subst (λ (w : Value). AppendsValue w old new) (sym e) (truth_text b, truth, so ∙ ap (λ (w : List ℕ). old ++ w) t)
