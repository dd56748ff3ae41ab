-- The function that quotes does so as lines of features do.
use lib.Utf8.{scalar}
use lib.Seq.{drop-nil}
use Rattle.std.proofs.Common.{◌≡◌, ℕ, zero, suc, ◌-◌, ◌≤◌, Bool, true, false, ◌&&◌, List, [], ◌∷◌, ◌++◌, take, drop, refl, sym, ap, ◌∙◌, subst, arith, append-nil, append_assoc, take-append-drop, take_at, sub-one}
use mathlib.Core.Bool.{true≢false}
use Rattle.std.specs.Prelude.{codes, if◌then◌else◌}
use Rattle.std.specs.Char.{IsScalar, encode_utf8, len_utf8}
use Rattle.std.specs.Str.{StartsWithNoChar, bytes_eq, chars}
use Rattle.std.proofs.lemmas.Slice.Eq.{bytes_eq-Decides}
use Rattle.std.proofs.lemmas.Str.{IsUtf8-encode, chars-append, chars-encodes, len_utf8_bounds, length-encode}
use Rattle.api_features.specs.ConstantTexts.{IsQuoted, char_text, hex_2, quoted_none, quoted_char, quoted_byte}
use Rattle.api_features.proofs.ValueTexts.{quoted_once}
use Rattle.api_subjects.specs.TypeTexts.{IsQuoting}
use Rattle.api_subjects.specs.inner.Quoting.{begins, byte_piece, char_piece, piece_of, quoted, quoted_from}

both : (a b : Bool) → (a && b) ≡ true → (a ≡ true) × (b ≡ true)
both true b e = (refl, e)
both false b e = absurd (true≢false (sym e))

-- the first character that bytes spell is the one that they begin with
spelt_first : (rest : List ℕ) (c : ℕ) → IsScalar c → chars (encode_utf8 c ++ rest) ≡ c ∷ chars rest
spelt_first rest c s =
    let one : chars (encode_utf8 c) ≡ c ∷ [] = ap chars (sym (append-nil (encode_utf8 c))) ∙ chars-encodes (c ∷ []) (ap (λ (b : Bool). b && true) s) in
    chars-append (encode_utf8 c) rest (IsUtf8-encode c s) ∙ ap (λ (w : List ℕ). w ++ chars rest) one

begun : (bytes rest : List ℕ) (c : ℕ) → IsScalar c → bytes ≡ encode_utf8 c ++ rest → begins bytes c ≡ true
begun bytes rest c s e =
    let front : take (len_utf8 c) bytes ≡ encode_utf8 c = ap (take (len_utf8 c)) e ∙ take_at (encode_utf8 c) rest (len_utf8 c) (length-encode c) in
    (λ i. s i && (bytes_eq-Decides (take (len_utf8 c) bytes) (encode_utf8 c)).1 front i)

drop_one_less : (b : ℕ) (bs : List ℕ) (n : ℕ) → 1 ≤ n → drop n (b ∷ bs) ≡ drop (n - 1) bs
drop_one_less b bs zero h = absurd (omega arith)
drop_one_less b bs (suc n) h = ap (λ (m : ℕ). drop m bs) (sym (sub-one (suc n)))

module _ (b : ℕ) (bs : List ℕ) (later : (n : ℕ) → IsQuoted (drop n bs) (quoted_from n bs)) where
  of_byte : StartsWithNoChar (b ∷ bs) → IsQuoted (b ∷ bs) ((byte_piece b).text ++ quoted_from 0 bs)
  of_byte none = subst (IsQuoted (b ∷ bs)) (sym (append_assoc (codes "\\x") (hex_2 b) (quoted_from 0 bs))) (quoted_byte none (later 0))

  of_char : (c : ℕ) → begins (b ∷ bs) c ≡ true → IsQuoted (b ∷ bs) ((char_piece c).text ++ quoted_from (char_piece c).more bs)
  of_char c t =
      let h = both (scalar c) (bytes_eq (take (len_utf8 c) (b ∷ bs)) (encode_utf8 c)) t in
      let split : b ∷ bs ≡ encode_utf8 c ++ drop (len_utf8 c - 1) bs =
      sym (take-append-drop (len_utf8 c) (b ∷ bs))
      ∙ (λ i. (bytes_eq-Decides (take (len_utf8 c) (b ∷ bs)) (encode_utf8 c)).0 h.1 i ++ drop_one_less b bs (len_utf8 c) (len_utf8_bounds c).0 i) in
      subst (λ (w : List ℕ). IsQuoted w (char_text c ++ quoted_from (len_utf8 c - 1) bs)) (sym split) (quoted_char c h.0 (later (len_utf8 c - 1)))

  none_begins : (c : ℕ) (cs : List ℕ) → c ∷ cs ≡ chars (b ∷ bs) → begins (b ∷ bs) c ≡ false → StartsWithNoChar (b ∷ bs)
  none_begins c cs e f k rest s is =
      let heads : c ∷ cs ≡ k ∷ chars rest = e ∙ ap chars is ∙ spelt_first rest k s in
      let same : k ≡ c = cc in
      true≢false (sym (begun (b ∷ bs) rest k s is) ∙ ap (begins (b ∷ bs)) same ∙ f)

  none_spelt : [] ≡ chars (b ∷ bs) → StartsWithNoChar (b ∷ bs)
  none_spelt e k rest s is =
      let heads : [] ≡ k ∷ chars rest = e ∙ ap chars is ∙ spelt_first rest k s in
      cc

  by_test : (c : ℕ) (cs : List ℕ) (t : Bool) → c ∷ cs ≡ chars (b ∷ bs) → begins (b ∷ bs) c ≡ t
      → IsQuoted (b ∷ bs) ((if t then char_piece c else byte_piece b).text ++ quoted_from (if t then char_piece c else byte_piece b).more bs)
  by_test c cs true e h = of_char c h
  by_test c cs false e h = of_byte (none_begins c cs e h)

  of_piece : (cs : List ℕ) → cs ≡ chars (b ∷ bs) → IsQuoted (b ∷ bs) ((piece_of b (b ∷ bs) cs).text ++ quoted_from (piece_of b (b ∷ bs) cs).more bs)
  of_piece [] e = of_byte (none_spelt e)
  of_piece (c ∷ cs) e = by_test c cs (begins (b ∷ bs) c) e refl

quotes_from : (bytes : List ℕ) (n : ℕ) → IsQuoted (drop n bytes) (quoted_from n bytes)
quotes_from [] n = subst (λ (w : List ℕ). IsQuoted w []) (sym (drop-nil n)) quoted_none
quotes_from (b ∷ bs) zero = of_piece b bs (quotes_from bs) (chars (b ∷ bs)) refl
quotes_from (b ∷ bs) (suc n) = quotes_from bs n

pub quotes : IsQuoting quoted
unfolding quoted
quotes bytes = quotes_from bytes 0

-- however bytes are quoted, it is as that function does
pub quoted_so : (bytes text : List ℕ) → IsQuoted bytes text → text ≡ quoted bytes
quoted_so bytes text q = quoted_once q bytes (quoted bytes) refl (quotes bytes)
