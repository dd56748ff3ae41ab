-- What an operation gives is a constant's value of the kind.
use Rattle.std.proofs.Common.{◌≡◌, ℕ, Bool, true, false, ◌&&◌, not, refl, sym, ap, ◌∙◌, subst, None, Some, Option, List, length, ◌≤◌, ◌⊎◌, inl, inr, pos, negsuc, arith, le-leb}
use Rattle.std.specs.Char.{encode_utf8, len_utf8}
use Rattle.std.proofs.lemmas.Str.{length-encode}
use Rattle.std.proofs.lemmas.Bool.Decides.{nat_tests}
use Rattle.std.specs.Bool.{if◌then◌else◌}
use Rattle.go_model.specs.constants.Classes.{class_of, class_of_basic, is_inexact, is_string}
use Rattle.go_model.specs.constants.Constants.{IsConstant, as_text, binary_value, character_of, converted, is_in_range, is_of, is_representable, kept, shift_value, unary_value}
use Rattle.go_model.specs.constants.Operators.{binary_applies, shift_applies, unary_applies}
use Rattle.go_model.specs.declared.constants.class.Class.{Class}
use Rattle.go_model.specs.declared.constants.class.Class.TheVariants as c
use Rattle.go_model.specs.declared.constants.value.Basic.{Basic}
use Rattle.go_model.specs.declared.constants.value.BinaryOp.{BinaryOp}
use Rattle.go_model.specs.declared.constants.value.Kind.{Kind}
use Rattle.go_model.specs.declared.constants.value.Kind.TheVariants.{Typed}
use Rattle.go_model.specs.declared.constants.value.UnaryOp.{UnaryOp}
use Rattle.go_model.specs.declared.constants.value.Value.{Value}
use Rattle.go_model.specs.declared.constants.value.Value.TheVariants as v

both : (a b : Bool) → (a && b) ≡ true → (a ≡ true) × (b ≡ true)
both true b e = (refl, e)
both false b e = absurd (cc)

-- what an `if` without an else gives
given : {A : Type 0} (t : Bool) (o : Option A) (x : A) → (if t then o else None) ≡ Some x → (t ≡ true) × (o ≡ Some x)
given true o x e = (refl, e)
given false o x e = absurd (cc)

kept_constant : (kind : Kind) (bits : ℕ) (o : Option Value) (result : Value) → kept kind bits o ≡ Some result → IsConstant result kind bits
unfolding kept
kept_constant kind bits None result e = absurd (cc)
kept_constant kind bits (Some value) result e =
    let h : ((is_in_range value && is_of value kind bits) ≡ true) × (Some value ≡ Some result) = given _ _ _ e in
    let same : value ≡ result = cc (h.1) in
    subst (λ x. IsConstant x kind bits) same (both _ _ h.0)

pub unary_constant : (op : UnaryOp) (value result : Value) (kind : Kind) (bits : ℕ) → unary_value op value kind bits ≡ Some result → IsConstant result kind bits
unfolding unary_value
unary_constant op value result kind bits e = kept_constant kind bits _ result (given (unary_applies op (class_of kind)) _ _ e).1

pub binary_constant : (op : BinaryOp) (left right result : Value) (kind : Kind) (bits : ℕ) → binary_value op left right kind bits ≡ Some result → IsConstant result kind bits
unfolding binary_value
binary_constant op left right result kind bits e = kept_constant kind bits _ result (given (binary_applies op (class_of kind)) _ _ e).1

pub shift_constant : (left : Bool) (value count result : Value) (kind : Kind) (bits : ℕ) → shift_value left value count kind bits ≡ Some result → IsConstant result kind bits
unfolding shift_value
shift_constant left (v.Int x) (v.Int (pos count)) result kind bits e = kept_constant kind bits _ result (given (shift_applies (class_of kind)) _ _ e).1
shift_constant left (v.Int x) (v.Int (negsuc count)) result kind bits e = absurd (cc)
shift_constant left (v.Int x) (v.Str text) result kind bits e = absurd (cc)
shift_constant left (v.Int x) (v.Truth truth) result kind bits e = absurd (cc)
shift_constant left (v.Str text) count result kind bits e = absurd (cc)
shift_constant left (v.Truth truth) count result kind bits e = absurd (cc)

-- ---- conversions

choice : {A : Type 0} (t u : Bool) (o : Option A) (x y : A) → (if t then None else (if u then Some x else o)) ≡ Some y → (t ≡ false) × (((u ≡ true) × (x ≡ y)) ⊎ (o ≡ Some y))
choice true u o x y e = absurd (cc)
choice false true o x y e = (refl, inl (refl, cc))
choice false false o x y e = (refl, inr e)

text_only : (value : Value) (from to : Class) (result : Value) → as_text value from to ≡ Some result → (to ≡ c.Str) × (c : ℕ) × (result ≡ v.Str (encode_utf8 c))
text_only (v.Int x) c.Integer c.Str result e = (refl, character_of x, cc)
text_only _ _ _ result e = absurd (cc)

short : (c : ℕ) → len_utf8 c ≤ 65536
short c = grind (arith, nat_tests)

text_in_range : (c : ℕ) → is_in_range (v.Str (encode_utf8 c)) ≡ true
text_in_range c = le-leb (length (encode_utf8 c)) 65536 (simp length-encode (short c))

of_text : (to : Basic) (bits : ℕ) (text : List ℕ) → class_of_basic to ≡ c.Str → is_of (v.Str text) (Typed to) bits ≡ true
unfolding is_of is_representable
of_text to bits text e = ap (λ class. not (is_inexact class) && is_string class) e

of_representable : (value : Value) (to : Basic) (bits : ℕ) → is_inexact (class_of_basic to) ≡ false → is_representable value to bits ≡ true → is_of value (Typed to) bits ≡ true
unfolding is_of
of_representable value to bits e r = ap (λ t. not t && is_representable value to bits) e ∙ r

pub conversion_constant : (value result : Value) (from : Kind) (to : Basic) (bits : ℕ) → converted value from to bits ≡ Some result → IsConstant result (Typed to) bits
unfolding converted
conversion_constant value result from to bits e =
    let h = choice (is_inexact (class_of_basic to)) (is_in_range value && is_representable value to bits) (as_text value (class_of from) (class_of_basic to)) value result e in
    elim h.1 [
      | inl w ↦
          let r = both _ _ w.0 in
          subst (λ x. IsConstant x (Typed to) bits) w.1 (r.0, of_representable value to bits h.0 r.1)
      | inr w ↦
          let r = text_only _ _ _ _ w in
          subst (λ x. IsConstant x (Typed to) bits) (sym r.2) (text_in_range r.1, of_text to bits (encode_utf8 r.1) r.0)
    ]
