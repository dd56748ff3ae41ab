-- The value of each constant is of its kind, where those that names mean are.
use Rattle.std.proofs.Common.{◌≡◌, ℕ, Bool, true, false, List, Option, Some, None, refl, sym, ap, ◌∙◌, subst}
use Rattle.std.specs.Prelude.{◌&&◌, if◌then◌else◌, not, ℤ, pos, negsuc}
use Rattle.go_model.specs.constants.Classes.{class_of, class_of_basic, integer_of_kind, is_inexact, is_string}
use Rattle.go_model.specs.constants.Constants.{as_text, binary_value, converted, exact_binary, exact_shift, exact_unary, is_in_range, is_of, is_representable, kept, shift_value, unary_value}
use Rattle.go_model.specs.constants.Operators.{binary_applies, shift_applies, unary_applies}
use Rattle.go_model.specs.declared.constants.class.Class.{Class}
use Rattle.go_model.specs.declared.constants.class.Class.TheVariants as c
use Rattle.go_model.specs.declared.constants.value.Basic.{Basic}
use Rattle.go_model.specs.declared.constants.value.BinaryOp.{BinaryOp}
use Rattle.go_model.specs.declared.constants.value.Kind.{Kind}
use Rattle.go_model.specs.declared.constants.value.Kind.TheVariants as kind
use Rattle.go_model.specs.declared.constants.value.UnaryOp.{UnaryOp}
use Rattle.go_model.specs.declared.constants.value.Value.{Value}
use Rattle.go_model.specs.declared.constants.value.Value.TheVariants as value
use Rattle.go_rules.proofs.OneKind.{no_truth}
use Rattle.go_rules.proofs.OneName.{none_some, one_some}

and_second : (a b : Bool) → (a && b) ≡ true → b ≡ true
and_second true b h = h
and_second false b h = absurd (no_truth (sym h))

if_some : (b : Bool) (x : Option Value) (w : Value) → (if b then x else None) ≡ Some w → x ≡ Some w
if_some true x w h = h
if_some false x w h = absurd (none_some h)

kept_some : (k : Kind) (bits : ℕ) (v w : Value) (b : Bool) → (is_in_range v && is_of v k bits) ≡ b → (if b then Some v else None) ≡ Some w → is_of w k bits ≡ true
kept_some k bits v w true e h = subst (λ x. is_of x k bits ≡ true) (one_some h) (and_second (is_in_range v) (is_of v k bits) e)
kept_some k bits v w false e h = absurd (none_some h)

kept_of : (k : Kind) (bits : ℕ) (x : Option Value) (w : Value) → kept k bits x ≡ Some w → is_of w k bits ≡ true
unfolding kept
kept_of k bits None w h = absurd (none_some h)
kept_of k bits (Some v) w h = kept_some k bits v w (is_in_range v && is_of v k bits) refl h

pub unary_of : (op : UnaryOp) (v : Value) (k : Kind) (bits : ℕ) (w : Value) → unary_value op v k bits ≡ Some w → is_of w k bits ≡ true
unfolding unary_value
unary_of op v k bits w h = kept_of k bits (exact_unary op (integer_of_kind k bits) v) w (if_some (unary_applies op (class_of k)) (kept k bits (exact_unary op (integer_of_kind k bits) v)) w h)

pub binary_of : (op : BinaryOp) (u v : Value) (k : Kind) (bits : ℕ) (w : Value) → binary_value op u v k bits ≡ Some w → is_of w k bits ≡ true
unfolding binary_value
binary_of op u v k bits w h = kept_of k bits (exact_binary op u v) w (if_some (binary_applies op (class_of k)) (kept k bits (exact_binary op u v)) w h)

pub shift_of : (left : Bool) (x : ℤ) (v : Value) (k : Kind) (bits : ℕ) (w : Value) → shift_value left (value.Int x) v k bits ≡ Some w → is_of w k bits ≡ true
unfolding shift_value
shift_of left x (value.Int (pos n)) k bits w h = kept_of k bits (Some (value.Int (exact_shift left x n))) w (if_some (shift_applies (class_of k)) (kept k bits (Some (value.Int (exact_shift left x n)))) w h)
shift_of left x (value.Int (negsuc n)) k bits w h = absurd (none_some h)
shift_of left x (value.Str s) k bits w h = absurd (none_some h)
shift_of left x (value.Truth t) k bits w h = absurd (none_some h)

-- ---- conversions

text_of : (v : Value) (a b : Class) (w : Value) → as_text v a b ≡ Some w → (s : List ℕ) × (w ≡ value.Str s) × (is_string b ≡ true)
text_of (value.Int x) c.Integer c.Str w h = (_, sym (one_some h), refl)
text_of (value.Int x) c.Integer b w h = absurd (none_some h)
text_of (value.Int x) a b w h = absurd (none_some h)
text_of (value.Str s) a b w h = absurd (none_some h)
text_of (value.Truth t) a b w h = absurd (none_some h)

string_of : (b : Basic) (bits : ℕ) (w : Value) → (s : List ℕ) × (w ≡ value.Str s) × (is_string (class_of_basic b) ≡ true) → is_representable w b bits ≡ true
unfolding is_representable
string_of b bits w (s, e, h) = ap (λ x. is_representable x b bits) e ∙ h

converted_some : (v : Value) (a : Class) (b : Basic) (bits : ℕ) (w : Value) (d : Bool) → (is_in_range v && is_representable v b bits) ≡ d → (if d then Some v else as_text v a (class_of_basic b)) ≡ Some w → is_representable w b bits ≡ true
converted_some v a b bits w true e h = subst (λ x. is_representable x b bits ≡ true) (one_some h) (and_second (is_in_range v) (is_representable v b bits) e)
converted_some v a b bits w false e h = string_of b bits w (text_of v a (class_of_basic b) w h)

pub converted_of : (v : Value) (k : Kind) (b : Basic) (bits : ℕ) (w : Value) → is_inexact (class_of_basic b) ≡ false → converted v k b bits ≡ Some w → is_of w (kind.Typed b) bits ≡ true
unfolding converted is_of
converted_of v k b bits w i h =
    let x = (λ d. if sym i d then None else (if is_in_range v && is_representable v b bits then Some v else as_text v (class_of k) (class_of_basic b))) ∙ h in
    ap (λ d. not d && is_representable w b bits) i ∙ converted_some v (class_of k) b bits w (is_in_range v && is_representable v b bits) refl x
