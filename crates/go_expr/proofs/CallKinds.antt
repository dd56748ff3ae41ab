-- Calls that are conversions or constant.
use Rattle.std.proofs.Common.{◌≡◌, List, [], ◌∷◌, refl, sym, ap, ◌∙◌, subst, ◌⊎◌, inl, inr, Bool, true, false, ◌||◌, ◌&&◌, not}
use Rattle.go_model.specs.declared.constants.value.Value.{Value}
use Rattle.go_model.specs.declared.types.package.ConstTerm.{ConstTerm}
use Rattle.go_model.specs.declared.types.term.Term.{Term}
use Rattle.go_rules.specs.Environments.{Env}
use Rattle.go_rules.specs.Expressions.{Converts, converts_constant, converts_inexact, converts_value, converts_typed, converts_untyped, converts_truth, converts_nil, HasBuiltin, append_elements, append_slice, append_string, len_string, array_constant, array_value, measure, close, copy_slice, copy_string, delete, make, new, panic, print, recover, HasPost, post_field, post_method, post_method_expression, post_assertion, post_array, post_array_pointer, post_slice_index, post_string, post_map, post_slice, post_full_slice, post_conversion, post_call, post_builtin, IsCall, call, call_receive_type, is_constant, is_type, results_of}
use Rattle.go_rules.specs.Nodes.{PostLayer}
use Rattle.go_rules.specs.Operands.{constant_of, type_name}
use Rattle.go_rules.specs.declared.operand.Operand.{Operand}
use Rattle.go_rules.specs.declared.predeclared.Predeclared.{Predeclared}
use Rattle.go_rules.proofs.OneForm.{typed_no_type}
use Rattle.go_syntax.specs.declared.expression.Expr.{Expr}
use Rattle.go_syntax.specs.declared.expression.Post.{Post, Post-F, out-Post}
use Rattle.go_expr.specs.Posts.{is_call, is_loud_call}

no_truth : false ≡ true → ⊥
no_truth e = absurd (cc)

pub call_is : {l : PostLayer} {es : List Expr} {dots : Bool} → IsCall l es dots → is_call l ≡ true
call_is call = refl
call_is call_receive_type = refl

pub call_of : (l : PostLayer) → is_call l ≡ true → (es : List Expr) × (dots : Bool) × IsCall l es dots
call_of (Post-F.Call xs dots) e = (_, _, call)
call_of (Post-F.CallReceiveChan t xs dots) e = (_, _, call_receive_type)
call_of l e = absurd (no_truth e)

-- a constant
abbrev pub IsConstantOperand : Operand → Type 0
IsConstantOperand r = (d : ConstTerm) × (v : Value) × (r ≡ constant_of d v)

no_constant : {P : Type 0} (ts : List Term) → is_constant (results_of ts).mode ≡ true → P
no_constant [] e = absurd (no_truth e)
no_constant (t ∷ []) e = absurd (no_truth e)
no_constant (t ∷ u ∷ ts) e = absurd (no_truth e)

module _ (E : Env) where
  constant_conversion : {o r : Operand} {t : Term} → Converts E o t r → is_constant r.mode ≡ true → IsConstantOperand r
  constant_conversion (converts_constant u i h c) e = (_, _, refl)
  constant_conversion (converts_inexact u i) e = absurd (no_truth e)
  constant_conversion (converts_value n t c) e = absurd (no_truth e)
  constant_conversion (converts_typed n c) e = absurd (no_truth e)
  constant_conversion (converts_untyped n d c) e = absurd (no_truth e)
  constant_conversion (converts_truth c) e = absurd (no_truth e)
  constant_conversion (converts_nil u) e = absurd (no_truth e)

  constant_builtin : {f : Predeclared} {es : List Expr} {dots : Bool} {r : Operand} → HasBuiltin E f es dots r → is_constant r.mode ≡ true → IsConstantOperand r
  constant_builtin (append_elements a h u b k) e = absurd (no_truth e)
  constant_builtin (append_slice a h u b k) e = absurd (no_truth e)
  constant_builtin (append_string a h u b k) e = absurd (no_truth e)
  constant_builtin (len_string a s k) e = (_, _, refl)
  constant_builtin (array_constant m a h y n k) e = (_, _, refl)
  constant_builtin (array_value m a h y n) e = absurd (no_truth e)
  constant_builtin (measure a c h m) e = absurd (no_truth e)
  constant_builtin (close a h u s) e = absurd (no_truth e)
  constant_builtin (copy_slice a h u b k d) e = absurd (no_truth e)
  constant_builtin (copy_string a h u b s) e = absurd (no_truth e)
  constant_builtin (delete a h u b k) e = absurd (no_truth e)
  constant_builtin (make a s m n) e = absurd (no_truth e)
  constant_builtin (new a) e = absurd (no_truth e)
  constant_builtin (panic a u) e = absurd (no_truth e)
  constant_builtin (print i a u) e = absurd (no_truth e)
  constant_builtin recover e = absurd (no_truth e)

  -- a call of a type is one of what is a type
  pub type_called : {o r : Operand} {l : PostLayer} {es : List Expr} {dots : Bool} → HasPost E o l r → IsCall l es dots → is_type o.mode ≡ true → (t : Term) × (o ≡ type_name t)
  type_called (post_field b h f) c e = elim c [ ]
  type_called (post_method b h m) c e = elim c [ ]
  type_called (post_method_expression b m) c e = elim c [ ]
  type_called (post_assertion h u t m) c e = elim c [ ]
  type_called (post_array h u a i b) c e = elim c [ ]
  type_called (post_array_pointer h u f a i b) c e = elim c [ ]
  type_called (post_slice_index h u a i) c e = elim c [ ]
  type_called (post_string s a i b) c e = elim c [ ]
  type_called (post_map h u a k) c e = elim c [ ]
  type_called (post_slice s a b d) c e = elim c [ ]
  type_called (post_full_slice s a b k d) c e = elim c [ ]
  type_called (post_conversion k h v) c e = (_, refl)
  type_called (post_call k h u a f) c e = absurd (no_truth (sym (typed_no_type h) ∙ e))
  type_called (post_builtin k b) c e = absurd (no_truth e)

  -- a call whose result is constant has a constant value
  pub constant_called : {o r : Operand} {l : PostLayer} {es : List Expr} {dots : Bool} → HasPost E o l r → IsCall l es dots → is_constant r.mode ≡ true → IsConstantOperand r
  constant_called (post_field b h f) c e = elim c [ ]
  constant_called (post_method b h m) c e = elim c [ ]
  constant_called (post_method_expression b m) c e = elim c [ ]
  constant_called (post_assertion h u t m) c e = elim c [ ]
  constant_called (post_array h u a i b) c e = elim c [ ]
  constant_called (post_array_pointer h u f a i b) c e = elim c [ ]
  constant_called (post_slice_index h u a i) c e = elim c [ ]
  constant_called (post_string s a i b) c e = elim c [ ]
  constant_called (post_map h u a k) c e = elim c [ ]
  constant_called (post_slice s a b d) c e = elim c [ ]
  constant_called (post_full_slice s a b k d) c e = elim c [ ]
  constant_called (post_conversion k h v) c e = constant_conversion v e
  constant_called (post_call {g = g} k h u a f) c e = no_constant _ e
  constant_called (post_builtin k b) c e = constant_builtin b e

-- a loud call
pub loud_parts : (o : Operand) (l : PostLayer) (r : Operand) → is_loud_call o l r ≡ true → (is_call l ≡ true) × (is_type o.mode ≡ false) × (is_constant r.mode ≡ false)
loud_parts o l r e = parts (is_call l) (is_type o.mode) (is_constant r.mode) e
  where
    parts : (a b c : Bool) → (a && (not b && not c)) ≡ true → (a ≡ true) × (b ≡ false) × (c ≡ false)
    parts true true c e = absurd (no_truth e)
    parts true false true e = absurd (no_truth e)
    parts true false false e = (refl, refl, refl)
    parts false b c e = absurd (no_truth e)

-- a quiet call
pub quiet_parts : (o : Operand) (l : PostLayer) (r : Operand) → is_loud_call o l r ≡ false → is_call l ≡ true → (is_type o.mode ≡ true) ⊎ (is_constant r.mode ≡ true)
quiet_parts o l r e k = parts (is_call l) (is_type o.mode) (is_constant r.mode) e k
  where
    parts : (a b c : Bool) → (a && (not b && not c)) ≡ false → a ≡ true → (b ≡ true) ⊎ (c ≡ true)
    parts true true c e k = inl refl
    parts true false true e k = inr refl
    parts true false false e k = absurd (no_truth (sym e))
    parts false b c e k = absurd (no_truth k)
