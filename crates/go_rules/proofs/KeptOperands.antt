-- The constant that an expression is has a value of its kind, where the constants that names mean have.
use Rattle.std.proofs.Common.{◌≡◌, ℕ, Bool, true, List, [], ◌∷◌, Option, Some, None, refl, ap, subst}
use Rattle.std.specs.Prelude.{pos}
use Rattle.go_syntax.specs.go_base.declared.operator.CompareOp.{CompareOp}
use Rattle.go_syntax.specs.go_base.declared.operator.ProductOperator.{ProductOperator}
use Rattle.go_syntax.specs.go_base.declared.operator.SumOperator.{SumOperator}
use Rattle.go_model.specs.constants.Constants.{is_of, is_representable}
use Rattle.go_model.specs.declared.constants.value.Basic.TheVariants as basic
use Rattle.go_model.specs.declared.constants.value.BinaryOp.{BinaryOp}
use Rattle.go_model.specs.declared.constants.value.Kind.TheVariants as kind
use Rattle.go_model.specs.declared.constants.value.Untyped.TheVariants as untyped
use Rattle.go_model.specs.declared.constants.value.Value.TheVariants as value
use Rattle.go_model.specs.declared.types.package.ConstTerm.{ConstTerm}
use Rattle.go_model.specs.declared.types.package.ConstTerm.TheVariants as constant
use Rattle.go_model.specs.declared.types.package.Entity.{Entity}
use Rattle.go_model.specs.declared.types.package.Entity.TheVariants as entity
use Rattle.go_model.specs.declared.types.term.Signature.{out-Signature}
use Rattle.go_model.specs.declared.types.term.Term.{Term, Term-F, out-roll-Term}
use Rattle.go_model.specs.types.Underlying.{under_layer}
use Rattle.go_rules.specs.Environments.{Env}
use Rattle.go_rules.specs.Expressions.{Computes, computes_constant, computes_value, Converts, converts_constant, converts_inexact, converts_value, converts_typed, converts_untyped, converts_truth, converts_nil, DenotesImported, Has, has_operand, HasForm, has_int, has_rune, has_string, has_name, has_paren, has_type, has_receive_type, has_function, has_composite, has_composite_array, has_dereference, has_pointer_type, has_address, has_literal_address, has_receive, has_constant_prefix, has_prefix, has_or, has_and, has_compare, has_sum, has_product, has_primary, has_imported, HasBuiltin, append_elements, append_slice, append_string, len_string, array_constant, array_value, measure, close, copy_slice, copy_string, delete, make, new, panic, print, recover, HasComparisons, comparisons_none, comparisons_more, HasLogical, logical_none, logical_more, HasPost, post_field, post_method, post_method_expression, post_assertion, post_array, post_array_pointer, post_slice_index, post_string, post_map, post_slice, post_full_slice, post_conversion, post_call, post_builtin, HasPosts, posts_none, posts_more, HasProduct, product_none, product_more, HasSum, sum_none, sum_more, IsComparison, comparison_constant, comparison_equality, comparison_order, ProductComputes, ProductKind, arithmetic, shift, Shifts, shifts_constant, shifts_value, Slices, slices_string, slices_untyped, slices_array, slices_array_pointer, slices_slice, int_constant, product_operator, results_of, seen_operand}
use Rattle.go_rules.specs.KeptConstants.{ConstantsKept, ShapeKept}
use Rattle.go_rules.specs.Nodes.{ExprLayer, PostLayer}
use Rattle.go_rules.specs.Operands.{basic_term, computed, denoted, kind_of_type, kind_of_untyped}
use Rattle.go_rules.specs.Universe.{predeclared_operand}
use Rattle.go_rules.specs.declared.operand.Operand.{Operand}
use Rattle.go_rules.specs.declared.predeclared.Predeclared.{Predeclared}
use Rattle.go_rules.specs.declared.predeclared.Predeclared.TheVariants as p
use Rattle.go_rules.specs.declared.seen.Seen.{Seen}
use Rattle.go_rules.specs.declared.seen.Seen.TheVariants as seen
use Rattle.go_rules.proofs.KeptConstants.{binary_of, converted_of, shift_of, unary_of}
use Rattle.go_rules.proofs.OneName.{none_some, one_some}
use Rattle.go_syntax.specs.declared.expression.Expr.{Expr}
use Rattle.go_syntax.specs.declared.expression.Post.{Post}
use Rattle.go_syntax.specs.declared.name.Name.{Name}

-- the operand, where it is a constant, has a value of its kind
abbrev pub Keeps : Env → Operand → Type 0
Keeps E o = ShapeKept E o.shape

module _ (E : Env) (w : ConstantsKept E) where
  moved : {o q : Operand} → Some o ≡ Some q → Keeps E o → Keeps E q
  moved e h = subst (Keeps E) (one_some e) h

  iota_kept : (n : Option ℕ) (o : Operand) → predeclared_operand n p.Iota ≡ Some o → Keeps E o
  unfolding is_of
  iota_kept None o e = absurd (none_some e)
  iota_kept (Some n) o e = moved e (kind.Loose untyped.IntKind, kind_of_untyped, refl)

  predeclared_kept : (n : Option ℕ) (u : Predeclared) (o : Operand) → predeclared_operand n u ≡ Some o → Keeps E o
  unfolding is_of
  predeclared_kept n p.True o e = moved e (kind.Loose untyped.BoolKind, kind_of_untyped, refl)
  predeclared_kept n p.False o e = moved e (kind.Loose untyped.BoolKind, kind_of_untyped, refl)
  predeclared_kept n p.Iota o e = iota_kept n o e
  predeclared_kept n u o e = moved e tt

  seen_kept : (name : List ℕ) (s : Seen) (o : Operand) → E.meaning name ≡ Some s → seen_operand E.iota s ≡ Some o → Keeps E o
  seen_kept name (seen.Local t) o m e = moved e tt
  seen_kept name (seen.LocalConst c v) o m e = moved e (w.local name c v m)
  seen_kept name (seen.Object (entity.Const c v)) o m e = moved e (w.own name c v m)
  seen_kept name (seen.Object (entity.Var t)) o m e = moved e tt
  seen_kept name (seen.Object (entity.Function g)) o m e = moved e tt
  seen_kept name (seen.Object (entity.TypeOf t)) o m e = moved e tt
  seen_kept name (seen.Import path) o m e = absurd (none_some e)
  seen_kept name (seen.Universe u) o m e = predeclared_kept E.iota u o e

  object_kept : (path name : List ℕ) (x : Entity) → E.object path name ≡ Some x → Keeps E (denoted x)
  object_kept path name (entity.Const c v) m = w.imported path name c v m
  object_kept path name (entity.Var t) m = tt
  object_kept path name (entity.Function g) m = tt
  object_kept path name (entity.TypeOf t) m = tt

  imported_kept : {q n : Name} {o : Operand} → DenotesImported E q n o → Keeps E o
  imported_kept {n = n} d = subst (Keeps E) d.denotes (object_kept d.path n.text d.object d.declared)

  computed_kept : (c : ConstTerm) → Keeps E (computed c)
  computed_kept (constant.OfTerm t) = tt
  computed_kept (constant.OfKind k) = tt

  computes_kept : {op : BinaryOp} {o q r : Operand} → Computes E op o q r → Keeps E r
  computes_kept {op = op} (computes_constant {v = u} {w = v} {z = z} {k = k} m h e) = (k, h, binary_of op u v k E.bits z e)
  computes_kept (computes_value {d = d} f m h a z) = computed_kept d

  shifts_kept : {left : Bool} {o q r : Operand} → Shifts E left o q r → Keeps E r
  shifts_kept {left = left} (shifts_constant {x = x} {w = v} {z = z} {k = k} h n e) = (k, h, shift_of left x v k E.bits z e)
  shifts_kept (shifts_value f h e i n) = tt

  product_kept : (k : ProductKind) (o q r : Operand) → ProductComputes E k o q r → Keeps E r
  product_kept (shift left) o q r a = shifts_kept a
  product_kept (arithmetic op) o q r a = computes_kept a

  comparison_kept : {op : CompareOp} {o q r : Operand} → IsComparison E op o q r → Keeps E r
  unfolding is_of
  comparison_kept (comparison_constant m h a e) = (kind.Loose untyped.BoolKind, kind_of_untyped, refl)
  comparison_kept (comparison_equality f q e) = tt
  comparison_kept (comparison_order f q m h a) = tt

  converts_kept : {o r : Operand} {t : Term} → Converts E o t r → Keeps E r
  converts_kept (converts_constant {v = v} {w = z} {t = t} {b = b} {k = k} e i h x) = (kind.Typed b, kind_of_type e, converted_of v k b E.bits z i x)
  converts_kept (converts_inexact e i) = tt
  converts_kept (converts_value f h a) = tt
  converts_kept (converts_typed i a) = tt
  converts_kept (converts_untyped i d a) = tt
  converts_kept (converts_truth a) = tt
  converts_kept (converts_nil u) = tt

  int_kept : (n : ℕ) → is_representable (value.Int (pos n)) basic.Int E.bits ≡ true → Keeps E (int_constant n)
  unfolding is_of
  int_kept n h = (kind.Typed basic.Int, kind_of_type {t = basic_term basic.Int} {b = basic.Int} (ap (under_layer E.table) (out-roll-Term (Term-F.Plain basic.Int))), h)

  builtin_kept : {f : Predeclared} {es : List Expr} {dots : Bool} {r : Operand} → HasBuiltin E f es dots r → Keeps E r
  builtin_kept (append_elements a h e b u) = tt
  builtin_kept (append_slice a h e b u) = tt
  builtin_kept (append_string a h e b u) = tt
  builtin_kept (len_string {n = n} a i h) = int_kept n h
  builtin_kept (array_constant {n = n} m a h y x i) = int_kept n i
  builtin_kept (array_value m a h y x) = tt
  builtin_kept (measure a c h m) = tt
  builtin_kept (close a h e s) = tt
  builtin_kept (copy_slice a h e b g d) = tt
  builtin_kept (copy_string a h e b s) = tt
  builtin_kept (delete a h e b u) = tt
  builtin_kept (make a s m n) = tt
  builtin_kept (new a) = tt
  builtin_kept (panic a u) = tt
  builtin_kept (print i a u) = tt
  builtin_kept recover = tt

  sliced_kept : {simple : Bool} {o r : Operand} {n : Option ℕ} → Slices E simple o n r → Keeps E r
  sliced_kept (slices_string s h i) = tt
  sliced_kept (slices_untyped s) = tt
  sliced_kept (slices_array e) = tt
  sliced_kept (slices_array_pointer h e f) = tt
  sliced_kept (slices_slice h e) = tt

  results_kept : (ts : List Term) → Keeps E (results_of ts)
  results_kept [] = tt
  results_kept (t ∷ []) = tt
  results_kept (t ∷ u ∷ ts) = tt

  pub post_kept : {o r : Operand} {l : PostLayer} → HasPost E o l r → Keeps E r
  post_kept (post_field b h f) = tt
  post_kept (post_method b h m) = tt
  post_kept (post_method_expression b m) = tt
  post_kept (post_assertion h e t m) = tt
  post_kept (post_array h e a i b) = tt
  post_kept (post_array_pointer h e f a i b) = tt
  post_kept (post_slice_index h e a i) = tt
  post_kept (post_string n a i b) = tt
  post_kept (post_map h e a u) = tt
  post_kept (post_slice n a b i) = sliced_kept n
  post_kept (post_full_slice n a b c i) = sliced_kept n
  post_kept (post_conversion c h v) = converts_kept v
  post_kept (post_call {g = g} c h e a f) = results_kept (out-Signature g).results
  post_kept (post_builtin c b) = builtin_kept b

  pub posts_kept : {o r : Operand} {xs : List Post} → HasPosts E o xs r → Keeps E o → Keeps E r
  posts_kept posts_none h = h
  posts_kept (posts_more a s x) h = posts_kept x (post_kept a)

  logical_kept : {op : BinaryOp} {o r : Operand} {es : List Expr} → HasLogical E op o es r → Keeps E o → Keeps E r
  logical_kept logical_none h = h
  logical_kept (logical_more a c x) h = logical_kept x (computes_kept c)

  comparisons_kept : {o r : Operand} {ops : List CompareOp} {es : List Expr} → HasComparisons E o ops es r → Keeps E o → Keeps E r
  comparisons_kept comparisons_none h = h
  comparisons_kept (comparisons_more a c x) h = comparisons_kept x (comparison_kept c)

  sums_kept : {o r : Operand} {ops : List SumOperator} {es : List Expr} → HasSum E o ops es r → Keeps E o → Keeps E r
  sums_kept sum_none h = h
  sums_kept (sum_more a c x) h = sums_kept x (computes_kept c)

  products_kept : {o r : Operand} {ops : List ProductOperator} {es : List Expr} → HasProduct E o ops es r → Keeps E o → Keeps E r
  products_kept product_none h = h
  products_kept (product_more {o = o} {q = q} {r = r} {op = op} a c x) h = products_kept x (product_kept (product_operator op) o q r c)

  mutual
    unfolding is_of

    pub has_kept : {e : Expr} {o : Operand} → Has E e o → Keeps E o
    has_kept (has_operand a s) = form_kept a

    pub form_kept : {l : ExprLayer} {o : Operand} → HasForm E l o → Keeps E o
    form_kept has_int = (kind.Loose untyped.IntKind, kind_of_untyped, refl)
    form_kept has_rune = (kind.Loose untyped.RuneKind, kind_of_untyped, refl)
    form_kept (has_string i) = (kind.Loose untyped.StrKind, kind_of_untyped, refl)
    form_kept (has_name {n = n} {o = o} d) = seen_kept n.text d.meaning o d.means d.denotes
    form_kept (has_paren a) = has_kept a
    form_kept (has_type t) = tt
    form_kept (has_receive_type t) = tt
    form_kept (has_function g) = tt
    form_kept (has_composite t x) = tt
    form_kept (has_composite_array t x) = tt
    form_kept (has_dereference a h e) = tt
    form_kept (has_pointer_type a) = tt
    form_kept (has_address a) = tt
    form_kept (has_literal_address i a) = tt
    form_kept (has_receive a h e r) = tt
    form_kept (has_constant_prefix {u = u} {v = v} {w = z} {k = k} f a h e) = (k, h, unary_of u v k E.bits z e)
    form_kept (has_prefix {c = c} f a b h k i) = computed_kept c
    form_kept (has_or a c) = logical_kept c (has_kept a)
    form_kept (has_and a c) = logical_kept c (has_kept a)
    form_kept (has_compare a c) = comparisons_kept c (has_kept a)
    form_kept (has_sum a c) = sums_kept c (has_kept a)
    form_kept (has_product a c) = products_kept c (has_kept a)
    form_kept (has_primary a c) = posts_kept c (has_kept a)
    form_kept (has_imported e f d s x) = posts_kept x (imported_kept d)
