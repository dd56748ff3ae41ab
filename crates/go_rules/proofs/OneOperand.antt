-- An expression is one operand, and a type form stands for one type.
use Rattle.std.proofs.Common.{◌≡◌, ℕ, suc, Bool, false, List, [], ◌∷◌, ◌++◌, Option, refl, sym, ap, ◌∙◌, subst}
use Rattle.std.specs.Prelude.{max}
use Rattle.go_syntax.specs.go_base.declared.operator.CompareOp.{CompareOp}
use Rattle.go_syntax.specs.go_base.declared.operator.PrefixOperator.TheVariants as prefix
use Rattle.go_syntax.specs.go_base.declared.operator.ProductOperator.{ProductOperator}
use Rattle.go_syntax.specs.go_base.declared.operator.SumOperator.{SumOperator}
use Rattle.go_syntax.specs.go_base.Lists.{Has as In}
use Rattle.go_model.specs.declared.constants.value.BinaryOp.{BinaryOp}
use Rattle.go_model.specs.declared.types.term.Direction.TheVariants as direction
use Rattle.go_model.specs.declared.types.term.Field.{Field}
use Rattle.go_model.specs.declared.types.term.Method.{Method}
use Rattle.go_model.specs.declared.types.term.Signature.{Signature}
use Rattle.go_model.specs.declared.types.term.Term.{Term, Term-F, roll-Term}
use Rattle.go_model.specs.types.Terms.{pointer_to, slice_of}
use Rattle.go_rules.specs.Environments.{Env}
use Rattle.go_rules.specs.Expressions.{Has, has_operand, HasForm, has_int, has_rune, has_string, has_name, has_paren, has_type, has_receive_type, has_function, has_composite, has_composite_array, has_dereference, has_pointer_type, has_address, has_literal_address, has_receive, has_constant_prefix, has_prefix, has_or, has_and, has_compare, has_sum, has_product, has_primary, has_imported, HasLogical, logical_none, logical_more, HasComparisons, comparisons_none, comparisons_more, HasSum, sum_none, sum_more, HasProduct, product_none, product_more, HasPosts, posts_none, posts_more, HasPost, post_field, post_method, post_method_expression, post_assertion, post_array, post_array_pointer, post_slice_index, post_string, post_map, post_slice, post_full_slice, post_conversion, post_call, post_builtin, HasIndexed, indexed_none, indexed_more, indexed_keyed, HasBuiltin, append_elements, append_slice, append_string, len_string, array_constant, array_value, measure, close, copy_slice, copy_string, delete, make, new, panic, print, recover, HasEach, each_none, each_more, HasSizes, sizes_none, sizes_more, HasOptional, optional_none, optional_some, HasKeyed, keyed_none, keyed_more, IsIndex, HoldsNone, holds_none, IsQuietCall, quiet_conversion, quiet_constant, HoldsOne, holds_receive, holds_call, OfType, of_type, OfForm, of_name, of_paren, of_pointer, of_slice, of_array, of_map, of_channel, of_send_channel, of_receive_channel, of_function, of_struct, of_interface, OfSignature, signature_alone, signature_result, OfParameters, parameters_none, parameters_more, parameters_variadic, OfResult, result_parameters, result_type, OfFields, fields_none, fields_named, fields_embedded, OfMethods, methods_none, methods_method, methods_embedded, array_of, chain, channel_of, for_names, is_constant, is_type, product_operator, signature}
use Rattle.go_rules.specs.Nodes.{ExprLayer, PostLayer, TypeLayer, ResultLayer}
use Rattle.go_rules.specs.Operands.{function_of, plain, type_name}
use Rattle.go_rules.specs.declared.operand.Operand.{Operand}
use Rattle.go_rules.specs.declared.predeclared.Predeclared.{Predeclared}
use Rattle.go_rules.proofs.OneBuiltin.{one_fixed, one_append, one_make, one_new, one_len_string, one_measure, one_array_constant, one_array_value, prints_fixed}
use Rattle.go_rules.proofs.OneForm.{constant_prefix_is, dereference_is, no_package, one_prefix, receive_is, same_comparison, same_computes, same_product, value_prefix_is}
use Rattle.go_rules.proofs.OneKind.{no_truth}
use Rattle.go_rules.proofs.OneName.{none_some, one_denoted, one_type_name}
use Rattle.go_rules.proofs.OneOrder.{one_order}
use Rattle.go_rules.proofs.OnePost.{called, one_assertion, one_called_builtin, one_called_function, one_called_type, one_full_slice, one_indexed, one_selected, one_slice}
use Rattle.go_rules.proofs.OneResult.{one_index}
use Rattle.go_rules.proofs.OneType.{method_or_embedded, named_or_embedded, not_quiet, one_field_key, same_embedded, same_embedding, same_imported, same_key, same_method, same_named, same_number}
use Rattle.go_syntax.specs.declared.expression.Element.{Element}
use Rattle.go_syntax.specs.declared.expression.Expr.{Expr}
use Rattle.go_syntax.specs.declared.expression.Post.{Post}
use Rattle.go_syntax.specs.declared.types.FieldDecl.{FieldDecl}
use Rattle.go_syntax.specs.declared.types.FuncResult.{FuncResult}
use Rattle.go_syntax.specs.declared.types.InterfaceElem.{InterfaceElem}
use Rattle.go_syntax.specs.declared.types.ParameterDecl.{ParameterDecl, out-ParameterDecl}
use Rattle.go_syntax.specs.declared.types.«Type».{«Type» as Typ}

module _ (E : Env) where
  mutual
    pub has_once : {e : Expr} {x y : Operand} → Has E e x → Has E e y → x ≡ y
    has_once (has_operand a s) (has_operand b t) = form_once a b

    pub form_once : {l : ExprLayer} {x y : Operand} → HasForm E l x → HasForm E l y → x ≡ y
    form_once has_int has_int = refl
    form_once has_rune has_rune = refl
    form_once (has_string i) (has_string j) = refl
    form_once (has_name a) (has_name b) = one_denoted a b
    form_once (has_paren a) (has_paren b) = has_once a b
    form_once (has_type a) (has_type b) = ap type_name (type_once a b)
    form_once (has_receive_type a) (has_receive_type b) = ap (λ t. type_name (channel_of direction.ReceiveOnly t)) (type_once a b)
    form_once (has_function a) (has_function b) = ap (λ g. plain (function_of g)) (signature_once a b)
    form_once (has_composite a m) (has_composite b n) = ap plain (type_once a b)
    form_once (has_composite_array a m) (has_composite_array b n) = let t = type_once a b in let k = indexed_once m refl n in λ i. plain (array_of (k i) (t i))
    form_once (has_dereference a h e) q = one_prefix E prefix.Dereference (λ z g. has_once a g) (dereference_is E h e) q
    form_once (has_pointer_type a) q = one_prefix E prefix.Dereference (λ z g. has_once a g) refl q
    form_once (has_address a) q = one_prefix E prefix.Address (λ z g. has_once a g) refl q
    form_once (has_literal_address i a) q = one_prefix E prefix.Address (λ z g. has_once a g) refl q
    form_once (has_receive a h e d) q = one_prefix E prefix.Receive (λ z g. has_once a g) (receive_is E h e) q
    form_once (has_constant_prefix {op = op} {v = v} f a h e) q = one_prefix E op (λ z g. has_once a g) (constant_prefix_is E op v f h e) q
    form_once (has_prefix {op = op} f a b h k i) q = one_prefix E op (λ z g. has_once a g) (value_prefix_is E op f b h) q
    form_once (has_or a c) (has_or b d) = logical_once c (has_once a b) d
    form_once (has_and a c) (has_and b d) = logical_once c (has_once a b) d
    form_once (has_compare a c) (has_compare b d) = comparisons_once c (has_once a b) d
    form_once (has_sum a c) (has_sum b d) = sum_once c (has_once a b) d
    form_once (has_product a c) (has_product b d) = product_once c (has_once a b) d
    form_once (has_primary a c) (has_primary b d) = posts_once c (has_once a b) d
    form_once (has_primary a c) (has_imported e f d s p) = absurd (no_package a e d)
    form_once (has_imported e f d s p) (has_primary b c) = absurd (no_package b e d)
    form_once (has_imported {e = a} {x = x} e f d s p) (has_imported g h k t r) = posts_once p (same_imported E a x e f d g h k) r

    pub logical_once : {op : BinaryOp} {o p : Operand} {es : List Expr} {r s : Operand} → HasLogical E op o es r → o ≡ p → HasLogical E op p es s → r ≡ s
    logical_once logical_none y logical_none = y
    logical_once (logical_more a c r) y (logical_more b d s) = logical_once r (same_computes y (has_once a b) c d) s

    pub comparisons_once : {o p : Operand} {ops : List CompareOp} {es : List Expr} {r s : Operand} → HasComparisons E o ops es r → o ≡ p → HasComparisons E p ops es s → r ≡ s
    comparisons_once comparisons_none y comparisons_none = y
    comparisons_once (comparisons_more a c r) y (comparisons_more b d s) = comparisons_once r (same_comparison y (has_once a b) c d) s

    pub sum_once : {o p : Operand} {ops : List SumOperator} {es : List Expr} {r s : Operand} → HasSum E o ops es r → o ≡ p → HasSum E p ops es s → r ≡ s
    sum_once sum_none y sum_none = y
    sum_once (sum_more a c r) y (sum_more b d s) = sum_once r (same_computes y (has_once a b) c d) s

    pub product_once : {o p : Operand} {ops : List ProductOperator} {es : List Expr} {r s : Operand} → HasProduct E o ops es r → o ≡ p → HasProduct E p ops es s → r ≡ s
    product_once product_none y product_none = y
    product_once (product_more {op = op} a c r) y (product_more b d s) = product_once r (same_product E (product_operator op) y (has_once a b) c d) s

    pub posts_once : {o p : Operand} {xs : List Post} {r s : Operand} → HasPosts E o xs r → o ≡ p → HasPosts E p xs s → r ≡ s
    posts_once posts_none y posts_none = y
    posts_once (posts_more a w r) y (posts_more b z s) = posts_once r (post_once a y b) s

    pub post_once : {o p : Operand} {l : PostLayer} {r s : Operand} → HasPost E o l r → o ≡ p → HasPost E p l s → r ≡ s
    post_once (post_field b h f) y q = one_selected y (post_field b h f) q
    post_once (post_method b h m) y q = one_selected y (post_method b h m) q
    post_once (post_method_expression b m) y q = one_selected y (post_method_expression b m) q
    post_once (post_assertion h e t m) y q = one_assertion (λ v g. type_once t g) q
    post_once (post_array h e a i b) y q = one_indexed y (post_array h e a i b) q
    post_once (post_array_pointer h e f a i b) y q = one_indexed y (post_array_pointer h e f a i b) q
    post_once (post_slice_index h e a i) y q = one_indexed y (post_slice_index h e a i) q
    post_once (post_string n a i b) y q = one_indexed y (post_string n a i b) q
    post_once (post_map h e a u) y q = one_indexed y (post_map h e a u) q
    post_once (post_slice n a b i) y q = one_slice y (post_slice n a b i) q
    post_once (post_full_slice n a b c i) y q = one_full_slice y (post_full_slice n a b c i) q
    post_once (post_conversion c h v) y q = one_called_type (λ z g. has_once h g) v y (called c q)
    post_once (post_call c h e a f) y q = one_called_function h e y (called c q)
    post_once (post_builtin c b) y q = one_called_builtin (λ z g. builtin_once b g) y (called c q)

    pub indexed_once : {t u : Term} {l k : Option ℕ} {a b : ℕ} {xs : List Element} {m n : ℕ} → HasIndexed E t l a xs m → a ≡ b → HasIndexed E u k b xs n → m ≡ n
    indexed_once indexed_none y indexed_none = refl
    indexed_once (indexed_more k r b f x) y (indexed_more j s c g z) = let q = indexed_once x (ap suc y) z in λ i. max (suc (y i)) (q i)
    indexed_once (indexed_more k r b f x) y (indexed_keyed j e a i c g z) = absurd (none_some (sym k ∙ j))
    indexed_once (indexed_keyed k e a i b f x) y (indexed_more j s c g z) = absurd (none_some (sym j ∙ k))
    indexed_once (indexed_keyed k e a i b f x) y (indexed_keyed j d h n c g z) =
        let p = same_key k e (λ q g. has_once a g) i j d h n in let q = indexed_once x (ap suc p) z in λ i. max (suc (p i)) (q i)

    pub builtin_once : {f : Predeclared} {es : List Expr} {dots : Bool} {r s : Operand} → HasBuiltin E f es dots r → HasBuiltin E f es dots s → r ≡ s
    builtin_once (append_elements a h e b u) q = one_append (λ z g. has_once a g) h q
    builtin_once (append_slice a h e b u) q = one_append (λ z g. has_once a g) h q
    builtin_once (append_string a h e b u) q = one_append (λ z g. has_once a g) h q
    builtin_once (len_string a i n) q = one_len_string (λ z g. has_once a g) i q
    builtin_once (array_constant m a h y n k) q = one_array_constant (λ z g. has_once a g) h y (λ g. none_one n g) m q
    builtin_once (array_value m a h y n) q = one_array_value (λ z g. has_once a g) h y (λ g. one_none n g) m q
    builtin_once (measure a c h m) q = one_measure (λ z g. has_once a g) c h m q
    builtin_once (close a h e s) q = one_fixed refl (close a h e s) q
    builtin_once (copy_slice a h e b g d) q = one_fixed refl (copy_slice a h e b g d) q
    builtin_once (copy_string a h e b s) q = one_fixed refl (copy_string a h e b s) q
    builtin_once (delete a h e b u) q = one_fixed refl (delete a h e b u) q
    builtin_once (make a s m n) q = one_make (λ z g. has_once a g) q
    builtin_once (new a) q = one_new (λ z g. has_once a g) q
    builtin_once (panic a u) q = one_fixed refl (panic a u) q
    builtin_once (print {f = f} i a u) q = one_fixed (prints_fixed f i) (print i a u) q
    builtin_once recover q = one_fixed refl recover q

    none_one : {e : Expr} → HoldsNone E e → HoldsOne E e → ⊥
    none_one (holds_none f g) (holds_receive x s i) = no_truth (sym i ∙ f x s)
    none_one (holds_none f g) (holds_call y x before c s k a i b j) = quiet_once (g y x before c s k) a i b j

    quiet_once : {x : Expr} {before : List Post} {c : Post} {o r : Operand} → IsQuietCall E x before c → HasForm E (chain x before) o → is_type o.mode ≡ false → HasForm E (chain x (before ++ c ∷ [])) r → is_constant r.mode ≡ false → ⊥
    quiet_once (quiet_conversion a) b i d j = no_truth (ap (λ (o : Operand). is_type o.mode) (form_once a b) ∙ i)
    quiet_once (quiet_constant a) b i d j = no_truth (ap (λ (o : Operand). is_constant o.mode) (form_once a d) ∙ j)

    one_none : {e : Expr} → HoldsOne E e → HoldsNone E e → ⊥
    one_none (holds_receive x s i) (holds_none f g) = no_truth (sym i ∙ f x s)
    one_none (holds_call y x before c s k a i b j) (holds_none f g) = not_quiet (λ q h. form_once a h) i (λ q h. form_once b h) j (g y x before c s k)

    pub type_once : {t : Typ} {u v : Term} → OfType E t u → OfType E t v → u ≡ v
    type_once (of_type a s) (of_type b t) = of_once a b

    pub of_once : {l : TypeLayer} {u v : Term} → OfForm E l u → OfForm E l v → u ≡ v
    of_once (of_name {q = q} a) (of_name b) = one_type_name E q a b
    of_once (of_paren a) (of_paren b) = type_once a b
    of_once (of_pointer a) (of_pointer b) = ap pointer_to (type_once a b)
    of_once (of_slice a) (of_slice b) = ap slice_of (type_once a b)
    of_once (of_array h r a) (of_array k s b) = let n = same_number (has_once h k) in let t = type_once a b in λ i. array_of (n i) (t i)
    of_once (of_map a c) (of_map b d) = let k = type_once a b in let t = type_once c d in λ i. roll-Term (Term-F.Map (k i) (t i))
    of_once (of_channel a) (of_channel b) = ap (channel_of direction.Both) (type_once a b)
    of_once (of_send_channel a) (of_send_channel b) = ap (channel_of direction.SendOnly) (type_once a b)
    of_once (of_receive_channel a) (of_receive_channel b) = ap (channel_of direction.ReceiveOnly) (type_once a b)
    of_once (of_function a) (of_function b) = ap function_of (signature_once a b)
    of_once (of_struct a) (of_struct b) = ap (λ fs. roll-Term (Term-F.Struct fs)) (fields_once a b)
    of_once (of_interface ms all a s f g) (of_interface ns both b t h k) =
        let p = methods_once a b in
        ap (λ l. roll-Term (Term-F.Interface l)) (one_order ms ns s t (λ m i. k m (subst (λ z. In z m) p (f m i))) (λ m i. g m (subst (λ z. In z m) (sym p) (h m i))))

    pub signature_once : {ds : List ParameterDecl} {r : Option FuncResult} {g h : Signature} → OfSignature E ds r g → OfSignature E ds r h → g ≡ h
    signature_once (signature_alone a) (signature_alone b) = let p = parameters_once a b in λ i. signature (p.0 i) (p.1 i) []
    signature_once (signature_result a c) (signature_result b d) = let p = parameters_once a b in let q = result_once c d in λ i. signature (p.0 i) (p.1 i) (q i)

    pub parameters_once : {ds : List ParameterDecl} {ts us : List Term} {v w : Bool} → OfParameters E ds ts v → OfParameters E ds us w → (ts ≡ us) × (v ≡ w)
    parameters_once parameters_none parameters_none = (refl, refl)
    parameters_once (parameters_more {d = d} f a p) (parameters_more g b q) =
        let t = type_once a b in let r = parameters_once p q in ((λ i. for_names (out-ParameterDecl d).names (t i) ++ r.0 i), r.1)
    parameters_once (parameters_more f a p) (parameters_variadic g l b) = absurd (no_truth (sym g ∙ f))
    parameters_once (parameters_variadic f l a) (parameters_more g b q) = absurd (no_truth (sym f ∙ g))
    parameters_once (parameters_variadic f l a) (parameters_variadic g k b) = (ap (λ t. slice_of t ∷ []) (type_once a b), refl)

    pub result_once : {l : ResultLayer} {ts us : List Term} → OfResult E l ts → OfResult E l us → ts ≡ us
    result_once (result_parameters a) (result_parameters b) = (parameters_once a b).0
    result_once (result_type a) (result_type b) = ap (λ t. t ∷ []) (type_once a b)

    pub fields_once : {ds : List FieldDecl} {fs gs : List Field} → OfFields E ds fs → OfFields E ds gs → fs ≡ gs
    fields_once fields_none fields_none = refl
    fields_once (fields_named e a p) (fields_named d b q) = same_named e (λ v g. type_once a g) d b (fields_once p q)
    fields_once (fields_named e a p) (fields_embedded u d b q) = absurd (named_or_embedded e d)
    fields_once (fields_embedded u e a p) (fields_named d b q) = absurd (named_or_embedded d e)
    fields_once (fields_embedded u e a p) (fields_embedded v d b q) = same_embedded E u v e a d b (fields_once p q)

    pub methods_once : {xs : List InterfaceElem} {ms ns : List Method} → OfMethods E xs ms → OfMethods E xs ns → ms ≡ ns
    methods_once methods_none methods_none = refl
    methods_once (methods_method e a p) (methods_method d b q) = same_method e (λ w g. signature_once a g) d b (methods_once p q)
    methods_once (methods_method e a p) (methods_embedded u d b s q) = absurd (method_or_embedded e d)
    methods_once (methods_embedded u e a r p) (methods_method d b q) = absurd (method_or_embedded d e)
    methods_once (methods_embedded u e a r p) (methods_embedded v d b s q) = same_embedding E u v e a r d b s (methods_once p q)

  -- ---- lists of expressions

  pub each_once : {es : List Expr} {os ps : List Operand} → HasEach E es os → HasEach E es ps → os ≡ ps
  each_once each_none each_none = refl
  each_once (each_more a x) (each_more b y) = let p = has_once a b in let q = each_once x y in λ i. p i ∷ q i

  index_same : {o q : Operand} {c d : Option ℕ} → o ≡ q → IsIndex E o c → IsIndex E q d → c ≡ d
  index_same {d = d} e i j = one_index i (subst (λ z. IsIndex E z d) (sym e) j)

  pub sizes_once : {es : List Expr} {ms ns : List (Option ℕ)} → HasSizes E es ms → HasSizes E es ns → ms ≡ ns
  sizes_once sizes_none sizes_none = refl
  sizes_once (sizes_more a i x) (sizes_more b j y) = let p = index_same (has_once a b) i j in let q = sizes_once x y in λ k. p k ∷ q k

  pub optional_once : {e : Option Expr} {c d : Option ℕ} → HasOptional E e c → HasOptional E e d → c ≡ d
  optional_once optional_none optional_none = refl
  optional_once (optional_some a i) (optional_some b j) = index_same (has_once a b) i j

  pub keyed_once : {fs : List Field} {xs : List Element} {ms ns : List (List ℕ)} → HasKeyed E fs xs ms → HasKeyed E fs xs ns → ms ≡ ns
  keyed_once keyed_none keyed_none = refl
  keyed_once (keyed_more f h b i s v a u x) (keyed_more g k c j t w d z y) = let p = one_field_key h k in let q = keyed_once x y in λ i. (p i).text ∷ q i

  pub quiet_or_loud : {e : Expr} → HoldsNone E e → HoldsOne E e → ⊥
  quiet_or_loud a b = none_one a b
