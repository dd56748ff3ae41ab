-- Operators and indices of a client on both sides.
use Rattle.std.proofs.Common.{◌≡◌, ◌⊎◌, inl, inr, ℕ, Bool, true, false, ◌&&◌, List, refl, sym, ap, ◌∙◌, subst, Option, Some, None}
use Rattle.std.specs.Prelude.{pos}
use Rattle.go_base.specs.declared.operator.CompareOp.{CompareOp}
use Rattle.go_model.specs.constants.Classes.{class_of, is_integer}
use Rattle.go_model.specs.constants.Constants.{binary_value, is_representable, shift_value}
use Rattle.go_model.specs.declared.constants.value.Basic.{Basic}
use Rattle.go_model.specs.declared.constants.value.Basic.TheVariants as basic
use Rattle.go_model.specs.declared.constants.value.BinaryOp.{BinaryOp}
use Rattle.go_model.specs.declared.constants.value.Untyped.TheVariants as untyped
use Rattle.go_model.specs.declared.constants.value.Value.{Value}
use Rattle.go_model.specs.declared.constants.value.Value.TheVariants as value
use Rattle.go_model.specs.declared.types.names.Sel.{Sel}
use Rattle.go_model.specs.declared.types.names.TypeName.{TypeName}
use Rattle.go_model.specs.declared.types.package.ConstTerm.{ConstTerm}
use Rattle.go_model.specs.declared.types.package.ConstTerm.TheVariants as constant
use Rattle.go_model.specs.declared.types.term.Term.{Term, Term-F}
use Rattle.go_model.specs.types.Underlying.{under}
use Rattle.go_rules.specs.Environments.{Env}
use Rattle.go_rules.specs.Expressions.{Computes, computes_constant, computes_value, Equates, equates_right, equates_left, equates_untyped_left, equates_untyped_right, equates_kinds, equates_nil_left, equates_nil_right, IsArray, array_itself, array_pointer, IsComparison, comparison_constant, comparison_equality, comparison_order, IsCount, count_value, count_typed, count_untyped, IsIndex, index_value, index_typed, index_untyped, IsString, string_value, string_typed, string_untyped, ProductComputes, ProductKind, arithmetic, shift, Shifts, shifts_constant, shifts_value, divides, is_constant, is_zero_constant}
use Rattle.go_rules.specs.Operands.{computed, constant_of, loose, nil, plain}
use Rattle.go_rules.specs.declared.operand.Operand.{Operand}
use Rattle.go_type_images.specs.EntryImages.{const_to}
use Rattle.go_type_images.specs.Images.{Naming, image, same_sels}
use Rattle.go_type_images.specs.declared.pair.TypePair.{TypePair}
use Rattle.go_client_types.specs.Following.{After, addressable, after_bare, after_constant, after_tuple, after_value, same_mode}
use Rattle.go_client_types.specs.Keeping.{Keeps}
use Rattle.go_client_types.specs.Reached.{ConstReached, IsReached}
use Rattle.go_client_types.proofs.Assigning.{match_kept, usable_kept}
use Rattle.go_client_types.proofs.Operands.{kind_kept, typed_after, untyped_after}
use Rattle.go_client_types.proofs.Relations.{compares}
use Rattle.go_client_types.proofs.Views.{form_kept}

module _ (r : Naming) (pairs : List TypePair) (std : TypeName → Bool) (is_open : Sel → Bool) where
  abbrev pub A : Operand → Operand → Type 0
  A = After r pairs std is_open

  -- an operand stays constant or not, and 0 or not
  pub constant_mode : {o p : Operand} → A o p → is_constant p.mode ≡ is_constant o.mode
  constant_mode (after_value same_mode h) = refl
  constant_mode (after_value addressable h) = refl
  constant_mode (after_constant h) = refl
  constant_mode (after_tuple h) = refl
  constant_mode (after_bare h) = refl

  zero_after : {o p : Operand} → A o p → is_zero_constant p.shape ≡ is_zero_constant o.shape
  zero_after (after_value b h) = refl
  zero_after (after_constant h) = refl
  zero_after (after_tuple h) = refl
  zero_after (after_bare h) = refl

  not_both : {l o m p : Operand} → A l m → A o p → (is_constant l.mode && is_constant o.mode) ≡ false → (is_constant m.mode && is_constant p.mode) ≡ false
  not_both a b e = (λ i. constant_mode a i && constant_mode b i) ∙ e

  pub computed_after : (d : ConstTerm) → ConstReached pairs std is_open d → A (computed d) (computed (const_to r d))
  computed_after (constant.OfTerm t) h = after_value same_mode h
  computed_after (constant.OfKind k) h = after_bare tt

module _ (E F : Env) (r : Naming) (pairs : List TypePair) (std : TypeName → Bool) (is_open : Sel → Bool) (K : Keeps E F r pairs std is_open) where
  abbrev to : Term → Term
  to = image r same_sels

  abbrev R : Term → Type 0
  R = IsReached pairs std is_open

  abbrev B : Operand → Operand → Type 0
  B = After r pairs std is_open

  plain_form : (t : Term) (b : Basic) → R t → under E.table t ≡ Term-F.Plain b → under F.table (to t) ≡ Term-F.Plain b
  plain_form t b h e = (form_kept E F r pairs std is_open K t (Term-F.Plain b) h refl e).0

  same_bits : (v : Value) (b : Basic) → is_representable v b E.bits ≡ true → is_representable v b F.bits ≡ true
  same_bits v b e = subst (λ n. is_representable v b n ≡ true) (sym K.bits) e

  -- ---- counts, indices, strings and arrays

  pub count_kept : {o p : Operand} {v : Option Value} → B o p → IsCount E o v → IsCount F p v
  count_kept a (count_value {t = t} {b = b} c x u i) = let f = typed_after r pairs std is_open a x in count_value (constant_mode r pairs std is_open a ∙ c) f.0 (plain_form t b f.1 u) i
  count_kept (after_constant h) (count_typed {t = t} {b = b} u i) = count_typed (plain_form t b h u) i
  count_kept (after_bare h) (count_typed u i) = absurd h
  count_kept (after_constant h) (count_untyped {n = n} e) = count_untyped (same_bits (value.Int (pos n)) basic.Uint e)
  count_kept (after_bare h) (count_untyped e) = absurd h

  pub index_kept : {o p : Operand} {n : Option ℕ} → B o p → IsIndex E o n → IsIndex F p n
  index_kept a (index_value {t = t} {b = b} c x u i) = let f = typed_after r pairs std is_open a x in index_value (constant_mode r pairs std is_open a ∙ c) f.0 (plain_form t b f.1 u) i
  index_kept (after_constant h) (index_typed {t = t} {b = b} {n = n} u i e) = index_typed (plain_form t b h u) i (same_bits (value.Int (pos n)) basic.Int e)
  index_kept (after_bare h) (index_typed u i e) = absurd h
  index_kept (after_constant h) (index_untyped {n = n} e) = index_untyped (same_bits (value.Int (pos n)) basic.Int e)
  index_kept (after_bare h) (index_untyped e) = absurd h

  pub string_kept : {o p : Operand} {n : Option ℕ} → B o p → IsString E o n → IsString F p n
  string_kept a (string_value {t = t} c x u) = let f = typed_after r pairs std is_open a x in string_value (constant_mode r pairs std is_open a ∙ c) f.0 (plain_form t basic.Str f.1 u)
  string_kept (after_constant h) (string_typed {t = t} u) = string_typed (plain_form t basic.Str h u)
  string_kept (after_bare h) (string_typed u) = absurd h
  string_kept (after_constant h) string_untyped = string_untyped
  string_kept (after_bare h) string_untyped = absurd h

  pub array_kept : {t e : Term} {pointer : Bool} {n : ℕ} → R t → IsArray E t pointer n e → IsArray F (to t) pointer n (to e) × R e
  array_kept {t = t} {e = e} h (array_itself {n = n} u) = let f = form_kept E F r pairs std is_open K t (Term-F.Array n e) h refl u in (array_itself f.0, f.1 e (inl refl))
  array_kept {t = t} {e = e} h (array_pointer {n = n} {base = base} u v) =
      let f = form_kept E F r pairs std is_open K t (Term-F.Pointer base) h refl u in
      let g = form_kept E F r pairs std is_open K base (Term-F.Array n e) (f.1 base (inl refl)) refl v in
      (array_pointer f.0 g.0, g.1 e (inl refl))

  -- ---- operators

  pub computes_kept : {op : BinaryOp} {l o s m p : Operand} → B l m → B o p → Computes E op l o s → (z : Operand) × Computes F op m p z × B s z
  computes_kept {op = op} (after_constant h) (after_constant g) (computes_constant {b = b} {c = c} {d = d} {v = v} {w = w} {z = z} {k = k} x y e) =
      let f = match_kept E F r pairs std is_open K (after_constant {c = b} {v = v} h) (after_constant {c = c} {v = w} g) x in
      (constant_of (const_to r d) z, computes_constant f.0 (kind_kept E F r pairs std is_open K f.1 y) (subst (λ n. binary_value op v w k n ≡ Some z) (sym K.bits) e), after_constant f.1)
  computes_kept (after_bare h) b (computes_constant x y e) = absurd h
  computes_kept (after_constant h) (after_bare g) (computes_constant x y e) = absurd g
  computes_kept {op = op} a b (computes_value {d = d} {k = k} n x y i e) =
      let f = match_kept E F r pairs std is_open K a b x in
      (computed (const_to r d), computes_value (not_both r pairs std is_open a b n) f.0 (kind_kept E F r pairs std is_open K f.1 y) i (ap (λ z. (divides op && is_integer (class_of k)) && z) (zero_after r pairs std is_open b) ∙ e), computed_after r pairs std is_open d f.1)

  no_count : {l m : Operand} {w : Option Value} → B l m → (is_constant l.mode ≡ false) ⊎ (w ≡ None) → (is_constant m.mode ≡ false) ⊎ (w ≡ None)
  no_count a (inl e) = inl (constant_mode r pairs std is_open a ∙ e)
  no_count a (inr e) = inr e

  shifts_kept : {left : Bool} {l o s m p : Operand} → B l m → B o p → Shifts E left l o s → (z : Operand) × Shifts F left m p z × B s z
  shifts_kept {left = left} (after_constant h) b (shifts_constant {c = c} {x = x} {w = w} {z = z} {k = k} y n e) =
      (constant_of (const_to r c) z, shifts_constant (kind_kept E F r pairs std is_open K h y) (count_kept b n) (subst (λ j. shift_value left (value.Int x) w k j ≡ Some z) (sym K.bits) e), after_constant h)
  shifts_kept (after_bare h) b (shifts_constant y n e) = absurd h
  shifts_kept a b (shifts_value {t = t} {b = c} e x u i n) =
      let f = typed_after r pairs std is_open a x in
      (plain (to t), shifts_value (no_count a e) f.0 (plain_form t c f.1 u) i (count_kept b n), after_value same_mode f.1)

  pub product_kept : (kind : ProductKind) {l o s m p : Operand} → B l m → B o p → ProductComputes E kind l o s → (z : Operand) × ProductComputes F kind m p z × B s z
  product_kept (shift left) a b x = shifts_kept a b x
  product_kept (arithmetic op) a b x = computes_kept a b x

  pub equates_kept : {l o m p : Operand} → B l m → B o p → Equates E l o → Equates F m p
  equates_kept a b (equates_right {t = t} {u = u} x y w c d) =
      let f = typed_after r pairs std is_open a x in let g = typed_after r pairs std is_open b y in
      equates_right f.0 g.0 (usable_kept E F r pairs std is_open K a g.1 w) (compares E F r pairs std is_open K t f.1 c) (compares E F r pairs std is_open K u g.1 d)
  equates_kept a b (equates_left {t = t} {u = u} x y w c d) =
      let f = typed_after r pairs std is_open a x in let g = typed_after r pairs std is_open b y in
      equates_left f.0 g.0 (usable_kept E F r pairs std is_open K b f.1 w) (compares E F r pairs std is_open K t f.1 c) (compares E F r pairs std is_open K u g.1 d)
  equates_kept a b (equates_untyped_left {u = u} x y w d) =
      let g = typed_after r pairs std is_open b y in
      equates_untyped_left (untyped_after r pairs std is_open a x) g.0 (usable_kept E F r pairs std is_open K a g.1 w) (compares E F r pairs std is_open K u g.1 d)
  equates_kept a b (equates_untyped_right {t = t} x y w c) =
      let f = typed_after r pairs std is_open a x in
      equates_untyped_right f.0 (untyped_after r pairs std is_open b y) (usable_kept E F r pairs std is_open K b f.1 w) (compares E F r pairs std is_open K t f.1 c)
  equates_kept a b (equates_kinds x) = equates_kinds (match_kept E F r pairs std is_open K a b x).0
  equates_kept (after_bare h) b (equates_nil_left y w) =
      let g = typed_after r pairs std is_open b y in
      equates_nil_left g.0 (usable_kept E F r pairs std is_open K (after_bare {o = nil} h) g.1 w)
  equates_kept a (after_bare h) (equates_nil_right x w) =
      let f = typed_after r pairs std is_open a x in
      equates_nil_right f.0 (usable_kept E F r pairs std is_open K (after_bare {o = nil} h) f.1 w)

  pub comparison_kept : {op : CompareOp} {l o s m p : Operand} → B l m → B o p → IsComparison E op l o s → (z : Operand) × IsComparison F op m p z × B s z
  comparison_kept (after_constant h) (after_constant g) (comparison_constant {b = b} {c = c} {v = v} {w = w} {truth = truth} x y i e) =
      let f = match_kept E F r pairs std is_open K (after_constant {c = b} {v = v} h) (after_constant {c = c} {v = w} g) x in
      (constant_of (constant.OfKind untyped.BoolKind) (value.Truth truth), comparison_constant f.0 (kind_kept E F r pairs std is_open K f.1 y) i e, after_constant tt)
  comparison_kept (after_bare h) b (comparison_constant x y i e) = absurd h
  comparison_kept (after_constant h) (after_bare g) (comparison_constant x y i e) = absurd g
  comparison_kept a b (comparison_equality n e x) = (loose untyped.BoolKind, comparison_equality (not_both r pairs std is_open a b n) e (equates_kept a b x), after_bare tt)
  comparison_kept a b (comparison_order n e x y i) =
      let f = match_kept E F r pairs std is_open K a b x in
      (loose untyped.BoolKind, comparison_order (not_both r pairs std is_open a b n) e f.0 (kind_kept E F r pairs std is_open K f.1 y) i, after_bare tt)
