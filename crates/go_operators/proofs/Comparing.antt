-- Comparisons: what they make, and where they make nothing.
use Rattle.std.proofs.Common.{◌≡◌, Bool, true, false, ◌&&◌, Option, Some, None, refl, sym, ap, ◌∙◌, subst, if◌then◌else◌}
use Rattle.go_base.specs.declared.operator.CompareOp.{CompareOp}
use Rattle.go_model.specs.constants.Classes.{class_of}
use Rattle.go_model.specs.constants.Constants.{comparison}
use Rattle.go_model.specs.constants.Operators.{comparison_applies}
use Rattle.go_model.specs.declared.constants.class.Class.{Class}
use Rattle.go_model.specs.declared.constants.value.Kind.{Kind}
use Rattle.go_model.specs.declared.constants.value.Untyped.{Untyped}
use Rattle.go_model.specs.declared.constants.value.Untyped.TheVariants as untyped
use Rattle.go_model.specs.declared.constants.value.Value.{Value}
use Rattle.go_model.specs.declared.constants.value.Value.TheVariants as value
use Rattle.go_model.specs.declared.types.package.ConstTerm.{ConstTerm}
use Rattle.go_model.specs.declared.types.package.ConstTerm.TheVariants as constant
use Rattle.go_model.specs.declared.types.term.Term.{Term}
use Rattle.go_rules.specs.Environments.{Env}
use Rattle.go_rules.specs.Expressions.{Equates, equates_right, equates_left, equates_untyped_left, equates_untyped_right, equates_kinds, equates_nil_left, equates_nil_right, IsComparison, comparison_constant, comparison_equality, comparison_order, is_constant, is_equality}
use Rattle.go_rules.specs.Operands.{HasKind, IsTyped, IsUntyped, constant_of, loose, nil}
use Rattle.go_rules.specs.Usability.{Compares, Match, match_types, match_right, match_left, match_kinds, UsableAs}
use Rattle.go_rules.specs.declared.operand.Operand.{Operand}
use Rattle.go_rules.proofs.OneKind.{no_truth, one_kind, one_match, one_type, typed_or_untyped}
use Rattle.go_usability.specs.go_selectors.Answers.{Decides}
use Rattle.go_usability.specs.Answers.{Gives}
use Rattle.go_operators.specs.inner.Comparisons.{Orders, orders, ConstantsCompare, constants_compare, EquatesType, equates_untyped, equates_nil, EquatesKinds, equates_both}
use Rattle.go_operators.specs.inner.Constants.{HasValue, has_value}
use Rattle.go_operators.proofs.Answers.{none_some, false_true}

-- ---- operands that match, of a kind that has the comparison

module _ (E : Env) (op : CompareOp) where
  no_match : {l r : Operand} → ((d : ConstTerm) → Match E l r d → ⊥) → Orders E op l r → ⊥
  no_match none (orders m h a) = none _ m

  pub order_no_match : (l r : Operand) → ((d : ConstTerm) → Match E l r d → ⊥) → Orders E op l r → ⊥
  order_no_match l r none x = no_match none x

  of_kind : {l r : Operand} {c d : ConstTerm} {k : Kind} → Match E l r c → Match E l r d → HasKind E d k → HasKind E c k
  of_kind {k = k} m n h = subst (λ (x : ConstTerm). HasKind E x k) (one_match n m) h

  no_kind : {l r : Operand} {d : ConstTerm} → Match E l r d → ((k : Kind) → HasKind E d k → ⊥) → Orders E op l r → ⊥
  no_kind m none (orders n h a) = none _ (of_kind m n h)

  pub order_no_kind : (l r : Operand) (d : ConstTerm) → Match E l r d → ((k : Kind) → HasKind E d k → ⊥) → Orders E op l r → ⊥
  order_no_kind l r d m none x = no_kind m none x

  applies : {l r : Operand} {d : ConstTerm} {k : Kind} → Match E l r d → HasKind E d k → Orders E op l r → comparison_applies op (class_of k) ≡ true
  applies m h (orders n g a) = subst (λ (x : Kind). comparison_applies op (class_of x) ≡ true) (one_kind (of_kind m n g) h) a

  decides_order : (l r : Operand) (d : ConstTerm) (k : Kind) (b : Bool) → Match E l r d → HasKind E d k → b ≡ comparison_applies op (class_of k) → Decides b (Orders E op l r)
  decides_order l r d k true m h e = orders m h (sym e)
  decides_order l r d k false m h e = λ x. false_true (e ∙ applies m h x)

  pub order_decides : (l r : Operand) (d : ConstTerm) (k : Kind) (a : Class) (b : Bool) → Match E l r d → HasKind E d k → a ≡ class_of k → b ≡ comparison_applies op a → Decides b (Orders E op l r)
  order_decides l r d k a b m h e f = decides_order l r d k b m h (f ∙ ap (comparison_applies op) e)

-- ---- constants

no_left_value : {op : CompareOp} {l r : Operand} {b : Bool} → ((v : Value) → HasValue l v → ⊥) → ConstantsCompare op l r b → ⊥
no_left_value none (constants_compare e) = none _ has_value

no_right_value : {op : CompareOp} {l r : Operand} {b : Bool} → ((v : Value) → HasValue r v → ⊥) → ConstantsCompare op l r b → ⊥
no_right_value none (constants_compare e) = none _ has_value

both_values : {op : CompareOp} {l r : Operand} {v w : Value} {b : Bool} → HasValue l v → HasValue r w → comparison op v w ≡ Some b → ConstantsCompare op l r b
both_values has_value has_value e = constants_compare e

of_both : {op : CompareOp} {l r : Operand} {v w : Value} {b : Bool} → HasValue l v → HasValue r w → ConstantsCompare op l r b → comparison op v w ≡ Some b
of_both has_value has_value (constants_compare e) = e

module _ (op : CompareOp) (l r : Operand) where
  pub truth_no_left : ((v : Value) → HasValue l v → ⊥) → (b : Bool) → ConstantsCompare op l r b → ⊥
  truth_no_left none b x = no_left_value none x

  pub truth_no_right : ((v : Value) → HasValue r v → ⊥) → (b : Bool) → ConstantsCompare op l r b → ⊥
  truth_no_right none b x = no_right_value none x

  pub truth_of_both : (v w : Value) (t : Option Bool) → HasValue l v → HasValue r w → t ≡ comparison op v w → Gives (ConstantsCompare op l r) t
  truth_of_both v w (Some b) a c e = both_values a c (sym e)
  truth_of_both v w None a c e = λ b x. none_some (e ∙ of_both a c x)

abbrev truth_operand : Bool → Operand
truth_operand b = constant_of (constant.OfKind untyped.BoolKind) (value.Truth b)

module _ (E : Env) (op : CompareOp) where
  compared : {l r : Operand} {b : Bool} → Orders E op l r → ConstantsCompare op l r b → IsComparison E op l r (truth_operand b)
  compared (orders m h a) (constants_compare e) = comparison_constant m h a e

  constants_order : {l r s : Operand} → (is_constant l.mode && is_constant r.mode) ≡ true → IsComparison E op l r s → Orders E op l r
  constants_order c (comparison_constant m h a e) = orders m h a
  constants_order c (comparison_equality f q x) = absurd (false_true (sym f ∙ c))
  constants_order c (comparison_order f q m h a) = absurd (false_true (sym f ∙ c))

  constants_truth : {l r s : Operand} → (is_constant l.mode && is_constant r.mode) ≡ true → IsComparison E op l r s → (b : Bool) × ConstantsCompare op l r b
  constants_truth c (comparison_constant {truth = b} m h a e) = (b, constants_compare e)
  constants_truth c (comparison_equality f q x) = absurd (false_true (sym f ∙ c))
  constants_truth c (comparison_order f q m h a) = absurd (false_true (sym f ∙ c))

  pub compare_no_order : (l r : Operand) → (is_constant l.mode && is_constant r.mode) ≡ true → (Orders E op l r → ⊥) → (s : Operand) → IsComparison E op l r s → ⊥
  compare_no_order l r c none s x = none (constants_order c x)

  pub compare_no_truth : (l r : Operand) → (is_constant l.mode && is_constant r.mode) ≡ true → ((b : Bool) → ConstantsCompare op l r b → ⊥) → (s : Operand) → IsComparison E op l r s → ⊥
  compare_no_truth l r c none s x = none (constants_truth c x).0 (constants_truth c x).1

  pub compare_constants : (l r s : Operand) (b : Bool) → Orders E op l r → ConstantsCompare op l r b → s ≡ truth_operand b → IsComparison E op l r s
  compare_constants l r s b o t e = subst (IsComparison E op l r) (sym e) (compared o t)

-- ---- values

no_nil : {t : Term} → IsTyped nil t → ⊥
no_nil h = elim h [ ]

no_untyped_nil : {k : Untyped} → IsUntyped nil k → ⊥
no_untyped_nil h = elim h [ ]

untyped_not_nil : {o : Operand} {k : Untyped} → IsUntyped o k → o ≡ nil → ⊥
untyped_not_nil {k = k} i e = no_untyped_nil (subst (λ (x : Operand). IsUntyped x k) e i)

module _ (E : Env) where
  left_apart : {l r : Operand} {t : Term} {k : Untyped} → IsTyped l t → Match E l r (constant.OfKind k) → ⊥
  left_apart h (match_kinds a b j) = typed_or_untyped h a

  right_apart : {l r : Operand} {t : Term} {k : Untyped} → IsTyped r t → Match E l r (constant.OfKind k) → ⊥
  right_apart h (match_kinds a b j) = typed_or_untyped h b

  -- two values of types

  left_compares : {l r : Operand} {t u : Term} → IsTyped l t → IsTyped r u → Equates E l r → Compares E t
  left_compares h g (equates_right a b p c d) = subst (Compares E) (one_type a h) c
  left_compares h g (equates_left a b p c d) = subst (Compares E) (one_type a h) c
  left_compares h g (equates_untyped_left i a p c) = absurd (typed_or_untyped h i)
  left_compares h g (equates_untyped_right a i p c) = absurd (typed_or_untyped g i)
  left_compares h g (equates_kinds m) = absurd (left_apart h m)
  left_compares h g (equates_nil_left a p) = absurd (no_nil h)
  left_compares h g (equates_nil_right a p) = absurd (no_nil g)

  right_compares : {l r : Operand} {t u : Term} → IsTyped l t → IsTyped r u → Equates E l r → Compares E u
  right_compares h g (equates_right a b p c d) = subst (Compares E) (one_type b g) d
  right_compares h g (equates_left a b p c d) = subst (Compares E) (one_type b g) d
  right_compares h g (equates_untyped_left i a p c) = absurd (typed_or_untyped h i)
  right_compares h g (equates_untyped_right a i p c) = absurd (typed_or_untyped g i)
  right_compares h g (equates_kinds m) = absurd (left_apart h m)
  right_compares h g (equates_nil_left a p) = absurd (no_nil h)
  right_compares h g (equates_nil_right a p) = absurd (no_nil g)

  either_usable : {l r : Operand} {t u : Term} → IsTyped l t → IsTyped r u → (UsableAs E l u → ⊥) → Equates E l r → UsableAs E r t
  either_usable {l = l} h g none (equates_right a b p c d) = absurd (none (subst (UsableAs E l) (one_type b g) p))
  either_usable {r = r} h g none (equates_left a b p c d) = subst (UsableAs E r) (one_type a h) p
  either_usable h g none (equates_untyped_left i a p c) = absurd (typed_or_untyped h i)
  either_usable h g none (equates_untyped_right a i p c) = absurd (typed_or_untyped g i)
  either_usable h g none (equates_kinds m) = absurd (left_apart h m)
  either_usable h g none (equates_nil_left a p) = absurd (no_nil h)
  either_usable h g none (equates_nil_right a p) = absurd (no_nil g)

  module _ (l r : Operand) (t u : Term) (h : IsTyped l t) (g : IsTyped r u) where
    pub types_no_left : (Compares E t → ⊥) → Equates E l r → ⊥
    types_no_left none x = none (left_compares h g x)

    pub types_no_right : (Compares E u → ⊥) → Equates E l r → ⊥
    types_no_right none x = none (right_compares h g x)

    pub types_decide : (b : Bool) → Compares E t → Compares E u → (UsableAs E l u → ⊥) → Decides b (UsableAs E r t) → Decides b (Equates E l r)
    types_decide true c d none p = equates_left h g p c d
    types_decide false c d none p = λ x. p (either_usable h g none x)

  -- an operand without a type, and one with a type

  nil_usable : {o : Operand} {t : Term} → o ≡ nil → EquatesType E o t → UsableAs E o t
  nil_usable e (equates_untyped i p c) = p
  nil_usable e (equates_nil p) = p

  pub nil_decides : (o : Operand) (t : Term) (b : Bool) → o ≡ nil → Decides b (UsableAs E o t) → Decides b (EquatesType E o t)
  nil_decides o t true e p = subst (λ (x : Operand). EquatesType E x t) (sym e) (equates_nil (subst (λ (x : Operand). UsableAs E x t) e p))
  nil_decides o t false e p = λ x. p (nil_usable e x)

  not_untyped : {o : Operand} {t : Term} → (o ≡ nil → ⊥) → ((k : Untyped) → IsUntyped o k → ⊥) → EquatesType E o t → ⊥
  not_untyped none no_kind (equates_untyped i p c) = no_kind _ i
  not_untyped none no_kind (equates_nil p) = none refl

  pub types_forth : (l r : Operand) (t u : Term) → IsTyped l t → IsTyped r u → Compares E t → Compares E u → UsableAs E l u → Equates E l r
  types_forth l r t u h g c d p = equates_right h g p c d

  pub type_no_kind : (o : Operand) (t : Term) → (o ≡ nil → ⊥) → ((k : Untyped) → IsUntyped o k → ⊥) → EquatesType E o t → ⊥
  type_no_kind o t none no_kind x = not_untyped none no_kind x

  type_compares : {o : Operand} {t : Term} → (o ≡ nil → ⊥) → EquatesType E o t → Compares E t
  type_compares none (equates_untyped i p c) = c
  type_compares none (equates_nil p) = absurd (none refl)

  type_usable : {o : Operand} {t : Term} → EquatesType E o t → UsableAs E o t
  type_usable (equates_untyped i p c) = p
  type_usable (equates_nil p) = p

  pub type_no_compares : (o : Operand) (k : Untyped) (t : Term) → IsUntyped o k → (Compares E t → ⊥) → EquatesType E o t → ⊥
  type_no_compares o k t i no_compares x = no_compares (type_compares (untyped_not_nil i) x)

  pub type_decides : (o : Operand) (k : Untyped) (t : Term) (b : Bool) → IsUntyped o k → Compares E t → Decides b (UsableAs E o t) → Decides b (EquatesType E o t)
  type_decides o k t true i c p = equates_untyped i p c
  type_decides o k t false i c p = λ x. p (type_usable x)

  -- two operands without types

  pub kinds_some : (l r : Operand) (k : Untyped) → Match E l r (constant.OfKind k) → EquatesKinds E l r
  kinds_some l r k m = equates_both m

  kinds_match : {l r : Operand} → EquatesKinds E l r → (k : Untyped) × Match E l r (constant.OfKind k)
  kinds_match (equates_both m) = (_, m)

  pub kinds_none : (l r : Operand) → ((d : ConstTerm) → Match E l r d → ⊥) → EquatesKinds E l r → ⊥
  kinds_none l r none x = none _ (kinds_match x).1

  kind_of_type : {k : Untyped} {t : Term} → ◌≡◌ {A = ConstTerm} (constant.OfTerm t) (constant.OfKind k) → ⊥
  kind_of_type e = absurd (cc)

  pub kinds_type : (l r : Operand) (t : Term) → Match E l r (constant.OfTerm t) → EquatesKinds E l r → ⊥
  kinds_type l r t m x = kind_of_type (one_match m (kinds_match x).1)

  abbrev pub IsKind : ConstTerm → Type 0
  IsKind d = (k : Untyped) × (d ≡ constant.OfKind k)

  pub kinds_decides : (l r : Operand) (d : ConstTerm) (b : Bool) → Match E l r d → Decides b (IsKind d) → Decides b (EquatesKinds E l r)
  kinds_decides l r d true m i = equates_both (subst (Match E l r) i.1 m)
  kinds_decides l r d false m i = λ x. i ((kinds_match x).0, one_match m (kinds_match x).1)

  -- all

  untyped_left : {l r : Operand} {u : Term} → IsTyped r u → EquatesType E l u → Equates E l r
  untyped_left g (equates_untyped i p c) = equates_untyped_left i g p c
  untyped_left g (equates_nil p) = equates_nil_left g p

  of_left : {l r : Operand} {u : Term} → ((t : Term) → IsTyped l t → ⊥) → IsTyped r u → Equates E l r → EquatesType E l u
  of_left none g (equates_right a b p c d) = absurd (none _ a)
  of_left none g (equates_left a b p c d) = absurd (none _ a)
  of_left {l = l} none g (equates_untyped_left i a p c) = equates_untyped i (subst (UsableAs E l) (one_type a g) p) (subst (Compares E) (one_type a g) c)
  of_left none g (equates_untyped_right a i p c) = absurd (none _ a)
  of_left none g (equates_kinds m) = absurd (right_apart g m)
  of_left none g (equates_nil_left a p) = equates_nil (subst (UsableAs E nil) (one_type a g) p)
  of_left none g (equates_nil_right a p) = absurd (none _ a)

  pub left_decides : (l r : Operand) (u : Term) (b : Bool) → ((t : Term) → IsTyped l t → ⊥) → IsTyped r u → Decides b (EquatesType E l u) → Decides b (Equates E l r)
  left_decides l r u true none g d = untyped_left g d
  left_decides l r u false none g d = λ x. d (of_left none g x)

  untyped_right : {l r : Operand} {t : Term} → IsTyped l t → EquatesType E r t → Equates E l r
  untyped_right h (equates_untyped i p c) = equates_untyped_right h i p c
  untyped_right h (equates_nil p) = equates_nil_right h p

  of_right : {l r : Operand} {t : Term} → IsTyped l t → ((u : Term) → IsTyped r u → ⊥) → Equates E l r → EquatesType E r t
  of_right h none (equates_right a b p c d) = absurd (none _ b)
  of_right h none (equates_left a b p c d) = absurd (none _ b)
  of_right h none (equates_untyped_left i a p c) = absurd (none _ a)
  of_right {r = r} h none (equates_untyped_right a i p c) = equates_untyped i (subst (UsableAs E r) (one_type a h) p) (subst (Compares E) (one_type a h) c)
  of_right h none (equates_kinds m) = absurd (left_apart h m)
  of_right h none (equates_nil_left a p) = absurd (none _ a)
  of_right h none (equates_nil_right a p) = equates_nil (subst (UsableAs E nil) (one_type a h) p)

  pub right_decides : (l r : Operand) (t : Term) (b : Bool) → IsTyped l t → ((u : Term) → IsTyped r u → ⊥) → Decides b (EquatesType E r t) → Decides b (Equates E l r)
  right_decides l r t true h none d = untyped_right h d
  right_decides l r t false h none d = λ x. d (of_right h none x)

  kinds_equate : {l r : Operand} → EquatesKinds E l r → Equates E l r
  kinds_equate (equates_both m) = equates_kinds m

  of_kinds : {l r : Operand} → ((t : Term) → IsTyped l t → ⊥) → ((u : Term) → IsTyped r u → ⊥) → Equates E l r → EquatesKinds E l r
  of_kinds none no_right (equates_right a b p c d) = absurd (none _ a)
  of_kinds none no_right (equates_left a b p c d) = absurd (none _ a)
  of_kinds none no_right (equates_untyped_left i a p c) = absurd (no_right _ a)
  of_kinds none no_right (equates_untyped_right a i p c) = absurd (none _ a)
  of_kinds none no_right (equates_kinds m) = equates_both m
  of_kinds none no_right (equates_nil_left a p) = absurd (no_right _ a)
  of_kinds none no_right (equates_nil_right a p) = absurd (none _ a)

  pub kinds_decide : (l r : Operand) (b : Bool) → ((t : Term) → IsTyped l t → ⊥) → ((u : Term) → IsTyped r u → ⊥) → Decides b (EquatesKinds E l r) → Decides b (Equates E l r)
  kinds_decide l r true none no_right d = kinds_equate d
  kinds_decide l r false none no_right d = λ x. d (of_kinds none no_right x)

-- ---- the result

module _ (E : Env) (op : CompareOp) where
  equated : {l r s : Operand} → (is_constant l.mode && is_constant r.mode) ≡ false → is_equality op ≡ true → IsComparison E op l r s → Equates E l r
  equated c q (comparison_constant m h a e) = absurd (no_truth c)
  equated c q (comparison_equality f p x) = x
  equated c q (comparison_order f p m h a) = absurd (false_true (sym p ∙ q))

  pub compare_equality : (l r : Operand) (b : Bool) → (is_constant l.mode && is_constant r.mode) ≡ false → is_equality op ≡ true → Decides b (Equates E l r) → Gives (IsComparison E op l r) (if b then Some (loose untyped.BoolKind) else None)
  compare_equality l r true c q d = comparison_equality c q d
  compare_equality l r false c q d = λ s x. d (equated c q x)

  ordered : {l r s : Operand} → (is_constant l.mode && is_constant r.mode) ≡ false → is_equality op ≡ false → IsComparison E op l r s → Orders E op l r
  ordered c q (comparison_constant m h a e) = absurd (no_truth c)
  ordered c q (comparison_equality f p x) = absurd (false_true (sym q ∙ p))
  ordered c q (comparison_order f p m h a) = orders m h a

  order_compared : {l r : Operand} → (is_constant l.mode && is_constant r.mode) ≡ false → is_equality op ≡ false → Orders E op l r → IsComparison E op l r (loose untyped.BoolKind)
  order_compared c q (orders m h a) = comparison_order c q m h a

  pub compare_order : (l r : Operand) (b : Bool) → (is_constant l.mode && is_constant r.mode) ≡ false → is_equality op ≡ false → Decides b (Orders E op l r) → Gives (IsComparison E op l r) (if b then Some (loose untyped.BoolKind) else None)
  compare_order l r true c q d = order_compared c q d
  compare_order l r false c q d = λ s x. d (ordered c q x)
