-- Using a value as one of a type, by how it stands.
use Rattle.std.proofs.Common.{◌≡◌, Bool, true, false, [], Option, Some, None, refl, sym, ap, ◌∙◌, subst}
use mathlib.Core.Bool.{true≢false}
use Rattle.go_model.specs.constants.Constants.{is_representable}
use Rattle.go_model.specs.declared.constants.value.Basic.TheVariants as basic
use Rattle.go_model.specs.declared.constants.value.Basic.{Basic}
use Rattle.go_model.specs.declared.constants.value.Kind.TheVariants as kind
use Rattle.go_model.specs.declared.constants.value.Kind.{Kind}
use Rattle.go_model.specs.declared.constants.value.Untyped.TheVariants as untyped
use Rattle.go_model.specs.declared.constants.value.Untyped.{Untyped}
use Rattle.go_model.specs.declared.constants.value.Value.{Value}
use Rattle.go_model.specs.declared.types.package.ConstTerm.TheVariants as constant
use Rattle.go_model.specs.declared.types.package.ConstTerm.{ConstTerm}
use Rattle.go_model.specs.declared.types.term.Term.{Term, Term-F, out-Term}
use Rattle.go_model.specs.types.Terms.{Layer}
use Rattle.go_model.specs.types.Underlying.{under}
use Rattle.go_rules.specs.Environments.{Env}
use Rattle.go_rules.specs.Operands.{HasKind, kind_of_type, kind_of_untyped, default_type, IsTyped, typed_value, typed_constant, IsUntyped, untyped_constant, untyped_truth, constant_of, is_value_mode, loose, nil}
use Rattle.go_rules.specs.Usability.{DefaultHolds, UsableAs, use_value, use_constant, use_truth, use_constant_as_any, use_truth_as_any, use_nil}
use Rattle.go_rules.specs.declared.operand.Mode.TheVariants as mode
use Rattle.go_rules.specs.declared.operand.Mode.{Mode}
use Rattle.go_rules.specs.declared.operand.Operand.{Operand}
use Rattle.go_rules.specs.declared.operand.Shape.TheVariants as shape
use Rattle.go_rules.specs.declared.operand.Shape.{Shape}
use Rattle.go_types.specs.go_selectors.Answers.{Decides}
use Rattle.go_usability.specs.inner.Stands.{Stand, of_type, of_constant, truth, no_pointer, nothing, value_stand, fixed_stand, loose_stand, empty_stand, stand_at, stand_of, basic_in, ConstantFits, truth_fits, Uses}

-- ---- how operands stand

value_stands : (m : Mode) (t : Term) → is_value_mode m ≡ true → value_stand m t ≡ of_type t
value_stands mode.Variable t e = refl
value_stands mode.Plain t e = refl
value_stands mode.MapElement t e = refl
value_stands m t e = absurd (true≢false (sym e))

-- a value of a type stands for it
pub typed_stands : (o : Operand) (t : Term) → IsTyped o t → stand_of o ≡ of_type t
typed_stands o t (typed_value {m = m} e) = value_stands m t e
typed_stands o t typed_constant = refl

-- what it says of an operand that it stands so
abbrev pub StandsFor : Operand → Stand → Type 0
StandsFor o (of_type t) = IsTyped o t
StandsFor o (of_constant k v) = o ≡ constant_of (constant.OfKind k) v
StandsFor o truth = o ≡ loose untyped.BoolKind
StandsFor o no_pointer = o ≡ nil
StandsFor o nothing = Unit {0}

abbrev operand : Mode → Shape → Operand
operand m s = record { mode = m; shape = s }

of_value : (m : Mode) (t : Term) → StandsFor (operand m (shape.Of t)) (value_stand m t)
of_value mode.Variable t = typed_value refl
of_value mode.Plain t = typed_value refl
of_value mode.MapElement t = typed_value refl
of_value m t = tt

of_fixed : (m : Mode) (c : ConstTerm) (v : Value) → StandsFor (operand m (shape.Fixed c v)) (fixed_stand m (shape.Fixed c v))
of_fixed mode.Constant (constant.OfTerm t) v = typed_constant
of_fixed mode.Constant (constant.OfKind k) v = refl
of_fixed m c v = tt

of_loose : (m : Mode) (k : Untyped) → StandsFor (operand m (shape.Loose k)) (loose_stand m k)
of_loose mode.Plain untyped.BoolKind = refl
of_loose m k = tt

of_empty : (m : Mode) → StandsFor (operand m shape.Empty) (empty_stand m)
of_empty mode.Nil = refl
of_empty m = tt

stands : (m : Mode) (s : Shape) → StandsFor (operand m s) (stand_at m s)
stands m (shape.Of t) = of_value m t
stands m (shape.Fixed c v) = of_fixed m c v
stands m (shape.Loose k) = of_loose m k
stands m shape.Empty = of_empty m
stands m (shape.Many ts) = tt
stands m (shape.OfBuiltin p) = tt

pub stands_for : (o : Operand) (s : Stand) → stand_of o ≡ s → StandsFor o s
stands_for o s e = subst (StandsFor o) e (stands o.mode o.shape)

-- what a value of an untyped kind stands for
abbrev pub StandsForKind : Untyped → Stand → Type 0
StandsForKind k (of_type t) = ⊥
StandsForKind k (of_constant j v) = j ≡ k
StandsForKind k truth = k ≡ untyped.BoolKind
StandsForKind k no_pointer = ⊥
StandsForKind k nothing = ⊥

pub untyped_stands : (o : Operand) (k : Untyped) → IsUntyped o k → StandsForKind k (stand_of o)
untyped_stands o k untyped_constant = refl
untyped_stands o k untyped_truth = refl

-- ---- what readers of operands answer

abbrev pub is_type : Stand → Bool
is_type (of_type t) = true
is_type s = false

abbrev pub has_kind : Stand → Bool
has_kind (of_constant k v) = true
has_kind truth = true
has_kind s = false

pub is_typed : (o : Operand) (t : Term) → of_type t ≡ stand_of o → IsTyped o t
is_typed o t e = stands_for o (of_type t) (sym e)

pub not_typed : (o : Operand) (s : Stand) → s ≡ stand_of o → is_type s ≡ false → (t : Term) → IsTyped o t → ⊥
not_typed o s e f t i = true≢false (sym (ap is_type (e ∙ typed_stands o t i)) ∙ f)

pub constant_kind : (o : Operand) (k : Untyped) (v : Value) → of_constant k v ≡ stand_of o → IsUntyped o k
constant_kind o k v e = subst (λ (x : Operand). IsUntyped x k) (sym (stands_for o (of_constant k v) (sym e))) untyped_constant

pub truth_kind : (o : Operand) → truth ≡ stand_of o → IsUntyped o untyped.BoolKind
truth_kind o e = subst (λ (x : Operand). IsUntyped x untyped.BoolKind) (sym (stands_for o truth (sym e))) untyped_truth

no_kind : (s : Stand) (k : Untyped) → has_kind s ≡ false → StandsForKind k s → ⊥
no_kind (of_type t) k f i = i
no_kind (of_constant j v) k f i = true≢false f
no_kind truth k f i = true≢false f
no_kind no_pointer k f i = i
no_kind nothing k f i = i

pub not_untyped : (o : Operand) (s : Stand) → s ≡ stand_of o → has_kind s ≡ false → (k : Untyped) → IsUntyped o k → ⊥
not_untyped o s e f k i = no_kind s k f (subst (StandsForKind k) (sym e) (untyped_stands o k i))

basic_is : (l : Layer) (b : Basic) → basic_in l ≡ Some b → l ≡ Term-F.Plain b
basic_is (Term-F.Plain a) b e = let k : a ≡ b = cc in ap (λ x. Term-F.Plain x) k
basic_is l b e = absurd (cc)

pub kind_typed : (E : Env) (c : ConstTerm) (t : Term) (l : Layer) (b : Basic) → c ≡ constant.OfTerm t → l ≡ under E.table t → basic_in l ≡ Some b → HasKind E c (kind.Typed b)
kind_typed E c t l b e u i = subst (λ (x : ConstTerm). HasKind E x (kind.Typed b)) (sym e) (kind_of_type (basic_is (under E.table t) b (ap basic_in (sym u) ∙ i)))

pub kind_none : (E : Env) (c : ConstTerm) (t : Term) (l : Layer) → c ≡ constant.OfTerm t → l ≡ under E.table t → basic_in l ≡ None → (k : Kind) → HasKind E c k → ⊥
kind_none E c t l e u i k h = by c k e h
  where
    by : (d : ConstTerm) (j : Kind) → d ≡ constant.OfTerm t → HasKind E d j → ⊥
    by d j q (kind_of_type {t = v} {b = b} w) =
        let s : v ≡ t = cc in
        let n : ◌≡◌ {A = Option Basic} (Some b) None = sym (ap basic_in w) ∙ ap (λ x. basic_in (under E.table x)) s ∙ ap basic_in (sym u) ∙ i in
        absurd (cc)
    by d j q kind_of_untyped = absurd (cc)

pub kind_loose : (E : Env) (c : ConstTerm) (k : Untyped) → c ≡ constant.OfKind k → HasKind E c (kind.Loose k)
kind_loose E c k e = subst (λ (x : ConstTerm). HasKind E x (kind.Loose k)) (sym e) kind_of_untyped

-- ---- use

plain_fits : (E : Env) (k : Untyped) (v : Value) (l : Layer) (b : Basic) → l ≡ Term-F.Plain b → is_representable v b E.bits ≡ true → ConstantFits E k v l
plain_fits E k v l b e r = subst (ConstantFits E k v) (sym e) r

any_fits : (E : Env) (k : Untyped) (v : Value) (l : Layer) → l ≡ Term-F.Interface [] → DefaultHolds E k v → ConstantFits E k v l
any_fits E k v l e d = subst (ConstantFits E k v) (sym e) d

pub used : (E : Env) (o : Operand) (t : Term) → UsableAs E o t → Uses E (stand_of o) t
used E o t (use_value {u = u} i a) = subst (λ (x : Stand). Uses E x t) (sym (typed_stands o u i)) a
used E o t (use_constant {k = k} {v = v} {b = b} e r) = plain_fits E k v (under E.table t) b e r
used E o t (use_truth e) = ap truth_fits e
used E o t (use_constant_as_any {k = k} {v = v} e d) = any_fits E k v (under E.table t) e d
used E o t (use_truth_as_any e) = ap truth_fits e
used E o t (use_nil e) = e

constant_used : (E : Env) (k : Untyped) (v : Value) (t : Term) (l : Layer) → under E.table t ≡ l → ConstantFits E k v l → UsableAs E (constant_of (constant.OfKind k) v) t
constant_used E k v t (Term-F.Plain b) e c = use_constant e c
constant_used E k v t (Term-F.Interface []) e c = use_constant_as_any e c
constant_used E k v t l e c = absurd c

truth_used : (E : Env) (t : Term) (l : Layer) → under E.table t ≡ l → truth_fits l ≡ true → UsableAs E (loose untyped.BoolKind) t
truth_used E t (Term-F.Plain basic.Bool) e c = use_truth e
truth_used E t (Term-F.Interface []) e c = use_truth_as_any e
truth_used E t l e c = absurd (true≢false (sym c))

pub uses : (E : Env) (o : Operand) (t : Term) (s : Stand) → stand_of o ≡ s → Uses E s t → UsableAs E o t
uses E o t (of_type u) e a = use_value (stands_for o (of_type u) e) a
uses E o t (of_constant k v) e a = subst (λ (x : Operand). UsableAs E x t) (sym (stands_for o (of_constant k v) e)) (constant_used E k v t (under E.table t) refl a)
uses E o t truth e a = subst (λ (x : Operand). UsableAs E x t) (sym (stands_for o truth e)) (truth_used E t (under E.table t) refl a)
uses E o t no_pointer e a = subst (λ (x : Operand). UsableAs E x t) (sym (stands_for o no_pointer e)) (use_nil a)
uses E o t nothing e a = absurd a

pub use_decides : (E : Env) (o : Operand) (t : Term) (s : Stand) (answer : Bool) → s ≡ stand_of o → Decides answer (Uses E s t) → Decides answer (UsableAs E o t)
use_decides E o t s true e d = uses E o t s (sym e) d
use_decides E o t s false e d = λ u. d (subst (λ (x : Stand). Uses E x t) (sym e) (used E o t u))

-- the default type can hold the value
pub default_decides : (E : Env) (k : Untyped) (v : Value) (b : Basic) (answer : Bool) → out-Term (default_type k) ≡ Term-F.Plain b → answer ≡ is_representable v b E.bits → Decides answer (DefaultHolds E k v)
default_decides E k v b true e r = (b, e, sym r)
default_decides E k v b false e r = λ h. true≢false (sym h.2 ∙ ap (λ x. is_representable v x E.bits) (same h.0 b (sym h.1 ∙ e)) ∙ sym r)
  where
    same : (x y : Basic) → ◌≡◌ {A = Layer} (Term-F.Plain x) (Term-F.Plain y) → x ≡ y
    same x y i = cc
