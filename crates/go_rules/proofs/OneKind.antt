-- An operand is of one type or untyped kind, and two that match are of one.
use Rattle.std.proofs.Common.{◌≡◌, Bool, true, false, refl, sym, ap, ◌∙◌}
use Rattle.go_model.specs.declared.constants.value.Kind.{Kind}
use Rattle.go_model.specs.declared.constants.value.Kind.TheVariants as kind
use Rattle.go_model.specs.declared.constants.value.Untyped.{Untyped}
use Rattle.go_model.specs.declared.constants.value.Untyped.TheVariants as untyped
use Rattle.go_model.specs.declared.constants.value.Value.{Value}
use Rattle.go_model.specs.declared.constants.value.Value.TheVariants as value
use Rattle.go_model.specs.declared.types.package.ConstTerm.{ConstTerm}
use Rattle.go_model.specs.declared.types.package.ConstTerm.TheVariants as constant
use Rattle.go_model.specs.declared.types.term.Term.{Term, Term-F}
use Rattle.go_model.specs.types.Terms.{Layer}
use Rattle.go_model.specs.types.Underlying.{under}
use Rattle.go_rules.specs.Environments.{Env}
use Rattle.go_rules.specs.Operands.{IsTyped, typed_value, typed_constant, IsUntyped, untyped_constant, untyped_truth, IsOf, is_of_type, is_of_kind, HasKind, kind_of_type, kind_of_untyped, any_term}
use Rattle.go_rules.specs.Usability.{JoinsTo, Match, match_types, match_right, match_left, match_kinds}
use Rattle.go_rules.specs.declared.operand.Operand.{Operand}
use Rattle.go_rules.specs.declared.operand.Shape.{Shape}
use Rattle.go_rules.specs.declared.operand.Shape.TheVariants as shape

-- the type of what has one
abbrev pub term_in : ConstTerm → Term
term_in (constant.OfTerm t) = t
term_in (constant.OfKind k) = any_term

-- the untyped kind of what has one
abbrev pub untyped_in : ConstTerm → Untyped
untyped_in (constant.OfTerm t) = untyped.BoolKind
untyped_in (constant.OfKind k) = k

-- what has a type
abbrev pub has_type_in : ConstTerm → Bool
has_type_in (constant.OfTerm t) = true
has_type_in (constant.OfKind k) = false

-- the type or untyped kind of a value's shape
abbrev pub const_in : Shape → ConstTerm
const_in (shape.Of t) = constant.OfTerm t
const_in (shape.Fixed c v) = c
const_in (shape.Loose k) = constant.OfKind k
const_in (shape.Many ts) = constant.OfTerm any_term
const_in (shape.OfBuiltin p) = constant.OfTerm any_term
const_in shape.Empty = constant.OfTerm any_term

-- the value of a constant's shape
abbrev pub value_in : Shape → Value
value_in (shape.Fixed c v) = v
value_in s = value.Truth true

pub typed : {o : Operand} {t : Term} → IsTyped o t → const_in o.shape ≡ constant.OfTerm t
typed (typed_value h) = refl
typed typed_constant = refl

pub untyped_is : {o : Operand} {k : Untyped} → IsUntyped o k → const_in o.shape ≡ constant.OfKind k
untyped_is untyped_constant = refl
untyped_is untyped_truth = refl

pub is_of : {o : Operand} {c : ConstTerm} → IsOf o c → const_in o.shape ≡ c
is_of (is_of_type h) = typed h
is_of (is_of_kind h) = untyped_is h

pub one_type : {o : Operand} {t u : Term} → IsTyped o t → IsTyped o u → t ≡ u
one_type a b = ap term_in (sym (typed a) ∙ typed b)

pub one_untyped : {o : Operand} {j k : Untyped} → IsUntyped o j → IsUntyped o k → j ≡ k
one_untyped a b = ap untyped_in (sym (untyped_is a) ∙ untyped_is b)

pub one_of : {o : Operand} {c d : ConstTerm} → IsOf o c → IsOf o d → c ≡ d
one_of a b = sym (is_of a) ∙ is_of b

-- the truth values differ
pub no_truth : true ≡ false → ⊥
no_truth e = absurd (cc)

-- a value with a type has no untyped kind
pub typed_or_untyped : {o : Operand} {t : Term} {k : Untyped} → IsTyped o t → IsUntyped o k → ⊥
typed_or_untyped a b = no_truth (ap has_type_in (sym (typed a) ∙ untyped_is b))

-- ---- kinds

abbrev pub kind_of_layer : Layer → Kind
kind_of_layer (Term-F.Plain b) = kind.Typed b
kind_of_layer l = kind.Loose untyped.BoolKind

-- the kind of a type over a basic one, or of an untyped kind
abbrev pub kind_in : Env → ConstTerm → Kind
kind_in E (constant.OfTerm t) = kind_of_layer (under E.table t)
kind_in E (constant.OfKind k) = kind.Loose k

pub kinded : {E : Env} {c : ConstTerm} {k : Kind} → HasKind E c k → kind_in E c ≡ k
kinded (kind_of_type e) = ap kind_of_layer e
kinded kind_of_untyped = refl

pub one_kind : {E : Env} {c : ConstTerm} {j k : Kind} → HasKind E c j → HasKind E c k → j ≡ k
one_kind a b = sym (kinded a) ∙ kinded b

-- ---- matching

abbrev pub join : Untyped → Untyped → Untyped
join untyped.IntKind untyped.RuneKind = untyped.RuneKind
join j k = j

joined : (j k l : Untyped) → JoinsTo j k l → join j k ≡ l
joined untyped.IntKind untyped.IntKind l h = sym h.1
joined untyped.IntKind untyped.RuneKind l h = sym h
joined untyped.IntKind untyped.StrKind l h = sym h.1
joined untyped.IntKind untyped.BoolKind l h = sym h.1
joined untyped.RuneKind untyped.IntKind l h = sym h
joined untyped.RuneKind untyped.RuneKind l h = sym h.1
joined untyped.RuneKind untyped.StrKind l h = sym h.1
joined untyped.RuneKind untyped.BoolKind l h = sym h.1
joined untyped.StrKind k l h = sym h.1
joined untyped.BoolKind k l h = sym h.1

-- the type or untyped kind that two take together
abbrev pub match_of : ConstTerm → ConstTerm → ConstTerm
match_of (constant.OfTerm t) d = constant.OfTerm t
match_of (constant.OfKind j) (constant.OfTerm t) = constant.OfTerm t
match_of (constant.OfKind j) (constant.OfKind k) = constant.OfKind (join j k)

pub matched : {E : Env} {left right : Operand} {d : ConstTerm} → Match E left right d → match_of (const_in left.shape) (const_in right.shape) ≡ d
matched (match_types a b) = λ i. match_of (typed a i) (typed b i)
matched (match_right a b u) = λ i. match_of (untyped_is a i) (typed b i)
matched (match_left a b u) = λ i. match_of (typed a i) (untyped_is b i)
matched (match_kinds {j = j} {k = k} {l = l} a b h) = (λ i. match_of (untyped_is a i) (untyped_is b i)) ∙ ap constant.OfKind (joined j k l h)

pub one_match : {E : Env} {left right : Operand} {c d : ConstTerm} → Match E left right c → Match E left right d → c ≡ d
one_match a b = sym (matched a) ∙ matched b
