-- What a declaration is given keeps that the value of each constant is of its type or untyped kind.
use Rattle.std.proofs.Common.{◌≡◌, ℕ, zero, suc, Bool, true, false, not, ◌&&◌, List, [], ◌∷◌, Option, map, refl, sym, ap, ◌∙◌, subst}
use Rattle.std.specs.Prelude.{replicate}
use Rattle.go_references.specs.go_base.Lists.{Each}
use Rattle.go_rules.specs.go_model.constants.Classes.{class_of_basic, is_inexact}
use Rattle.go_rules.specs.go_model.constants.Constants.{is_of, is_representable}
use Rattle.go_rules.specs.go_model.declared.constants.value.Basic.{Basic}
use Rattle.go_rules.specs.go_model.declared.constants.value.Basic.TheVariants as basic
use Rattle.go_rules.specs.go_model.declared.constants.value.Kind.TheVariants as kind
use Rattle.go_rules.specs.go_model.declared.constants.value.Value.{Value}
use Rattle.go_rules.specs.go_model.declared.types.package.ConstTerm.{ConstTerm}
use Rattle.go_rules.specs.go_model.declared.types.package.ConstTerm.TheVariants as constant
use Rattle.go_rules.specs.go_model.declared.types.package.Entity.{Entity}
use Rattle.go_rules.specs.go_model.declared.types.package.Entity.TheVariants as entity
use Rattle.go_rules.specs.go_model.declared.types.term.Direction.TheVariants as direction
use Rattle.go_rules.specs.go_model.declared.types.term.Term.{Term, Term-F}
use Rattle.go_rules.specs.go_model.types.Assignability.{AreChannels}
use Rattle.go_rules.specs.go_model.types.Terms.{Layer}
use Rattle.go_rules.specs.go_model.types.Underlying.{under}
use Rattle.go_rules.specs.Environments.{Env}
use Rattle.go_rules.specs.Expressions.{is_constant}
use Rattle.go_rules.specs.Growth.{Grows}
use Rattle.go_rules.specs.KeptConstants.{ConstantsKept, IsKept}
use Rattle.go_rules.specs.Operands.{HasKind, kind_of_type}
use Rattle.go_rules.specs.Usability.{Assignable, assign_identical, assign_underlying, assign_interface, assign_channel, UsableAs, use_value, use_constant, use_truth, use_constant_as_any, use_truth_as_any, use_nil}
use Rattle.go_rules.specs.declared.operand.Operand.{Operand}
use Rattle.go_rules.proofs.GrowRelations.{kind_more}
use Rattle.go_rules.proofs.GrowTypes.{joined_is}
use Rattle.go_rules.proofs.KeptOperands.{has_kept}
use Rattle.go_rules.proofs.OneKind.{const_in, no_truth, one_kind, typed, value_in}
use Rattle.go_references.specs.go_syntax.declared.expression.Expr.{Expr}
use Rattle.go_references.specs.go_syntax.declared.types.«Type».{«Type» as Typ}
use Rattle.go_typings.specs.DeclarationRules.{AreConstants, constants_none, constants_more, Gives, gives_constants, gives_typed_variables, gives_variables, gives_alias, gives_definition, gives_function, gives_method, TypeOfConstant, own_kind, given_type}
use Rattle.go_typings.specs.Declarations.{Declaration, Form}
use Rattle.go_typings.specs.PackageEnvironments.{Entry, objects, underlying, signed}

abbrev is_basic : Layer → Bool
is_basic (Term-F.Plain b) = true
is_basic l = false

abbrev basic_in : Layer → Basic
basic_in (Term-F.Plain b) = b
basic_in l = basic.Bool

no_channel : (k : Layer) (b : Basic) → AreChannels k (Term-F.Plain b) → ⊥
no_channel (Term-F.Chan direction.Both e) b h = h
no_channel (Term-F.Chan direction.SendOnly e) b h = h
no_channel (Term-F.Chan direction.ReceiveOnly e) b h = h
no_channel k b h = h

of_basic : (v : Value) (b : Basic) (bits : ℕ) → is_inexact (class_of_basic b) ≡ false → is_representable v b bits ≡ true → is_of v (kind.Typed b) bits ≡ true
unfolding is_of
of_basic v b bits i r = ap (λ d. not d && is_representable v b bits) i ∙ r

module _ (E : Env) where
  -- a constant of what is assigned to a basic type is over the same basic type
  assigned_level : {t u : Term} {b : Basic} → Assignable E t u → under E.table u ≡ Term-F.Plain b → under E.table t ≡ Term-F.Plain b
  assigned_level (assign_identical p) e = ap (under E.table) p ∙ e
  assigned_level (assign_underlying h k r) e = r.same ∙ e
  assigned_level (assign_interface h) e = absurd (no_truth (ap is_basic (sym e ∙ h.1)))
  assigned_level {t = t} {b = b} (assign_channel c) e = absurd (no_channel (under E.table t) b (subst (AreChannels (under E.table t)) e c.channels))

  usable_kept : {o : Operand} {t : Term} {b : Basic} → UsableAs E o t → is_constant o.mode ≡ true → under E.table t ≡ Term-F.Plain b → is_inexact (class_of_basic b) ≡ false → IsKept E (const_in o.shape) (value_in o.shape) → is_of (value_in o.shape) (kind.Typed b) E.bits ≡ true
  usable_kept {o = o} {b = b} (use_value {u = u} h a) c e i k =
      let p : HasKind E (constant.OfTerm u) k.0 = subst (λ z. HasKind E z k.0) (typed h) k.1 in
      subst (λ z. is_of (value_in o.shape) z E.bits ≡ true) (one_kind p (kind_of_type (assigned_level a e))) k.2
  usable_kept {b = b} (use_constant {v = v} f r) c e i k = of_basic v b E.bits i (ap (λ z. is_representable v (basic_in z) E.bits) (sym e ∙ f) ∙ r)
  usable_kept (use_truth f) c e i k = absurd (no_truth (sym c))
  usable_kept (use_constant_as_any f d) c e i k = absurd (no_truth (ap is_basic (sym e ∙ f)))
  usable_kept (use_truth_as_any f) c e i k = absurd (no_truth (sym c))
  usable_kept (use_nil f) c e i k = absurd (no_truth (sym c))

  constant_kept : {t : Option Typ} {c d : ConstTerm} {v : Value} → TypeOfConstant E t c v d → IsKept E c v → IsKept E d v
  constant_kept own_kind k = k
  constant_kept (given_type {b = b} a e i h) k = (kind.Typed b, kind_of_type e, usable_kept h refl e i k)

  -- ---- entries

  abbrev pub EntityKept : Entity → Type 0
  EntityKept (entity.Const c v) = IsKept E c v
  EntityKept x = Unit {0}

  abbrev pub EntryKept : Entry → Type 0
  EntryKept (objects xs) = Each EntityKept xs
  EntryKept x = Unit {0}

  module _ (w : ConstantsKept E) where
    constants_kept : {t : Option Typ} {es : List Expr} {xs : List Entity} → AreConstants E t es xs → Each EntityKept xs
    constants_kept constants_none = tt
    constants_kept (constants_more a h r) = (constant_kept h (has_kept E w a), constants_kept r)

    same_variable : (n : ℕ) (t : Term) → Each EntityKept (replicate n (entity.Var t))
    same_variable zero t = tt
    same_variable (suc n) t = (tt, same_variable n t)

    variables_kept : (ts : List Term) → Each EntityKept (map entity.Var ts)
    variables_kept [] = tt
    variables_kept (t ∷ ts) = (tt, variables_kept ts)

    pub gives_kept : {ds : List Declaration} {f : Form} {x : Entry} → Gives E ds f x → EntryKept x
    gives_kept (gives_constants a e) = constants_kept a
    gives_kept (gives_typed_variables {u = u} e a) = same_variable _ u
    gives_kept (gives_variables {ts = ts} e a h) = variables_kept ts
    gives_kept (gives_alias a) = (tt, tt)
    gives_kept (gives_definition a e n h) = tt
    gives_kept (gives_function a b) = (tt, tt)
    gives_kept (gives_method a b) = tt

-- ---- among more entries

module _ (E F : Env) (m : Grows E F) where
  kept_more : (c : ConstTerm) (v : Value) → IsKept E c v → IsKept F c v
  kept_more c v k = (k.0, subst (λ z. HasKind z c k.0) (joined_is E F m) (kind_more E F m k.1), ap (λ z. is_of v k.0 z) (sym m.bits) ∙ k.2)

  entity_kept_more : (x : Entity) → EntityKept E x → EntityKept F x
  entity_kept_more (entity.Const c v) k = kept_more c v k
  entity_kept_more (entity.Var t) k = tt
  entity_kept_more (entity.Function g) k = tt
  entity_kept_more (entity.TypeOf t) k = tt

  each_kept_more : (xs : List Entity) → Each (EntityKept E) xs → Each (EntityKept F) xs
  each_kept_more [] k = tt
  each_kept_more (x ∷ xs) k = (entity_kept_more x k.0, each_kept_more xs k.1)

  pub entry_kept_more : (x : Entry) → EntryKept E x → EntryKept F x
  entry_kept_more (objects xs) k = each_kept_more xs k
  entry_kept_more (underlying t) k = tt
  entry_kept_more (signed g) k = tt
