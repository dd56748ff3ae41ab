-- What a declaration is given is of made types, where the environment is.
use Rattle.std.proofs.Common.{ℕ, zero, suc, List, Option, map, sym, subst}
use Rattle.std.specs.Prelude.{replicate}
use Rattle.go_base.specs.Lists.{Each, Has as HasItem}
use Rattle.go_model.specs.declared.constants.value.Untyped.TheVariants as untyped
use Rattle.go_model.specs.declared.constants.value.Value.{Value}
use Rattle.go_model.specs.declared.types.names.Sel.{Sel}
use Rattle.go_model.specs.declared.types.names.TypeName.{TypeName}
use Rattle.go_model.specs.declared.types.package.ConstTerm.{ConstTerm}
use Rattle.go_model.specs.declared.types.package.Entity.{Entity}
use Rattle.go_model.specs.declared.types.package.Entity.TheVariants as entity
use Rattle.go_model.specs.declared.types.term.Signature.{Signature}
use Rattle.go_model.specs.declared.types.term.Term.{Term}
use Rattle.go_rules.specs.Environments.{Env}
use Rattle.go_rules.specs.Expressions.{HasEach, each_none, each_more}
use Rattle.go_rules.specs.declared.operand.Operand.{Operand}
use Rattle.go_syntax.specs.declared.expression.Expr.{Expr}
use Rattle.go_syntax.specs.declared.types.«Type».{«Type» as Typ}
use Rattle.go_type_images.specs.Parts.{function_type, parts}
use Rattle.go_typings.specs.DeclarationRules.{AreConstants, constants_none, constants_more, Gives, gives_constants, gives_typed_variables, gives_variables, gives_alias, gives_definition, gives_function, gives_method, TypeOfConstant, own_kind, given_type}
use Rattle.go_typings.specs.Declarations.{Declaration, Form}
use Rattle.go_typings.specs.Initializers.{GivesValueAndTruth, two_of_map, two_of_value, Initialize, by_each, by_call, by_two, TypeOfValue, own_type, default_of_constant, default_of_truth, TypesOfValues, types_none, types_more}
use Rattle.go_typings.specs.PackageEnvironments.{Entry, objects, underlying, signed}
use Rattle.api_std_types.proofs.MadeTypes.{IsLevel, Made, level_of, part_of, rolled}
use Rattle.api_std_types.proofs.MadeOperands as operands
use Rattle.api_std_types.proofs.MadeOperands.{ConstMade, EntityMade, EnvMade, OperandMade}
use Rattle.api_std_types.proofs.MadeRules.{form_of_signature, has_made, type_made}

module _ (N : TypeName → Type 0) (Q : Sel → Type 0) (M : Sel → Signature → Type 0) (I : List ℕ → Type 0) where
  abbrev pub EntryMade : Entry → Type 0
  EntryMade (objects xs) = Each (EntityMade N Q M I) xs
  EntryMade (underlying t) = Made N Q M t
  EntryMade (signed g) = Made N Q M (function_type g)

  module _ (E : Env) (w : EnvMade N Q M I E) where
    abbrev G : Term → Type 0
    G = Made N Q M

    abbrev O : Operand → Type 0
    O = OperandMade N Q M I

    -- ---- constants

    constant_made : {t : Option Typ} {c d : ConstTerm} {v : Value} → TypeOfConstant E t c v d → ConstMade N Q M I c → ConstMade N Q M I d
    constant_made own_kind k = k
    constant_made (given_type a e i h) k = type_made N Q M I E w a

    constants_made : {t : Option Typ} {es : List Expr} {xs : List Entity} → AreConstants E t es xs → Each (EntityMade N Q M I) xs
    constants_made constants_none = tt
    constants_made (constants_more a h r) = (constant_made h (has_made N Q M I E w a), constants_made r)

    -- ---- variables

    each_made : {es : List Expr} {os : List Operand} → HasEach E es os → Each O os
    each_made each_none = tt
    each_made (each_more a r) = (has_made N Q M I E w a, each_made r)

    two_made : {e : Expr} {t : Term} → GivesValueAndTruth E e t → G t
    two_made (two_of_map a) = has_made N Q M I E w a
    two_made (two_of_value i a) = has_made N Q M I E w a

    initialize_made : {n : ℕ} {es : List Expr} {os : List Operand} → Initialize E n es os → Each O os
    initialize_made (by_each a e) = each_made a
    initialize_made (by_call {ts = ts} a e l) = operands.plains_made N Q M I ts (has_made N Q M I E w a)
    initialize_made (by_two a e) = (two_made a, (tt, tt))

    value_made : {o : Operand} {t : Term} → TypeOfValue E o t → O o → G t
    value_made (own_type h) i = operands.typed_made N Q M I i h
    value_made (default_of_constant {k = k} h) i = operands.default_made N Q M I k
    value_made default_of_truth i = operands.default_made N Q M I untyped.BoolKind

    variables_made : {os : List Operand} {ts : List Term} → TypesOfValues E os ts → Each O os → Each (EntityMade N Q M I) (map entity.Var ts)
    variables_made types_none i = tt
    variables_made (types_more a r) i = (value_made a i.0, variables_made r i.1)

    same_made : (n : ℕ) (t : Term) → G t → Each (EntityMade N Q M I) (replicate n (entity.Var t))
    same_made zero t h = tt
    same_made (suc n) t h = (h, same_made n t h)

    -- ---- declarations

    pub gives_made : {ds : List Declaration} {f : Form} {x : Entry} → Gives E ds f x → EntryMade x
    gives_made (gives_constants a e) = constants_made a
    gives_made (gives_typed_variables {u = u} e a) = same_made _ u (type_made N Q M I E w a)
    gives_made (gives_variables e a h) = variables_made h (initialize_made a)
    gives_made (gives_alias a) = (type_made N Q M I E w a, tt)
    gives_made (gives_definition {u = u} {l = l} a e m h) =
        let v = operands.beneath N Q M I E w u l (type_made N Q M I E w a) e in
        rolled N Q M l (subst (IsLevel N Q M) (sym v.2) (level_of N Q M v.0 v.1)) (λ x k. part_of N Q M v.0 x v.1 (subst (λ y. HasItem (parts y) x) v.2 k))
    gives_made (gives_function a b) = (form_of_signature N Q M I E w a, tt)
    gives_made (gives_method a b) = form_of_signature N Q M I E w a
