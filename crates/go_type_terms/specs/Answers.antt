-- What the calls that type the parts of an expression answer.
-- Own: words of the contracts of calls that type the parts of a tree.
use Rattle.std.specs.Prelude.{◌≡◌, ℕ, Bool, List, [], ◌∷◌, Result, Ok, Err}
use Rattle.std.specs.declared.alloc.Global.{Global}
use denote.Ref.{Bor}
use Rattle.go_model.specs.declared.types.term.Term.{Term}
use Rattle.go_syntax.specs.declared.expression.Element.{Element}
use Rattle.go_syntax.specs.declared.expression.Expr.{Expr}
use Rattle.go_syntax.specs.declared.types.«Type».{«Type» as Typ}
use Rattle.go_rules.specs.Environments.{Env}
use Rattle.go_rules.specs.Expressions.{Has, HasElements, OfType}
use Rattle.go_rules.specs.Nodes.{Node, expression, type, element_parts}
use Rattle.go_rules.specs.Scopes.{env_of}
use Rattle.go_rules.specs.declared.operand.Operand.{Operand}
use Rattle.go_usability.specs.declared.context.Context.{Context}
use Rattle.go_type_terms.specs.Loudness.{AreLoud}
use Rattle.go_type_terms.specs.declared.error.ExprError.{ExprError}
use Rattle.go_type_terms.specs.declared.error.ExprError.TheVariants.{NoMemory, Untyped}
use Rattle.go_type_terms.specs.declared.part.Answer.{Answer}
use Rattle.go_type_terms.specs.declared.part.Answer.TheVariants as answer
use Rattle.go_type_terms.specs.declared.part.Part.{Part}
use Rattle.go_type_terms.specs.declared.part.Part.TheVariants as part

-- what the fact holds of, or that it holds of nothing, unless memory fails
abbrev pub Tells : {A : Type 0} → (A → Type 0) → Result A ExprError → Type 0
Tells fact (Ok a) = fact a
Tells fact (Err NoMemory) = Unit {0}
Tells {A} fact (Err Untyped) = (a : A) → fact a → ⊥

-- the same, with a flag that tells whether the length of an array in these trees is no constant
abbrev pub Types : {A : Type 0} → Env → (A → Type 0) → List Node → Result (A × Bool) ExprError → Type 0
Types E fact ns (Ok a) = fact a.0 × AreLoud E ns a.1
Types E fact ns (Err NoMemory) = Unit {0}
Types {A} E fact ns (Err Untyped) = (a : A) → fact a → ⊥

-- the fact holds, with that flag; or it doesn't
abbrev pub Holds : Env → Type 0 → List Node → Result Bool ExprError → Type 0
Holds E fact ns (Ok loud) = fact × AreLoud E ns loud
Holds E fact ns (Err NoMemory) = Unit {0}
Holds E fact ns (Err Untyped) = fact → ⊥

-- the environment that a context asks
abbrev pub env_in : Context → Env
env_in context = env_of context.env.now

-- what an expression below is
abbrev pub TypesExpr : Env → Bor Expr → Result Answer ExprError → Type 0
TypesExpr E e (Ok (answer.Operand o loud)) = Has E e.now o × AreLoud E (expression e.now ∷ []) loud
TypesExpr E e (Ok (answer.Type t loud)) = ⊥
TypesExpr E e (Ok (answer.Elements loud)) = ⊥
TypesExpr E e (Err NoMemory) = Unit {0}
TypesExpr E e (Err Untyped) = (o : Operand) → Has E e.now o → ⊥

-- what a type form below stands for
abbrev pub TypesType : Env → Bor Typ → Result Answer ExprError → Type 0
TypesType E t (Ok (answer.Type u loud)) = OfType E t.now u × AreLoud E (type t.now ∷ []) loud
TypesType E t (Ok (answer.Operand o loud)) = ⊥
TypesType E t (Ok (answer.Elements loud)) = ⊥
TypesType E t (Err NoMemory) = Unit {0}
TypesType E t (Err Untyped) = (u : Term) → OfType E t.now u → ⊥

-- whether elements below are those of a literal of the type
abbrev pub TypesElements : Env → Term → List Element → Result Answer ExprError → Type 0
TypesElements E t xs (Ok (answer.Elements loud)) = HasElements E t xs × AreLoud E (element_parts xs) loud
TypesElements E t xs (Ok (answer.Operand o loud)) = ⊥
TypesElements E t xs (Ok (answer.Type u loud)) = ⊥
TypesElements E t xs (Err NoMemory) = Unit {0}
TypesElements E t xs (Err Untyped) = HasElements E t xs → ⊥

abbrev pub TypesPart : Env → Part → Result Answer ExprError → Type 0
TypesPart E (part.Expr e) = TypesExpr E e
TypesPart E (part.Type t) = TypesType E t
TypesPart E (part.Elements t xs) = TypesElements E t.now xs.now

-- the function value can be called in this context, and types each part
pub record TypesBelow (context : Context) (height : ℕ) (pre : Bor Context → Global → ℕ → Part → Type 0)
    (post : Bor Context → Global → ℕ → Part → Result Answer ExprError → Type 0) : Type 0 where
  pub callable : (at : Bor Context) (alloc : Global) (p : Part) → at.now ≡ context → pre at alloc height p
  pub types : (at : Bor Context) (alloc : Global) (p : Part) (r : Result Answer ExprError) → at.now ≡ context → post at alloc height p r → TypesPart (env_in context) p r
