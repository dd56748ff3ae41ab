-- The blocks of functions: that of a function literal, of a function or of a method that is declared, each with its receiver, its parameters and the names of its results in the
-- scope of the block.
-- Public source: Go specification, "Function literals", "Function declarations", "Method declarations" and "Declarations and scope".
-- Own: a block is found by the byte offset of its `{`, and those of function literals in it begin behind that. So no block stands in itself, whatever the list has.
use Rattle.std.specs.Prelude.{◌≡◌, ◌≤◌, ℕ, suc, List, [], ◌∷◌, ◌++◌, Option, None, Some}
use Rattle.go_model.specs.declared.types.term.Signature.{Signature, out-Signature}
use Rattle.go_model.specs.declared.types.term.Term.{Term}
use Rattle.go_typings.specs.go_rules.Environments.{Env}
use Rattle.go_typings.specs.go_rules.Expressions.{OfSignature, OfType, for_names}
use Rattle.go_statement_rules.specs.Scopes.{Scopes, Declares, locals, opened, parameter_slots, result_slots, slots_of, within}
use Rattle.go_syntax.specs.declared.body.BodyRange.{BodyRange}
use Rattle.go_syntax.specs.declared.declaration.Func.{Func}
use Rattle.go_syntax.specs.declared.name.Name.{Name}
use Rattle.go_syntax.specs.declared.statement.LiteralBlock.{LiteralBlock}
use Rattle.go_syntax.specs.declared.statement.Stmt.{Stmt}
use Rattle.go_syntax.specs.declared.types.ParameterDecl.{ParameterDecl, out-ParameterDecl}
use Rattle.go_syntax.specs.declared.types.Signature.{Signature as Sig, out-Signature as out-Sig}

-- the function round a statement: its results, and the first offset at which the block of a function literal in it may begin
pub record Enclosing : Type 0 where
  pub results : List Term
  pub first : ℕ

-- a function with these results, whose block begins at this offset
abbrev pub enclosing : List Term → ℕ → Enclosing
enclosing results start = record { results = results; first = suc start }

-- what stands outside of functions
abbrev pub outside : Enclosing
outside = record { results = []; first = 0 }

-- statements one after another, in these scopes of a function
pub record Run : Type 0 where
  pub function : Enclosing
  pub scopes : Scopes
  pub statements : List Stmt

abbrev pub run : Enclosing → Scopes → List Stmt → Run
run r s ss = record { function = r; scopes = s; statements = ss }

-- a statement, with the function and the scopes in which it stands
pub record Spot : Type 0 where
  pub function : Enclosing
  pub scopes : Scopes
  pub statement : Stmt

abbrev pub spot : Enclosing → Scopes → Stmt → Spot
spot r s x = record { function = r; scopes = s; statement = x }

-- the first block that the list has at this offset
pub data IsBlockAt : List LiteralBlock → ℕ → List Stmt → Type 0 where
  block_here : {l : LiteralBlock} {start : ℕ} {others : List LiteralBlock} → l.start ≡ start → IsBlockAt (l ∷ others) start l.block
  block_later : {l : LiteralBlock} {start : ℕ} {ss : List Stmt} {others : List LiteralBlock} → (l.start ≡ start → ⊥) → IsBlockAt others start ss → IsBlockAt (l ∷ others) start ss

-- the statements of a function literal, where the literal stands in these scopes of a function: in a scope with its parameters and the names of its results. `E` is what stands
-- around the functions, and `blocks` has the block of each body and each function literal by its place
pub data EntersFunction (E : Env) (blocks : List LiteralBlock) (r : Enclosing) (s : Scopes) (g : Sig) (b : BodyRange) : Run → Type 0 where
  enters_function : {inner : Scopes} {h : Signature} {ss : List Stmt} → r.first ≤ b.start → OfSignature (within E s) (out-Sig g).parameters (out-Sig g).result h
      → Declares (opened s) (parameter_slots (out-Sig g).parameters ++ result_slots (out-Sig g).result) (locals ((out-Signature h).params ++ (out-Signature h).results)) inner
      → IsBlockAt blocks b.start ss → EntersFunction E blocks r s g b (run (enclosing (out-Signature h).results b.start) inner ss)

-- the name of a receiver, where it has one
abbrev pub receiver_slots : Option ParameterDecl → List (Option Name)
receiver_slots None = []
receiver_slots (Some r) = slots_of (out-ParameterDecl r).names

-- the type of a receiver, where there is one
pub data OfReceiver (E : Env) : Option ParameterDecl → List Term → Type 0 where
  no_receiver : OfReceiver E None []
  receiver : {r : ParameterDecl} {t : Term} → OfType E (out-ParameterDecl r).type_ t → OfReceiver E (Some r) (for_names (out-ParameterDecl r).names t)

-- the statements of the body of a declared function or method
pub data EntersBody (E : Env) (blocks : List LiteralBlock) (f : Func) : Run → Type 0 where
  enters_body : {b : BodyRange} {h : Signature} {ts : List Term} {inner : Scopes} {ss : List Stmt} → f.body ≡ Some b → OfReceiver (within E []) f.receiver ts
      → OfSignature (within E []) (out-Sig f.signature).parameters (out-Sig f.signature).result h
      → Declares (opened []) (receiver_slots f.receiver ++ parameter_slots (out-Sig f.signature).parameters ++ result_slots (out-Sig f.signature).result) (locals (ts ++ (out-Signature h).params ++ (out-Signature h).results)) inner
      → IsBlockAt blocks b.start ss → EntersBody E blocks f (run (enclosing (out-Signature h).results b.start) inner ss)
