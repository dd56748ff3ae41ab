-- What is found in a declaration of constants or variables in a function, from what is found in its specs.
use Rattle.std.proofs.Common.{◌≡◌, ℕ, suc, List, [], ◌∷◌, map, Result, sym, subst}
use Rattle.std.proofs.lemmas.Result.{IfOk-weaker}
use Rattle.go_base.specs.declared.memory.NoMemory.{NoMemory}
use Rattle.go_flat_statements.specs.Declaring.{JudgesSpecs}
use Rattle.go_flat_statements.specs.Judging.{JudgesKind, JudgesStatement}
use Rattle.go_judged.specs.Judging.{JudgesTo}
use Rattle.go_judged.specs.declared.judged.Judged.{Judged}
use Rattle.go_judged.proofs.Joining.{so_reached}
use Rattle.go_local_scopes.specs.States.{IsAt}
use Rattle.go_local_specs.specs.LocalForms.{AreLocal}
use Rattle.go_rules.specs.Environments.{Env}
use Rattle.go_rules.specs.Scopes.{Scopes as Known}
use Rattle.go_statement_rules.specs.Functions.{Enclosing}
use Rattle.go_statement_rules.specs.Scopes.{Scopes}
use Rattle.go_statement_rules.specs.Statements.{AreDeclared, Leaves, leaves_constants_declared, leaves_variables_declared}
use Rattle.go_syntax.specs.declared.declaration.ConstSpec.{ConstSpec}
use Rattle.go_syntax.specs.declared.declaration.VarSpec.{VarSpec}
use Rattle.go_syntax.specs.declared.statement.LiteralBlock.{LiteralBlock}
use Rattle.go_syntax.specs.declared.statement.StmtKind.{StmtKind-F}
use Rattle.go_typings.specs.Declarations.{Form, constants_from, no_spec, repeated, variables}
use Rattle.go_untyped_places.specs.Parts.{InSpecs}
use Rattle.go_walks.specs.Below.{blocks_of, enclosing_of}
use Rattle.go_walks.specs.declared.frame.Frame.{Frame}

-- ---- they are local

constants_local : (before : ConstSpec) (place : ℕ) (specs : List ConstSpec) → AreLocal (constants_from before place specs)
constants_local before place [] = tt
constants_local before place (s ∷ ss) = (tt, constants_local (repeated before s) (suc place) ss)

variables_local : (specs : List VarSpec) → AreLocal (map variables specs)
variables_local [] = tt
variables_local (s ∷ ss) = (tt, variables_local ss)

pub constants_are_local : (specs : List ConstSpec) (fs : List Form) → fs ≡ constants_from no_spec 0 specs → AreLocal fs
constants_are_local specs fs e = subst AreLocal (sym e) (constants_local no_spec 0 specs)

pub variables_are_local : (specs : List VarSpec) (fs : List Form) → fs ≡ map variables specs → AreLocal fs
variables_are_local specs fs e = subst AreLocal (sym e) (variables_local specs)

-- ---- what they leave

module _ (E : Env) (blocks : List LiteralBlock) (r : Enclosing) where
  constants_leave : (specs : List ConstSpec) (s u : Scopes) → Leaves E blocks r s (StmtKind-F.Const specs) u → AreDeclared E blocks r s (constants_from no_spec 0 specs) u
  constants_leave specs s u (leaves_constants_declared d) = d

  variables_leave : (specs : List VarSpec) (s u : Scopes) → Leaves E blocks r s (StmtKind-F.Var specs) u → AreDeclared E blocks r s (map variables specs) u
  variables_leave specs s u (leaves_variables_declared d) = d

  constants_kind : (s t : Scopes) (j : Judged) (specs : List ConstSpec) (fs : List Form) → fs ≡ constants_from no_spec 0 specs → JudgesTo E blocks (AreDeclared E blocks r s fs) t (InSpecs E blocks r s fs) j → JudgesKind E blocks r s (StmtKind-F.Const specs) t j
  constants_kind s t j specs fs e k =
      let all = constants_from no_spec 0 specs in
      let m = subst (λ (gs : List Form). JudgesTo E blocks (AreDeclared E blocks r s gs) t (InSpecs E blocks r s gs) j) e k in
      (so_reached (AreDeclared E blocks r s all) (Leaves E blocks r s (StmtKind-F.Const specs)) t j.typed (λ d. leaves_constants_declared d) (constants_leave specs s) m.0, m.1)

  variables_kind : (s t : Scopes) (j : Judged) (specs : List VarSpec) (fs : List Form) → fs ≡ map variables specs → JudgesTo E blocks (AreDeclared E blocks r s fs) t (InSpecs E blocks r s fs) j → JudgesKind E blocks r s (StmtKind-F.Var specs) t j
  variables_kind s t j specs fs e k =
      let all = map variables specs in
      let m = subst (λ (gs : List Form). JudgesTo E blocks (AreDeclared E blocks r s gs) t (InSpecs E blocks r s gs) j) e k in
      (so_reached (AreDeclared E blocks r s all) (Leaves E blocks r s (StmtKind-F.Var specs)) t j.typed (λ d. leaves_variables_declared d) (variables_leave specs s) m.0, m.1)

module _ (w : Frame) (old new : Known) (r : Result Judged NoMemory) where
  pub constants_judged : (specs : List ConstSpec) (fs : List Form) → fs ≡ constants_from no_spec 0 specs → JudgesSpecs w old fs new r → JudgesStatement w old (StmtKind-F.Const specs) new r
  constants_judged specs fs e h =
      IfOk-weaker r (λ (j : Judged). (E : Env) (s : Scopes) → IsAt E s old → JudgesTo E (blocks_of w) (AreDeclared E (blocks_of w) (enclosing_of w) s fs) new.opened (InSpecs E (blocks_of w) (enclosing_of w) s fs) j)
      (λ (j : Judged). (E : Env) (s : Scopes) → IsAt E s old → JudgesKind E (blocks_of w) (enclosing_of w) s (StmtKind-F.Const specs) new.opened j)
      (λ j k E s at. constants_kind E (blocks_of w) (enclosing_of w) s new.opened j specs fs e (k E s at)) h

  pub variables_judged : (specs : List VarSpec) (fs : List Form) → fs ≡ map variables specs → JudgesSpecs w old fs new r → JudgesStatement w old (StmtKind-F.Var specs) new r
  variables_judged specs fs e h =
      IfOk-weaker r (λ (j : Judged). (E : Env) (s : Scopes) → IsAt E s old → JudgesTo E (blocks_of w) (AreDeclared E (blocks_of w) (enclosing_of w) s fs) new.opened (InSpecs E (blocks_of w) (enclosing_of w) s fs) j)
      (λ (j : Judged). (E : Env) (s : Scopes) → IsAt E s old → JudgesKind E (blocks_of w) (enclosing_of w) s (StmtKind-F.Var specs) new.opened j)
      (λ j k E s at. variables_kind E (blocks_of w) (enclosing_of w) s new.opened j specs fs e (k E s at)) h
