-- What a short variable declaration declares, but for the blocks of function literals in it, and what it does to the scopes.
-- Public source: Go specification, "Short variable declarations" and "Declarations and scope". Own: what an error leaves.
use Rattle.std.specs.Prelude.{◌≡◌, ◌≢◌, ℕ, Bool, true, false, List, [], ◌∷◌, length, drop, Option}
use Rattle.go_rules.specs.Asks.{AreDistinctNames, texts}
use Rattle.go_rules.specs.Environments.{Env}
use Rattle.go_rules.specs.Names.{Named}
use Rattle.go_rules.specs.Scopes.{Scopes as Names, is_declared, with_meaning}
use Rattle.go_rules.specs.declared.operand.Operand.{Operand}
use Rattle.go_rules.specs.declared.seen.Seen.{Seen}
use Rattle.go_statement_rules.specs.Assignments.{AreDefined}
use Rattle.go_statement_rules.specs.Scopes.{Declares, Scopes}
use Rattle.go_syntax.specs.declared.expression.Expr.{Expr}
use Rattle.go_syntax.specs.declared.name.Name.{Name}
use Rattle.go_typings.specs.Initializers.{Initialize}
use Rattle.go_assignments.specs.Simple.{AreMet}

-- in these scopes the declaration of the names with the values of the expressions is typed, and leaves the last ones
abbrev pub Defines : Env → Scopes → List Name → List Expr → Scopes → Type 0
Defines E [] ns xs t = ⊥
Defines E (scope ∷ outer) ns xs t =
    (os : List Operand) × (new : List (Option Name)) × (ms : List Seen) × AreDistinctNames (texts ns) × Initialize E (length ns) xs os × AreDefined E scope ns os new ms × (new ≢ []) × AreMet E xs × Declares (scope ∷ outer) new ms t

-- the same but for the names of the innermost scope
abbrev pub KeepsOuter : Names → Names → Type 0
KeepsOuter old new = (scope : Named Seen) × (new ≡ record old { opened = scope ∷ drop 1 old.opened })

-- the name is new in the innermost scope, and has the meaning there; or the scope has it, and nothing changes
abbrev pub AddsName : Names → List ℕ → Seen → Names → Bool → Type 0
AddsName old name m new true = (is_declared old name ≡ false) × (new ≡ with_meaning old name m)
AddsName old name m new false = (is_declared old name ≡ true) × (new ≡ old)
