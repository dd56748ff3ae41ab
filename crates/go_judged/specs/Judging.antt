-- What is found in a part of a statement: whether the part is typed, and the least untyped place of the runs of statements inside of it.
-- Own: words of the contracts of calls that type statements.
use Rattle.std.specs.Prelude.{ℕ, Bool, true, false, ◌&&◌, List, Option, None, Some}
use Rattle.go_base.specs.Lists.{Has as In}
use Rattle.go_judged.specs.declared.judged.Judged.{Judged}
use Rattle.go_local_scopes.specs.States.{Reaches}
use Rattle.go_rules.specs.Environments.{Env}
use Rattle.go_selectors.specs.Answers.{Decides}
use Rattle.go_local_scopes.specs.go_statement_rules.Functions.{Enclosing, Run, run}
use Rattle.go_local_scopes.specs.go_statement_rules.Places.{IsUntypedPlace}
use Rattle.go_local_scopes.specs.go_statement_rules.Scopes.{Scopes}
use Rattle.go_local_scopes.specs.go_statement_rules.Statements.{AreTyped}
use Rattle.go_syntax.specs.declared.statement.LiteralBlock.{LiteralBlock}
use Rattle.go_syntax.specs.declared.statement.Stmt.{Stmt}
use Rattle.go_untyped_places.specs.Surveys.{Surveyed, lesser}

-- ---- values

-- nothing stands inside of it
abbrev pub tested : Bool → Judged
tested b = record { typed = b; place = None }

abbrev pub is_clean : Option ℕ → Bool
is_clean None = true
is_clean (Some p) = false

-- statements, by their place
abbrev pub found : Option ℕ → Judged
found p = record { typed = is_clean p; place = p }

-- two parts together
abbrev pub both : Judged → Judged → Judged
both a b = record { typed = a.typed && b.typed; place = lesser a.place b.place }

-- with what else is asked
abbrev pub with_test : Judged → Bool → Judged
with_test a b = record { typed = a.typed && b; place = a.place }

-- ---- what they tell

-- whether a fact holds, and what is found in the runs of which another one holds
abbrev pub Judges : Env → List LiteralBlock → Type 0 → (Run → Type 0) → Judged → Type 0
Judges E blocks T P j = Decides j.typed T × Surveyed E blocks P j.place

-- whether it holds of the scopes that are left, or of none, and what is found
abbrev pub JudgesTo : Env → List LiteralBlock → (Scopes → Type 0) → Scopes → (Run → Type 0) → Judged → Type 0
JudgesTo E blocks T t P j = Reaches j.typed T t × Surveyed E blocks P j.place

-- statements are typed and leave these scopes, or this is their untyped place
abbrev pub Finds : Env → List LiteralBlock → Enclosing → Scopes → List Stmt → Scopes → Option ℕ → Type 0
Finds E blocks r s ss t None = AreTyped E blocks r s ss t
Finds E blocks r s ss t (Some p) = IsUntypedPlace E blocks (run r s ss) p

-- the fact holds of one of the items and the run
abbrev pub Among : {A : Type 0} → (A → Run → Type 0) → List A → Run → Type 0
Among {A} P xs v = (x : A) × In xs x × P x v
