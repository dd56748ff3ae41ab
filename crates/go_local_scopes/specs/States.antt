-- An environment in which a statement is typed: what stands around the functions, and the scopes that are open in them.
-- Own: words of the contracts.
use Rattle.std.specs.Prelude.{◌≡◌, Bool, true, false, [], ◌∷◌, drop, None}
use Rattle.go_rules.specs.Environments.{Env}
use Rattle.go_rules.specs.Names.{Named}
use Rattle.go_rules.specs.Scopes.{Scopes as Known, env_of}
use Rattle.go_rules.specs.declared.seen.Seen.{Seen}
use Rattle.go_statement_rules.specs.Scopes.{Scopes}

-- what stands around the functions
abbrev pub around : Known → Env
around e = env_of (record e { opened = []; iota = None })

-- it stands in these scopes of a function, with this around
pub record IsAt (E : Env) (s : Scopes) (e : Known) : Type 0 where
  pub outside : E ≡ around e
  pub scopes : e.opened ≡ s
  pub no_iota : e.iota ≡ None

-- nothing but the innermost scope is changed
abbrev pub Kept : Known → Known → Type 0
Kept e f = (scope : Named Seen) × (f ≡ record e { opened = scope ∷ drop 1 e.opened })

-- the fact holds of the scopes that are left, or of none
abbrev pub Reaches : Bool → (Scopes → Type 0) → Scopes → Type 0
Reaches true T t = T t
Reaches false T t = (u : Scopes) → T u → ⊥
