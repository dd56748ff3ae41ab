-- The scopes of a function on both sides: each name that is declared in it has the image of what it meant.
-- Own: words on scopes.
use Rattle.std.specs.Prelude.{ℕ, Bool, List, [], ◌∷◌, map}
use Rattle.go_base.specs.Lists.{Each}
use Rattle.go_model.specs.declared.types.names.Sel.{Sel}
use Rattle.go_model.specs.declared.types.names.TypeName.{TypeName}
use Rattle.go_rules.specs.Names.{Named}
use Rattle.go_rules.specs.declared.seen.Seen.{Seen}
use Rattle.go_rules.specs.declared.seen.Seen.TheVariants as seen
use Rattle.go_statement_rules.specs.Functions.{Enclosing}
use Rattle.go_statement_rules.specs.Scopes.{Scopes}
use Rattle.go_type_images.specs.Images.{Naming, image, same_sels}
use Rattle.go_type_images.specs.declared.pair.TypePair.{TypePair}
use Rattle.go_client_types.specs.Keeping.{SeenReached, seen_to}
use Rattle.go_client_types.specs.Reached.{IsReached}

abbrev pub scope_to : Naming → Named Seen → Named Seen
scope_to r [] = []
scope_to r (x ∷ xs) = (x.0, seen_to r x.1) ∷ scope_to r xs

abbrev pub scopes_to : Naming → Scopes → Scopes
scopes_to r s = map (scope_to r) s

-- the function round a statement, with the images of its results
abbrev pub enclosing_to : Naming → Enclosing → Enclosing
enclosing_to r f = record { results = map (image r same_sels) f.results; first = f.first }

module _ (pairs : List TypePair) (std : TypeName → Bool) (is_open : Sel → Bool) where
  -- what a name that is declared in a function means: no import, and of types that the client reaches
  abbrev pub LocalReached : Seen → Type 0
  LocalReached (seen.Import path) = ⊥
  LocalReached m = SeenReached pairs std is_open m

  -- so is what each name of the scope means
  abbrev pub ScopeReached : Named Seen → Type 0
  ScopeReached scope = Each (λ (x : List ℕ × Seen). LocalReached x.1) scope

  abbrev pub ScopesReached : Scopes → Type 0
  ScopesReached s = Each ScopeReached s

  -- the client reaches the types of the function's results
  abbrev pub ResultsReached : Enclosing → Type 0
  ResultsReached f = Each (IsReached pairs std is_open) f.results
