-- The typing of a package, and the declarations that have none.
-- Public source: Go specification, "Declarations and scope", "Method declarations" and "Types"; that the types and values of
-- a package are had from below, ranks and soundness are own.
use Rattle.std.specs.Prelude.{◌≡◌, ◌<◌, ℕ, Bool, true, length}
use Rattle.go_typings.specs.Assignments.{At, Below, all_of}
use Rattle.go_typings.specs.DeclarationAsks.{Asks}
use Rattle.go_typings.specs.DeclarationRules.{Gives}
use Rattle.go_typings.specs.Declarations.{Declaration, declarations}
use Rattle.go_typings.specs.PackageEnvironments.{Entries, Entry, environment}
use Rattle.go_typings.specs.References.{Falls, NoLengthLeadsBack, DependsOn}
use Rattle.go_typings.specs.Sources.{PackageSource, Setting}

module _ (s : Setting) (u : PackageSource) where
  -- the rules, where an assignment tells what is had
  abbrev pub given : Entries → Declaration → Entry → Type 0
  given a d x = Gives (environment s u a d) (declarations u) d.form x

  -- a typing of some declarations
  pub record Typing (within : ℕ → Bool) (a : Entries) : Type 0 where
    -- the entry of each is given under those that stand before it in an order
    pub had : Below given (declarations u) within a
    -- once all entries are had, each declaration meets what it is asked besides
    pub asks : (n : ℕ) → within n ≡ true → At (declarations u) n (λ d. Asks (environment s u a d) u n d.form)
    -- what has to be settled first is of a lower rank
    pub rank : ℕ → ℕ
    pub falls : Falls s u a within rank
    -- no length of an array leads back to where it stands
    pub lengths : NoLengthLeadsBack s u a within

  -- a typing of the package
  abbrev pub IsTyping : Entries → Type 0
  IsTyping a = Typing (all_of (declarations u)) a

  -- a set of declarations holds all that its members depend on
  abbrev pub IsClosed : (ℕ → Bool) → Type 0
  IsClosed within = (m n : ℕ) → within m ≡ true → At (declarations u) m (λ d. DependsOn u d.form n) → within n ≡ true

  -- a declaration stands in a closed set that has a typing
  pub record IsSound (n : ℕ) : Type 0 where
    pub within : ℕ → Bool
    pub entries : Entries
    pub holds : within n ≡ true
    pub closed : IsClosed within
    pub typing : Typing within entries

  -- the first declaration that doesn't
  pub record IsFirstUnsound (n : ℕ) : Type 0 where
    pub is : n < length (declarations u)
    pub unsound : IsSound n → ⊥
    pub first : (m : ℕ) → m < n → IsSound m
