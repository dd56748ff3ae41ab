-- From declarations of aliases to those of the aliases that they stand for, by their numbers.
-- Own: words of the contracts inside this crate.
use Rattle.std.specs.Prelude.{◌≡◌, ◌<◌, ℕ, zero, suc, List, length, get_or, Option, None, Some}
use denote.Ref.{Bor}
use Rattle.go_rules.specs.Names.{Named, value_at}
use Rattle.go_syntax.specs.declared.name.Name.{Name}
use Rattle.go_syntax.specs.declared.name.QualifiedName.{QualifiedName}
use Rattle.go_declared.specs.AliasEnds.{name_at}
use Rattle.go_declared.specs.declared.names.NamePlace.{NamePlace}

-- the number that a table has for another; a number past its end stays
abbrev pub step : List ℕ → ℕ → ℕ
step numbers n = get_or numbers n n

-- so many steps on
unfoldable pub walked : List ℕ → ℕ → ℕ → ℕ
walked numbers zero n = n
walked numbers (suc k) n = walked numbers k (step numbers n)

-- the table has for each number below the count what the function gives
abbrev pub AreSteps : ℕ → (ℕ → ℕ) → List ℕ → Type 0
AreSteps count f numbers = (length numbers ≡ count) × ((i : ℕ) → i < count → step numbers i ≡ f i)

-- the table has for each number below the count what the function gives
abbrev pub AreNames : ℕ → (ℕ → Option QualifiedName) → List (Option (Bor QualifiedName)) → Type 0
AreNames count f names = (length names ≡ count) × ((i : ℕ) → i < count → name_at names i ≡ f i)

-- ---- the next alias

-- the number where it has a name
abbrev pub number_with : Option QualifiedName → ℕ → ℕ → ℕ
number_with None number other = other
number_with (Some q) number other = number

abbrev pub number_by : List (Option (Bor QualifiedName)) → Option NamePlace → ℕ → ℕ
number_by aliased None other = other
number_by aliased (Some p) other = number_with (name_at aliased p.number) p.number other

module _ (names : Named NamePlace) (aliased : List (Option (Bor QualifiedName))) where
  -- the number of the alias that a name of the package is, or the other
  abbrev pub number_of : Option Name → Name → ℕ → ℕ
  number_of None name other = number_by aliased (value_at names name.text) other
  number_of (Some qualifier) name other = other

  abbrev pub next_after : Option QualifiedName → ℕ → ℕ
  next_after None n = n
  next_after (Some q) n = number_of q.qualifier q.name n

  -- the number of the alias of which the declaration of a number makes its own name an alias; the same number where it's none
  abbrev pub next : ℕ → ℕ
  next n = next_after (name_at aliased n) n
