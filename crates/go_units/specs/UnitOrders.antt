-- The canonical order of units: the next one is always the unit with the least path among those whose needs already stand.
-- Public source: Go specification, "Package initialization" (a package is initialized after those that it imports, the next one being the first by its path that is
-- ready). Own: the order is that of all packages of a tree.
use Rattle.std.specs.Prelude.{◌≡◌, ◌++◌, ℕ, List, [], ◌∷◌}
use Rattle.go_base.specs.Lists.{Has, Before}
use Rattle.go_units.specs.declared.unit.«Unit».{«Unit» as PackageUnit}

-- one of the units has the path
abbrev pub Stands : List PackageUnit → List ℕ → Type 0
Stands units path = (u : PackageUnit) × Has units u × (u.path ≡ path)

-- all that the unit needs stands
abbrev pub IsMet : List PackageUnit → PackageUnit → Type 0
IsMet standing u = (path : List ℕ) → Has u.needs path → Stands standing path

-- of the units that don't stand yet and whose needs do, none has a path before this one's
pub record IsNextUnit (among : PackageUnit → Type 0) (standing : List PackageUnit) (u : PackageUnit) : Type 0 where
  pub fresh : Stands standing u.path → ⊥
  pub met : IsMet standing u
  pub least : (v : PackageUnit) → among v → (Stands standing v.path → ⊥) → IsMet standing v → Before v.path u.path → ⊥

-- units in the canonical order of some
pub data InOrder (among : PackageUnit → Type 0) : List PackageUnit → Type 0 where
  none : InOrder among []
  next : {standing : List PackageUnit} {u : PackageUnit} → InOrder among standing → IsNextUnit among standing u → InOrder among (standing ++ u ∷ [])

-- all of these units stand in canonical order; so their paths differ, and what each one needs stands before it
abbrev pub AreInOrder : List PackageUnit → Type 0
AreInOrder units = InOrder (λ u. Has units u) units
