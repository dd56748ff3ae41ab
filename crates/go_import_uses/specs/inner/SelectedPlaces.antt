-- The places of the imports from which references and declarations select.
use Rattle.std.specs.Prelude.{◌≡◌, ◌<◌, ℕ, Bool, true, List}
use Rattle.go_base.specs.Lists.{Has}
use Rattle.go_declarations.specs.Listings.{declarations_of}
use Rattle.go_declarations.specs.declared.listing.Declaration.{Declaration as Borrowed}
use Rattle.go_exposed.specs.ImportUses.{SelectsFrom}
use Rattle.go_graphs.specs.Flags.{is_flagged}
use Rattle.go_import_uses.specs.Selecting.{Selects}
use Rattle.go_references.specs.declared.references.Reference.{Reference}
use Rattle.go_typings.specs.Assignments.{At}
use Rattle.go_typings.specs.Declarations.{Declaration}
use Rattle.go_typings.specs.Sources.{Import, PackageSource}

-- the reference selects from an import that stands at this place
abbrev pub SelectsAt : List Import → Reference → ℕ → Type 0
SelectsAt is r p = (i : Import) × Selects is r i × (i.place ≡ p)

-- one of the references does
abbrev pub SomeSelectsAt : List Import → List Reference → ℕ → Type 0
SomeSelectsAt is rs p = (r : Reference) × Has rs r × SelectsAt is r p

-- the declaration does
abbrev pub SelectsFromAt : PackageSource → Declaration → ℕ → Type 0
SelectsFromAt u d p = (i : Import) × SelectsFrom u d i × (i.place ≡ p)

-- it is flagged as seen, stands in the file, and does
abbrev pub CountsAt : PackageSource → Bool → ℕ → Declaration → ℕ → Type 0
CountsAt u is_seen file d p = (is_seen ≡ true) × (d.file ≡ file) × SelectsFromAt u d p

-- of the declarations below a number each place is there from which one does
abbrev pub HoldsBelow : PackageSource → List Borrowed → List Bool → ℕ → ℕ → List ℕ → Type 0
HoldsBelow u ds seen file n places = (k : ℕ) → k < n → (p : ℕ) → At (declarations_of ds) k (λ d. CountsAt u (is_flagged seen k) file d p) → Has places p

-- so it is of all declarations
abbrev pub HoldsPlaces : PackageSource → List Borrowed → List Bool → ℕ → List ℕ → Type 0
HoldsPlaces u ds seen file places = (k : ℕ) → (p : ℕ) → At (declarations_of ds) k (λ d. CountsAt u (is_flagged seen k) file d p) → Has places p
