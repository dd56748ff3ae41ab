-- A search by layers: what is kept of a layer, and what is known of the types that were seen.
-- Own: words of the contracts inside this crate.
use Rattle.std.specs.Prelude.{◌≡◌, ◌⊎◌, min, Bool, true, false, Option, Some, None, List, [], ◌∷◌, ◌++◌, length}
use Rattle.go_base.specs.Lists.{Has}
use Rattle.go_model.specs.declared.types.term.Term.{Term-F, roll-Term}
use Rattle.go_base.specs.Gathered.{gather}
use Rattle.go_model.specs.types.Selectors.{Spot, Ending}
use Rattle.go_selectors.specs.declared.seen.Key.{Key}

-- whether an item wasn't in a set yet, which keeps what it had in its order, and the item last
abbrev pub Adds : {A : Type 0} → List A → List A → A → Bool → Type 0
Adds old new k true = new ≡ old ++ k ∷ []
Adds old new k false = Has old k × (new ≡ old)

abbrev pub spot_of : Key → Spot
spot_of k = record { through = k.through; term = roll-Term (Term-F.Named k.name) }

abbrev pub IsKeyOf : Spot → Option Key → Type 0
IsKeyOf at None = Unit {0}
IsKeyOf at (Some k) = spot_of k ≡ at

-- an item stands twice in a list
pub record Twice {A : Type 0} (xs : List A) (x : A) : Type 0 where
  pub before : List A
  pub between : List A
  pub after : List A
  pub is : xs ≡ before ++ x ∷ (between ++ x ∷ after)

-- what is known of the types that were seen: they stand in earlier layers or in what is kept of this one
pub record Knows (once twice : List Key) (earlier kept : List Spot) : Type 0 where
  pub seen_once : (k : Key) → Has once k → Has earlier (spot_of k) ⊎ Has kept (spot_of k)
  pub seen_twice : (k : Key) → Has twice k → Has earlier (spot_of k) ⊎ Twice kept (spot_of k)

-- a spot is dropped where an earlier layer or twice this one has it
abbrev pub Drops : List Spot → List Spot → Spot → Type 0
Drops earlier kept at = Has earlier at ⊎ Twice kept at

-- a spot is kept or dropped
abbrev pub Keeps : List Spot → List Spot → List Spot → Spot → Type 0
Keeps earlier old new at = (new ≡ old ++ at ∷ []) ⊎ ((new ≡ old) × Drops earlier old at)

-- what is kept of a layer: no other spot, and as many that none, one and several paths are told apart, where the spots of earlier layers lead nowhere
pub record IsConsolidated (earlier all kept : List Spot) : Type 0 where
  pub sub : (at : Spot) → Has kept at → Has all at
  pub same : (f : Spot → List Ending) → ((at : Spot) → Has earlier at → f at ≡ []) → min 2 (length (gather f kept)) ≡ min 2 (length (gather f all))

-- a layer is consolidated by what was seen, which then also knows what is kept
abbrev pub Consolidates : List Key → List Key → List Key → List Key → List Spot → List Spot → Type 0
Consolidates once twice newer again all kept = (earlier : List Spot) → Knows once twice earlier [] → Knows newer again earlier kept × IsConsolidated earlier all kept

-- a spot of a layer is kept or dropped by what was seen
abbrev pub KeepsSeen : List Key → List Key → List Key → List Key → List Spot → List Spot → Spot → Type 0
KeepsSeen once twice newer again old new at = (earlier : List Spot) → Knows once twice earlier old → Knows newer again earlier new × Keeps earlier old new at

-- whether a type was seen twice before; it is seen again
abbrev pub Sees : List Key → List Key → List Key → List Key → Key → Bool → Type 0
Sees once twice newer again k true = Has twice k × (newer ≡ once) × (again ≡ twice)
Sees once twice newer again k false = ((newer ≡ once ++ k ∷ []) × (again ≡ twice)) ⊎ (Has once k × (newer ≡ once) × (again ≡ twice ++ k ∷ []))

-- whether a spot is dropped; else it is kept next
abbrev pub Recalls : List Key → List Key → List Spot → List Spot → Spot → Bool → Type 0
Recalls once twice earlier kept at true = Knows once twice earlier kept × Drops earlier kept at
Recalls once twice earlier kept at false = Knows once twice earlier (kept ++ at ∷ [])

abbrev pub RecallsSeen : List Key → List Key → List Key → List Key → Spot → Bool → Type 0
RecallsSeen once twice newer again at known = (earlier kept : List Spot) → Knows once twice earlier kept → Recalls newer again earlier kept at known
