-- Types that stand in several pairs.
-- Own: words of the contracts inside this crate.
use Rattle.std.specs.Prelude.{◌≡◌, ◌⊎◌, ◌<◌, ℕ, Bool, true, false, List, [], ◌∷◌, ◌++◌}
use Rattle.go_base.specs.Lists.{Has}
use Rattle.go_model.specs.worlds.Worlds.{Packages}
use Rattle.go_model.specs.declared.types.names.TypeName.{TypeName}
use Rattle.go_model.specs.declared.types.term.Term.{Term, Term-F, out-Term}
use Rattle.go_type_images.specs.declared.pair.TypePair.{TypePair}
use Rattle.api_correspond.specs.OwnedPairs.{are_of_module}
use Rattle.api_correspond.specs.Rules.{KeepsApart}
use Rattle.api_correspond.specs.inner.Tables.{At}
use Rattle.api_breaks.specs.declared.broken.Lost.{Lost}
use Rattle.api_breaks.specs.declared.broken.Lost.TheVariants as lost

-- whether a name wasn't in a set yet, which keeps what it had in its order, and the name last
abbrev pub AddsName : List TypeName → List TypeName → TypeName → Bool → Type 0
AddsName old new k true = (new ≡ old ++ k ∷ []) × (Has old k → ⊥)
AddsName old new k false = (new ≡ old) × Has old k

-- a name was added to the first set, and to the second where it was in the first
pub record NotesName (once twice newer again : List TypeName) (k : TypeName) : Type 0 where
  pub first : (n : TypeName) → Has newer n → Has once n ⊎ (k ≡ n)
  pub kept : (n : TypeName) → Has once n ⊎ (k ≡ n) → Has newer n
  pub second : (n : TypeName) → Has again n → Has twice n ⊎ ((k ≡ n) × Has once n)
  pub stays : (n : TypeName) → Has twice n ⊎ ((k ≡ n) × Has once n) → Has again n

-- the type is this name
abbrev pub IsName : Term → TypeName → Type 0
IsName t n = out-Term t ≡ Term-F.Named n

-- the name of a type was noted, where it has one
pub record NotesSide (once twice newer again : List TypeName) (t : Term) : Type 0 where
  pub first : (n : TypeName) → Has newer n → Has once n ⊎ IsName t n
  pub kept : (n : TypeName) → Has once n ⊎ IsName t n → Has newer n
  pub second : (n : TypeName) → Has again n → Has twice n ⊎ (IsName t n × Has once n)
  pub stays : (n : TypeName) → Has twice n ⊎ (IsName t n × Has once n) → Has again n

-- the old type of a pair, or the new one
abbrev pub side_of : Bool → TypePair → Term
side_of true p = p.old
side_of false p = p.new

-- the name stands at a place
abbrev pub NameAt : Bool → List TypePair → ℕ → TypeName → Type 0
NameAt side pairs i n = (p : TypePair) × At pairs i p × IsName (side_of side p) n

-- the name stands at two places
abbrev pub StandsTwice : Bool → List TypePair → TypeName → Type 0
StandsTwice side pairs n = (i : ℕ) × (j : ℕ) × (i < j) × NameAt side pairs i n × NameAt side pairs j n

pub record HoldShared (side : Bool) (pairs : List TypePair) (names : List TypeName) : Type 0 where
  pub sound : (n : TypeName) → Has names n → StandsTwice side pairs n
  pub complete : (n : TypeName) → StandsTwice side pairs n → Has names n

-- the same of the places below a number, with the names that stand at one of them
pub record HoldBelow (side : Bool) (pairs : List TypePair) (k : ℕ) (once twice : List TypeName) : Type 0 where
  pub seen : (n : TypeName) → Has once n → (i : ℕ) × (i < k) × NameAt side pairs i n
  pub all : (n : TypeName) (i : ℕ) → i < k → NameAt side pairs i n → Has once n
  pub sound : (n : TypeName) → Has twice n → StandsTwice side pairs n
  pub complete : (n : TypeName) (i j : ℕ) → i < j → j < k → NameAt side pairs i n → NameAt side pairs j n → Has twice n

-- the type is one of these names
abbrev pub IsShared : List TypeName → Term → Type 0
IsShared names t = (n : TypeName) × IsName t n × Has names n

abbrev pub HasOthers : List TypeName → List TypeName → TypePair → Type 0
HasOthers olds news p = IsShared olds p.old ⊎ IsShared news p.new

-- the rule on a pair and each of these
abbrev pub KeepsPartners : Packages → Packages → List TypePair → TypePair → Type 0
KeepsPartners old new pairs p = (q : TypePair) → Has pairs q → are_of_module old new p ≡ true → KeepsApart p q

abbrev pub IsPartnersLoss : Packages → Packages → List TypePair → TypePair → Lost → Type 0
IsPartnersLoss old new pairs p l = (q : TypePair) × Has pairs q × (are_of_module old new p ≡ true) × (KeepsApart p q → ⊥) × (lost.OneToOne p.old p.new ≡ l)
