-- A worklist over the parts of types.
-- Own: words of the contracts inside this crate.
use Rattle.std.specs.Prelude.{◌≡◌, ◌⊎◌, ◌<◌, ◌≤◌, ℕ, List, [], ◌∷◌, ◌++◌, length, Bool, true, false, Option, Some, None}
use denote.Ref.{Bor}
use lib.ListN.{get_or}
use Rattle.go_selectors.specs.go_base.Lists.{Has}
use Rattle.go_model.specs.types.Tables.{Table}
use Rattle.go_model.specs.declared.types.names.TypeName.{TypeName}
use Rattle.go_model.specs.declared.types.term.Term.{Term, Term-F, roll-Term}
use Rattle.go_model.specs.declared.types.term.Field.{Field, out-Field}
use Rattle.go_model.specs.types.Terms.{Layer}
use Rattle.go_model.specs.types.Underlying.{under}
use Rattle.go_model.specs.types.Comparison.{LeadsToIncomparable}

-- each name that was seen stands in the list
abbrev pub Known : List Term → List TypeName → Type 0
Known all seen = (n : TypeName) → Has seen n → Has all (roll-Term (Term-F.Named n))

-- a list of types grew by some of these, and the names that were seen stand in it
pub record Pushed (P : Term → Type 0) (old : List Term) (seen : List TypeName) (new : List Term) (newer : List TypeName) : Type 0 where
  pub more : List Term
  pub is : new ≡ old ++ more
  pub each : (t : Term) → Has more t → P t
  pub known : Known old seen → Known new newer

-- the type of one of the fields
abbrev pub IsFieldTerm : List Field → Term → Type 0
IsFieldTerm fs t = (f : Field) × Has fs f × ((out-Field f).term ≡ t)

-- the type of each field stands in the list
abbrev pub HasFieldTerms : List Term → List Field → Type 0
HasFieldTerms all fs = (f : Field) → Has fs f → Has all (out-Field f).term

-- whether a type is a name that was seen before; it is seen
abbrev pub SeesTerm : List TypeName → List TypeName → Term → Bool → Type 0
SeesTerm seen newer t true = ((n : TypeName) × Has seen n × (roll-Term (Term-F.Named n) ≡ t)) × (newer ≡ seen)
SeesTerm seen newer t false = ((n : TypeName) × (newer ≡ seen ++ n ∷ []) × (roll-Term (Term-F.Named n) ≡ t)) ⊎ (newer ≡ seen)

-- a type was added
abbrev pub Pushes : List Term → List TypeName → List Term → List TypeName → Term → Type 0
Pushes old seen new newer t = Pushed (λ u. t ≡ u) old seen new newer × (Known old seen → Has new t)

-- the types of fields were added
abbrev pub PushesFields : List Term → List TypeName → List Term → List TypeName → List Field → Type 0
PushesFields old seen new newer fs = Pushed (IsFieldTerm fs) old seen new newer × (Known old seen → HasFieldTerms new fs)

-- a type that is compared by its parts, of which each is so
abbrev pub ByParts : (Term → Type 0) → Layer → Type 0
ByParts P (Term-F.Slice e) = ⊥
ByParts P (Term-F.Map k e) = ⊥
ByParts P (Term-F.Func g) = ⊥
ByParts P (Term-F.Array n e) = P e
ByParts P (Term-F.Struct fs) = (f : Field) → Has fs f → P (out-Field f).term
ByParts P l = Unit {0}

-- the item at a place of the list, where there is one
abbrev pub PartAt : List Term → ℕ → Option (Bor Term) → Type 0
PartAt all at None = length all ≤ at
PartAt all at (Some part) = (at < length all) × (part.now ≡ get_or all at part.now)

-- a type was looked at: it can't be compared, or its parts are in the list
abbrev pub Looked : Table → Term → List Term → List TypeName → List Term → List TypeName → Bool → Type 0
Looked T t old seen new newer false = LeadsToIncomparable T t
Looked T t old seen new newer true = Pushed (λ u. LeadsToIncomparable T u → LeadsToIncomparable T t) old seen new newer × (Known old seen → ByParts (Has new) (under T t))
