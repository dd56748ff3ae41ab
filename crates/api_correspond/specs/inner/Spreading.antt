-- A worklist over the types that are embedded in a type.
-- Own: words of the contracts inside this crate.
use Rattle.std.specs.Prelude.{◌≡◌, ◌⊎◌, ◌<◌, ◌≤◌, ℕ, List, [], ◌∷◌, ◌++◌, length, Bool, true, false, Option, Some, None}
use denote.Ref.{Bor}
use lib.ListN.{get_or}
use Rattle.go_base.specs.Lists.{Has}
use Rattle.go_model.specs.types.Selectors.{base_of}
use Rattle.go_model.specs.types.Members.{field_sel}
use Rattle.go_model.specs.declared.types.names.TypeName.{TypeName}
use Rattle.go_model.specs.declared.types.names.Sel.{Sel}
use Rattle.go_model.specs.declared.types.term.Term.{Term, Term-F, roll-Term}
use Rattle.go_model.specs.declared.types.term.Field.{Field, out-Field}
use Rattle.api_correspond.specs.inner.Members.{OfSome}
use Rattle.api_correspond.specs.Publics.{IsExported}

-- each name that was seen stands in the list
abbrev pub Known : List Term → List TypeName → Type 0
Known all seen = (n : TypeName) → Has seen n → Has all (roll-Term (Term-F.Named n))

-- a list of types grew, and the names that were seen stand in it
pub record Pushed (old : List Term) (seen : List TypeName) (new : List Term) (newer : List TypeName) : Type 0 where
  pub more : List Term
  pub is : new ≡ old ++ more
  pub known : Known old seen → Known new newer

-- whether a type is a name that was seen before; it is seen
abbrev pub SeesTerm : List TypeName → List TypeName → Term → Bool → Type 0
SeesTerm seen newer t true = ((n : TypeName) × Has seen n × (roll-Term (Term-F.Named n) ≡ t)) × (newer ≡ seen)
SeesTerm seen newer t false = ((n : TypeName) × (newer ≡ seen ++ n ∷ []) × (roll-Term (Term-F.Named n) ≡ t)) ⊎ (newer ≡ seen)

-- a type was added
abbrev pub Pushes : List Term → List TypeName → List Term → List TypeName → Term → Type 0
Pushes old seen new newer t = Pushed old seen new newer × (Known old seen → Has new t)

-- the type of each embedded field stands in the list, or that to which it points
abbrev pub HasEmbedded : List Term → List Field → Type 0
HasEmbedded all fs = (f : Field) → Has fs f → (out-Field f).embedded ≡ true → Has all (base_of (out-Field f).term)

abbrev pub PushesOne : List Term → List TypeName → List Term → List TypeName → Field → Type 0
PushesOne old seen new newer f = Pushed old seen new newer × (Known old seen → (out-Field f).embedded ≡ true → Has new (base_of (out-Field f).term))

abbrev pub PushesEmbedded : List Term → List TypeName → List Term → List TypeName → List Field → Type 0
PushesEmbedded old seen new newer fs = Pushed old seen new newer × (Known old seen → HasEmbedded new fs)

-- the selector of an exported field, and of one of these
abbrev pub IsSelOf : Field → Sel → Type 0
IsSelOf f s = IsExported (field_sel f) × (field_sel f ≡ s)

abbrev pub IsFieldSel : List Field → Sel → Type 0
IsFieldSel fs = OfSome IsSelOf fs

-- the type at a place of the list, where there is one
abbrev pub TermAt : List Term → ℕ → Option (Bor Term) → Type 0
TermAt all at None = length all ≤ at
TermAt all at (Some t) = (at < length all) × (t.now ≡ get_or all at t.now)
