-- The types that a client of the profile reaches: those that it is given, its own, and what it makes of them.
-- Own: what may be embedded, and which labels a client writes.
use Rattle.std.specs.Prelude.{◌≡◌, ◌⊎◌, Bool, true, false, List, []}
use Rattle.go_base.specs.Lists.{Each, Has, Passes}
use Rattle.go_model.specs.declared.types.names.Sel.{Sel}
use Rattle.go_model.specs.declared.types.names.TypeName.{TypeName}
use Rattle.go_model.specs.declared.types.package.ConstTerm.{ConstTerm}
use Rattle.go_model.specs.declared.types.package.ConstTerm.TheVariants as constant
use Rattle.go_model.specs.declared.types.term.Field.{Field, out-Field}
use Rattle.go_model.specs.declared.types.term.Term.{Term, Term-F, out-Term}
use Rattle.go_model.specs.types.Imports.{is_imported}
use Rattle.go_model.specs.types.MethodSets.{method_sel}
use Rattle.go_model.specs.types.Selectors.{base_of}
use Rattle.go_model.specs.types.TypeNames.{names}
use Rattle.go_model.specs.types.TypeSelectors.{selectors}
use Rattle.go_model.specs.types.Terms.{Layer, client_path}
use Rattle.go_rules.specs.Asks.{IsOwnLayer}
use Rattle.go_type_images.specs.Parts.{parts}
use Rattle.go_type_images.specs.declared.pair.TypePair.{TypePair}

-- a label that a client writes
abbrev pub IsClientSel : Sel → Type 0
IsClientSel s = (s.«package» ≡ []) ⊎ (s.«package» ≡ client_path)

-- a field that a client writes: what it embeds is of its own
pub record IsMadeField (f : Field) : Type 0 where
  pub label : IsClientSel (out-Field f).sel
  pub embeds : (out-Field f).embedded ≡ true → IsOwnLayer (out-Term (base_of (out-Field f).term))

-- a level that a client writes
abbrev pub IsMade : Layer → Type 0
IsMade (Term-F.Named n) = ⊥
IsMade (Term-F.Struct fs) = Each IsMadeField fs
IsMade (Term-F.Interface ms) = Each (λ m. IsClientSel (method_sel m)) ms
IsMade l = Unit {0}

-- the old type of a pair, or a type of which all names and all labels pass the tests
abbrev pub IsGiven : List TypePair → (TypeName → Bool) → (Sel → Bool) → Term → Type 0
IsGiven pairs std is_open t = ((p : TypePair) × Has pairs p × (p.old ≡ t)) ⊎ (Passes std (names t) × Passes is_open (selectors t))

module _ (pairs : List TypePair) (std : TypeName → Bool) (is_open : Sel → Bool) where
  -- a type that a client reaches
  pub data IsReached : Term → Type 0 where
    reach_given : {t : Term} → IsGiven pairs std is_open t → IsReached t
    reach_own : {t : Term} {n : TypeName} → out-Term t ≡ Term-F.Named n → is_imported n ≡ false → IsReached t
    reach_made : {t : Term} → IsMade (out-Term t) → ((u : Term) → Has (parts (out-Term t)) u → IsReached u) → IsReached t

  -- so is the type of a constant
  abbrev pub ConstReached : ConstTerm → Type 0
  ConstReached (constant.OfTerm t) = IsReached t
  ConstReached (constant.OfKind k) = Unit {0}
