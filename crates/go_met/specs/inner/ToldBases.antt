-- What is told of the receivers of methods, by the numbers of their declarations.
-- Own: words of the contracts inside this crate.
use Rattle.std.specs.Prelude.{◌≡◌, ◌<◌, ◌⊎◌, ℕ, true, List, get_or, length, Option, None, Some, is_some, slice_get}
use Rattle.go_base.specs.Lists.{Has}
use Rattle.go_declaration_asks.specs.Bases.{TellsBase}
use Rattle.go_declaration_asks.specs.declared.base.Base.{Base}
use Rattle.go_declared.specs.MethodTables.{method_name}
use Rattle.go_declared.specs.NameTables.{is_first}
use Rattle.go_declared.specs.declared.methods.MethodRow.{MethodRow}
use Rattle.go_declared.specs.declared.names.NamePlace.{NamePlace}
use Rattle.go_rules.specs.Expressions.{is_blank}
use Rattle.go_rules.specs.Names.{Named, items_at}
use Rattle.go_selectors.specs.Answers.{Decides}
use Rattle.go_syntax.specs.declared.declaration.TypeSpec.{TypeSpec}
use Rattle.go_typings.specs.Declarations.{Declaration, declarations, definition, Form}
use Rattle.go_typings.specs.Sources.{PackageSource}
use Rattle.go_met.specs.inner.SharedNames.{row_names, StandsTwice}

abbrev pub told_at : List (Option Base) → ℕ → Option Base
told_at told n = get_or told n None

-- one of the rows is that of the declaration of this number
abbrev pub HasNumber : List MethodRow → ℕ → Type 0
HasNumber rows n = (r : MethodRow) × Has rows r × (r.number ≡ n)

-- no other method that a selector finds has the name
abbrev pub IsAlone : (List ℕ → Type 0) → List ℕ → Type 0
IsAlone IsShared name = (is_blank name ≡ true) ⊎ (IsShared name → ⊥)

module _ (ds : List Declaration) where
  -- of the declaration of the number is told that it declares a method of the type, whose rows are these
  pub record IsOfType (IsShared : List ℕ → Type 0) (type : List ℕ) (rows : List MethodRow) (n : ℕ) (b : Base) : Type 0 where
    pub name : b.name.now ≡ type
    pub row : HasNumber rows n
    pub only : Decides b.is_only (IsAlone IsShared (method_name ds n))

  -- besides what was told before, the rows of the type are
  pub record TellsRows (IsShared : List ℕ → Type 0) (type : List ℕ) (rows : List MethodRow) (old new : List (Option Base)) : Type 0 where
    pub size : length new ≡ length old
    pub sound : (n : ℕ) (b : Base) → told_at new n ≡ Some b → (told_at old n ≡ Some b) ⊎ IsOfType IsShared type rows n b
    pub kept : (n : ℕ) → is_some (told_at old n) ≡ true → is_some (told_at new n) ≡ true
    pub complete : (n : ℕ) → n < length old → HasNumber rows n → is_some (told_at new n) ≡ true

  abbrev pub TellsType : List ℕ → List MethodRow → List (Option Base) → List (Option Base) → Type 0
  TellsType type rows = TellsRows (StandsTwice (row_names ds rows)) type rows

  module _ (names : Named NamePlace) (methods : Named (List MethodRow)) where
    -- of the declaration of the number is told that it declares one of the methods of this type
    abbrev pub IsBase : ℕ → Base → Type 0
    IsBase n b = IsOfType (StandsTwice (row_names ds (items_at methods b.name.now))) b.name.now (items_at methods b.name.now) n b

    -- besides what was told before, the methods of the type are that the declaration of this number declares, where it is the first of its name
    pub record TellsForm (number : ℕ) (f : Form) (old new : List (Option Base)) : Type 0 where
      pub size : length new ≡ length old
      pub sound : (n : ℕ) (b : Base) → told_at new n ≡ Some b → (told_at old n ≡ Some b) ⊎ IsBase n b
      pub kept : (n : ℕ) → is_some (told_at old n) ≡ true → is_some (told_at new n) ≡ true
      pub complete : (s : TypeSpec) → f ≡ definition s → is_first names number s.name.text ≡ true → (n : ℕ) → n < length old → HasNumber (items_at methods s.name.text) n → is_some (told_at new n) ≡ true

    -- the methods of the types are told that declarations below this number declare first
    pub record AreTold (upto : ℕ) (told : List (Option Base)) : Type 0 where
      pub size : length told ≡ length ds
      pub sound : (n : ℕ) (b : Base) → told_at told n ≡ Some b → IsBase n b
      pub complete : (k : ℕ) (d : Declaration) (s : TypeSpec) → k < upto → slice_get ds k ≡ Some d → d.form ≡ definition s → is_first names k s.name.text ≡ true
          → (n : ℕ) → n < length ds → HasNumber (items_at methods s.name.text) n → is_some (told_at told n) ≡ true

  -- of each method its base type is told, and whether no other method of that has its name
  abbrev pub TellBases : List (Option Base) → Type 0
  TellBases told = (u : PackageSource) → declarations u ≡ ds → (n : ℕ) (d : Declaration) → slice_get ds n ≡ Some d → TellsBase u n d.form (told_at told n)
