-- What a client's declarations are given on both sides.
-- Own: words on entries.
use Rattle.std.specs.Prelude.{◌≡◌, ℕ, Bool, List, map, Option, None, Some}
use Rattle.go_base.specs.Lists.{Each, Has}
use Rattle.go_model.specs.declared.types.names.Sel.{Sel}
use Rattle.go_model.specs.declared.types.names.TypeName.{TypeName}
use Rattle.go_model.specs.declared.types.term.Term.{Term, out-Term}
use Rattle.go_typings.specs.Declarations.{Form, definition}
use Rattle.go_typings.specs.PackageEnvironments.{Entries, Entry, objects, underlying, signed}
use Rattle.go_type_images.specs.EntryImages.{entity_to}
use Rattle.go_type_images.specs.Images.{Naming, image, image_of_signature, same_sels}
use Rattle.go_type_images.specs.Parts.{function_type, parts}
use Rattle.go_type_images.specs.declared.pair.TypePair.{TypePair}
use Rattle.go_client_types.specs.Keeping.{EntityReached}
use Rattle.go_client_types.specs.Reached.{IsMade, IsReached}

abbrev pub if_had : {A B : Type 0} → (A → B) → Option A → Option B
if_had f None = None
if_had f (Some x) = Some (f x)

abbrev pub entry_image : Naming → Entry → Entry
entry_image r (objects xs) = objects (map (entity_to r) xs)
entry_image r (underlying t) = underlying (image r same_sels t)
entry_image r (signed g) = signed (image_of_signature r same_sels g)

abbrev pub entries_image : Naming → Entries → Entries
entries_image r a n = if_had (entry_image r) (a n)

-- a declaration that defines no type
abbrev pub DefinesNone : Form → Type 0
DefinesNone (definition s) = ⊥
DefinesNone f = Unit {0}

module _ (pairs : List TypePair) (std : TypeName → Bool) (is_open : Sel → Bool) where
  -- an entry is made of types that the client reaches; what is underneath a defined type it writes itself
  abbrev pub EntryReached : Entry → Type 0
  EntryReached (objects xs) = Each (EntityReached pairs std is_open) xs
  EntryReached (underlying t) = IsMade (out-Term t) × ((u : Term) → Has (parts (out-Term t)) u → IsReached pairs std is_open u)
  EntryReached (signed g) = IsReached pairs std is_open (function_type g)

  abbrev pub EntriesReached : Entries → Type 0
  EntriesReached a = (n : ℕ) (x : Entry) → a n ≡ Some x → EntryReached x
