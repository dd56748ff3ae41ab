-- What a client has of its images of entries: the images of what it has of the entries.
use Rattle.std.proofs.Common.{◌≡◌, ℕ, zero, suc, Bool, true, false, ◌&&◌, List, [], ◌∷◌, ◌++◌, map, refl, sym, ap, ◌∙◌, Option, Some, None}
use Rattle.std.specs.Prelude.{not, slice_get}
use Rattle.std.specs.Option.{option_or}
use Rattle.std.specs.Str.{bytes_eq}
use Rattle.std.proofs.lemmas.Slice.Eq.{bytes_eq-Decides}
use Rattle.go_model.specs.declared.types.names.TypeName.{TypeName}
use Rattle.go_model.specs.declared.types.package.Entity.{Entity}
use Rattle.go_model.specs.declared.types.package.Entity.TheVariants as entity
use Rattle.go_model.specs.declared.types.package.MethodOf.{MethodOf}
use Rattle.go_model.specs.declared.types.term.Signature.{Signature}
use Rattle.go_model.specs.declared.types.term.Term.{Term, Term-F, roll-Term}
use Rattle.go_model.specs.types.Imports.{is_imported}
use Rattle.go_model.specs.types.Terms.{client_path}
use Rattle.go_rules.specs.Scopes.{as_import, of_universe}
use Rattle.go_rules.specs.Universe.{predeclared}
use Rattle.go_rules.specs.declared.predeclared.Predeclared.{Predeclared}
use Rattle.go_type_images.specs.EntryImages.{entity_to, entry_to, method_to}
use Rattle.go_type_images.specs.Images.{Naming, image, image_of_signature, same_sels}
use Rattle.go_type_images.proofs.ImageLevels.{image_roll}
use Rattle.go_type_images.proofs.ImageParts.{map_append}
use Rattle.go_typings.specs.Declarations.{Form, constants, variables, alias, definition, function, method, Declared, declarations, declared}
use Rattle.go_typings.specs.PackageEnvironments.{Entries, Entry, objects, underlying, signed, as_object, defined_at, defined_by, defined_with, entity_by, had, had_of, meaning_at, missing, missing_of, object_of, own_defined, own_type, signature_of, underlying_of}
use Rattle.go_typings.specs.Receivers.{DeclaredMethod, methods}
use Rattle.go_typings.specs.Sources.{PackageSource}
use Rattle.go_client_types.specs.Keeping.{seen_to}
use Rattle.go_client_packages.specs.ClientEntries.{entries_image, entry_image, if_had}

and_false : (a : Bool) → (a && false) ≡ false
and_false true = refl
and_false false = refl

-- a name of the client's package is its own
pub is_own : (path name : List ℕ) → path ≡ client_path → is_imported (record { path = path; name = name }) ≡ false
is_own path name e = ap (λ c. not (bytes_eq path []) && not c) ((bytes_eq-Decides path client_path).1 e) ∙ and_false (not (bytes_eq path []))

module _ (r : Naming) where
  abbrev to : Term → Term
  to = image r same_sels

  -- ---- entries

  item_to : (xs : List Entity) (k : ℕ) → slice_get (map (entity_to r) xs) k ≡ if_had (entity_to r) (slice_get xs k)
  item_to [] k = refl
  item_to (x ∷ xs) zero = refl
  item_to (x ∷ xs) (suc k) = item_to xs k

  object_to : (c : Option Entry) (place : ℕ) → object_of (if_had (entry_image r) c) place ≡ if_had (entity_to r) (object_of c place)
  object_to None place = refl
  object_to (Some (objects xs)) place = item_to xs place
  object_to (Some (underlying t)) place = refl
  object_to (Some (signed g)) place = refl

  underlying_to : (c : Option Entry) → underlying_of (if_had (entry_image r) c) ≡ if_had to (underlying_of c)
  underlying_to None = refl
  underlying_to (Some (objects xs)) = refl
  underlying_to (Some (underlying t)) = refl
  underlying_to (Some (signed g)) = refl

  signature_to : (c : Option Entry) → signature_of (if_had (entry_image r) c) ≡ if_had (image_of_signature r same_sels) (signature_of c)
  signature_to None = refl
  signature_to (Some (objects xs)) = refl
  signature_to (Some (underlying t)) = refl
  signature_to (Some (signed g)) = refl

  module _ (stays : (n : TypeName) → is_imported n ≡ false → r n ≡ n) where
    own_stays : (path name : List ℕ) → path ≡ client_path → to (own_type path name) ≡ own_type path name
    own_stays path name e = image_roll r same_sels (Term-F.Named (record { path = path; name = name })) ∙ ap (λ n. roll-Term (Term-F.Named n)) (stays (record { path = path; name = name }) (is_own path name e))

    -- ---- names

    entity_by_to : (path : List ℕ) → path ≡ client_path → (b : Entries) (n place : ℕ) (f : Form) → entity_by path (entries_image r b) n place f ≡ if_had (entity_to r) (entity_by path b n place f)
    entity_by_to path e b n place (constants c at) = object_to (b n) place
    entity_by_to path e b n place (variables c) = object_to (b n) place
    entity_by_to path e b n place (alias c) = object_to (b n) place
    entity_by_to path e b n place (definition c) = ap (λ t. Some (entity.TypeOf t)) (sym (own_stays path c.name.text e))
    entity_by_to path e b n place (function f) = object_to (b n) place
    entity_by_to path e b n place (method p f) = object_to (b n) place

    as_object_to : (c : Option Entity) → as_object (if_had (entity_to r) c) ≡ if_had (seen_to r) (as_object c)
    as_object_to None = refl
    as_object_to (Some x) = refl

    universe_to : (c : Option Predeclared) → of_universe c ≡ if_had (seen_to r) (of_universe c)
    universe_to None = refl
    universe_to (Some p) = refl

    meaning_at_to : (path : List ℕ) → path ≡ client_path → (b : Entries) (name : List ℕ) (c : Option Declared) → meaning_at path (entries_image r b) name c ≡ if_had (seen_to r) (meaning_at path b name c)
    meaning_at_to path e b name None = universe_to (predeclared name)
    meaning_at_to path e b name (Some d) = ap as_object (entity_by_to path e b d.number d.place d.form) ∙ as_object_to (entity_by path b d.number d.place d.form)

    pub meaning_to : (path : List ℕ) → path ≡ client_path → (b : Entries) (name : List ℕ) (c : Option Declared) (i : Option (List ℕ))
        → option_or (as_import i) (meaning_at path (entries_image r b) name c) ≡ if_had (seen_to r) (option_or (as_import i) (meaning_at path b name c))
    meaning_to path e b name c None = meaning_at_to path e b name c
    meaning_to path e b name c (Some import_path) = refl

  -- ---- defined types

  had_cell : (m : DeclaredMethod) (c : Option Signature) → had_of m (if_had (image_of_signature r same_sels) c) ≡ map (method_to r) (had_of m c)
  had_cell m None = refl
  had_cell m (Some g) = refl

  had_to : (b : Entries) (ms : List DeclaredMethod) → had (entries_image r b) ms ≡ map (method_to r) (had b ms)
  had_to b [] = refl
  had_to b (m ∷ ms) =
      (λ i. (ap (had_of m) (signature_to (b m.number)) ∙ had_cell m (signature_of (b m.number))) i ++ had_to b ms i)
      ∙ sym (map_append (method_to r) (had_of m (signature_of (b m.number))) (had b ms))

  missing_cell : (m : DeclaredMethod) (c : Option Signature) → missing_of m (if_had (image_of_signature r same_sels) c) ≡ missing_of m c
  missing_cell m None = refl
  missing_cell m (Some g) = refl

  pub missing_to : (b : Entries) (ms : List DeclaredMethod) → missing (entries_image r b) ms ≡ missing b ms
  missing_to b [] = refl
  missing_to b (m ∷ ms) = λ i. (ap (missing_of m) (signature_to (b m.number)) ∙ missing_cell m (signature_of (b m.number))) i ++ missing_to b ms i

  with_to : (name : List ℕ) (ms : List MethodOf) (c : Option Term) → defined_with name (map (method_to r) ms) (if_had to c) ≡ entry_to r (defined_with name ms c)
  with_to name ms None = refl
  with_to name ms (Some t) = refl

  defined_by_to : (u : PackageSource) (b : Entries) (name : List ℕ) (n : ℕ) (f : Form) → defined_by u (entries_image r b) name n f ≡ entry_to r (defined_by u b name n f)
  defined_by_to u b name n (constants c at) = refl
  defined_by_to u b name n (variables c) = refl
  defined_by_to u b name n (alias c) = refl
  defined_by_to u b name n (definition c) =
      (λ i. defined_with name (had_to b (methods u name) i) (underlying_to (b n) i)) ∙ with_to name (had b (methods u name)) (underlying_of (b n))
  defined_by_to u b name n (function f) = refl
  defined_by_to u b name n (method p f) = refl

  defined_at_to : (u : PackageSource) (b : Entries) (name : List ℕ) (c : Option Declared) → defined_at u (entries_image r b) name c ≡ entry_to r (defined_at u b name c)
  defined_at_to u b name None = refl
  defined_at_to u b name (Some d) = defined_by_to u b name d.number d.form

  pub own_defined_to : (u : PackageSource) (b : Entries) (name : List ℕ) → own_defined u (entries_image r b) name ≡ entry_to r (own_defined u b name)
  own_defined_to u b name = defined_at_to u b name (declared (declarations u) name)
