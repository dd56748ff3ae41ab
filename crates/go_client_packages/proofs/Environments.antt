-- The environment of a client's declaration on the new side, over the images of entries, keeps the one on the old side, over the entries.
use Rattle.std.proofs.Common.{◌≡◌, ◌≢◌, inl, inr, ℕ, Bool, true, false, ◌&&◌, List, [], refl, sym, ap, ◌∙◌, subst, Option, Some, None, if◌then◌else◌}
use Rattle.std.specs.Prelude.{not}
use Rattle.std.specs.Option.{option_or}
use Rattle.std.specs.Str.{bytes_eq}
use Rattle.std.proofs.lemmas.Slice.Eq.{bytes_eq-Decides}
use Rattle.go_base.specs.Keys.{first_with}
use Rattle.go_base.specs.Lists.{Has as HasItem}
use Rattle.go_model.specs.declared.types.names.Sel.{Sel}
use Rattle.go_model.specs.declared.types.names.TypeName.{TypeName}
use Rattle.go_model.specs.declared.types.package.Defined.{Defined}
use Rattle.go_model.specs.declared.types.package.Entity.{Entity}
use Rattle.go_model.specs.types.Imports.{is_imported}
use Rattle.go_model.specs.types.Tables.{Table}
use Rattle.go_model.specs.types.Terms.{client_path, error_type, is_error}
use Rattle.go_model.specs.types.Underlying.{entry}
use Rattle.go_model.specs.worlds.Worlds.{Packages, defined_in, path_of, table_of}
use Rattle.go_rules.specs.Environments.{is_exported}
use Rattle.go_rules.specs.Scopes.{as_import, of_universe}
use Rattle.go_rules.specs.Universe.{predeclared}
use Rattle.go_rules.specs.declared.predeclared.Predeclared.{Predeclared}
use Rattle.go_rules.specs.declared.seen.Seen.{Seen}
use Rattle.go_rules.specs.declared.seen.Seen.TheVariants as seen
use Rattle.go_type_images.specs.EntryImages.{entry_to}
use Rattle.go_type_images.specs.Images.{Naming}
use Rattle.go_type_images.specs.declared.pair.TypePair.{TypePair}
use Rattle.go_typings.proofs.Cells.{either, if_false, if_true, none_some, some_once}
use Rattle.go_typings.proofs.ReachedRegion.{import_has}
use Rattle.go_typings.specs.Declarations.{Declaration, Declared, declarations, declared}
use Rattle.go_typings.specs.PackageEnvironments.{Entries, as_object, entity_by, environment, had_path, import_of, meaning_at, meaning_of, missing, missing_in, own_defined, path_in, types_of}
use Rattle.go_typings.specs.Receivers.{methods}
use Rattle.go_typings.specs.Sources.{Import, PackageSource, Setting, imports_of}
use Rattle.go_client_types.specs.Keeping.{EntityReached, IsKeptEntity, IsOwnEntry, Keeps, SeenReached, seen_to}
use Rattle.go_client_types.specs.Preserving.{Preserves}
use Rattle.go_client_packages.specs.ClientEntries.{EntriesReached, entries_image, if_had}
use Rattle.go_client_packages.specs.ClientSettings.{Holds, KeepsSettings, object_at}
use Rattle.go_client_packages.proofs.EntryImages.{meaning_to, missing_to, own_defined_to}
use Rattle.go_client_packages.proofs.ReachedEntries.{error_own, error_stays, meaning_reached, own_entry}

no_universe : (p : Predeclared) (path : List ℕ) → seen.Universe p ≡ seen.Import path → ⊥
no_universe p path e = absurd (cc)

no_object : (x : Entity) (path : List ℕ) → seen.Object x ≡ seen.Import path → ⊥
no_object x path e = absurd (cc)

of_universe_only : (c : Option Predeclared) (path : List ℕ) → of_universe c ≡ Some (seen.Import path) → ⊥
of_universe_only None path e = none_some (of_universe None) (seen.Import path) refl e
of_universe_only (Some p) path e = no_universe p path (some_once (seen.Universe p) (seen.Import path) e)

of_object_only : (c : Option Entity) (path : List ℕ) → as_object c ≡ Some (seen.Import path) → ⊥
of_object_only None path e = none_some (as_object None) (seen.Import path) refl e
of_object_only (Some x) path e = no_object x path (some_once (seen.Object x) (seen.Import path) e)

-- a name of the package or the universe means no import
not_imported : (path import_path name : List ℕ) (b : Entries) (d : Option Declared) → meaning_at path b name d ≡ Some (seen.Import import_path) → ⊥
not_imported path import_path name b None e = of_universe_only (predeclared name) import_path e
not_imported path import_path name b (Some d) e = of_object_only (entity_by path b d.number d.place d.form) import_path e

abbrev import_path_of : Seen → List ℕ
import_path_of (seen.Import path) = path
import_path_of m = []

-- what an own type's table has of others
others_hold : (s : Setting) (u : PackageSource) (b : Entries) → u.path ≡ client_path → Holds (types_of s u b) s.world
others_hold s u b c n e = elim (either (bytes_eq u.path n.path)) [
  | inl p ↦ absurd (e (sym ((bytes_eq-Decides u.path n.path).0 p) ∙ c))
  | inr p ↦ if_false (bytes_eq u.path n.path) (own_defined u b n.name) (table_of s.world.packages n) p
]

module _ (s t : Setting) (u : PackageSource) (r : Naming) (pairs : List TypePair) (std : TypeName → Bool) (is_open : Sel → Bool) (K : KeepsSettings s t u r pairs std is_open) (b : Entries) (h : EntriesReached pairs std is_open b) where
  abbrev old : Table
  old = types_of s u b

  abbrev new : Table
  new = types_of t u (entries_image r b)

  preserves : Preserves old new r pairs std is_open
  preserves = K.types old new (others_hold s u b K.client) (others_hold t u (entries_image r b) K.client)

  -- ---- the client's own types

  -- a type that isn't imported and isn't the client's has an empty path, at which there is no package
  no_package : (w : Packages) → first_with path_of w.packages [] ≡ None → (n : TypeName) → n.path ≡ [] → table_of w.packages n ≡ None
  no_package w e n f = ap (λ path. defined_in (first_with path_of w.packages path) n.name) f ∙ ap (λ p. defined_in p n.name) e

  empty_path : (n : TypeName) → is_imported n ≡ false → bytes_eq u.path n.path ≡ false → n.path ≡ []
  empty_path n i p = by (bytes_eq n.path []) (bytes_eq n.path client_path) refl refl i
    where
      by : (a c : Bool) → bytes_eq n.path [] ≡ a → bytes_eq n.path client_path ≡ c → (not a && not c) ≡ false → n.path ≡ []
      by true c e f g = (bytes_eq-Decides n.path []).0 e
      by false true e f g = let q : true ≡ false = sym ((bytes_eq-Decides u.path n.path).1 (K.client ∙ sym ((bytes_eq-Decides n.path client_path).0 f))) ∙ p in absurd (cc)
      by false false e f g = absurd (cc)

  own_at : (n : TypeName) → bytes_eq u.path n.path ≡ true → new n ≡ entry_to r (old n)
  own_at n p =
      if_true (bytes_eq u.path n.path) (own_defined u (entries_image r b) n.name) (table_of t.world.packages n) p ∙ own_defined_to r u b n.name
      ∙ ap (entry_to r) (sym (if_true (bytes_eq u.path n.path) (own_defined u b n.name) (table_of s.world.packages n) p))

  empty_at : (n : TypeName) → is_imported n ≡ false → bytes_eq u.path n.path ≡ false → (old n ≡ None) × (new n ≡ None)
  empty_at n i p =
      let e = empty_path n i p in (
        if_false (bytes_eq u.path n.path) (own_defined u b n.name) (table_of s.world.packages n) p ∙ no_package s.world K.pathed n e,
        if_false (bytes_eq u.path n.path) (own_defined u (entries_image r b) n.name) (table_of t.world.packages n) p ∙ no_package t.world K.pathed_too n e,
      )

  table_at : (n : TypeName) → is_imported n ≡ false → new n ≡ entry_to r (old n)
  table_at n i = elim (either (bytes_eq u.path n.path)) [
    | inl p ↦ own_at n p
    | inr p ↦ (let e = empty_at n i p in e.1 ∙ sym (ap (entry_to r) e.0))
  ]

  entries : (n : TypeName) → is_imported n ≡ false → entry new n ≡ entry_to r (entry old n)
  entries n i = elim (either (is_error n)) [
    | inl q ↦ if_true (is_error n) (Some error_type) (new n) q ∙ ap Some (sym (error_stays r)) ∙ ap (entry_to r) (sym (if_true (is_error n) (Some error_type) (old n) q))
    | inr q ↦ if_false (is_error n) (Some error_type) (new n) q ∙ table_at n i ∙ ap (entry_to r) (sym (if_false (is_error n) (Some error_type) (old n) q))
  ]

  own_entries : (n : TypeName) (d : Defined) → is_imported n ≡ false → entry old n ≡ Some d → IsOwnEntry pairs std is_open d
  own_entries n d i e = elim (either (is_error n)) [
    | inl q ↦ subst (IsOwnEntry pairs std is_open) (some_once error_type d (sym (if_true (is_error n) (Some error_type) (old n) q) ∙ e)) (error_own pairs std is_open)
    | inr q ↦ (let f = sym (if_false (is_error n) (Some error_type) (old n) q) ∙ e in elim (either (bytes_eq u.path n.path)) [
      | inl p ↦ own_entry pairs std is_open b h u K.client n.name d (sym (if_true (bytes_eq u.path n.path) (own_defined u b n.name) (table_of s.world.packages n) p) ∙ f)
      | inr p ↦ none_some (old n) d (empty_at n i p).0 f
    ])
  ]

  -- ---- methods that are missing

  same_missing : (n : TypeName) → missing_in u (entries_image r b) n ≡ missing_in u b n
  same_missing n = ap (λ xs. if bytes_eq u.path n.path then xs else []) (missing_to r b (methods u n.name))

  none_missing : (a : Entries) (n : TypeName) → n.path ≢ client_path → missing_in u a n ≡ []
  none_missing a n e = elim (either (bytes_eq u.path n.path)) [
    | inl p ↦ absurd (e (sym ((bytes_eq-Decides u.path n.path).0 p) ∙ K.client))
    | inr p ↦ if_false (bytes_eq u.path n.path) (missing a (methods u n.name)) [] p
  ]

  -- ---- names

  module _ (d : Declaration) where
    meanings : (name : List ℕ) (m : Seen) → meaning_of u b d.file name ≡ Some m → (meaning_of u (entries_image r b) d.file name ≡ Some (seen_to r m)) × SeenReached pairs std is_open m
    meanings name m e = (
      meaning_to r preserves.own u.path K.client b name (declared (declarations u) name) (path_in (import_of u d.file name)) ∙ ap (if_had (seen_to r)) e,
      meaning_reached pairs std is_open b h u.path K.client name (declared (declarations u) name) (path_in (import_of u d.file name)) m e,
    )

    -- the import that a name means
    import_at : (name path : List ℕ) (i : Option Import) → import_of u d.file name ≡ i → option_or (as_import (path_in i)) (meaning_at u.path b name (declared (declarations u) name)) ≡ Some (seen.Import path)
        → (j : Import) × HasItem (imports_of u d.file) j × (had_path j ≡ path)
    import_at name path None e f = absurd (not_imported u.path path name b (declared (declarations u) name) f)
    import_at name path (Some i) e f = (i, import_has u d.file name i e, ap import_path_of (some_once (seen.Import (had_path i)) (seen.Import path) f))

    kept_objects : (name path object : List ℕ) (x : Entity) → meaning_of u b d.file name ≡ Some (seen.Import path) → is_exported object ≡ true → object_at s.world path object ≡ Some x
        → (y : Entity) × (object_at t.world path object ≡ Some y) × IsKeptEntity r x y × EntityReached pairs std is_open x
    kept_objects name path object x e i f =
        let j = import_at name path (import_of u d.file name) refl e in
        let k = K.objects d.file j.0 object x j.1 i (ap (λ z. object_at s.world z object) j.2 ∙ f) in
        (k.0, sym (ap (λ z. object_at t.world z object) j.2) ∙ k.1, k.2, k.3)

    pub environment_kept : Keeps (environment s u b d) (environment t u (entries_image r b) d) r pairs std is_open
    environment_kept = record {
      types = preserves;
      entries = entries;
      own_entries = own_entries;
      missing = λ n i. same_missing n;
      none_missing = λ n e. (none_missing b n e, none_missing (entries_image r b) n e);
      meanings = meanings;
      objects = kept_objects;
      path = refl;
      bits = K.bits;
      iota = refl;
      client = K.client;
      barred = K.barred;
      barred_too = K.barred_too;
    }
