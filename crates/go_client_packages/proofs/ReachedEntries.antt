-- What a client has of entries that are made of types which it reaches is made of such types.
use Rattle.std.proofs.Common.{◌≡◌, inl, inr, ℕ, zero, suc, Bool, true, false, List, [], ◌∷◌, ◌++◌, if◌then◌else◌, refl, sym, ap, ◌∙◌, subst, Option, Some, None}
use Rattle.std.specs.Prelude.{slice_get}
use Rattle.std.specs.Option.{option_or}
use Rattle.go_base.specs.Lists.{Each, Has as HasItem}
use Rattle.go_model.specs.declared.constants.value.Basic.TheVariants as basic
use Rattle.go_model.specs.declared.types.names.Sel.{Sel}
use Rattle.go_model.specs.declared.types.names.TypeName.{TypeName}
use Rattle.go_model.specs.declared.types.package.Defined.{Defined}
use Rattle.go_model.specs.declared.types.package.Entity.{Entity}
use Rattle.go_model.specs.declared.types.package.Entity.TheVariants as entity
use Rattle.go_model.specs.declared.types.package.MethodOf.{MethodOf}
use Rattle.go_model.specs.declared.types.term.Method.{out-Method}
use Rattle.go_model.specs.declared.types.term.Signature.{Signature, out-Signature, roll-Signature, out-roll-Signature}
use Rattle.go_model.specs.declared.types.term.Term.{Term, Term-F, roll-Term, out-roll-Term}
use Rattle.go_model.specs.types.Terms.{client_path, error_method, error_type}
use Rattle.go_model.specs.types.TypeNames.{names}
use Rattle.go_rules.specs.Environments.{is_exported}
use Rattle.go_rules.specs.Scopes.{as_import, of_universe}
use Rattle.go_rules.specs.Universe.{predeclared}
use Rattle.go_rules.specs.declared.predeclared.Predeclared.{Predeclared}
use Rattle.go_rules.specs.declared.seen.Seen.{Seen}
use Rattle.go_rules.specs.declared.seen.Seen.TheVariants as seen
use Rattle.go_shared_types.proofs.PartNames.{error_names, error_sel, error_signature, own_name, part_names}
use Rattle.go_shared_types.proofs.SameTypes.{stays}
use Rattle.go_type_images.specs.EntryImages.{defined_to}
use Rattle.go_type_images.specs.Images.{Naming, image, same_sels}
use Rattle.go_type_images.specs.Parts.{function_type, method_type, parts}
use Rattle.go_type_images.specs.declared.pair.TypePair.{TypePair}
use Rattle.go_typed_packages.proofs.OwnDeclarations.{had_as, method_at, own_type_of}
use Rattle.go_typings.proofs.Cells.{none_some, some_once}
use Rattle.go_typings.proofs.GrowEnvironments.{object_back}
use Rattle.go_typings.specs.Declarations.{Form, constants, variables, alias, definition, function, method, Declared}
use Rattle.go_typings.specs.PackageEnvironments.{Entries, objects, underlying, signed, as_object, entity_by, had, meaning_at, object_of, own_defined, own_type}
use Rattle.go_typings.specs.Receivers.{methods, selector}
use Rattle.go_typings.specs.Sources.{PackageSource}
use Rattle.go_client_types.specs.Keeping.{EntityReached, IsOwnEntry, SeenReached}
use Rattle.go_client_types.specs.Reached.{IsClientSel, IsMade, IsReached, reach_made, reach_own}
use Rattle.go_client_packages.specs.ClientEntries.{EntriesReached}
use Rattle.go_client_packages.proofs.EntryImages.{is_own}

-- ---- the predeclared `error` stays as it is

error_named : (r : Naming) → image r same_sels error_type.underlying ≡ error_type.underlying
error_named r = stays r (λ t. (n : TypeName) → HasItem (names t) n → ⊥) (λ t u h k n i. h n (part_names t u n k i)) (λ t n h e. absurd (h n (own_name t n e))) error_type.underlying error_names

pub error_stays : (r : Naming) → defined_to r error_type ≡ error_type
error_stays r = let f : Term → Defined = λ t. record { name = error_type.name; underlying = t; methods = [] } in ap f (error_named r)

module _ (pairs : List TypePair) (std : TypeName → Bool) (is_open : Sel → Bool) where
  abbrev R : Term → Type 0
  R = IsReached pairs std is_open

  -- ---- the predeclared `error`

  text_reached : R (roll-Term (Term-F.Plain basic.Str))
  text_reached = reach_made (subst IsMade (sym (out-roll-Term (Term-F.Plain basic.Str))) tt) (λ u k. absurd (subst (λ l. HasItem (parts l) u) (out-roll-Term (Term-F.Plain basic.Str)) k))

  of_text : (u : Term) → HasItem (roll-Term (Term-F.Plain basic.Str) ∷ []) u → R u
  of_text u (inl e) = subst R e text_reached
  of_text u (inr k) = absurd k

  error_function : (g : Signature) → g ≡ roll-Signature (record { params = []; variadic = false; results = roll-Term (Term-F.Plain basic.Str) ∷ [] }) → R (function_type g)
  error_function g e = reach_made (subst IsMade (sym (out-roll-Term (Term-F.Func g))) tt)
      (λ u k. of_text u (subst (λ x. HasItem (x.params ++ x.results) u) (ap out-Signature e ∙ out-roll-Signature (record { params = []; variadic = false; results = roll-Term (Term-F.Plain basic.Str) ∷ [] })) (subst (λ l. HasItem (parts l) u) (out-roll-Term (Term-F.Func g)) k)))

  of_method : (u : Term) → HasItem (method_type error_method ∷ []) u → R u
  of_method u (inl e) = subst R e (error_function (out-Method error_method).signature error_signature)
  of_method u (inr k) = absurd k

  pub error_own : IsOwnEntry pairs std is_open error_type
  error_own = record {
    made = subst IsMade (sym (out-roll-Term (Term-F.Interface (error_method ∷ [])))) (inl error_sel, tt);
    reached = λ u k. of_method u (subst (λ l. HasItem (parts l) u) (out-roll-Term (Term-F.Interface (error_method ∷ []))) k);
    signatures = λ m k. absurd k;
    labels = λ m k. absurd k;
  }

  -- ---- names

  own_reached : (path name : List ℕ) → path ≡ client_path → R (own_type path name)
  own_reached path name e = reach_own (out-roll-Term (Term-F.Named (record { path = path; name = name }))) (is_own path name e)

  universe_reached : (c : Option Predeclared) (m : Seen) → of_universe c ≡ Some m → SeenReached pairs std is_open m
  universe_reached None m e = none_some (of_universe None) m refl e
  universe_reached (Some p) m e = subst (SeenReached pairs std is_open) (some_once (seen.Universe p) m e) tt

  object_seen : (c : Option Entity) (m : Seen) → ((x : Entity) → c ≡ Some x → EntityReached pairs std is_open x) → as_object c ≡ Some m → SeenReached pairs std is_open m
  object_seen None m k e = none_some (as_object None) m refl e
  object_seen (Some x) m k e = subst (SeenReached pairs std is_open) (some_once (seen.Object x) m e) (k x refl)

  module _ (b : Entries) (h : EntriesReached pairs std is_open b) where
    object_reached : (n place : ℕ) (x : Entity) → object_of (b n) place ≡ Some x → EntityReached pairs std is_open x
    object_reached n place x e = let q = object_back (b n) place x e in at q.0 place q.2 (h n (objects q.0) q.1)
      where
        at : (xs : List Entity) (k : ℕ) → slice_get xs k ≡ Some x → Each (EntityReached pairs std is_open) xs → EntityReached pairs std is_open x
        at [] k f i = none_some (slice_get [] k) x refl f
        at (y ∷ ys) zero f i = subst (EntityReached pairs std is_open) (some_once y x f) i.0
        at (y ∷ ys) (suc k) f i = at ys k f i.1

    entity_reached : (path : List ℕ) → path ≡ client_path → (n place : ℕ) (f : Form) (x : Entity) → entity_by path b n place f ≡ Some x → EntityReached pairs std is_open x
    entity_reached path c n place (constants s at) x e = object_reached n place x e
    entity_reached path c n place (variables s) x e = object_reached n place x e
    entity_reached path c n place (alias s) x e = object_reached n place x e
    entity_reached path c n place (definition s) x e = subst (EntityReached pairs std is_open) (some_once (entity.TypeOf (own_type path s.name.text)) x e) (own_reached path s.name.text c)
    entity_reached path c n place (function f) x e = object_reached n place x e
    entity_reached path c n place (method p f) x e = object_reached n place x e

    meaning_at_reached : (path : List ℕ) → path ≡ client_path → (name : List ℕ) (d : Option Declared) (m : Seen) → meaning_at path b name d ≡ Some m → SeenReached pairs std is_open m
    meaning_at_reached path c name None m e = universe_reached (predeclared name) m e
    meaning_at_reached path c name (Some d) m e = object_seen (entity_by path b d.number d.place d.form) m (λ x f. entity_reached path c d.number d.place d.form x f) e

    pub meaning_reached : (path : List ℕ) → path ≡ client_path → (name : List ℕ) (d : Option Declared) (i : Option (List ℕ)) (m : Seen) → option_or (as_import i) (meaning_at path b name d) ≡ Some m → SeenReached pairs std is_open m
    meaning_reached path c name d None m e = meaning_at_reached path c name d m e
    meaning_reached path c name d (Some import_path) m e = subst (SeenReached pairs std is_open) (some_once (seen.Import import_path) m e) tt

    -- ---- defined types

    sel_by : (path name : List ℕ) → path ≡ client_path → (c : Bool) → is_exported name ≡ c → IsClientSel (selector path name)
    sel_by path name e true f = inl (ap (λ c. if c then [] else path) f)
    sel_by path name e false f = inr (ap (λ c. if c then [] else path) f ∙ e)

    own_method : (u : PackageSource) → u.path ≡ client_path → (name : List ℕ) (m : MethodOf) → HasItem (had b (methods u name)) m → R (function_type m.signature) × IsClientSel m.sel
    own_method u e name m k =
        let q = had_as b (methods u name) m k in
        let at = method_at u name q.declares q.has in
        (h q.declares.number (signed m.signature) q.entry, subst IsClientSel (sym (q.sel ∙ at.sel)) (sel_by u.path at.func.name.text e (is_exported at.func.name.text) refl))

    pub own_entry : (u : PackageSource) → u.path ≡ client_path → (name : List ℕ) (d : Defined) → own_defined u b name ≡ Some d → IsOwnEntry pairs std is_open d
    own_entry u e name d f =
        let o = own_type_of u b name d f in
        let x = h o.at.number (underlying o.beneath) o.entry in
        subst (IsOwnEntry pairs std is_open) (sym o.made) (record {
          made = x.0;
          reached = x.1;
          signatures = λ m k. (own_method u e name m k).0;
          labels = λ m k. (own_method u e name m k).1;
        })
