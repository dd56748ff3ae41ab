-- Under more entries an environment has what it has, and may have more.
use Rattle.std.proofs.Common.{◌≡◌, ℕ, Bool, true, false, ◌||◌, List, [], ◌∷◌, ◌++◌, Option, Some, None, refl, sym, ap, ◌∙◌, inl, inr}
use Rattle.std.specs.Prelude.{if◌then◌else◌, slice_get}
use Rattle.std.specs.Option.{option_or}
use Rattle.std.specs.Str.{bytes_eq}
use Rattle.go_rules.specs.go_model.declared.types.names.Sel.{Sel}
use Rattle.go_rules.specs.go_model.declared.types.names.TypeName.{TypeName}
use Rattle.go_rules.specs.go_model.declared.types.package.Defined.{Defined}
use Rattle.go_rules.specs.go_model.declared.types.package.Entity.{Entity}
use Rattle.go_rules.specs.go_model.declared.types.package.MethodOf.{MethodOf}
use Rattle.go_rules.specs.go_model.declared.types.term.Signature.{Signature}
use Rattle.go_rules.specs.go_model.declared.types.term.Term.{Term}
use Rattle.go_rules.specs.go_model.types.Terms.{error_type, is_error, same_sel}
use Rattle.go_rules.specs.go_model.types.Underlying.{entry}
use Rattle.go_rules.specs.go_model.worlds.Worlds.{table_of}
use Rattle.go_rules.specs.Environments.{Env, is_among}
use Rattle.go_rules.specs.Growth.{Grown, Grows, if_named, methods_named}
use Rattle.go_rules.specs.Scopes.{as_import}
use Rattle.go_rules.specs.declared.seen.Seen.{Seen}
use Rattle.go_typings.specs.Assignments.{Within}
use Rattle.go_typings.specs.Declarations.{Form, constants, variables, alias, definition, function, method, Declaration, Declared, declarations, declared}
use Rattle.go_typings.specs.PackageEnvironments.{Entry, objects, underlying, signed, Entries, as_object, defined_at, defined_by, defined_with, entity_by, environment, had, had_of, import_of, meaning_at, missing, missing_of, object_of, own_defined, path_in, signature_of, underlying_of}
use Rattle.go_typings.specs.Receivers.{DeclaredMethod, methods}
use Rattle.go_typings.specs.Sources.{PackageSource, Setting}
use Rattle.go_typings.proofs.Cells.{either, if_false, if_true, none_some, or_false, some_once}

-- ---- entries

pub object_back : (c : Option Entry) (place : ℕ) (x : Entity) → object_of c place ≡ Some x → (xs : List Entity) × (c ≡ Some (objects xs)) × (slice_get xs place ≡ Some x)
object_back (Some (objects xs)) place x e = (xs, refl, e)
object_back (Some (underlying t)) place x e = none_some (object_of (Some (underlying t)) place) x refl e
object_back (Some (signed g)) place x e = none_some (object_of (Some (signed g)) place) x refl e
object_back None place x e = none_some (object_of None place) x refl e

pub underlying_back : (c : Option Entry) (t : Term) → underlying_of c ≡ Some t → c ≡ Some (underlying t)
underlying_back (Some (underlying u)) t e = ap (λ z. Some (underlying z)) (some_once u t e)
underlying_back (Some (objects xs)) t e = none_some (underlying_of (Some (objects xs))) t refl e
underlying_back (Some (signed g)) t e = none_some (underlying_of (Some (signed g))) t refl e
underlying_back None t e = none_some (underlying_of None) t refl e

pub signature_back : (c : Option Entry) (g : Signature) → signature_of c ≡ Some g → c ≡ Some (signed g)
signature_back (Some (signed h)) g e = ap (λ z. Some (signed z)) (some_once h g e)
signature_back (Some (objects xs)) g e = none_some (signature_of (Some (objects xs))) g refl e
signature_back (Some (underlying t)) g e = none_some (signature_of (Some (underlying t))) g refl e
signature_back None g e = none_some (signature_of None) g refl e

seen_back : (c : Option Entity) (m : Seen) → as_object c ≡ Some m → (x : Entity) × (c ≡ Some x)
seen_back (Some x) m e = (x, refl)
seen_back None m e = none_some (as_object None) m refl e

pub with_back : (name : List ℕ) (ms : List MethodOf) (c : Option Term) (d : Defined) → defined_with name ms c ≡ Some d → (t : Term) × (c ≡ Some t) × (d ≡ record { name = name; underlying = t; methods = ms })
with_back name ms None d e = none_some {A = Defined} None d refl e
with_back name ms (Some t) d e = (t, refl, sym (some_once (record { name = name; underlying = t; methods = ms }) d e))

or_more : (c x y : Option Seen) (m : Seen) → option_or c x ≡ Some m → (x ≡ Some m → y ≡ Some m) → option_or c y ≡ Some m
or_more (Some z) x y m e h = e
or_more None x y m e h = h e

-- ---- methods

-- of methods with a selector of which none is missing the same are had, and none is missing
abbrev SameHad : Sel → List MethodOf → List MethodOf → List Sel → List Sel → Type 0
SameHad s ms ns ls ks = is_among s ls ≡ false → (methods_named s ms ≡ methods_named s ns) × (is_among s ks ≡ false)

other_method : (s : Sel) (m : MethodOf) → same_sel m.sel s ≡ false → if_named s m ≡ []
other_method s m e = let x : List MethodOf = m ∷ [] in let z : List MethodOf = [] in if_false (same_sel m.sel s) x z e

cell_same : (s : Sel) (m : DeclaredMethod) (c d : Option Signature) → ((g : Signature) → c ≡ Some g → d ≡ Some g) → (ms ns : List MethodOf) (ls ks : List Sel) → SameHad s ms ns ls ks
    → SameHad s (had_of m c ++ ms) (had_of m d ++ ns) (missing_of m c ++ ls) (missing_of m d ++ ks)
cell_same s m (Some g) None h ms ns ls ks f e = none_some {A = Signature} None g refl (h g refl)
cell_same s m (Some g) (Some k) h ms ns ls ks f e =
    let r = f e in let p : k ≡ g = some_once k g (h g refl) in (
      ap (λ z. if_named s (record { sel = m.sel; pointer = m.pointer; signature = g }) ++ z) r.0
          ∙ ap (λ z. if_named s (record { sel = m.sel; pointer = m.pointer; signature = z }) ++ methods_named s ns) (sym p),
      r.1,
    )
cell_same s m None None h ms ns ls ks f e =
    let o = or_false (same_sel m.sel s) (is_among s ls) e in let r = f o.1 in
    (r.0, ap (λ b. b || is_among s ks) o.0 ∙ r.1)
cell_same s m None (Some g) h ms ns ls ks f e =
    let o = or_false (same_sel m.sel s) (is_among s ls) e in let r = f o.1 in
    (r.0 ∙ sym (ap (λ z. z ++ methods_named s ns) (other_method s (record { sel = m.sel; pointer = m.pointer; signature = g }) o.0)), r.1)

module _ (a b : Entries) (h : Within a b) where
  signatures : (n : ℕ) (g : Signature) → signature_of (a n) ≡ Some g → signature_of (b n) ≡ Some g
  signatures n g e = ap signature_of (h n (signed g) (signature_back (a n) g e))

  pub had_more : (s : Sel) (ms : List DeclaredMethod) → SameHad s (had a ms) (had b ms) (missing a ms) (missing b ms)
  had_more s [] e = (refl, refl)
  had_more s (m ∷ ms) e = cell_same s m (signature_of (a m.number)) (signature_of (b m.number)) (signatures m.number) (had a ms) (had b ms) (missing a ms) (missing b ms) (had_more s ms) e

  -- ---- names

  object_more : (n place : ℕ) (x : Entity) → object_of (a n) place ≡ Some x → object_of (b n) place ≡ Some x
  object_more n place x e = let r = object_back (a n) place x e in ap (λ c. object_of c place) (h n (objects r.0) r.1) ∙ r.2

  entity_more : (path : List ℕ) (n place : ℕ) (f : Form) (x : Entity) → entity_by path a n place f ≡ Some x → entity_by path b n place f ≡ Some x
  entity_more path n place (definition s) x e = e
  entity_more path n place (constants s at) x e = object_more n place x e
  entity_more path n place (variables s) x e = object_more n place x e
  entity_more path n place (alias s) x e = object_more n place x e
  entity_more path n place (function f) x e = object_more n place x e
  entity_more path n place (method r f) x e = object_more n place x e

  meaning_more : (path name : List ℕ) (w : Option Declared) (m : Seen) → meaning_at path a name w ≡ Some m → meaning_at path b name w ≡ Some m
  meaning_more path name None m e = e
  meaning_more path name (Some d) m e =
      let r = seen_back (entity_by path a d.number d.place d.form) m e in
      ap as_object (entity_more path d.number d.place d.form r.0 r.1) ∙ sym (ap as_object r.1) ∙ e

  -- ---- defined types

  -- a defined type as the two assignments have it
  abbrev Both : PackageSource → List ℕ → Option Defined → Defined → Type 0
  Both u name c d = (t : Term) × (d ≡ record { name = name; underlying = t; methods = had a (methods u name) }) × (c ≡ Some (record { name = name; underlying = t; methods = had b (methods u name) }))

  form_defined : (u : PackageSource) (name : List ℕ) (n : ℕ) (f : Form) (d : Defined) → defined_by u a name n f ≡ Some d → Both u name (defined_by u b name n f) d
  form_defined u name n (definition s) d e =
      let r = with_back name (had a (methods u name)) (underlying_of (a n)) d e in
      (r.0, r.2, ap (λ c. defined_with name (had b (methods u name)) (underlying_of c)) (h n (underlying r.0) (underlying_back (a n) r.0 r.1)))
  form_defined u name n (constants s at) d e = none_some (defined_by u a name n (constants s at)) d refl e
  form_defined u name n (variables s) d e = none_some (defined_by u a name n (variables s)) d refl e
  form_defined u name n (alias s) d e = none_some (defined_by u a name n (alias s)) d refl e
  form_defined u name n (function f) d e = none_some (defined_by u a name n (function f)) d refl e
  form_defined u name n (method r f) d e = none_some (defined_by u a name n (method r f)) d refl e

  pub defined_more : (u : PackageSource) (name : List ℕ) (w : Option Declared) (d : Defined) → defined_at u a name w ≡ Some d → Both u name (defined_at u b name w) d
  defined_more u name None d e = none_some (defined_at u a name None) d refl e
  defined_more u name (Some w) d e = form_defined u name w.number w.form d e

  module _ (s : Setting) (u : PackageSource) (d : Declaration) where
    abbrev E : Env
    E = environment s u a d

    abbrev F : Env
    F = environment s u b d

    told_more : (n : TypeName) (k : Sel) → is_among k (E.missing n) ≡ false → is_among k (F.missing n) ≡ false
    told_more n k f = choose (bytes_eq u.path n.path) (missing a (methods u n.name)) (missing b (methods u n.name)) (λ g. (had_more k (methods u n.name) g).1) f
      where
        choose : (c : Bool) (ls ks : List Sel) → (is_among k ls ≡ false → is_among k ks ≡ false) → is_among k (if c then ls else []) ≡ false → is_among k (if c then ks else []) ≡ false
        choose true ls ks g i = g i
        choose false ls ks g i = i

    -- a defined type of the package
    own_more : (n : TypeName) (x : Defined) → bytes_eq u.path n.path ≡ true → is_error n ≡ false → E.table n ≡ Some x → Grown E F n x
    own_more n x p q e =
        let r = defined_more u n.name (declared (declarations u) n.name) x (sym (if_true (bytes_eq u.path n.path) (own_defined u a n.name) (table_of s.world.packages n) p) ∙ e) in
        record {
          grown = record { name = n.name; underlying = r.0; methods = had b (methods u n.name) };
          stored = if_false (is_error n) (Some error_type) (F.table n) q ∙ if_true (bytes_eq u.path n.path) (own_defined u b n.name) (table_of s.world.packages n) p ∙ r.2;
          underlying = ap (λ (z : Defined). z.underlying) r.1;
          methods = λ k f. ap (λ (z : Defined). methods_named k z.methods) r.1 ∙ (had_more k (methods u n.name) (sym (ap (is_among k) (if_true (bytes_eq u.path n.path) (missing a (methods u n.name)) [] p)) ∙ f)).0;
          told = told_more n;
        }

    -- one that is stored in both alike
    alike : (n : TypeName) (x : Defined) → entry F.table n ≡ Some x → Grown E F n x
    alike n x e = record { grown = x; stored = e; underlying = refl; methods = λ k f. refl; told = told_more n }

    table_more : (n : TypeName) (x : Defined) → entry E.table n ≡ Some x → Grown E F n x
    table_more n x e = elim (either (is_error n)) [
      | inl q ↦ alike n x (if_true (is_error n) (Some error_type) (F.table n) q ∙ sym (if_true (is_error n) (Some error_type) (E.table n) q) ∙ e)
      | inr q ↦ (let f = sym (if_false (is_error n) (Some error_type) (E.table n) q) ∙ e in elim (either (bytes_eq u.path n.path)) [
        | inl p ↦ own_more n x p q f
        | inr p ↦ alike n x (if_false (is_error n) (Some error_type) (F.table n) q ∙ if_false (bytes_eq u.path n.path) (own_defined u b n.name) (table_of s.world.packages n) p
            ∙ sym (if_false (bytes_eq u.path n.path) (own_defined u a n.name) (table_of s.world.packages n) p) ∙ f)
      ])
    ]

    pub environment_more : Grows (environment s u a d) (environment s u b d)
    environment_more = record {
      meaning = λ name m e. or_more (as_import (path_in (import_of u d.file name))) (meaning_at u.path a name (declared (declarations u) name)) (meaning_at u.path b name (declared (declarations u) name)) m e (meaning_more u.path name (declared (declarations u) name) m);
      object = λ path name x e. e;
      table = table_more;
      path = refl;
      bits = refl;
      profile = λ k. k;
      iota = refl;
    }
