-- What is cut to a set of declarations is had under all entries that are the same there.
use Rattle.std.proofs.Common.{◌≡◌, ℕ, Bool, true, false, List, [], ◌∷◌, ◌++◌, ◌&&◌, Option, Some, None, refl, sym, ap, ◌∙◌, inl, inr}
use Rattle.std.specs.Prelude.{codes}
use Rattle.std.specs.Option.{option_or}
use Rattle.std.specs.Str.{bytes_eq}
use Rattle.std.proofs.lemmas.Slice.Eq.{bytes_eq-Decides}
use Rattle.go_base.specs.Lists.{Has}
use Rattle.go_typings.specs.go_model.declared.types.names.TypeName.{TypeName}
use Rattle.go_typings.specs.go_model.declared.types.package.Defined.{Defined}
use Rattle.go_typings.specs.go_model.types.Terms.{error_type, is_error}
use Rattle.go_typings.specs.go_model.types.Underlying.{entry}
use Rattle.go_typings.specs.go_model.worlds.Worlds.{table_of}
use Rattle.go_typings.specs.go_rules.Environments.{Env, is_among}
use Rattle.go_typings.specs.go_rules.Growth.{Grown, Grows}
use Rattle.go_typings.specs.go_rules.Regions.{cut}
use Rattle.go_typings.specs.go_rules.Scopes.{as_import}
use Rattle.go_typings.specs.go_rules.declared.seen.Seen.{Seen}
use Rattle.go_typings.proofs.go_rules_proofs.OneKind.{no_truth}
use Rattle.go_typings.specs.go_syntax.declared.declaration.TypeSpec.{TypeSpec}
use Rattle.go_typings.specs.Declarations.{Form, constants, variables, alias, definition, function, method, Declaration, Declared, declarations, declared}
use Rattle.go_typings.specs.PackageEnvironments.{Entries, Entry, underlying, as_object, defined_at, defined_by, defined_with, entity_by, environment, had, had_of, import_of, meaning_at, missing, missing_of, object_of, own_defined, path_in, signature_of, underlying_of}
use Rattle.go_typings.specs.Receivers.{DeclaredMethod, methods}
use Rattle.go_typings.specs.Sources.{PackageSource, Setting}
use Rattle.go_typings.specs.Typings.{IsClosed as IsClosedSet}
use Rattle.go_typings.proofs.Cells.{either, if_false, if_true, none_some}
use Rattle.go_typings.proofs.GrowEnvironments.{underlying_back, with_back}
use Rattle.go_soundness.specs.Apart.{IsApart}
use Rattle.go_soundness.proofs.SetRegion.{in_set, keeps, methods_kept, other_path, region}

pub error_path : (n : TypeName) → is_error n ≡ true → n.path ≡ []
error_path n e = choose (bytes_eq n.path []) (bytes_eq n.name (codes "error")) refl e
  where
    choose : (b c : Bool) → bytes_eq n.path [] ≡ b → (b && c) ≡ true → n.path ≡ []
    choose true c f g = (bytes_eq-Decides n.path []).0 f
    choose false c f g = absurd (no_truth (sym g))

-- how a defined type of the package is declared, where it is had
pub record IsKnown (u : PackageSource) (b : Entries) (name : List ℕ) : Type 0 where
  pub declared_at : Declared
  pub definition_of : TypeSpec
  pub is : declared (declarations u) name ≡ Some declared_at
  pub form : declared_at.form ≡ definition definition_of
  pub entry_of : Entry
  pub entered : b declared_at.number ≡ Some entry_of

pub known : (u : PackageSource) (b : Entries) (name : List ℕ) (d : Defined) → own_defined u b name ≡ Some d → IsKnown u b name
known u b name d e = at_of (declared (declarations u) name) refl e
  where
    by_form : (w : Declared) (f : Form) → declared (declarations u) name ≡ Some w → w.form ≡ f → defined_by u b name w.number f ≡ Some d → IsKnown u b name
    by_form w (definition c) q p g =
        let r = with_back name (had b (methods u name)) (underlying_of (b w.number)) d g in
        record { declared_at = w; definition_of = c; is = q; form = p; entry_of = underlying r.0; entered = underlying_back (b w.number) r.0 r.1 }
    by_form w (constants c at) q p g = none_some (defined_by u b name w.number (constants c at)) d refl g
    by_form w (variables c) q p g = none_some (defined_by u b name w.number (variables c)) d refl g
    by_form w (alias c) q p g = none_some (defined_by u b name w.number (alias c)) d refl g
    by_form w (function f) q p g = none_some (defined_by u b name w.number (function f)) d refl g
    by_form w (method m f) q p g = none_some (defined_by u b name w.number (method m f)) d refl g

    at_of : (c : Option Declared) → declared (declarations u) name ≡ c → defined_at u b name c ≡ Some d → IsKnown u b name
    at_of None p g = none_some (defined_at u b name None) d refl g
    at_of (Some w) p g = by_form w w.form p refl g

module _ (s : Setting) (u : PackageSource) (apart : IsApart s u) (S : ℕ → Bool) (closed : IsClosedSet s u S) (b c : Entries) (same : (n : ℕ) → S n ≡ true → b n ≡ c n) where
  entity_same : (n place : ℕ) (f : Form) → S n ≡ true → entity_by u.path b n place f ≡ entity_by u.path c n place f
  entity_same n place (definition d) i = refl
  entity_same n place (constants d at) i = ap (λ z. object_of z place) (same n i)
  entity_same n place (variables d) i = ap (λ z. object_of z place) (same n i)
  entity_same n place (alias d) i = ap (λ z. object_of z place) (same n i)
  entity_same n place (function f) i = ap (λ z. object_of z place) (same n i)
  entity_same n place (method r f) i = ap (λ z. object_of z place) (same n i)

  meaning_same : (name : List ℕ) (w : Option Declared) → declared (declarations u) name ≡ w → keeps u S name ≡ true → meaning_at u.path b name w ≡ meaning_at u.path c name w
  meaning_same name None e i = refl
  meaning_same name (Some w) e i = ap as_object (entity_same w.number w.place w.form (in_set s u apart S closed name w i e))

  had_same : (ms : List DeclaredMethod) → ((m : DeclaredMethod) → Has ms m → S m.number ≡ true) → had b ms ≡ had c ms
  had_same [] h = refl
  had_same (m ∷ ms) h = let p = same m.number (h m (inl refl)) in let q = had_same ms (λ z k. h z (inr k)) in λ i. had_of m (signature_of (p i)) ++ q i

  missing_same : (ms : List DeclaredMethod) → ((m : DeclaredMethod) → Has ms m → S m.number ≡ true) → missing b ms ≡ missing c ms
  missing_same [] h = refl
  missing_same (m ∷ ms) h = let p = same m.number (h m (inl refl)) in let q = missing_same ms (λ z k. h z (inr k)) in λ i. missing_of m (signature_of (p i)) ++ q i

  form_same : (name : List ℕ) (n : ℕ) (f : Form) → S n ≡ true → ((d : TypeSpec) → f ≡ definition d → (m : DeclaredMethod) → Has (methods u name) m → S m.number ≡ true) → defined_by u b name n f ≡ defined_by u c name n f
  form_same name n (definition d) i h = let p = had_same (methods u name) (h d refl) in let q = same n i in λ j. defined_with name (p j) (underlying_of (q j))
  form_same name n (constants d at) i h = refl
  form_same name n (variables d) i h = refl
  form_same name n (alias d) i h = refl
  form_same name n (function f) i h = refl
  form_same name n (method r f) i h = refl

  -- a name of the set is that of the same defined type
  pub own_same : (name : List ℕ) → keeps u S name ≡ true → own_defined u b name ≡ own_defined u c name
  own_same name i = at_of (declared (declarations u) name) refl
    where
      at_of : (w : Option Declared) → declared (declarations u) name ≡ w → defined_at u b name w ≡ defined_at u c name w
      at_of None e = refl
      at_of (Some w) e = form_same name w.number w.form (in_set s u apart S closed name w i e) (λ d f. methods_kept s u apart S closed name w d i e f)

  module _ (d : Declaration) where
    abbrev E : Env
    E = environment s u b d

    abbrev F : Env
    F = environment s u c d

    abbrev C : Env
    C = cut (region u S) E

    name_same : (name : List ℕ) (m : Seen) → C.meaning name ≡ Some m → F.meaning name ≡ Some m
    name_same name m e = elim (either (keeps u S name)) [
      | inl i ↦ ap (λ z. option_or (as_import (path_in (import_of u d.file name))) z) (sym (meaning_same name (declared (declarations u) name) refl i)) ∙ sym (if_true (keeps u S name) (E.meaning name) None i) ∙ e
      | inr i ↦ none_some (C.meaning name) m (if_false (keeps u S name) (E.meaning name) None i) e
    ]

    -- one that is stored alike, none of whose methods is missing in the second environment alone
    stored : (n : TypeName) (x : Defined) → entry F.table n ≡ Some x → E.missing n ≡ F.missing n → Grown C F n x
    stored n x e f = record { grown = x; stored = e; underlying = refl; methods = λ k g. refl; told = λ k g. sym (ap (is_among k) f) ∙ g }

    other_missing : (n : TypeName) → bytes_eq u.path n.path ≡ false → E.missing n ≡ F.missing n
    other_missing n p = if_false (bytes_eq u.path n.path) (missing b (methods u n.name)) [] p ∙ sym (if_false (bytes_eq u.path n.path) (missing c (methods u n.name)) [] p)

    own_missing : (n : TypeName) → bytes_eq u.path n.path ≡ true → missing b (methods u n.name) ≡ missing c (methods u n.name) → E.missing n ≡ F.missing n
    own_missing n p e = if_true (bytes_eq u.path n.path) (missing b (methods u n.name)) [] p ∙ e ∙ sym (if_true (bytes_eq u.path n.path) (missing c (methods u n.name)) [] p)

    own_stored : (n : TypeName) (x : Defined) → is_error n ≡ false → bytes_eq u.path n.path ≡ true → keeps u S n.name ≡ true → own_defined u b n.name ≡ Some x → Grown C F n x
    own_stored n x q p i e =
        let k = known u b n.name x e in
        stored n x
        (if_false (is_error n) (Some error_type) (F.table n) q ∙ if_true (bytes_eq u.path n.path) (own_defined u c n.name) (table_of s.world.packages n) p ∙ sym (own_same n.name i) ∙ e)
        (own_missing n p (missing_same (methods u n.name) (methods_kept s u apart S closed n.name k.declared_at k.definition_of i k.is k.form)))

    table_same : (n : TypeName) (x : Defined) → entry C.table n ≡ Some x → Grown C F n x
    table_same n x e = elim (either (is_error n)) [
      | inl q ↦ stored n x (if_true (is_error n) (Some error_type) (F.table n) q ∙ sym (if_true (is_error n) (Some error_type) (C.table n) q) ∙ e)
          (other_missing n (other_path u.path n.path (λ p. apart.pathed (sym p ∙ error_path n q))))
      | inr q ↦ (let f = sym (if_false (is_error n) (Some error_type) (C.table n) q) ∙ e in elim (either ((region u S).types n)) [
        | inl i ↦ (let g = sym (if_true ((region u S).types n) (E.table n) None i) ∙ f in elim (either (bytes_eq u.path n.path)) [
          | inl p ↦ own_stored n x q p (sym (if_true (bytes_eq u.path n.path) (keeps u S n.name) true p) ∙ i) (sym (if_true (bytes_eq u.path n.path) (own_defined u b n.name) (table_of s.world.packages n) p) ∙ g)
          | inr p ↦ stored n x
              (if_false (is_error n) (Some error_type) (F.table n) q ∙ if_false (bytes_eq u.path n.path) (own_defined u c n.name) (table_of s.world.packages n) p
              ∙ sym (if_false (bytes_eq u.path n.path) (own_defined u b n.name) (table_of s.world.packages n) p) ∙ g)
              (other_missing n p)
        ])
        | inr i ↦ none_some (C.table n) x (if_false ((region u S).types n) (E.table n) None i) f
      ])
    ]

    pub cut_grows : Grows C F
    cut_grows = record {
      meaning = name_same;
      object = λ path name x e. e;
      table = table_same;
      path = refl;
      bits = refl;
      profile = λ k. k;
      iota = refl;
    }
