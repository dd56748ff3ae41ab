-- Where two assignments have the same entries of a closed set, and they are of its region, a declaration of the set meets the same, names
-- the same and finds the same in both.
use Rattle.std.proofs.Common.{◌≡◌, ℕ, Bool, true, List, Some, refl, sym, ap, ◌∙◌, subst, inl, inr}
use Rattle.std.specs.Prelude.{slice_get}
use Rattle.std.specs.Str.{bytes_eq}
use Rattle.go_base.specs.Lists.{Each}
use Rattle.go_typings.specs.go_model.declared.types.names.TypeName.{TypeName}
use Rattle.go_typings.specs.go_model.declared.types.package.Defined.{Defined}
use Rattle.go_typings.specs.go_model.types.Terms.{error_type, is_error}
use Rattle.go_typings.specs.go_model.types.Underlying.{entry}
use Rattle.go_typings.specs.go_model.worlds.Worlds.{table_of}
use Rattle.go_typings.specs.go_references.declared.references.Reference.{Reference}
use Rattle.go_typings.specs.go_rules.Regions.{IsClosed, RefersIn}
use Rattle.go_typings.specs.DeclarationAsks.{Asks}
use Rattle.go_typings.specs.DeclarationNodes.{nodes}
use Rattle.go_typings.specs.Declarations.{Form, constants, variables, alias, definition, function, method, Declaration, declarations}
use Rattle.go_typings.specs.PackageEnvironments.{Entries, Entry, environment, own_defined, types_of}
use Rattle.go_typings.specs.References.{FindsMethod, NamesDeclaration}
use Rattle.go_typings.specs.Sources.{PackageSource, Setting}
use Rattle.go_typings.specs.Typings.{IsClosed as IsClosedSet}
use Rattle.go_typings.proofs.Cells.{either, if_false, if_true}
use Rattle.go_typings.proofs.ReachedRegion.{EntryIn, own_path}
use Rattle.go_typings.proofs.SameAsks.{KeepsBase, asks_same}
use Rattle.go_typings.proofs.SameReferences.{finds_method_same, refers_back}
use Rattle.go_soundness.specs.Apart.{IsApart}
use Rattle.go_soundness.proofs.FoundOwners.{owner_entered}
use Rattle.go_soundness.proofs.SetReferences.{base_kept, form_refers}
use Rattle.go_soundness.proofs.SetGrowth.{cut_grows, error_path, known, own_same}
use Rattle.go_soundness.proofs.SetRegion.{closed_region, is_kept, keeps, methods_kept, region}

-- a defined type of the package that has its entry
own_entry : (s : Setting) (u : PackageSource) → IsApart s u → (b : Entries) (name : List ℕ) (d : Defined) → entry (types_of s u b) (record { path = u.path; name = name }) ≡ Some d → own_defined u b name ≡ Some d
own_entry s u apart b name d e =
    let n : TypeName = record { path = u.path; name = name } in
    elim (either (is_error n)) [
      | inl q ↦ absurd (apart.pathed (error_path n q))
      | inr q ↦ sym (if_true (bytes_eq u.path u.path) (own_defined u b name) (table_of s.world.packages n) (own_path u.path)) ∙ sym (if_false (is_error n) (Some error_type) (types_of s u b n) q) ∙ e
    ]

module _ (s : Setting) (u : PackageSource) (apart : IsApart s u) (S : ℕ → Bool) (closed : IsClosedSet s u S) where
  -- a method that is found under entries of the set alone is of the set
  pub found_kept : (b : Entries) → ((n : ℕ) (x : Entry) → b n ≡ Some x → S n ≡ true) → (d : Declaration) (f : Form) (n : ℕ) → FindsMethod (environment s u b d) u f n → S n ≡ true
  found_kept b only d f n k =
      let o = owner_entered (environment s u b d) (record { path = u.path; name = k.type }) k.found.found in
      let w = known u b k.type o.0 (own_entry s u apart b k.type o.0 o.1) in
      let i = ap (is_kept S) w.is ∙ only w.declared_at.number w.entry_of w.entered in
      subst (λ (m : ℕ). S m ≡ true) k.number (methods_kept s u apart S closed k.type w.declared_at w.definition_of i w.is w.form k.method k.has)

  module _ (b c : Entries) (same : (n : ℕ) → S n ≡ true → b n ≡ c n) (inside : (n : ℕ) (x : Entry) → S n ≡ true → b n ≡ Some x → EntryIn (region u S) x)
      (m : ℕ) (d : Declaration) (i : S m ≡ true) (e : slice_get (declarations u) m ≡ Some d) where
    refer : Each (RefersIn (region u S)) (nodes d.form)
    refer = form_refers s u apart S closed m d i e

    shut : IsClosed (environment s u b d) (region u S)
    shut = closed_region s u apart S closed b inside d

    -- the second assignment names no more
    pub names_same : (rs : List Reference) (n : ℕ) → NamesDeclaration (environment s u c d) u d.form rs n → NamesDeclaration (environment s u b d) u d.form rs n
    names_same rs n k = refers_back (environment s u b d) (environment s u c d) (region u S) shut (cut_grows s u apart S closed b c same d) u d.form rs n refer k

    pub finds_same : (n : ℕ) → FindsMethod (environment s u b d) u d.form n → FindsMethod (environment s u c d) u d.form n
    finds_same n k = finds_method_same (environment s u b d) (environment s u c d) (region u S) shut (cut_grows s u apart S closed b c same d) u d.form n refer k

    own_kept : (name : List ℕ) (x : Defined) → keeps u S name ≡ true → types_of s u b (record { path = u.path; name = name }) ≡ Some x → types_of s u c (record { path = u.path; name = name }) ≡ Some x
    own_kept name x j p =
        if_true (bytes_eq u.path u.path) (own_defined u c name) (table_of s.world.packages (record { path = u.path; name = name })) (own_path u.path) ∙ sym (own_same s u apart S closed b c same name j)
        ∙ sym (if_true (bytes_eq u.path u.path) (own_defined u b name) (table_of s.world.packages (record { path = u.path; name = name })) (own_path u.path)) ∙ p

    keeps_base : (f : Form) → Each (RefersIn (region u S)) (nodes f) → KeepsBase (environment s u b d) (environment s u c d) u f
    keeps_base (method r f) n = λ name x h p. (x, own_kept name x (base_kept s u apart S closed r name n.0 h) p, refl)
    keeps_base (constants k place) n = tt
    keeps_base (variables k) n = tt
    keeps_base (alias k) n = tt
    keeps_base (definition k) n = tt
    keeps_base (function f) n = tt

    pub asks_kept : (n : ℕ) → Asks (environment s u b d) u n d.form → Asks (environment s u c d) u n d.form
    asks_kept n k = asks_same (environment s u b d) (environment s u c d) (region u S) shut (cut_grows s u apart S closed b c same d) u n d.form refer (keeps_base d.form refer) k
