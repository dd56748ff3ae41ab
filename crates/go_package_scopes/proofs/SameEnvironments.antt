-- What is typed in the scopes of a package is typed in its environment, and the reverse.
use Rattle.std.proofs.Common.{◌≡◌, ◌≢◌, ◌↔◌, ℕ, Bool, true, false, List, [], Option, None, Some, refl, sym, ap, ◌∙◌, subst, inl, inr}
use Rattle.std.specs.Prelude.{if◌then◌else◌, is_some, codes}
use Rattle.std.specs.Cmp.{first_so}
use Rattle.std.specs.Cmp.Lexicographic.{bytes_decides}
use Rattle.std.specs.Option.{option_or}
use Rattle.std.specs.Str.{bytes_eq}
use Rattle.go_model.specs.declared.types.names.Sel.{Sel}
use Rattle.go_model.specs.declared.types.names.TypeName.{TypeName}
use Rattle.go_model.specs.declared.types.package.Defined.{Defined}
use Rattle.go_model.specs.types.Terms.{error_type, is_error}
use Rattle.go_model.specs.types.Underlying.{entry, methods_of_entry}
use Rattle.go_base.specs.Keys.{first_with}
use Rattle.go_model.specs.worlds.Worlds.{object_in, Packages, path_of, table_of}
use Rattle.go_rules.specs.Environments.{Env, is_among}
use Rattle.go_rules.specs.Growth.{Grown, Grows}
use Rattle.go_rules.specs.Names.{items_at, value_at}
use Rattle.go_rules.specs.Scopes.{as_import, entity_of, env_of, imports_of, innermost, lacking, of_universe, outermost, Scopes}
use Rattle.go_rules.specs.Universe.{predeclared}
use Rattle.go_rules.specs.declared.seen.Seen.{Seen}
use Rattle.go_typings.specs.DeclarationRules.{Gives}
use Rattle.go_typings.specs.Declarations.{declarations, declared, Declaration, Declared, Form}
use Rattle.go_typings.specs.PackageEnvironments.{Entries, Entry, as_object, entity_at, entity_by, environment, import_of, meaning_at, missing, own_defined, path_in}
use Rattle.go_typings.specs.Receivers.{methods}
use Rattle.go_typings.specs.Sources.{PackageSource, Setting}
use Rattle.go_typings.proofs.Cells.{either, if_false, if_true, none_some, some_once}
use Rattle.go_typings.proofs.GrowRules.{gives_more}
use Rattle.go_package_scopes.specs.PackageScopes.{at_declaration, HaveSame, IsSameType, IsScopeOf}

module _ (s : Setting) (u : PackageSource) (a : Entries) (c : Scopes) (is : IsScopeOf s u a c) (named : u.path ≢ []) (d : Declaration) where
  abbrev E : Env
  E = env_of (at_declaration c d)

  abbrev F : Env
  F = environment s u a d

  -- ---- names

  outer_same : (o : Option Declared) (name : List ℕ) → option_or (as_object (entity_at u.path a o)) (if is_some o then None else of_universe (predeclared name)) ≡ meaning_at u.path a name o
  outer_same None name = refl
  outer_same (Some w) name = or_none (as_object (entity_by u.path a w.number w.place w.form))
    where
      or_none : (o : Option Seen) → option_or o None ≡ o
      or_none None = refl
      or_none (Some x) = refl

  meaning_same : (name : List ℕ) → E.meaning name ≡ F.meaning name
  meaning_same name =
      ap (λ o. option_or (innermost o name) (option_or (as_import (value_at (imports_of c d.file) name)) (outermost (at_declaration c d) name))) is.opened
      ∙ ap (λ o. option_or (as_import o) (outermost (at_declaration c d) name)) (is.imports d.file name)
      ∙ ap (option_or (as_import (path_in (import_of u d.file name))))
      ((λ i. option_or (is.objects name i) (if is.announced name i then None else of_universe (predeclared name))) ∙ outer_same (declared (declarations u) name) name)

  -- ---- types

  E_missing : (n : TypeName) → bytes_eq u.path n.path ≡ true → E.missing n ≡ lacking (items_at c.awaited n.name) (methods_of_entry (value_at c.defined n.name))
  E_missing n p = if_true (bytes_eq c.path n.path) (lacking (items_at c.awaited n.name) (methods_of_entry (value_at c.defined n.name))) [] (ap (λ w. bytes_eq w n.path) is.path ∙ p)

  F_missing : (n : TypeName) → bytes_eq u.path n.path ≡ true → F.missing n ≡ missing a (methods u n.name)
  F_missing n p = if_true (bytes_eq u.path n.path) (missing a (methods u n.name)) [] p

  E_table : (n : TypeName) → bytes_eq u.path n.path ≡ true → E.table n ≡ value_at c.defined n.name
  E_table n p = if_true (bytes_eq c.path n.path) (value_at c.defined n.name) (table_of c.world.packages n) (ap (λ w. bytes_eq w n.path) is.path ∙ p)

  F_table : (n : TypeName) → bytes_eq u.path n.path ≡ true → F.table n ≡ own_defined u a n.name
  F_table n p = if_true (bytes_eq u.path n.path) (own_defined u a n.name) (table_of s.world.packages n) p

  -- of a type of another package both have the same
  other_missing : (n : TypeName) → bytes_eq u.path n.path ≡ false → E.missing n ≡ F.missing n
  other_missing n p =
      if_false (bytes_eq c.path n.path) (lacking (items_at c.awaited n.name) (methods_of_entry (value_at c.defined n.name))) [] (ap (λ w. bytes_eq w n.path) is.path ∙ p)
      ∙ sym (if_false (bytes_eq u.path n.path) (missing a (methods u n.name)) [] p)

  other_table : (n : TypeName) → bytes_eq u.path n.path ≡ false → E.table n ≡ F.table n
  other_table n p =
      if_false (bytes_eq c.path n.path) (value_at c.defined n.name) (table_of c.world.packages n) (ap (λ w. bytes_eq w n.path) is.path ∙ p)
      ∙ ap (λ (w : Packages). table_of w.packages n) is.world
      ∙ sym (if_false (bytes_eq u.path n.path) (own_defined u a n.name) (table_of s.world.packages n) p)

  -- `error` isn't a type of the package
  not_error : (n : TypeName) → bytes_eq u.path n.path ≡ true → is_error n ≡ false
  not_error n p = by (is_error n) refl
    where
      by : (b : Bool) → is_error n ≡ b → b ≡ false
      by true h = absurd (named ((bytes_decides u.path n.path).0 p ∙ (bytes_decides n.path []).0 (first_so (bytes_eq n.path []) (bytes_eq n.name (codes "error")) h)))
      by false h = refl

  stored : (t : TypeName → Option Defined) (n : TypeName) → is_error n ≡ false → entry t n ≡ t n
  stored t n q = if_false (is_error n) (Some error_type) (t n) q

  -- what a table has is as the other has it
  own_back : (o p : Option Defined) (ls ks : List Sel) (x : Defined) → HaveSame ls ks o p → o ≡ Some x → (y : Defined) × (p ≡ Some y) × IsSameType ls ks x y
  own_back None p ls ks x h e = absurd (none_some None x refl e)
  own_back (Some w) None ls ks x h e = absurd h
  own_back (Some w) (Some y) ls ks x h e = (y, refl, subst (λ (z : Defined). IsSameType ls ks z y) (some_once w x e) h)

  own_forth : (o p : Option Defined) (ls ks : List Sel) (y : Defined) → HaveSame ls ks o p → p ≡ Some y → (x : Defined) × (o ≡ Some x) × IsSameType ls ks x y
  own_forth None None ls ks y h e = absurd (none_some None y refl e)
  own_forth None (Some w) ls ks y h e = absurd h
  own_forth (Some x) None ls ks y h e = absurd h
  own_forth (Some x) (Some w) ls ks y h e = (x, refl, subst (λ (z : Defined). IsSameType ls ks x z) (some_once w y e) h)

  abbrev Missed : TypeName → List Sel
  Missed n = missing a (methods u n.name)

  abbrev Lacked : TypeName → List Sel
  Lacked n = lacking (items_at c.awaited n.name) (methods_of_entry (value_at c.defined n.name))

  -- ---- from the package's environment to the scopes

  forth_own : (n : TypeName) (x : Defined) → bytes_eq u.path n.path ≡ true → is_error n ≡ false → F.table n ≡ Some x → Grown F E n x
  forth_own n x p q e =
      let k = own_back (own_defined u a n.name) (value_at c.defined n.name) (Missed n) (Lacked n) x (is.types n.name) (sym (F_table n p) ∙ e) in
      record {
        grown = k.0;
        stored = stored E.table n q ∙ E_table n p ∙ k.1;
        underlying = k.2.underlying;
        methods = λ m f. k.2.methods m (sym (ap (is_among m) (F_missing n p)) ∙ f);
        told = λ m f. ap (is_among m) (E_missing n p) ∙ k.2.told m (sym (ap (is_among m) (F_missing n p)) ∙ f);
      }

  forth : (n : TypeName) (x : Defined) → entry F.table n ≡ Some x → Grown F E n x
  forth n x e = elim (either (bytes_eq u.path n.path)) [
    | inl p ↦ forth_own n x p (not_error n p) (sym (stored F.table n (not_error n p)) ∙ e)
    | inr p ↦ record {
      grown = x;
      stored = ap (λ o. if is_error n then Some error_type else o) (other_table n p) ∙ e;
      underlying = refl;
      methods = λ m f. refl;
      told = λ m f. ap (is_among m) (other_missing n p) ∙ f;
    }
  ]

  pub scope_has : Grows F E
  scope_has = record {
    meaning = λ name m e. meaning_same name ∙ e;
    object = λ path name x e. ap (λ (w : Packages). entity_of (object_in (first_with path_of w.packages path) name)) is.world ∙ e;
    table = forth;
    path = sym is.path;
    bits = sym is.bits;
    profile = λ k. sym is.profile ∙ k;
    iota = refl;
  }

  -- ---- and back

  back_own : (n : TypeName) (y : Defined) → bytes_eq u.path n.path ≡ true → is_error n ≡ false → E.table n ≡ Some y → Grown E F n y
  back_own n y p q e =
      let k = own_forth (own_defined u a n.name) (value_at c.defined n.name) (Missed n) (Lacked n) y (is.types n.name) (sym (E_table n p) ∙ e) in
      let known : (m : Sel) → is_among m (E.missing n) ≡ false → is_among m (Missed n) ≡ false = λ m f. k.2.back m (sym (ap (is_among m) (E_missing n p)) ∙ f) in
      record {
        grown = k.0;
        stored = stored F.table n q ∙ F_table n p ∙ k.1;
        underlying = sym k.2.underlying;
        methods = λ m f. sym (k.2.methods m (known m f));
        told = λ m f. ap (is_among m) (F_missing n p) ∙ known m f;
      }

  back : (n : TypeName) (y : Defined) → entry E.table n ≡ Some y → Grown E F n y
  back n y e = elim (either (bytes_eq u.path n.path)) [
    | inl p ↦ back_own n y p (not_error n p) (sym (stored E.table n (not_error n p)) ∙ e)
    | inr p ↦ record {
      grown = y;
      stored = ap (λ o. if is_error n then Some error_type else o) (sym (other_table n p)) ∙ e;
      underlying = refl;
      methods = λ m f. refl;
      told = λ m f. ap (is_among m) (sym (other_missing n p)) ∙ f;
    }
  ]

  pub scope_gives_back : Grows E F
  scope_gives_back = record {
    meaning = λ name m e. sym (meaning_same name) ∙ e;
    object = λ path name x e. ap (λ (w : Packages). entity_of (object_in (first_with path_of w.packages path) name)) (sym is.world) ∙ e;
    table = back;
    path = is.path;
    bits = is.bits;
    profile = λ k. is.profile ∙ k;
    iota = refl;
  }

  -- what a declaration is given in the scopes it is given in the environment, and the reverse
  pub given_there : (f : Form) (x : Entry) → Gives E (declarations u) f x ↔ Gives F (declarations u) f x
  given_there f x = (gives_more E F scope_gives_back, gives_more F E scope_has)
