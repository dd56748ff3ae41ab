-- A type that has methods is declared as a defined type, and the index has their numbers.
use Rattle.std.proofs.Common.{◌≡◌, ℕ, zero, suc, Bool, true, false, cond, List, [], ◌∷◌, ◌++◌, map, get_or, Option, Some, None, refl, sym, ap, ◌∙◌, subst, ◌⊎◌, inl, inr}
use mathlib.Core.Bool.{true≢false}
use Rattle.std.specs.Prelude.{if◌then◌else◌, not, slice_get}
use Rattle.std.specs.Cmp.Lexicographic.{bytes_decides}
use Rattle.std.specs.Option.{unwrap_or}
use Rattle.std.specs.Str.{bytes_eq}
use Rattle.go_base.specs.Lists.{Has}
use Rattle.go_base.proofs.Members.{has_split}
use Rattle.go_declared.specs.MethodTables.{AreMethods, method_name, method_of}
use Rattle.go_declared.specs.NameTables.{AreDeclared, place_of}
use Rattle.go_declared.specs.declared.methods.MethodRow.{MethodRow}
use Rattle.go_declared.specs.declared.names.NamePlace.{NamePlace}
use Rattle.go_model.specs.declared.types.names.Sel.{Sel}
use Rattle.go_rules.specs.Expressions.{is_blank}
use Rattle.go_rules.specs.Names.{Named, items_at, value_at}
use Rattle.go_rules.proofs.NamedEntries.{put_is}
use Rattle.go_syntax.specs.declared.declaration.TypeSpec.{TypeSpec}
use Rattle.go_syntax.specs.declared.name.Name.{Name}
use Rattle.go_syntax.specs.declared.types.ParameterDecl.{ParameterDecl}
use Rattle.go_typings.specs.Declarations.{Form, constants, variables, alias, definition, function, method, Declaration, Declared, declared, declarations}
use Rattle.go_typings.specs.Receivers.{NameForm, DeclaredMethod, after_aliases, base, base_in, declared_methods, defined_name, definition_name, is_named, is_selectable, method_by, methods, methods_from, own_definition, receiver_form, selector}
use Rattle.go_typings.specs.Sources.{PackageSource}
use Rattle.go_typings.proofs.Cells.{either, if_false, if_true, none_some, some_once}
use Rattle.go_soundness.proofs.DeclaredForms.{is_at, method_declared, own_name}
use Rattle.go_soundness.proofs.Members.{has_left, has_right}
use Rattle.go_declaration_graph.specs.inner.MethodNumbers.{Numbered, numbers_at, table_at, table_by, tables_of, with_number, with_methods}
use Rattle.go_declaration_graph.proofs.Mapped.{filter_has, filter_passes, has_map, map_has}

-- ---- a type that has methods

-- the name is that of a defined type
pub record IsDefined (ds : List Declaration) (name : List ℕ) : Type 0 where
  pub found : Declared
  pub spec : TypeSpec
  pub declared : declared ds name ≡ Some found
  pub form : found.form ≡ definition spec
  pub named : spec.name.text ≡ name

named_so : (type : List ℕ) (o : Option (List ℕ)) → is_named type o ≡ true → o ≡ Some type
named_so type None e = absurd (true≢false (sym e))
named_so type (Some other) e = ap Some ((bytes_decides other type).0 e)

spec_of : (f : Form) (type : List ℕ) → definition_name f ≡ Some type → (s : TypeSpec) × (f ≡ definition s) × (s.name.text ≡ type)
spec_of (constants s place) type e = none_some (definition_name (constants s place)) type refl e
spec_of (variables s) type e = none_some (definition_name (variables s)) type refl e
spec_of (alias s) type e = none_some (definition_name (alias s)) type refl e
spec_of (definition s) type e = (s, refl, some_once s.name.text type e)
spec_of (function f) type e = none_some (definition_name (function f)) type refl e
spec_of (method receiver f) type e = none_some (definition_name (method receiver f)) type refl e

by_name : (ds : List Declaration) (name type : List ℕ) (o : Option Declared) → declared ds name ≡ o → defined_name o ≡ Some type → IsDefined ds type
by_name ds name type None f e = none_some (defined_name None) type refl e
by_name ds name type (Some d) f e =
    let s = spec_of d.form type e in
    let same : name ≡ type = sym (own_name ds name d s.0 f s.1) ∙ s.2 in
    record { found = d; spec = s.0; declared = ap (declared ds) (sym same) ∙ f; form = s.1; named = s.2 }

by_own : (ds : List Declaration) (qualifier : Option Name) (name : Name) (type : List ℕ) → own_definition ds qualifier name ≡ Some type → IsDefined ds type
by_own ds None name type e = by_name ds name.text type (declared ds name.text) refl e
by_own ds (Some q) name type e = none_some (own_definition ds (Some q) name) type refl e

by_form : (ds : List Declaration) (o : Option NameForm) (type : List ℕ) → base_in ds o ≡ Some type → IsDefined ds type
by_form ds None type e = none_some (base_in ds None) type refl e
by_form ds (Some f) type e = let q = after_aliases ds f.name in by_own ds q.qualifier q.name type e

based : (u : PackageSource) (type : List ℕ) (number : ℕ) (f : Form) (m : DeclaredMethod) → Has (method_by u type number f) m → (receiver : ParameterDecl) × (is_named type (base (declarations u) receiver) ≡ true)
based u type number (constants s place) m h = absurd h
based u type number (variables s) m h = absurd h
based u type number (alias s) m h = absurd h
based u type number (definition s) m h = absurd h
based u type number (function g) m h = absurd h
based u type number (method receiver g) m h = elim (either (is_named type (base (declarations u) receiver))) [
  | inl e ↦ (receiver, e)
  | inr e ↦ absurd (subst (λ (ms : List DeclaredMethod). Has ms m) (if_false (is_named type (base (declarations u) receiver)) _ [] e) h)
]

based_from : (u : PackageSource) (type : List ℕ) (number : ℕ) (ds : List Declaration) (m : DeclaredMethod) → Has (methods_from u type number ds) m → (receiver : ParameterDecl) × (is_named type (base (declarations u) receiver) ≡ true)
based_from u type number [] m h = absurd h
based_from u type number (d ∷ ds) m h = elim (has_split (method_by u type number d.form) (methods_from u type (suc number) ds) m h) [
  | inl k ↦ based u type number d.form m k
  | inr k ↦ based_from u type (suc number) ds m k
]

pub type_defined : (u : PackageSource) (type : List ℕ) (m : DeclaredMethod) → Has (declared_methods u type) m → IsDefined (declarations u) type
type_defined u type m h =
    let b = based_from u type 0 (declarations u) m h in
    by_form (declarations u) (receiver_form b.0) type (named_so type (base (declarations u) b.0) b.1)

-- ---- a table of numbers

module _ (q : List ℕ) (n : ℕ) where
  number_more : (t : Numbered) (k : List ℕ) (m : ℕ) (b : Bool) → bytes_eq q k ≡ b → items_at (with_number t k m) q ≡ (if b then items_at t q ++ m ∷ [] else items_at t q)
  number_more t k m true e =
      ap (λ o. unwrap_or o []) (put_is q k (items_at t k ++ m ∷ []) t ∙ ap (λ c. cond c (Some (items_at t k ++ m ∷ [])) (value_at t q)) e)
      ∙ ap (λ name. items_at t name ++ m ∷ []) (sym ((bytes_decides q k).0 e))
  number_more t k m false e = ap (λ o. unwrap_or o []) (put_is q k (items_at t k ++ m ∷ []) t ∙ ap (λ c. cond c (Some (items_at t k ++ m ∷ [])) (value_at t q)) e)

  more_has : (t : Numbered) (k : List ℕ) (m : ℕ) → Has (items_at (with_number t k m) q) n → Has (items_at t q) n ⊎ ((k ≡ q) × (m ≡ n))
  more_has t k m h = by (bytes_eq q k) refl
    where
      by : (b : Bool) → bytes_eq q k ≡ b → Has (items_at t q) n ⊎ ((k ≡ q) × (m ≡ n))
      by true e = elim (has_split (items_at t q) (m ∷ []) n (subst (λ (xs : List ℕ). Has xs n) (number_more t k m true e) h)) [
        | inl o ↦ inl o
        | inr s ↦ elim s [ inl f ↦ inr (sym ((bytes_decides q k).0 e), f) | inr z ↦ absurd z ]
      ]
      by false e = inl (subst (λ (xs : List ℕ). Has xs n) (number_more t k m false e) h)

  has_old : (t : Numbered) (k : List ℕ) (m : ℕ) → Has (items_at t q) n → Has (items_at (with_number t k m) q) n
  has_old t k m h = by (bytes_eq q k) refl
    where
      by : (b : Bool) → bytes_eq q k ≡ b → Has (items_at (with_number t k m) q) n
      by true e = subst (λ (xs : List ℕ). Has xs n) (sym (number_more t k m true e)) (has_left (items_at t q) (m ∷ []) n h)
      by false e = subst (λ (xs : List ℕ). Has xs n) (sym (number_more t k m false e)) h

  has_new : (t : Numbered) (k : List ℕ) (m : ℕ) → k ≡ q → m ≡ n → Has (items_at (with_number t k m) q) n
  has_new t k m e f = subst (λ (xs : List ℕ). Has xs n) (sym (number_more t k m true ((bytes_decides q k).1 (sym e)))) (has_right (items_at t q) (m ∷ []) n (inl f))

  module _ (ds : List Declaration) where
    -- a row of this name and number
    abbrev HasRow : List MethodRow → Type 0
    HasRow rows = (r : MethodRow) × Has rows r × (method_name ds r.number ≡ q) × (r.number ≡ n)

    rows_of : (t : Numbered) (rows : List MethodRow) → Has (items_at (with_methods ds t rows) q) n → Has (items_at t q) n ⊎ HasRow rows
    rows_of t [] h = inl h
    rows_of t (r ∷ rows) h = elim (rows_of (with_number t (method_name ds r.number) r.number) rows h) [
      | inl k ↦ elim (more_has t (method_name ds r.number) r.number k) [ inl o ↦ inl o | inr e ↦ inr (r, inl refl, e.0, e.1) ]
      | inr k ↦ inr (k.0, inr k.1, k.2, k.3)
    ]

    kept : (t : Numbered) (rows : List MethodRow) → Has (items_at t q) n → Has (items_at (with_methods ds t rows) q) n
    kept t [] h = h
    kept t (r ∷ rows) h = kept (with_number t (method_name ds r.number) r.number) rows (has_old t (method_name ds r.number) r.number h)

    row_has : (t : Numbered) (rows : List MethodRow) → HasRow rows → Has (items_at (with_methods ds t rows) q) n
    row_has t [] k = absurd k.1
    row_has t (r ∷ rows) k = elim k.1 [
      | inl s ↦ kept (with_number t (method_name ds r.number) r.number) rows (has_new t (method_name ds r.number) r.number (ap (λ (w : MethodRow). method_name ds w.number) s ∙ k.2) (ap (λ (w : MethodRow). w.number) s ∙ k.3))
      | inr i ↦ row_has (with_number t (method_name ds r.number) r.number) rows (k.0, i, k.2, k.3)
    ]

    pub table_rows : (rows : List MethodRow) → Has (items_at (with_methods ds [] rows) q) n → HasRow rows
    table_rows rows h = elim (rows_of [] rows h) [ inl z ↦ absurd z | inr k ↦ k ]

-- ---- the index

map_at : {A B : Type 0} (g : A → B) (xs : List A) (i : ℕ) (x : A) (d : B) → slice_get xs i ≡ Some x → get_or (map g xs) i d ≡ g x
map_at g [] i x d e = none_some (slice_get [] i) x refl e
map_at g (y ∷ xs) zero x d e = ap g (some_once y x e)
map_at g (y ∷ xs) (suc i) x d e = map_at g xs i x d e

module _ (u : PackageSource) (names : Named NamePlace) (are : AreDeclared (declarations u) names) (rows : Named (List MethodRow)) (have : AreMethods (declarations u) rows) where
  abbrev tables : List Numbered
  tables = tables_of (declarations u) rows

  -- the table of a defined type
  table_there : (type : List ℕ) (k : IsDefined (declarations u) type) → table_at tables (value_at names type) ≡ with_methods (declarations u) [] (items_at rows type)
  table_there type k =
      let i = is_at (declarations u) type k.found k.declared in
      ap (table_at tables) (are type ∙ ap place_of k.declared)
      ∙ map_at (λ (d : Declaration). table_by (declarations u) rows d.form) (declarations u) k.found.number i.declaration [] i.is
      ∙ ap (table_by (declarations u) rows) (i.form ∙ k.form)
      ∙ ap (λ (name : List ℕ). with_methods (declarations u) [] (items_at rows name)) k.named

  form_table : (type name : List ℕ) (n : ℕ) (d : Declared) (f : Form) → declared (declarations u) type ≡ Some d → d.form ≡ f → Has (items_at (table_by (declarations u) rows f) name) n → IsDefined (declarations u) type
  form_table type name n d (constants s place) e g h = absurd h
  form_table type name n d (variables s) e g h = absurd h
  form_table type name n d (alias s) e g h = absurd h
  form_table type name n d (definition s) e g h = record { found = d; spec = s; declared = e; form = g; named = own_name (declarations u) type d s e g }
  form_table type name n d (function f) e g h = absurd h
  form_table type name n d (method receiver f) e g h = absurd h

  -- only a defined type has a table with numbers
  table_defined : (type name : List ℕ) (n : ℕ) → Has (items_at (table_at tables (value_at names type)) name) n → IsDefined (declarations u) type
  table_defined type name n h = by (declared (declarations u) type) refl
    where
      by : (o : Option Declared) → declared (declarations u) type ≡ o → IsDefined (declarations u) type
      by None e = absurd (subst (λ (t : Numbered). Has (items_at t name) n) (ap (table_at tables) (are type ∙ ap place_of e)) h)
      by (Some d) e =
          let i = is_at (declarations u) type d e in
          form_table type name n d d.form e refl
          (subst (λ (t : Numbered). Has (items_at t name) n)
          (ap (table_at tables) (are type ∙ ap place_of e) ∙ map_at (λ (w : Declaration). table_by (declarations u) rows w.form) (declarations u) d.number i.declaration [] i.is ∙ ap (table_by (declarations u) rows) i.form)
          h)

  -- the method of a number that a selector of this name finds
  abbrev pub HasMethod : List ℕ → List ℕ → ℕ → Type 0
  HasMethod type name n = (m : DeclaredMethod) × Has (methods u type) m × (m.sel ≡ selector u.path name) × (m.number ≡ n)

  passes : (name : List ℕ) → is_blank name ≡ false → not (is_blank name) ≡ true
  passes name e = ap not e

  not_blank : (name : List ℕ) → not (is_blank name) ≡ true → is_blank name ≡ false
  not_blank name e = by (is_blank name) e
    where
      by : (b : Bool) → not b ≡ true → b ≡ false
      by true f = absurd (true≢false (sym f))
      by false f = refl

  pub numbers_have : (type name : List ℕ) (n : ℕ) → Has (numbers_at tables names type name) n → HasMethod type name n
  numbers_have type name n h = elim (either (is_blank name)) [
    | inl e ↦ absurd (subst (λ (xs : List ℕ). Has xs n) (if_true (is_blank name) [] (items_at (table_at tables (value_at names type)) name) e) h)
    | inr e ↦ (
        let k = subst (λ (xs : List ℕ). Has xs n) (if_false (is_blank name) [] (items_at (table_at tables (value_at names type)) name) e) h in
        let d = table_defined type name n k in
        let r = table_rows name n (declarations u) (items_at rows type) (subst (λ (t : Numbered). Has (items_at t name) n) (table_there type d) k) in
        let m = method_of u r.0 in
        let s : m.sel ≡ selector u.path name = ap (selector u.path) r.2 in (
          m,
          filter_has is_selectable (declared_methods u type) m (subst (λ (ms : List DeclaredMethod). Has ms m) (have u refl type) (has_map (method_of u) (items_at rows type) r.0 r.1)) (passes m.sel.name (ap (λ (w : List ℕ). is_blank w) r.2 ∙ e)),
          s,
          r.3,
        ))
  ]

  pub have_numbers : (type name : List ℕ) (n : ℕ) → HasMethod type name n → Has (numbers_at tables names type name) n
  have_numbers type name n k =
      let h = method_declared u type k.0 k.1 in
      let same : k.0.sel.name ≡ name = ap (λ (s : Sel). s.name) k.2 in
      let e : is_blank name ≡ false = not_blank name (subst (λ (w : List ℕ). not (is_blank w) ≡ true) same (filter_passes is_selectable (declared_methods u type) k.0 k.1)) in
      let r = map_has (method_of u) (items_at rows type) k.0 (subst (λ (ms : List DeclaredMethod). Has ms k.0) (sym (have u refl type)) h) in
      subst (λ (xs : List ℕ). Has xs n) (sym (if_false (is_blank name) [] (items_at (table_at tables (value_at names type)) name) e))
      (subst (λ (t : Numbered). Has (items_at t name) n) (sym (table_there type (type_defined u type k.0 h)))
      (row_has name n (declarations u) [] (items_at rows type) (r.0, r.1, ap (λ (d : DeclaredMethod). d.sel.name) r.2 ∙ same, ap (λ (d : DeclaredMethod). d.number) r.2 ∙ k.3)))
