-- The rows of numbers that tables tell are those of the declarations that are named, and of the methods of a type.
use Rattle.std.proofs.Common.{◌≡◌, ℕ, true, false, ◌&&◌, List, [], map, Option, Some, None, refl, sym, ap, ◌∙◌, subst, inl, inr}
use mathlib.Core.Bool.{true≢false}
use Rattle.std.specs.List.{list_any}
use Rattle.std.specs.Prelude.{is_some}
use Rattle.go_base.specs.Gathered.{gather}
use Rattle.go_base.specs.Lists.{Has}
use Rattle.go_base.proofs.Members.{gather_of, has_split}
use Rattle.go_declared.specs.MethodTables.{AreMethods, method_of}
use Rattle.go_declared.specs.NameTables.{AreDeclared, place_of}
use Rattle.go_declared.specs.declared.methods.MethodRow.{MethodRow}
use Rattle.go_declared.specs.declared.names.NamePlace.{NamePlace}
use Rattle.go_leads.specs.Listed.{Lists}
use Rattle.go_references.specs.declared.references.Reference.{Reference}
use Rattle.go_rules.specs.Environments.{Env}
use Rattle.go_rules.specs.Names.{Named, items_at, value_at}
use Rattle.go_rules.specs.Nodes.{Node}
use Rattle.go_typings.specs.DeclarationNodes.{nodes, references}
use Rattle.go_typings.specs.Declarations.{Form, constants, variables, alias, definition, function, method, Declared, declared, declarations}
use Rattle.go_typings.specs.Receivers.{DeclaredMethod}
use Rattle.go_typings.specs.References.{DependsOn, HasDeclared, HasMethods, IsDeclaredAs, IsFieldKey, NamesDeclaration, by_name, to_method}
use Rattle.go_typings.specs.Sources.{PackageSource}
use Rattle.go_typings.proofs.Cells.{either, if_false, if_true}
use Rattle.go_soundness.proofs.Members.{gathered, has_left, has_right}
use Rattle.go_declaration_graph.specs.declared.field_keys.FieldKey.{FieldKey}
use Rattle.go_declaration_graph.specs.inner.FieldKeys.{AreFieldKeys, IsFieldKeyIn, is_among}
use Rattle.go_declaration_graph.specs.inner.NamedNumbers.{counted, dependencies, is_declared_key, named, names_field, number_in, number_of, own_methods}
use Rattle.go_declaration_graph.proofs.FieldKeySets.{among_tells, both_true}
use Rattle.go_declaration_graph.proofs.Mapped.{has_map, map_has, not_any}

-- ---- a name

number_declared : (o : Option Declared) (n : ℕ) → Has (number_in (place_of o)) n → (d : Declared) × (o ≡ Some d) × (d.number ≡ n)
number_declared None n h = absurd h
number_declared (Some d) n (inl e) = (d, refl, e)
number_declared (Some d) n (inr h) = absurd h

declared_number : (o : Option Declared) (n : ℕ) (d : Declared) → o ≡ Some d → d.number ≡ n → Has (number_in (place_of o)) n
declared_number o n d e f = subst (λ (w : Option Declared). Has (number_in (place_of w)) n) (sym e) (inl f)

number_some : (o : Option NamePlace) (n : ℕ) → Has (number_in o) n → is_some o ≡ true
number_some None n h = absurd h
number_some (Some p) n h = refl

module _ (u : PackageSource) (names : Named NamePlace) (are : AreDeclared (declarations u) names) where
  pub named_declared : (r : Reference) (n : ℕ) → Has (named names r) n → IsDeclaredAs u r.name n
  named_declared r n h = number_declared (declared (declarations u) r.name.text) n (subst (λ (o : Option NamePlace). Has (number_in o) n) (are r.name.text) h)

  pub declared_named : (r : Reference) (n : ℕ) → IsDeclaredAs u r.name n → Has (named names r) n
  declared_named r n k = subst (λ (o : Option NamePlace). Has (number_in o) n) (sym (are r.name.text)) (declared_number (declared (declarations u) r.name.text) n k.0 k.1 k.2)

  -- ---- names that aren't those of fields

  module _ (E : Env) (f : Form) (keys : List FieldKey) (fields : AreFieldKeys E f keys) where
    not_field : (r : Reference) → names_field keys r ≡ false → r.is_key ≡ true → (at : Node) → Has (nodes f) at → IsFieldKey E at r.name → ⊥
    not_field r e k at h i = true≢false (sym (ap (λ b. b && is_among r.name keys) k ∙ (among_tells E f keys r.name fields).1 (at, h, i)) ∙ e)

    field_named : (r : Reference) → names_field keys r ≡ true → (r.is_key ≡ true) × IsFieldKeyIn E f r.name
    field_named r e = let both = both_true r.is_key (is_among r.name keys) e in (both.0, (among_tells E f keys r.name fields).0 both.1)

    module _ (rs : List Reference) where
      counted_names : (n : ℕ) → Has (gather (counted names keys) rs) n → NamesDeclaration E u f rs n
      counted_names n h =
          let g = gather_of (counted names keys) rs n h in
          let r : Reference = g.0 in
          elim (either (names_field keys r)) [
            | inl e ↦ absurd (subst (λ (xs : List ℕ). Has xs n) (if_true (names_field keys r) [] (named names r) e) g.2)
            | inr e ↦ record {
              reference = r;
              has = g.1;
              names = named_declared r n (subst (λ (xs : List ℕ). Has xs n) (if_false (names_field keys r) [] (named names r) e) g.2);
              counts = not_field r e;
            }
          ]

      names_counted : (n : ℕ) → NamesDeclaration E u f rs n → Has (gather (counted names keys) rs) n
      names_counted n k =
          let r = k.reference in
          elim (either (names_field keys r)) [
            | inl e ↦ (let i = field_named r e in absurd (k.counts i.0 i.1.0 i.1.1 i.1.2))
            | inr e ↦ gathered (counted names keys) rs r n k.has (subst (λ (xs : List ℕ). Has xs n) (sym (if_false (names_field keys r) [] (named names r) e)) (declared_named r n k.names))
          ]

      pub counted_tell : Lists (NamesDeclaration E u f rs) (gather (counted names keys) rs)
      counted_tell n = (counted_names n, names_counted n)

  -- ---- where no key is the name of a declaration

  module _ (E : Env) (f : Form) (rs : List Reference) (free : list_any (is_declared_key names) rs ≡ false) where
    no_named_key : (r : Reference) (n : ℕ) → Has rs r → Has (named names r) n → r.is_key ≡ true → ⊥
    no_named_key r n h k e = true≢false (sym (ap (λ b. b && is_some (value_at names r.name.text)) e ∙ number_some (value_at names r.name.text) n k) ∙ not_any (is_declared_key names) rs r free h)

    all_names : (n : ℕ) → Has (gather (named names) rs) n → NamesDeclaration E u f rs n
    all_names n h =
        let g = gather_of (named names) rs n h in
        record { reference = g.0; has = g.1; names = named_declared g.0 n g.2; counts = λ e at i k. no_named_key g.0 n g.1 g.2 e }

    names_all : (n : ℕ) → NamesDeclaration E u f rs n → Has (gather (named names) rs) n
    names_all n k = gathered (named names) rs k.reference n k.has (declared_named k.reference n k.names)

    pub named_tell : Lists (NamesDeclaration E u f rs) (gather (named names) rs)
    named_tell n = (all_names n, names_all n)

  -- ---- what a declaration depends on

  module _ (methods : Named (List MethodRow)) (rows : AreMethods (declarations u) methods) where
    own_declared : (type : List ℕ) (n : ℕ) → Has (map number_of (items_at methods type)) n → HasDeclared u type n
    own_declared type n h =
        let m = map_has number_of (items_at methods type) n h in
        (method_of u m.0, subst (λ (ms : List DeclaredMethod). Has ms (method_of u m.0)) (rows u refl type) (has_map (method_of u) (items_at methods type) m.0 m.1), m.2)

    declared_own : (type : List ℕ) (n : ℕ) → HasDeclared u type n → Has (map number_of (items_at methods type)) n
    declared_own type n k =
        let m = map_has (method_of u) (items_at methods type) k.0 (subst (λ (ms : List DeclaredMethod). Has ms k.0) (sym (rows u refl type)) k.1) in
        subst (Has (map number_of (items_at methods type))) (ap (λ (d : DeclaredMethod). d.number) m.2 ∙ k.2) (has_map number_of (items_at methods type) m.0 m.1)

    own_has : (f : Form) (n : ℕ) → Has (own_methods methods f) n → HasMethods u f n
    own_has (constants s place) n h = absurd h
    own_has (variables s) n h = absurd h
    own_has (alias s) n h = absurd h
    own_has (definition s) n h = own_declared s.name.text n h
    own_has (function g) n h = absurd h
    own_has (method receiver g) n h = absurd h

    has_own : (f : Form) (n : ℕ) → HasMethods u f n → Has (own_methods methods f) n
    has_own (constants s place) n h = absurd h
    has_own (variables s) n h = absurd h
    has_own (alias s) n h = absurd h
    has_own (definition s) n h = declared_own s.name.text n h
    has_own (function g) n h = absurd h
    has_own (method receiver g) n h = absurd h

    module _ (f : Form) where
      told_depends : (n : ℕ) → Has (dependencies names methods f) n → DependsOn u f n
      told_depends n h = elim (has_split (gather (named names) (references f)) (own_methods methods f) n h) [
        | inl k ↦ (let g = gather_of (named names) (references f) n k in by_name g.0 g.1 (named_declared g.0 n g.2))
        | inr k ↦ to_method (own_has f n k)
      ]

      depends_told : (n : ℕ) → DependsOn u f n → Has (dependencies names methods f) n
      depends_told n (by_name r h k) = has_left (gather (named names) (references f)) (own_methods methods f) n (gathered (named names) (references f) r n h (declared_named r n k))
      depends_told n (to_method h) = has_right (gather (named names) (references f)) (own_methods methods f) n (has_own f n h)

      pub dependencies_tell : Lists (DependsOn u f) (dependencies names methods f)
      dependencies_tell n = (told_depends n, depends_told n)
