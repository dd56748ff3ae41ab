-- The numbers that the index tells for methods which selectors find are those of the methods that a declaration finds.
use Rattle.std.proofs.Common.{◌≡◌, ◌↔◌, ℕ, true, List, [], ◌++◌, map, sym, ap, ◌∙◌, subst, inl, inr}
use Rattle.std.specs.Cmp.Lexicographic.{bytes_decides}
use Rattle.std.specs.Str.{bytes_eq}
use Rattle.go_base.specs.Gathered.{gather}
use Rattle.go_base.specs.Growing.{Grows}
use Rattle.go_base.specs.Lists.{Has}
use Rattle.go_base.proofs.Members.{gather_of, has_split}
use Rattle.go_declared.specs.MethodTables.{AreMethods}
use Rattle.go_declared.specs.NameTables.{AreDeclared}
use Rattle.go_declared.specs.declared.methods.MethodRow.{MethodRow}
use Rattle.go_declared.specs.declared.names.NamePlace.{NamePlace}
use Rattle.go_leads.specs.Listed.{Lists}
use Rattle.go_leads.specs.Methods.{found_in}
use Rattle.go_leads.specs.declared.methods.FoundMethod.{FoundMethod}
use Rattle.go_leads.specs.inner.Some.{SomeIn}
use Rattle.go_model.specs.declared.types.names.Sel.{Sel}
use Rattle.go_model.specs.declared.types.names.TypeName.{TypeName}
use Rattle.go_nodes.specs.Trees.{node_of}
use Rattle.go_nodes.specs.declared.tree.Tree.{Tree}
use Rattle.go_rules.specs.Environments.{Env, selector_of}
use Rattle.go_rules.specs.Names.{Named}
use Rattle.go_rules.specs.Nodes.{Node}
use Rattle.go_typings.specs.DeclarationNodes.{nodes, references}
use Rattle.go_typings.specs.Declarations.{Form, declarations}
use Rattle.go_typings.specs.Receivers.{selector}
use Rattle.go_typings.specs.References.{Finds, FindsMethod}
use Rattle.go_typings.specs.Sources.{PackageSource}
use Rattle.go_typings.proofs.Cells.{either, if_false, if_true}
use Rattle.go_soundness.proofs.Members.{gathered, has_left, has_right}
use Rattle.go_declaration_graph.specs.inner.MethodNumbers.{Numbered, numbers_at, tables_of}
use Rattle.go_declaration_graph.specs.inner.FoundNumbers.{FindsNumber, FindsNumberIn, found}
use Rattle.go_declaration_graph.specs.inner.Rows.{LeadsIn, NamesIn}
use Rattle.go_declaration_graph.proofs.Mapped.{has_map, map_has}
use Rattle.go_declaration_graph.proofs.TypeMethods.{have_numbers, numbers_have}

-- ---- what trees add to a row

pub tree_numbers : (E : Env) (names : Named NamePlace) (tables : List Numbered) (t : Tree) (methods taken : List FoundMethod) (path : List ℕ) (old new : List ℕ)
    → path ≡ E.path → taken ≡ methods → Lists (found_in E (node_of t)) methods → new ≡ old ++ gather (found path names tables) taken → Grows (FindsNumberIn E names tables t) old new
tree_numbers E names tables t methods taken path old new p q are e =
    let added : List ℕ = gather (found E.path names tables) methods in
    let f : new ≡ old ++ added = e ∙ ap (λ (w : List ℕ). old ++ gather (found w names tables) taken) p ∙ ap (λ (ms : List FoundMethod). old ++ gather (found E.path names tables) ms) q in
    record {
      sound = λ n h. elim (has_split old added n (subst (λ (xs : List ℕ). Has xs n) f h)) [
        | inl o ↦ inl o
        | inr k ↦ (let g = gather_of (found E.path names tables) methods n k in inr (g.0, (are g.0).0 g.1, g.2))
      ];
      kept = λ n h. subst (λ (xs : List ℕ). Has xs n) (sym f) (has_left old added n h);
      complete = λ n k. subst (λ (xs : List ℕ). Has xs n) (sym f) (has_right old added n (gathered (found E.path names tables) methods k.0 n ((are k.0).1 k.1) k.2));
    }

-- ---- the methods that are found

module _ (E : Env) (u : PackageSource) (same : u.path ≡ E.path) (names : Named NamePlace) (are : AreDeclared (declarations u) names) (rows : Named (List MethodRow)) (have : AreMethods (declarations u) rows) where
  abbrev tables : List Numbered
  tables = tables_of (declarations u) rows

  selectors_same : (name : List ℕ) → selector u.path name ≡ selector_of E name
  selectors_same name = ap (λ (path : List ℕ). selector path name) same

  -- a selector that finds a method is that of its name
  own_selector : (at : Node) (m : FoundMethod) → found_in E at m → m.sel ≡ selector_of E m.sel.name
  own_selector at m f = let e : selector_of E f.name.text ≡ m.sel = f.sel in sym e ∙ ap (selector_of E) (ap (λ (s : Sel). s.name) e)

  number_found : (f : Form) (n : ℕ) → SomeIn (FindsNumber E names tables) (nodes f) n → FindsMethod E u f n
  number_found f n (at, h, (m, k, i)) = elim (either (bytes_eq m.owner.path E.path)) [
    | inl e ↦ (
        let p : m.owner.path ≡ u.path = (bytes_decides m.owner.path E.path).0 e ∙ sym same in
        let d = numbers_have u names are rows have m.owner.name m.sel.name n (subst (λ (xs : List ℕ). Has xs n) (if_true (bytes_eq m.owner.path E.path) (numbers_at tables names m.owner.name m.sel.name) [] e) i) in
        let owner : m.owner ≡ record { path = u.path; name = m.owner.name } = ap (λ (path : List ℕ). record { path = path; name = m.owner.name }) p in
        let sel : m.sel ≡ d.0.sel = own_selector at m k ∙ sym (selectors_same m.sel.name) ∙ sym d.2 in
        record {
          type = m.owner.name;
          method = d.0;
          at = at;
          stands = h;
          found = subst (λ (s : Sel). Finds E at (record { path = u.path; name = m.owner.name }) s) sel (subst (λ (o : TypeName). Finds E at o m.sel) owner k);
          has = d.1;
          number = d.3;
        })
    | inr e ↦ absurd (subst (λ (xs : List ℕ). Has xs n) (if_false (bytes_eq m.owner.path E.path) (numbers_at tables names m.owner.name m.sel.name) [] e) i)
  ]

  found_number : (f : Form) (n : ℕ) → FindsMethod E u f n → SomeIn (FindsNumber E names tables) (nodes f) n
  found_number f n k =
      let m : FoundMethod = record { owner = record { path = u.path; name = k.type }; sel = k.method.sel } in
      let s : k.method.sel ≡ selector u.path k.method.sel.name = own_selector k.at m k.found ∙ sym (selectors_same k.method.sel.name) in
      let e : bytes_eq u.path E.path ≡ true = (bytes_decides u.path E.path).1 same in (
        k.at,
        k.stands,
        (
          m,
          k.found,
          subst (λ (xs : List ℕ). Has xs n) (sym (if_true (bytes_eq u.path E.path) (numbers_at tables names k.type k.method.sel.name) [] e))
              (have_numbers u names are rows have k.type k.method.sel.name n (k.method, k.has, s, k.number)),
        ),
      )

  pub found_tells : (f : Form) (n : ℕ) → SomeIn (FindsNumber E names tables) (nodes f) n ↔ FindsMethod E u f n
  found_tells f n = (number_found f n, found_number f n)

-- a row of the names that count, to which the methods were added that trees find
pub leads_in : (E : Env) (names : Named NamePlace) (numbered : List Numbered) (f : Form) (trees : List Tree) (old new : List ℕ)
    → map node_of trees ≡ nodes f → NamesIn names E f (references f) old → Grows (SomeIn (FindsNumberIn E names numbered) trees) old new → LeadsIn names numbered E f new
leads_in E names numbered f trees old new e o g rows u same t n = (
  (λ h. elim (g.sound n h) [
    | inl k ↦ inl ((o u t.names n).0 k)
    | inr s ↦ inr (tells.0 (subst (λ (ts : List Numbered). SomeIn (FindsNumber E names ts) (nodes f) n) t.tables (node_of s.0, subst (λ (xs : List Node). Has xs (node_of s.0)) e (has_map node_of trees s.0 s.1), s.2)))
  ]),
  (λ h. elim h [
    | inl k ↦ g.kept n ((o u t.names n).1 k)
    | inr s ↦ (
        let k = subst (λ (ts : List Numbered). SomeIn (FindsNumber E names ts) (nodes f) n) (sym t.tables) (tells.1 s) in
        let m = map_has node_of trees k.0 (subst (λ (xs : List Node). Has xs k.0) (sym e) k.1) in
        g.complete n (m.0, m.1, subst (λ (at : Node). FindsNumber E names numbered at n) (sym m.2) k.2))
  ]),
)
  where
    tells : SomeIn (FindsNumber E names (tables_of (declarations u) rows)) (nodes f) n ↔ FindsMethod E u f n
    tells = found_tells E u same names t.names rows t.methods f n
