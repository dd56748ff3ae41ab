-- A graph that got the rows of each declaration of a package in turn is the package's.
use Rattle.std.proofs.Common.{◌≡◌, ◌≢◌, ◌↔◌, ℕ, zero, suc, ◌+◌, ◌<◌, List, [], ◌∷◌, ◌++◌, length, get_or, Some, refl, sym, ap, ◌∙◌, subst, ◌⊎◌, inl, inr, arith, length-append}
use Rattle.std.specs.Prelude.{slice_get}
use Rattle.std.proofs.lemmas.Option.{slice_get_within}
use Rattle.go_base.specs.Lists.{Has}
use Rattle.go_declarations.specs.Listings.{declaration_of, declarations_of}
use Rattle.go_declarations.specs.declared.listing.Declaration.{Declaration as Borrowed}
use Rattle.go_declared.proofs.Declared.{as_long}
use Rattle.go_declared.specs.MethodTables.{AreMethods}
use Rattle.go_declared.specs.NameTables.{AreDeclared}
use Rattle.go_declared.specs.declared.methods.MethodRow.{MethodRow}
use Rattle.go_declared.specs.declared.names.NamePlace.{NamePlace}
use Rattle.go_graphs.specs.Walks.{row_of}
use Rattle.go_graphs.proofs.Pushed.{get_pushed}
use Rattle.go_leads.specs.Listed.{Lists}
use Rattle.go_package_scopes.specs.KeptScopes.{IsMoved}
use Rattle.go_package_scopes.specs.PackageScopes.{IsScopeOf, at_declaration}
use Rattle.go_rules.specs.Environments.{Env}
use Rattle.go_rules.specs.Names.{Named}
use Rattle.go_rules.specs.Scopes.{Scopes, env_of}
use Rattle.go_sifting.specs.Graphs.{IsGraphOf}
use Rattle.go_sifting.specs.declared.graph.DeclarationGraph.{DeclarationGraph}
use Rattle.go_typings.specs.Assignments.{At}
use Rattle.go_typings.specs.DeclarationNodes.{length_references, strong_references}
use Rattle.go_typings.specs.Declarations.{Declaration, Form, declarations}
use Rattle.go_typings.specs.PackageEnvironments.{Entries, environment}
use Rattle.go_typings.specs.References.{DependsOn, NamesDeclaration}
use Rattle.go_typings.specs.Sources.{PackageSource, Setting}
use Rattle.go_typings.proofs.Cells.{some_once}
use Rattle.go_declaration_graph.specs.declared.rows.DeclarationRows.{DeclarationRows}
use Rattle.go_declaration_graph.specs.inner.MethodNumbers.{Numbered, tables_of}
use Rattle.go_declaration_graph.specs.inner.NamedNumbers.{dependencies}
use Rattle.go_declaration_graph.specs.inner.Rows.{AreRowsIn, AreRowsOf, HasRows, LeadsIn, NamesIn, Tell, rows_at, with_rows}
use Rattle.go_declaration_graph.proofs.DeclarationSteps.{IsLed, exact, leads_of, of_leads, same_led, same_named, via}
use Rattle.go_declaration_graph.proofs.NamedNumbers.{dependencies_tell}

-- ---- the rows of a declaration

abbrev no_graph : DeclarationGraph
no_graph = record { depends = []; leads = []; after = []; lengths = [] }

module _ (names : Named NamePlace) (methods : Named (List MethodRow)) (tables : List Numbered) where
  -- rows that are told from the tables
  pub rows_in : (E : Env) (f : Form) (r : DeclarationRows) → r.depends ≡ dependencies names methods f → LeadsIn names tables E f r.leads → NamesIn names E f (strong_references f) r.after → NamesIn names E f (length_references f) r.lengths → AreRowsIn names methods tables E f r
  rows_in E f r depends leads after lengths u same t = record {
    depends = subst (Lists (DependsOn u f)) (sym depends) (dependencies_tell u names t.names methods t.methods f);
    leads = leads methods u same t;
    after = after u t.names;
    lengths = lengths u t.names;
  }

  -- ---- one declaration more

  row_kept : (rows : List (List ℕ)) (r : List ℕ) (n : ℕ) → n < length rows → row_of (rows ++ r ∷ []) n ≡ row_of rows n
  row_kept rows r n l = elim (get_pushed rows r [] n) [ inl p ↦ p.1 | inr p ↦ (let e = p.0 in absurd (omega (arith, e, l))) ]

  row_here : (rows : List (List ℕ)) (r : List ℕ) (n : ℕ) → n ≡ length rows → row_of (rows ++ r ∷ []) n ≡ r
  row_here rows r n e = elim (get_pushed rows r [] n) [ inl p ↦ absurd (p.0 e) | inr p ↦ p.1 ]

  longer : (rows : List (List ℕ)) (r : List ℕ) (n : ℕ) → length rows ≡ n → length (rows ++ r ∷ []) ≡ n + 1
  longer rows r n e = let a = length-append rows (r ∷ []) in omega (arith, a, e)

  pub no_rows : (c : Scopes) (ds : List Declaration) → HasRows names methods tables c ds 0 no_graph
  no_rows c ds = record { depends = refl; leads = refl; after = refl; lengths = refl; rows = λ n d l e. absurd (omega (arith, l)) }

  module _ (c : Scopes) (ds : List Declaration) (i : ℕ) (g : DeclarationGraph) (r : DeclarationRows) (has : HasRows names methods tables c ds i g) where
    kept_at : (n : ℕ) → n < i → rows_at g n ≡ rows_at (with_rows g r) n
    kept_at n l =
        let a = row_kept g.depends r.depends n (subst (λ (k : ℕ). n < k) (sym has.depends) l) in
        let b = row_kept g.leads r.leads n (subst (λ (k : ℕ). n < k) (sym has.leads) l) in
        let p = row_kept g.after r.after n (subst (λ (k : ℕ). n < k) (sym has.after) l) in
        let q = row_kept g.lengths r.lengths n (subst (λ (k : ℕ). n < k) (sym has.lengths) l) in
        sym (λ j. record { depends = a j; leads = b j; after = p j; lengths = q j })

    here_at : (n : ℕ) → n ≡ i → r ≡ rows_at (with_rows g r) n
    here_at n e =
        let a = row_here g.depends r.depends n (e ∙ sym has.depends) in
        let b = row_here g.leads r.leads n (e ∙ sym has.leads) in
        let p = row_here g.after r.after n (e ∙ sym has.after) in
        let q = row_here g.lengths r.lengths n (e ∙ sym has.lengths) in
        sym (λ j. record { depends = a j; leads = b j; after = p j; lengths = q j })

    last_or_before : (n : ℕ) → n < i + 1 → (n ≡ i) ⊎ (n < i)
    last_or_before n l = grind (arith, l)

    pub rows_next : (e : Scopes) (d : Declaration) (new : DeclarationGraph) → IsMoved c e → slice_get ds i ≡ Some d → new ≡ with_rows g r → AreRowsIn names methods tables (env_of (at_declaration e d)) d.form r
        → HasRows names methods tables c ds (i + 1) new
    rows_next e d new m at is here = subst (HasRows names methods tables c ds (i + 1)) (sym is) (record {
      depends = longer g.depends r.depends i has.depends;
      leads = longer g.leads r.leads i has.leads;
      after = longer g.after r.after i has.after;
      lengths = longer g.lengths r.lengths i has.lengths;
      rows = λ n w l f. elim (last_or_before n l) [
        | inl q ↦ subst (AreRowsIn names methods tables (env_of (at_declaration c w)) w.form) (here_at n q) (there n w q f)
        | inr k ↦ subst (AreRowsIn names methods tables (env_of (at_declaration c w)) w.form) (kept_at n k) (has.rows n w k f)
      ];
    })
      where
        there : (n : ℕ) (w : Declaration) → n ≡ i → slice_get ds n ≡ Some w → AreRowsIn names methods tables (env_of (at_declaration c w)) w.form r
        there n w q f =
            let same : d ≡ w = some_once d w (sym at ∙ ap (slice_get ds) (sym q) ∙ f) in
            subst (λ (z : Declaration). AreRowsIn names methods tables (env_of (at_declaration c z)) z.form r) same
            (subst (λ (z : Scopes). AreRowsIn names methods tables (env_of (at_declaration z d)) d.form r) m here)

pub moved_next : (c e new : Scopes) (d : Declaration) → IsMoved c e → new ≡ at_declaration e d → IsMoved c new
moved_next c e new d m at =
    let k : new ≡ at_declaration c d = at ∙ ap (λ (z : Scopes). at_declaration z d) m in
    k ∙ sym (ap (λ (z : Scopes). record c { file = z.file; iota = z.iota }) k)

-- ---- all declarations

module _ (s : Setting) (u : PackageSource) (a : Entries) (c : Scopes) (names : Named NamePlace) (methods : Named (List MethodRow)) (g : DeclarationGraph) where
  graph_of : u.path ≢ [] → IsScopeOf s u a c → AreDeclared (declarations u) names → AreMethods (declarations u) methods → HasRows names methods (tables_of (declarations u) methods) c (declarations u) (length (declarations u)) g → IsGraphOf s u a g
  graph_of pathed scope are have has = record {
    depends = record { size = has.depends; exact = exact (λ d n. DependsOn u d.form n) g.depends (declarations u) has.depends (λ m d e. (rows_there m d e).depends) };
    leads = record { size = has.leads; exact = λ m n. (let k = led m n in ((λ h. leads_of s u a m n (k.0 h)), (λ h. k.1 (of_leads s u a m n h)))) };
    after = record { size = has.after; exact = exact (λ d n. NamesDeclaration (environment s u a d) u d.form (strong_references d.form) n) g.after (declarations u) has.after (λ m d e. via (row_of g.after m) (rows_there m d e).after (same_named s u a c scope pathed d (strong_references d.form))) };
    lengths = record { size = has.lengths; exact = exact (λ d n. NamesDeclaration (environment s u a d) u d.form (length_references d.form) n) g.lengths (declarations u) has.lengths (λ m d e. via (row_of g.lengths m) (rows_there m d e).lengths (same_named s u a c scope pathed d (length_references d.form))) };
  }
    where
      told : Tell names methods (tables_of (declarations u) methods) u
      told = record { names = are; methods = have; tables = refl }

      rows_there : (m : ℕ) (d : Declaration) → slice_get (declarations u) m ≡ Some d → AreRowsOf (env_of (at_declaration c d)) u d.form (rows_at g m)
      rows_there m d e = has.rows m d (slice_get_within (declarations u) m d e) e u (sym scope.path) told

      led : (m n : ℕ) → Has (row_of g.leads m) n ↔ At (declarations u) m (λ d. IsLed s u a d n)
      led m n = exact (IsLed s u a) g.leads (declarations u) has.leads (λ k d e. via (row_of g.leads k) (rows_there k d e).leads (same_led s u a c scope pathed d)) m n

-- ---- borrowed declarations

pub item_at : (xs : List Borrowed) (i : ℕ) (x : Borrowed) → i < length xs → x ≡ get_or xs i x → slice_get (declarations_of xs) i ≡ Some (declaration_of x)
item_at [] i x l e = absurd (omega (arith, l))
item_at (y ∷ xs) zero x l e = ap (λ (z : Borrowed). Some (declaration_of z)) (sym e)
item_at (y ∷ xs) (suc i) x l e = item_at xs i x (omega (arith, l)) e

pub graph_from : (s : Setting) (u : PackageSource) (a : Entries) (c : Scopes) (names : Named NamePlace) (methods : Named (List MethodRow)) (g : DeclarationGraph) (tables : List Numbered) (xs : List Borrowed)
    → declarations u ≡ declarations_of xs → u.path ≢ [] → IsScopeOf s u a c → AreDeclared (declarations_of xs) names → AreMethods (declarations_of xs) methods → tables ≡ tables_of (declarations_of xs) methods
    → HasRows names methods tables c (declarations_of xs) (length xs) g → IsGraphOf s u a g
graph_from s u a c names methods g tables xs same pathed scope are have told has =
    let back = sym same in
    graph_of s u a c names methods g pathed scope (subst (λ (ds : List Declaration). AreDeclared ds names) back are) (subst (λ (ds : List Declaration). AreMethods ds methods) back have)
    (subst (λ (ds : List Declaration). HasRows names methods (tables_of ds methods) c ds (length ds) g) back
    (subst (λ (n : ℕ). HasRows names methods (tables_of (declarations_of xs) methods) c (declarations_of xs) n g) (sym (as_long xs))
    (subst (λ (ts : List Numbered). HasRows names methods ts c (declarations_of xs) (length xs) g) told has)))
