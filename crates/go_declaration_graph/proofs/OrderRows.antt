-- Rows that were told one by one are those of a package's order.
use Rattle.std.proofs.Common.{◌≡◌, ◌≢◌, ◌↔◌, ℕ, ◌+◌, ◌<◌, Bool, true, false, List, [], ◌∷◌, ◌++◌, length, replicate, set, Some, refl, sym, ap, ◌∙◌, subst, inl, inr, arith, length-append, get_or-set_same, get_or-set_other}
use Rattle.std.specs.Prelude.{slice_get}
use Rattle.std.proofs.lemmas.List.{length-set}
use Rattle.std.proofs.lemmas.Option.{slice_get_within}
use Rattle.go_base.specs.Lists.{Has}
use Rattle.go_declarations.specs.Listings.{declarations_of}
use Rattle.go_declarations.specs.declared.listing.Declaration.{Declaration as Borrowed}
use Rattle.go_declared.proofs.Declared.{as_long}
use Rattle.go_declared.specs.MethodTables.{AreMethods}
use Rattle.go_declared.specs.NameTables.{AreDeclared}
use Rattle.go_declared.specs.declared.methods.MethodRow.{MethodRow}
use Rattle.go_declared.specs.declared.names.NamePlace.{NamePlace}
use Rattle.go_graphs.specs.Flags.{AreFlagsOf, is_flagged}
use Rattle.go_graphs.specs.Walks.{row_of}
use Rattle.go_graphs.proofs.Flagging.{same_or_not}
use Rattle.go_graphs.proofs.Pushed.{get_pushed}
use Rattle.go_graphs.proofs.TurnedRows.{empty_size}
use Rattle.go_package_scopes.specs.KeptScopes.{IsMoved}
use Rattle.go_package_scopes.specs.PackageScopes.{IsScopeOf, at_declaration}
use Rattle.go_rules.specs.Environments.{Env}
use Rattle.go_rules.specs.Names.{Named}
use Rattle.go_rules.specs.Scopes.{Scopes, env_of}
use Rattle.go_sifting.specs.Orders.{IsOrderOf}
use Rattle.go_sifting.specs.declared.order.DeclarationOrder.{DeclarationOrder}
use Rattle.go_typings.specs.Assignments.{At}
use Rattle.go_typings.specs.DeclarationNodes.{length_references, strong_references}
use Rattle.go_typings.specs.Declarations.{Declaration, Form, declarations}
use Rattle.go_typings.specs.PackageEnvironments.{Entries, environment}
use Rattle.go_typings.specs.References.{NamesDeclaration}
use Rattle.go_typings.specs.Sources.{PackageSource, Setting}
use Rattle.go_typings.proofs.Cells.{some_once}
use Rattle.go_declaration_graph.specs.declared.references.Kind.TheVariants as kind
use Rattle.go_declaration_graph.specs.inner.MethodNumbers.{tables_of}
use Rattle.go_declaration_graph.specs.inner.Orders.{IsKindRow}
use Rattle.go_declaration_graph.specs.inner.Rows.{HasRowsAmong, HasRowsOf, LeadsIn, Tell}
use Rattle.go_declaration_graph.proofs.DeclarationSteps.{IsLed, exact, exact_at, leads_of, of_leads, same_led, same_named, via}

-- ---- scopes that move

at_same : (c e : Scopes) (d : Declaration) → IsMoved c e → at_declaration e d ≡ at_declaration c d
at_same c e d m = ap (λ (z : Scopes). at_declaration z d) m

pub moved_on : (c e f : Scopes) → IsMoved c e → IsMoved e f → IsMoved c f
moved_on c e f m k = k ∙ ap (λ (z : Scopes). record z { file = f.file; iota = f.iota }) m

-- ---- rows of one kind

module _ (Is : Env → Form → List ℕ → Type 0) where
  pub rows_none : (c : Scopes) (ds : List Declaration) → HasRowsOf Is c ds 0 []
  rows_none c ds = record { size = refl; each = λ n d l e. absurd (omega (arith, l)) }

  pub rows_from : (c e : Scopes) (ds : List Declaration) (count : ℕ) (rows : List (List ℕ)) → IsMoved c e → HasRowsOf Is e ds count rows → HasRowsOf Is c ds count rows
  rows_from c e ds count rows m has = record { size = has.size; each = λ n d l f. subst (λ (z : Scopes). Is (env_of z) d.form (row_of rows n)) (at_same c e d m) (has.each n d l f) }

  -- the row of a declaration that was told in scopes which had moved
  told_at : (c e : Scopes) (ds : List Declaration) (i n : ℕ) (d w : Declaration) (r : List ℕ) → IsMoved c e → slice_get ds i ≡ Some d → Is (env_of (at_declaration e d)) d.form r → n ≡ i → slice_get ds n ≡ Some w → Is (env_of (at_declaration c w)) w.form r
  told_at c e ds i n d w r m at here q f =
      let same : d ≡ w = some_once d w (sym at ∙ ap (slice_get ds) (sym q) ∙ f) in
      subst (λ (z : Declaration). Is (env_of (at_declaration c z)) z.form r) same (subst (λ (z : Scopes). Is (env_of z) d.form r) (at_same c e d m) here)

  pub rows_more : (c : Scopes) (ds : List Declaration) (i : ℕ) (rows new : List (List ℕ)) (r : List ℕ) → HasRowsOf Is c ds i rows → (e : Scopes) (d : Declaration) → IsMoved c e → slice_get ds i ≡ Some d → new ≡ rows ++ r ∷ [] → Is (env_of (at_declaration e d)) d.form r
      → HasRowsOf Is c ds (i + 1) new
  rows_more c ds i rows new r has e d m at is here = subst (HasRowsOf Is c ds (i + 1)) (sym is) (record {
    size = (let q = has.size in let p = length-append rows (r ∷ []) in omega (arith, p, q));
    each = λ n w l f. elim (get_pushed rows r [] n) [
      | inl p ↦ subst (Is (env_of (at_declaration c w)) w.form) (sym p.1) (has.each n w (let q = has.size in let k : n ≢ length rows = p.0 in omega (arith, l, q, k)) f)
      | inr p ↦ subst (Is (env_of (at_declaration c w)) w.form) (sym p.1) (told_at c e ds i n d w r m at here (p.0 ∙ has.size) f)
    ];
  })

  -- ---- rows of those that are reached

  pub among_none : (c : Scopes) (ds : List Declaration) (count : ℕ) (flags : List Bool) (rows : List (List ℕ)) → rows ≡ replicate count [] → count ≡ length ds → AreFlagsOf count (Has {A = ℕ} []) flags → HasRowsAmong Is c ds flags rows
  among_none c ds count flags rows e l none = record { size = ap length e ∙ empty_size count ∙ l; each = λ n d f k. absurd (none.sound n f) }

  pub among_from : (c e : Scopes) (ds : List Declaration) (flags : List Bool) (rows : List (List ℕ)) → IsMoved c e → HasRowsAmong Is e ds flags rows → HasRowsAmong Is c ds flags rows
  among_from c e ds flags rows m has = record { size = has.size; each = λ n d l f. subst (λ (z : Scopes). Is (env_of z) d.form (row_of rows n)) (at_same c e d m) (has.each n d l f) }

  pub among_more : (c : Scopes) (ds : List Declaration) (flags flagged : List Bool) (rows new : List (List ℕ)) (i : ℕ) (r : List ℕ) → HasRowsAmong Is c ds flags rows → (e : Scopes) (d : Declaration) → IsMoved c e → slice_get ds i ≡ Some d
      → flagged ≡ set flags i true → new ≡ set rows i r → Is (env_of (at_declaration e d)) d.form r → HasRowsAmong Is c ds flagged new
  among_more c ds flags flagged rows new i r has e d m at f is here = subst (λ (q : List Bool × List (List ℕ)). HasRowsAmong Is c ds q.0 q.1) (λ j. (sym f j, sym is j)) (record {
    size = length-set rows i r ∙ has.size;
    each = λ n w g k. elim (same_or_not n i) [
      | inl q ↦ subst (Is (env_of (at_declaration c w)) w.form) (sym (ap (row_of (set rows i r)) q ∙ get_or-set_same rows i r [] inside)) (told_at c e ds i n d w r m at here q k)
      | inr q ↦ subst (Is (env_of (at_declaration c w)) w.form) (sym (get_or-set_other rows i n r [] q)) (has.each n w (sym (get_or-set_other flags i n true false q) ∙ g) k)
    ];
  })
    where
      inside : i < length rows
      inside = let l = slice_get_within ds i d at in let q = has.size in omega (arith, l, q)

-- ---- the order

module _ (s : Setting) (u : PackageSource) (a : Entries) (c : Scopes) (names : Named NamePlace) (methods : Named (List MethodRow)) (o : DeclarationOrder) where
  order_of : u.path ≢ [] → IsScopeOf s u a c → AreDeclared (declarations u) names → AreMethods (declarations u) methods
      → HasRowsOf (IsKindRow names kind.Strong) c (declarations u) (length (declarations u)) o.after → HasRowsOf (IsKindRow names kind.InLengths) c (declarations u) (length (declarations u)) o.lengths
      → HasRowsAmong (LeadsIn names (tables_of (declarations u) methods)) c (declarations u) o.reached.items o.leads.items → IsOrderOf s u a o
  order_of pathed scope are have after lengths leads = record {
    after = record {
      size = after.size;
      exact = exact (λ d n. NamesDeclaration (environment s u a d) u d.form (strong_references d.form) n) o.after (declarations u) after.size
          (λ m d e. via (row_of o.after m) (after.each m d (slice_get_within (declarations u) m d e) e u are) (same_named s u a c scope pathed d (strong_references d.form)));
    };
    lengths = record {
      size = lengths.size;
      exact = exact (λ d n. NamesDeclaration (environment s u a d) u d.form (length_references d.form) n) o.lengths (declarations u) lengths.size
          (λ m d e. via (row_of o.lengths m) (lengths.each m d (slice_get_within (declarations u) m d e) e u are) (same_named s u a c scope pathed d (length_references d.form)));
    };
    leads = record { size = leads.size; exact = λ m n f. (let k = led m n f in ((λ h. leads_of s u a m n (k.0 h)), (λ h. k.1 (of_leads s u a m n h)))) };
  }
    where
      told : Tell names methods (tables_of (declarations u) methods) u
      told = record { names = are; methods = have; tables = refl }

      led : (m n : ℕ) → is_flagged o.reached.items m ≡ true → Has (row_of o.leads.items m) n ↔ At (declarations u) m (λ d. IsLed s u a d n)
      led m n f = exact_at (IsLed s u a) o.leads.items (declarations u) leads.size m (λ d e. via (row_of o.leads.items m) (leads.each m d f e methods u (sym scope.path) told) (same_led s u a c scope pathed d)) n

-- the same of borrowed declarations
pub order_from : (s : Setting) (u : PackageSource) (a : Entries) (c : Scopes) (names : Named NamePlace) (methods : Named (List MethodRow)) (o : DeclarationOrder) (xs : List Borrowed)
    → declarations u ≡ declarations_of xs → u.path ≢ [] → IsScopeOf s u a c → AreDeclared (declarations_of xs) names → AreMethods (declarations_of xs) methods
    → HasRowsOf (IsKindRow names kind.Strong) c (declarations_of xs) (length xs) o.after → HasRowsOf (IsKindRow names kind.InLengths) c (declarations_of xs) (length xs) o.lengths
    → HasRowsAmong (LeadsIn names (tables_of (declarations_of xs) methods)) c (declarations_of xs) o.reached.items o.leads.items → IsOrderOf s u a o
order_from s u a c names methods o xs same pathed scope are have after lengths leads =
    let back = sym same in
    order_of s u a c names methods o pathed scope (subst (λ (ds : List Declaration). AreDeclared ds names) back are) (subst (λ (ds : List Declaration). AreMethods ds methods) back have)
    (subst (λ (ds : List Declaration). HasRowsOf (IsKindRow names kind.Strong) c ds (length ds) o.after) back
    (subst (λ (n : ℕ). HasRowsOf (IsKindRow names kind.Strong) c (declarations_of xs) n o.after) (sym (as_long xs)) after))
    (subst (λ (ds : List Declaration). HasRowsOf (IsKindRow names kind.InLengths) c ds (length ds) o.lengths) back
    (subst (λ (n : ℕ). HasRowsOf (IsKindRow names kind.InLengths) c (declarations_of xs) n o.lengths) (sym (as_long xs)) lengths))
    (subst (λ (ds : List Declaration). HasRowsAmong (LeadsIn names (tables_of ds methods)) c ds o.reached.items o.leads.items) back leads)
