-- The rows of declarations, that is the numbers of those of their package to which they stand so, and graphs that grow by rows.
-- Own: graphs as lists.
use Rattle.std.specs.Prelude.{◌≡◌, ◌<◌, ◌⊎◌, ℕ, Bool, true, List, [], ◌∷◌, ◌++◌, Some, length, slice_get}
use Rattle.go_declared.specs.MethodTables.{AreMethods}
use Rattle.go_declared.specs.NameTables.{AreDeclared}
use Rattle.go_declared.specs.declared.methods.MethodRow.{MethodRow}
use Rattle.go_declared.specs.declared.names.NamePlace.{NamePlace}
use Rattle.go_graphs.specs.Flags.{is_flagged}
use Rattle.go_graphs.specs.Walks.{row_of}
use Rattle.go_leads.specs.Listed.{Lists}
use Rattle.go_package_scopes.specs.PackageScopes.{at_declaration}
use Rattle.go_references.specs.declared.references.Reference.{Reference}
use Rattle.go_rules.specs.Environments.{Env}
use Rattle.go_rules.specs.Names.{Named}
use Rattle.go_rules.specs.Scopes.{Scopes, env_of}
use Rattle.go_sifting.specs.declared.graph.DeclarationGraph.{DeclarationGraph}
use Rattle.go_typings.specs.DeclarationNodes.{length_references, references, strong_references}
use Rattle.go_typings.specs.Declarations.{Declaration, Form, declarations}
use Rattle.go_typings.specs.References.{DependsOn, FindsMethod, NamesDeclaration}
use Rattle.go_typings.specs.Sources.{PackageSource}
use Rattle.go_declaration_graph.specs.declared.references.Kind.{Kind}
use Rattle.go_declaration_graph.specs.declared.references.Kind.TheVariants as kind
use Rattle.go_declaration_graph.specs.declared.rows.DeclarationRows.{DeclarationRows}
use Rattle.go_declaration_graph.specs.inner.MethodNumbers.{Numbered, tables_of}

-- the rows of a declaration in its environment
pub record AreRowsOf (E : Env) (u : PackageSource) (f : Form) (r : DeclarationRows) : Type 0 where
  pub depends : Lists (DependsOn u f) r.depends
  pub leads : Lists (λ n. NamesDeclaration E u f (references f) n ⊎ FindsMethod E u f n) r.leads
  pub after : Lists (NamesDeclaration E u f (strong_references f)) r.after
  pub lengths : Lists (NamesDeclaration E u f (length_references f)) r.lengths

-- the references of a declaration of a kind
abbrev pub picked : Kind → Form → List Reference
picked kind.Strong f = strong_references f
picked kind.InLengths f = length_references f

-- the row has the declarations that these references of a declaration name, whatever the package that the names tell of
abbrev pub NamesIn : Named NamePlace → Env → Form → List Reference → List ℕ → Type 0
NamesIn names E f rs row = (u : PackageSource) → AreDeclared (declarations u) names → Lists (NamesDeclaration E u f rs) row

-- the rows of the declaration of a number
abbrev pub rows_at : DeclarationGraph → ℕ → DeclarationRows
rows_at g n = record {
  depends = row_of g.depends n;
  leads = row_of g.leads n;
  after = row_of g.after n;
  lengths = row_of g.lengths n;
}

-- the rows of one declaration more
abbrev pub with_rows : DeclarationGraph → DeclarationRows → DeclarationGraph
with_rows g r = record {
  depends = g.depends ++ r.depends ∷ [];
  leads = g.leads ++ r.leads ∷ [];
  after = g.after ++ r.after ∷ [];
  lengths = g.lengths ++ r.lengths ∷ [];
}

module _ (declared_at : Named NamePlace) (methods_of : Named (List MethodRow)) (numbered : List Numbered) where
  -- the tables tell what the package's declarations declare
  pub record Tell (u : PackageSource) : Type 0 where
    pub names : AreDeclared (declarations u) declared_at
    pub methods : AreMethods (declarations u) methods_of
    pub tables : numbered ≡ tables_of (declarations u) methods_of

  -- the rows are those of the declaration, whatever the package that the tables tell of
  abbrev pub AreRowsIn : Env → Form → DeclarationRows → Type 0
  AreRowsIn E f r = (u : PackageSource) → u.path ≡ E.path → Tell u → AreRowsOf E u f r

  -- the row has those to which a step leads from a declaration, whatever the package that the tables tell of
  abbrev pub LeadsTo : Env → Form → List ℕ → Type 0
  LeadsTo E f row = (u : PackageSource) → u.path ≡ E.path → Tell u → Lists (λ n. NamesDeclaration E u f (references f) n ⊎ FindsMethod E u f n) row

  -- the graph has the rows of so many declarations, each in its environment
  pub record HasRows (c : Scopes) (ds : List Declaration) (count : ℕ) (g : DeclarationGraph) : Type 0 where
    pub depends : length g.depends ≡ count
    pub leads : length g.leads ≡ count
    pub after : length g.after ≡ count
    pub lengths : length g.lengths ≡ count
    pub rows : (n : ℕ) (d : Declaration) → n < count → slice_get ds n ≡ Some d
        → AreRowsIn (env_of (at_declaration c d)) d.form (rows_at g n)

-- the same, whatever the methods that its types have
abbrev pub LeadsIn : Named NamePlace → List Numbered → Env → Form → List ℕ → Type 0
LeadsIn names tables E f row = (methods : Named (List MethodRow)) → LeadsTo names methods tables E f row

-- ---- rows of one kind

-- the rows are such of so many declarations, each in its environment
pub record HasRowsOf (Is : Env → Form → List ℕ → Type 0) (c : Scopes) (ds : List Declaration) (count : ℕ) (rows : List (List ℕ)) : Type 0 where
  pub size : length rows ≡ count
  pub each : (n : ℕ) (d : Declaration) → n < count → slice_get ds n ≡ Some d → Is (env_of (at_declaration c d)) d.form (row_of rows n)

-- there is a row for each declaration, and those that are flagged are such, each in its declaration's environment
pub record HasRowsAmong (Is : Env → Form → List ℕ → Type 0) (c : Scopes) (ds : List Declaration) (flags : List Bool) (rows : List (List ℕ)) : Type 0 where
  pub size : length rows ≡ length ds
  pub each : (n : ℕ) (d : Declaration) → is_flagged flags n ≡ true → slice_get ds n ≡ Some d → Is (env_of (at_declaration c d)) d.form (row_of rows n)
