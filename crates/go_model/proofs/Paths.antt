-- A path that no package of a world has stands in none of its types.
use Rattle.std.proofs.Common.{◌≡◌, ◌≢◌, ℕ, Bool, true, false, ◌&&◌, ◌⊎◌, inl, inr, List, [], ◌∷◌, map, refl, sym, ap, ◌∙◌, subst, Some, None, if◌then◌else◌, codes}
use mathlib.Core.Bool.{true≢false}
use Rattle.std.specs.Str.{bytes_eq}
use Rattle.std.proofs.lemmas.Slice.Eq.{bytes_eq-Decides}
use Rattle.go_base.specs.Lists.{Has, Each}
use Rattle.go_base.specs.Gathered.{gather}
use Rattle.go_base.specs.Keys.{first_with}
use Rattle.go_model.specs.types.Terms.{is_error, error_type, client_path}
use Rattle.go_model.specs.types.Underlying.{entry}
use Rattle.go_model.specs.types.TypeNames.{names, signature_names}
use Rattle.go_model.specs.worlds.PackageTypes.{of_entity, object_names, defined_names, package_names, package_selectors}
use Rattle.go_model.specs.worlds.Worlds.{Packages, IsWorld, IsPackage, IsDefined, IsOwned, EntityResolves, SignatureResolves, path_of, table_of, defined_in}
use Rattle.go_model.specs.declared.types.names.Sel.{Sel}
use Rattle.go_model.specs.declared.types.names.TypeName.{TypeName}
use Rattle.go_model.specs.declared.types.package.Package.{Package}
use Rattle.go_model.specs.declared.types.package.Object.{Object}
use Rattle.go_model.specs.declared.types.package.Defined.{Defined}
use Rattle.go_model.specs.declared.types.package.MethodOf.{MethodOf}
use Rattle.go_model.specs.declared.types.package.Entity.{Entity}
use Rattle.go_model.specs.declared.types.package.Entity.TheVariants as entity
use Rattle.go_model.specs.declared.types.package.ConstTerm.TheVariants as constant
use Rattle.go_base.proofs.Members.{each_has, has_split, gather_of}

and_first : (a b : Bool) → (a && b) ≡ true → a ≡ true
and_first true b e = refl
and_first false b e = absurd (true≢false (sym e))

-- what is found stands there
first_path : (ps : List Package) (k : List ℕ) → first_with path_of ps k ≢ None → Has (map path_of ps) k
first_path [] k n = absurd (n refl)
first_path (p ∷ ps) k n = by (first_path ps k) (bytes_eq p.path k) refl
  where
    by : (first_with path_of ps k ≢ None → Has (map path_of ps) k) → (b : Bool) → bytes_eq p.path k ≡ b → Has (map path_of (p ∷ ps)) k
    by f true e = inl ((bytes_eq-Decides p.path k).0 e)
    by f false e = inr (f (λ i. n (ap (λ b. if b then Some p else first_with path_of ps k) e ∙ i)))

module _ (ps : List Package) where
  pub defined_path : (n : TypeName) → table_of ps n ≢ None → Has (map path_of ps) n.path
  defined_path n h = first_path ps n.path (λ e. h (ap (λ o. defined_in o n.name) e))

  entry_path : (n : TypeName) → entry (table_of ps) n ≢ None → (n.path ≡ []) ⊎ Has (map path_of ps) n.path
  entry_path n h = by (is_error n) refl
    where
      by : (b : Bool) → is_error n ≡ b → (n.path ≡ []) ⊎ Has (map path_of ps) n.path
      by true e = inl ((bytes_eq-Decides n.path []).0 (and_first (bytes_eq n.path []) (bytes_eq n.name (codes "error")) e))
      by false e = inr (defined_path n (λ i. h (ap (λ b. if b then Some error_type else table_of ps n) e ∙ i)))

  entity_name : (e : Entity) (n : TypeName) → EntityResolves (table_of ps) e → Has (of_entity names signature_names e) n → entry (table_of ps) n ≢ None
  entity_name (entity.Const (constant.OfTerm t) v) n r h = r n h
  entity_name (entity.Const (constant.OfKind k) v) n r h = absurd h
  entity_name (entity.Var t) n r h = r n h
  entity_name (entity.Function g) n r h = r n h
  entity_name (entity.TypeOf t) n r h = r n h

  defined_name : (d : Defined) (n : TypeName) → IsDefined (table_of ps) d → Has (defined_names d) n → entry (table_of ps) n ≢ None
  defined_name d n i h = elim (has_split (names d.underlying) (gather (λ m. signature_names m.signature) d.methods) n h) [
    | inl a ↦ i.resolved n a
    | inr b ↦ (let k = gather_of (λ (m : MethodOf). signature_names m.signature) d.methods n b in each_has (λ (m : MethodOf). SignatureResolves (table_of ps) m.signature) d.methods k.0 i.signatures k.1 n k.2)
  ]

  package_name : (p : Package) (n : TypeName) → IsPackage (table_of ps) p → Has (package_names p) n → entry (table_of ps) n ≢ None
  package_name p n i h = elim (has_split (gather object_names p.objects) (gather defined_names p.defined) n h) [
    | inl a ↦ (let k = gather_of object_names p.objects n a in entity_name k.0.entity n (each_has (λ (o : Object). EntityResolves (table_of ps) o.entity) p.objects k.0 i.entities k.1) k.2)
    | inr b ↦ (let k = gather_of defined_names p.defined n b in defined_name k.0 n (each_has (IsDefined (table_of ps)) p.defined k.0 i.types k.1) k.2)
  ]

pub absent_name : (w : Packages) (path : List ℕ) → IsWorld w → path ≢ [] → (Has (map path_of w.packages) path → ⊥) → (n : TypeName) → Has (gather package_names w.packages) n → n.path ≢ path
absent_name w path i some none n h e =
    let k = gather_of package_names w.packages n h in
    elim (entry_path w.packages n (package_name w.packages k.0 n (each_has (IsPackage (table_of w.packages)) w.packages k.0 i.packaged k.1) k.2)) [
      | inl a ↦ some (sym e ∙ a)
      | inr b ↦ none (subst (Has (map path_of w.packages)) e b)
    ]

pub absent_selector : (w : Packages) (path : List ℕ) → IsWorld w → path ≢ [] → (Has (map path_of w.packages) path → ⊥) → (s : Sel) → Has (gather package_selectors w.packages) s → s.«package» ≢ path
absent_selector w path i some none s h e = elim (each_has (IsOwned (map path_of w.packages)) (gather package_selectors w.packages) s i.owned h) [
  | inl a ↦ some (sym e ∙ a)
  | inr b ↦ none (subst (Has (map path_of w.packages)) e b)
]

-- no package of a world is a client's
pub no_client : (w : Packages) → IsWorld w → Has (map path_of w.packages) client_path → ⊥
no_client w i h = by w.packages i.packaged h
  where
    by : (ps : List Package) → Each (IsPackage (table_of w.packages)) ps → Has (map path_of ps) client_path → ⊥
    by [] e k = absurd k
    by (p ∷ ps) e (inl s) = e.0.foreign s
    by (p ∷ ps) e (inr k) = by ps e.1 k

pub client_some : client_path ≢ []
client_some e = cc
