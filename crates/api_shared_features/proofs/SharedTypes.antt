-- The table of what two worlds share: each name in it has all its names there, and both worlds have the same for each.
use Rattle.std.proofs.Common.{◌≡◌, ◌≢◌, ℕ, Bool, true, false, ◌||◌, List, [], ◌∷◌, ◌++◌, Option, Some, None, refl, sym, ap, ◌∙◌, subst, inl, inr, ◌⊎◌, if◌then◌else◌}
use mathlib.Core.Bool.{true≢false}
use Rattle.std.specs.Prelude.{is_some}
use Rattle.go_base.specs.Gathered.{gather}
use Rattle.go_base.specs.Keys.{first_with}
use Rattle.go_base.specs.Lists.{Each, Has, Passes}
use Rattle.go_base.proofs.Members.{each_has}
use Rattle.go_model.specs.declared.types.names.TypeName.{TypeName}
use Rattle.go_model.specs.declared.types.package.ConstTerm.TheVariants as constant
use Rattle.go_model.specs.declared.types.package.Defined.{Defined}
use Rattle.go_model.specs.declared.types.package.Entity.{Entity}
use Rattle.go_model.specs.declared.types.package.Entity.TheVariants as entity
use Rattle.go_model.specs.declared.types.package.MethodOf.{MethodOf}
use Rattle.go_model.specs.declared.types.package.Package.{Package}
use Rattle.go_model.specs.declared.types.term.Signature.{Signature}
use Rattle.go_model.specs.declared.types.term.Term.{Term}
use Rattle.go_model.specs.types.Tables.{Table}
use Rattle.go_model.specs.types.Terms.{error_type, is_error}
use Rattle.go_model.specs.types.TypeNames.{names, signature_names}
use Rattle.go_model.specs.types.Underlying.{entry}
use Rattle.go_model.specs.worlds.PackageTypes.{defined_names, object_names, of_entity, package_names}
use Rattle.go_model.specs.worlds.Worlds.{EntityResolves, IsDefined, IsWorld, Packages, Resolves, SignatureResolves, defined_in, name_of, path_of, table_of}
use Rattle.go_model.proofs.WorldTypes.{told}
use Rattle.go_type_images.specs.Leaves.{Leaves, leaves}
use Rattle.go_type_images.specs.Parts.{function_type}
use Rattle.go_types.specs.Regions.{AgreeOn, EntryWithin, IsClosed, Within}
use Rattle.api_correspond.proofs.Lookups.{first_member}
use Rattle.api_kept_members.specs.inner.Entries.{had}
use Rattle.api_kept_members.proofs.Resolving.{EntriesResolve, leaves_resolve, names_of_function, resolved_function, resolved_leaves}
use Rattle.api_kept_members.proofs.ResolvingPairs.{entries_resolve}
use Rattle.api_shared_features.specs.SharedPackages.{AreShared, is_of}

-- ---- lists

passes_has : {A : Type 0} (p : A → Bool) (xs : List A) (x : A) → Passes p xs → Has xs x → p x ≡ true
passes_has p [] x h k = absurd k
passes_has p (y ∷ xs) x h (inl e) = ap p (sym e) ∙ h.0
passes_has p (y ∷ xs) x h (inr k) = passes_has p xs x h.1 k

pub passes_left : {A : Type 0} (p : A → Bool) (xs ys : List A) → Passes p (xs ++ ys) → Passes p xs
passes_left p [] ys h = tt
passes_left p (x ∷ xs) ys h = (h.0, passes_left p xs ys h.1)

passes_right : {A : Type 0} (p : A → Bool) (xs ys : List A) → Passes p (xs ++ ys) → Passes p ys
passes_right p [] ys h = h
passes_right p (x ∷ xs) ys h = passes_right p xs ys h.1

pub passes_at : {A B : Type 0} (p : B → Bool) (f : A → List B) (xs : List A) (x : A) → Passes p (gather f xs) → Has xs x → Passes p (f x)
passes_at p f [] x h k = absurd k
passes_at p f (y ∷ xs) x h (inl e) = subst (λ z. Passes p (f z)) e (passes_left p (f y) (gather f xs) h)
passes_at p f (y ∷ xs) x h (inr k) = passes_at p f xs x (passes_right p (f y) (gather f xs) h) k

either : (b : Bool) → (b ≡ true) ⊎ (b ≡ false)
either true = inl refl
either false = inr refl

second_of : (a b : Bool) → a ≡ false → (a || b) ≡ true → b ≡ true
second_of true b e f = absurd (true≢false e)
second_of false b e f = f

-- where all names pass one test, they pass a weaker one
weaker : (P Q : TypeName → Bool) → ((n : TypeName) → P n ≡ true → Q n ≡ true) → {t : Term} → Leaves P t → Leaves Q t
weaker P Q w (leaves f g) = leaves (λ n e. w n (f n e)) (λ u k. weaker P Q w (g u k))

-- ---- the table

abbrev no_packages : Packages
no_packages = record { packages = []; publics = [] }

nothing : IsWorld no_packages
nothing = record { ordered = tt; packaged = tt; owned = tt; public_order = tt; public_paths = tt }

module _ (shared : List ℕ → Bool) (w v : Packages) (both : AreShared shared w v) where
  abbrev pub own : Table
  own n = if shared n.path then table_of w.packages n else None

  abbrev pub Keeps : TypeName → Bool
  Keeps = had own

  -- what is of the shared packages has the same entry in their world
  entry_at : (n : TypeName) → is_of shared n ≡ true → entry own n ≡ entry (table_of w.packages) n
  entry_at n h = elim (either (is_error n)) [
    | inl e ↦ ap (λ b. if b then Some error_type else own n) e ∙ sym (ap (λ b. if b then Some error_type else table_of w.packages n) e)
    | inr e ↦ ap (λ o. if is_error n then Some error_type else o) (ap (λ b. if b then table_of w.packages n else None) (second_of (is_error n) (shared n.path) e h))
  ]

  -- what has an entry in the table is of the shared packages
  pub of_shared : (n : TypeName) → Keeps n ≡ true → is_of shared n ≡ true
  of_shared n h = elim (either (is_error n)) [
    | inl e ↦ ap (λ b. b || shared n.path) e
    | inr e ↦ elim (either (shared n.path)) [
      | inl k ↦ ap (λ b. b || shared n.path) e ∙ k
      | inr k ↦ absurd (true≢false (sym h ∙ ap (λ b. is_some (if b then Some error_type else own n)) e ∙ ap (λ b. is_some (if b then table_of w.packages n else None)) k))
    ]
  ]

  resolves : (t : Term) → Resolves (table_of w.packages) t → Passes (is_of shared) (names t) → Resolves own t
  resolves t r h n k e = r n k (sym (entry_at n (passes_has (is_of shared) (names t) n h k)) ∙ e)

  signature_resolves : (g : Signature) → SignatureResolves (table_of w.packages) g → Passes (is_of shared) (signature_names g) → SignatureResolves own g
  signature_resolves g r h n k e = r n k (sym (entry_at n (passes_has (is_of shared) (signature_names g) n h k)) ∙ e)

  -- ---- what the worlds have of the names in the table

  pub same_entry : (n : TypeName) → Keeps n ≡ true → entry (table_of w.packages) n ≡ entry own n
  same_entry n h = sym (entry_at n (of_shared n h))

  pub agree_own : AgreeOn Keeps (table_of w.packages) own
  agree_own n h = same_entry n h

  pub agree : AgreeOn Keeps (table_of w.packages) (table_of v.packages)
  agree n h = elim (either (is_error n)) [
    | inl e ↦ ap (λ b. if b then Some error_type else table_of w.packages n) e ∙ sym (ap (λ b. if b then Some error_type else table_of v.packages n) e)
    | inr e ↦ ap (λ o. if is_error n then Some error_type else defined_in o n.name) (both.same n.path (second_of (is_error n) (shared n.path) e (of_shared n h)))
  ]

  module _ (i : IsWorld w) where
    -- a defined type of a shared package
    record IsOwn (d : Defined) : Type 0 where
      kept : IsDefined (table_of w.packages) d
      named : Passes (is_of shared) (defined_names d)

    own_at : (n : TypeName) (d : Defined) (o : Option Package) → o ≡ first_with path_of w.packages n.path → shared n.path ≡ true → table_of w.packages n ≡ Some d → defined_in o n.name ≡ Some d → IsOwn d
    own_at n d None e s k h = let g : None ≡ Some d = h in absurd (cc)
    own_at n d (Some p) e s k h = record {
      kept = (told w i n d k).kept;
      named = passes_at (is_of shared) defined_names p.defined d (passes_right (is_of shared) (gather object_names p.objects) (gather defined_names p.defined) (both.closed n.path p s (sym e))) (first_member name_of p.defined n.name d (sym h));
    }

    -- an entry of the table is that of `error`, or of a shared package
    by_entry : (n : TypeName) (d : Defined) (a b : Bool) → is_error n ≡ a → shared n.path ≡ b → (if a then Some error_type else (if b then table_of w.packages n else None)) ≡ Some d → (error_type ≡ d) ⊎ IsOwn d
    by_entry n d true b e s h = inl (let g : Some error_type ≡ Some d = h in (cc))
    by_entry n d false true e s h = inr (own_at n d (first_with path_of w.packages n.path) refl s h h)
    by_entry n d false false e s h = let g : None ≡ Some d = h in absurd (cc)

    entry_of : (n : TypeName) (d : Defined) → entry own n ≡ Some d → (error_type ≡ d) ⊎ IsOwn d
    entry_of n d h = by_entry n d (is_error n) (shared n.path) refl refl h

    -- `error` is a name in each table
    error_kept : (n : TypeName) → had (table_of no_packages.packages) n ≡ true → Keeps n ≡ true
    error_kept n h = elim (either (is_error n)) [
      | inl e ↦ ap (λ b. is_some (if b then Some error_type else own n)) e
      | inr e ↦ absurd (true≢false (sym h ∙ ap (λ b. is_some (if b then Some error_type else table_of no_packages.packages n)) e))
    ]

    error_leaves : Leaves Keeps error_type.underlying
    error_leaves = weaker (had (table_of no_packages.packages)) Keeps error_kept ((entries_resolve no_packages nothing).beneath (record { path = []; name = error_type.name }) error_type refl)

    pub all_resolve : EntriesResolve own
    all_resolve = record {
      beneath = λ n d e. beneath d (entry_of n d e);
      methods = λ n d m e k. methods d m (entry_of n d e) k;
    }
      where
        beneath : (d : Defined) → (error_type ≡ d) ⊎ IsOwn d → Leaves Keeps d.underlying
        beneath d (inl e) = subst (λ (x : Defined). Leaves Keeps x.underlying) e error_leaves
        beneath d (inr o) = resolved_leaves own d.underlying (resolves d.underlying o.kept.resolved (passes_left (is_of shared) (names d.underlying) (gather (λ m. signature_names m.signature) d.methods) o.named))

        methods : (d : Defined) (m : MethodOf) → (error_type ≡ d) ⊎ IsOwn d → Has d.methods m → Leaves Keeps (function_type m.signature)
        methods d m (inl e) k = absurd (subst (λ (x : Defined). Has x.methods m) (sym e) k)
        methods d m (inr o) k = resolved_function own m.signature (signature_resolves m.signature (each_has (λ (x : MethodOf). SignatureResolves (table_of w.packages) x.signature) d.methods m o.kept.signatures k)
            (passes_at (is_of shared) (λ (x : MethodOf). signature_names x.signature) d.methods m (passes_right (is_of shared) (names d.underlying) (gather (λ m. signature_names m.signature) d.methods) o.named) k))

    -- ---- sets of names

    some_of : (o : Option Defined) → o ≢ None → is_some o ≡ true
    some_of None h = absurd (h refl)
    some_of (Some d) h = refl

    pub within : (t : Term) → Leaves Keeps t → Within Keeps t
    within t h n k = some_of (entry own n) (leaves_resolve own t h n k)

    pub closed : IsClosed Keeps (table_of w.packages)
    closed n d h e =
        let here : entry own n ≡ Some d = sym (same_entry n h) ∙ e in
        record {
          underneath = within d.underlying (all_resolve.beneath n d here);
          signatures = λ m k name j. within (function_type m.signature) (all_resolve.methods n d m here k) name (subst (λ (ns : List TypeName). Has ns name) (sym (names_of_function m.signature)) j);
        }

    -- ---- what a name denotes

    abbrev pub EntityKept : Entity → Type 0
    EntityKept (entity.Const (constant.OfTerm t) c) = Leaves Keeps t
    EntityKept (entity.Const (constant.OfKind k) c) = Unit {0}
    EntityKept (entity.Var t) = Leaves Keeps t
    EntityKept (entity.Function g) = Leaves Keeps (function_type g)
    EntityKept (entity.TypeOf t) = Leaves Keeps t

    pub entity_kept : (x : Entity) → EntityResolves (table_of w.packages) x → Passes (is_of shared) (of_entity names signature_names x) → EntityKept x
    entity_kept (entity.Const (constant.OfTerm t) c) r h = resolved_leaves own t (resolves t r h)
    entity_kept (entity.Const (constant.OfKind k) c) r h = tt
    entity_kept (entity.Var t) r h = resolved_leaves own t (resolves t r h)
    entity_kept (entity.Function g) r h = resolved_function own g (signature_resolves g r h)
    entity_kept (entity.TypeOf t) r h = resolved_leaves own t (resolves t r h)
