-- In the world of packages that are typed one after another the standard library leads to itself alone, and has its methods only with its types.
use Rattle.std.proofs.Common.{◌≡◌, ◌⊎◌, inl, inr, ℕ, Bool, true, false, ◌||◌, List, [], ◌∷◌, Option, Some, None, map, refl, sym, ap, ◌∙◌, subst, if◌then◌else◌}
use Rattle.std.specs.Str.{bytes_eq}
use Rattle.std.proofs.lemmas.Slice.Eq.{bytes_eq-Decides}
use Rattle.go_base.specs.Gathered.{gather}
use Rattle.go_base.specs.Keys.{first_with}
use Rattle.go_base.specs.Lists.{Each, Has, Passes}
use Rattle.go_base.proofs.Members.{each_has}
use Rattle.go_model.specs.declared.types.names.Sel.{Sel}
use Rattle.go_model.specs.declared.types.names.TypeName.{TypeName}
use Rattle.go_model.specs.declared.types.package.ConstTerm.TheVariants as constant
use Rattle.go_model.specs.declared.types.package.Defined.{Defined}
use Rattle.go_model.specs.declared.types.package.Entity.{Entity}
use Rattle.go_model.specs.declared.types.package.Entity.TheVariants as entity
use Rattle.go_model.specs.declared.types.package.MethodOf.{MethodOf}
use Rattle.go_model.specs.declared.types.package.Object.{Object}
use Rattle.go_model.specs.declared.types.package.Package.{Package}
use Rattle.go_model.specs.declared.types.term.Method.{Method, out-Method}
use Rattle.go_model.specs.declared.types.term.Signature.{Signature}
use Rattle.go_model.specs.declared.types.term.Term.{Term, Term-F, out-Term}
use Rattle.go_model.specs.types.MethodSets.{method_sel}
use Rattle.go_model.specs.types.Terms.{Layer, error_method, error_type, is_error}
use Rattle.go_model.specs.types.TypeNames.{names, signature_names}
use Rattle.go_model.specs.types.TypeSelectors.{selectors, signature_selectors}
use Rattle.go_model.specs.types.Underlying.{entry, methods_of}
use Rattle.go_model.specs.worlds.PackageTypes.{declared_selectors, defined_names, defined_selectors, object_names, object_selectors, of_entity, package_names, package_selectors}
use Rattle.go_model.specs.worlds.Worlds.{Packages, object_in, object_name, path_of, with_package}
use Rattle.go_rules.proofs.LocalTerms.{each_passes, passes_both}
use Rattle.go_rules.proofs.LocalTypes.{each_made}
use Rattle.go_rules.proofs.OneKind.{no_truth}
use Rattle.go_rules.specs.Environments.{is_exported}
use Rattle.go_type_images.specs.Parts.{function_type, method_type, parts}
use Rattle.go_shared_types.proofs.PartNames.{error_sel, names_of_function, selectors_of_function}
use Rattle.go_typings.proofs.Cells.{either, if_false, if_true, none_some, some_once}
use Rattle.go_typings.proofs.HeldImports.{path_found, path_missing}
use Rattle.go_typings.proofs.ReachedRegion.{first_has}
use Rattle.go_typings.specs.PackageEnvironments.{had_path}
use Rattle.go_typings.specs.PackageWorlds.{AreTyped, Outcome, blocked, is_public, is_typed, no_packages, over, refused, typed}
use Rattle.go_typings.specs.Receivers.{selector}
use Rattle.go_typings.specs.Sources.{Import, PackageSource, imports_of}
use Rattle.go_exposed.specs.OfferedPackages.{IsOfferedAs}
use Rattle.go_exposed.specs.OfferedWorlds.{Become, IsWorldOf, become_more, become_none}
use Rattle.go_unit_worlds.proofs.go_std_worlds_proofs.SameStdWorlds.{own_of}
use Rattle.go_unit_worlds.proofs.go_taken_packages_proofs.KeptPaths.{key_finds, mapped, other_kept, own_found, rest_kept, same_or_other}
use Rattle.go_unit_worlds.proofs.go_taken_packages_proofs.OverAll.{nothing_at_empty}
use Rattle.go_unit_worlds.proofs.go_taken_packages_proofs.SameReach.{or_left, or_right}
use Rattle.go_unit_worlds.proofs.go_taken_packages_proofs.SharedPackages.{at_path, written}
use Rattle.go_unit_worlds.proofs.go_taken_packages_proofs.WorldsInOrder.{in_order}
use Rattle.go_unit_worlds.specs.go_std_worlds.StdSources.{HaveOwnPaths, HavePaths, KeepStdApart, source_path}
use Rattle.api_correspond.specs.Publics.{of_std, package_at, types_of}
use Rattle.api_correspond.specs.Rules.{is_std_sel}
use Rattle.api_kept_relations.specs.StdTypes.{EntityHasStdMethods, HasStdMethods, IsOfStd, StdMethodsStay, StdStandsAlone, is_open_sel, is_std_name, std_methods}
use Rattle.api_std_types.proofs.MadeTypes.{DefinedMade, IsLevel, Made, made}
use Rattle.api_std_types.proofs.MadeOperands.{EntityMade}
use Rattle.api_std_types.proofs.MadePackages.{PackageMade, SourceMade, error_kept, found_defined, package_made}
use Rattle.api_std_types.proofs.StandingNames.{all_names, all_selectors}

-- ---- what is of the standard library in a world

module _ (w : Packages) where
  abbrev Named : TypeName → Type 0
  Named n = is_std_name w n ≡ true

  abbrev Open : Sel → Type 0
  Open s = is_open_sel w s ≡ true

  abbrev Declared : Sel → Signature → Type 0
  Declared s g = Open s

  abbrev Imported : List ℕ → Type 0
  Imported path = (of_std (package_at w path) ≡ true) ⊎ (path ≡ [])

  abbrev AnyName : TypeName → Type 0
  AnyName n = Unit {0}

  abbrev AnyLabel : Sel → Type 0
  AnyLabel s = Unit {0}

  -- a method by an unexported selector of the standard library has a type of it
  abbrev Stays : Sel → Signature → Type 0
  Stays s g = is_std_sel w s ≡ true → IsOfStd w (function_type g)

  abbrev AnyPath : List ℕ → Type 0
  AnyPath path = Unit {0}

  abbrev OfStd : Term → Type 0
  OfStd = Made Named Open Declared

  abbrev Staying : Term → Type 0
  Staying = Made AnyName AnyLabel Stays

  abbrev pub StdPackage : Package → Type 0
  StdPackage = PackageMade Named Open Declared Imported

  abbrev pub StayingPackage : Package → Type 0
  StayingPackage = PackageMade AnyName AnyLabel Stays AnyPath

  of_std_type : (t : Term) → OfStd t → IsOfStd w t
  of_std_type t h = (all_names Named Open Declared (is_std_name w) (λ n e. e) t h, all_selectors Named Open Declared (is_open_sel w) (λ s e. e) (λ s g e. e) t h)

  -- ---- what is of the standard library has its methods

  staying_methods : (ms : List Method) → ((u : Term) → Has (map method_type ms) u → OfStd u) → Each (λ m. Stays (method_sel m) (out-Method m).signature) ms
  staying_methods [] h = tt
  staying_methods (m ∷ ms) h = (λ e. of_std_type (method_type m) (h (method_type m) (inl refl)), staying_methods ms (λ u k. h u (inr k)))

  staying_level : (l : Layer) → ((u : Term) → Has (parts l) u → OfStd u) → IsLevel AnyName AnyLabel Stays l
  staying_level (Term-F.Interface ms) h = staying_methods ms h
  staying_level (Term-F.Struct fs) h = each_made fs (λ f k. tt)
  staying_level l h = tt

  staying : (t : Term) → OfStd t → Staying t
  staying t (made i h) = made (staying_level (out-Term t) h) (λ u k. staying u (h u k))

  staying_entity : (x : Entity) → EntityMade Named Open Declared Imported x → EntityMade AnyName AnyLabel Stays AnyPath x
  staying_entity (entity.Const (constant.OfTerm t) v) h = staying t h
  staying_entity (entity.Const (constant.OfKind k) v) h = tt
  staying_entity (entity.Var t) h = staying t h
  staying_entity (entity.Function g) h = staying (function_type g) h
  staying_entity (entity.TypeOf t) h = staying t h

  pub staying_package : (p : Package) → StdPackage p → StayingPackage p
  staying_package p h = record {
    entities = λ o k. staying_entity o.entity (h.entities o k);
    types = λ d k. (let x = h.types d k in record {
      beneath = staying d.underlying x.beneath;
      methods = λ m i. (let y = x.methods m i in (staying (function_type m.signature) y.0, λ e. of_std_type (function_type m.signature) y.0));
    });
  }

  -- ---- the definitions of both premises

  has_methods : (ms : List Method) (m : Method) → Each (λ x. Stays (method_sel x) (out-Method x).signature) ms → Has ms m → is_std_sel w (method_sel m) ≡ true → IsOfStd w (method_type m)
  has_methods ms m h k = each_has (λ (x : Method). Stays (method_sel x) (out-Method x).signature) ms m h k

  level_methods : (l : Layer) (m : Method) → IsLevel AnyName AnyLabel Stays l → Has (methods_of l) m → is_std_sel w (method_sel m) ≡ true → IsOfStd w (method_type m)
  level_methods (Term-F.Interface ms) m h k = has_methods ms m h k
  level_methods l m h k = absurd k

  pub with_methods : (t : Term) → Staying t → HasStdMethods w t
  with_methods t (made i h) = std_methods (λ m k. level_methods (out-Term t) m i k) (λ u k. with_methods u (h u k))

  pub entity_methods : (x : Entity) → EntityMade AnyName AnyLabel Stays AnyPath x → EntityHasStdMethods w x
  entity_methods (entity.Const (constant.OfTerm t) v) h = with_methods t h
  entity_methods (entity.Const (constant.OfKind k) v) h = tt
  entity_methods (entity.Var t) h = with_methods t h
  entity_methods (entity.Function g) h = with_methods (function_type g) h
  entity_methods (entity.TypeOf t) h = with_methods t h

  signature_passes : (g : Signature) → OfStd (function_type g) → Passes (is_std_name w) (signature_names g) × Passes (is_open_sel w) (signature_selectors g)
  signature_passes g h =
      let x = of_std_type (function_type g) h in
      (subst (λ xs. Passes (is_std_name w) xs) (names_of_function g) x.0, subst (λ xs. Passes (is_open_sel w) xs) (selectors_of_function g) x.1)

  entity_names : (x : Entity) → EntityMade Named Open Declared Imported x → Passes (is_std_name w) (of_entity names signature_names x)
  entity_names (entity.Const (constant.OfTerm t) v) h = (of_std_type t h).0
  entity_names (entity.Const (constant.OfKind k) v) h = tt
  entity_names (entity.Var t) h = (of_std_type t h).0
  entity_names (entity.Function g) h = (signature_passes g h).0
  entity_names (entity.TypeOf t) h = (of_std_type t h).0

  entity_selectors : (x : Entity) → EntityMade Named Open Declared Imported x → Passes (is_open_sel w) (of_entity selectors signature_selectors x)
  entity_selectors (entity.Const (constant.OfTerm t) v) h = (of_std_type t h).1
  entity_selectors (entity.Const (constant.OfKind k) v) h = tt
  entity_selectors (entity.Var t) h = (of_std_type t h).1
  entity_selectors (entity.Function g) h = (signature_passes g h).1
  entity_selectors (entity.TypeOf t) h = (of_std_type t h).1

  type_names : (d : Defined) → DefinedMade Named Open Declared d → Passes (is_std_name w) (defined_names d)
  type_names d h = passes_both (is_std_name w) (names d.underlying) (gather (λ (m : MethodOf). signature_names m.signature) d.methods) (of_std_type d.underlying h.beneath).0
      (each_passes (is_std_name w) (λ (m : MethodOf). signature_names m.signature) d.methods (each_made d.methods (λ m k. (signature_passes m.signature (h.methods m k).0).0)))

  type_selectors : (d : Defined) → DefinedMade Named Open Declared d → Passes (is_open_sel w) (defined_selectors d)
  type_selectors d h = passes_both (is_open_sel w) (selectors d.underlying) (gather declared_selectors d.methods) (of_std_type d.underlying h.beneath).1
      (each_passes (is_open_sel w) declared_selectors d.methods (each_made d.methods (λ m k. (let x = h.methods m k in (x.1, (signature_passes m.signature x.0).1)))))

  pub names_pass : (p : Package) → StdPackage p → Passes (is_std_name w) (package_names p)
  names_pass p h = passes_both (is_std_name w) (gather object_names p.objects) (gather defined_names p.defined)
      (each_passes (is_std_name w) object_names p.objects (each_made p.objects (λ o k. entity_names o.entity (h.entities o k))))
      (each_passes (is_std_name w) defined_names p.defined (each_made p.defined (λ d k. type_names d (h.types d k))))

  pub selectors_pass : (p : Package) → StdPackage p → Passes (is_open_sel w) (package_selectors p)
  selectors_pass p h = passes_both (is_open_sel w) (gather object_selectors p.objects) (gather defined_selectors p.defined)
      (each_passes (is_open_sel w) object_selectors p.objects (each_made p.objects (λ o k. entity_selectors o.entity (h.entities o k))))
      (each_passes (is_open_sel w) defined_selectors p.defined (each_made p.defined (λ d k. type_selectors d (h.types d k))))

  -- ---- selectors

  pub exported_open : (s : Sel) → s.«package» ≡ [] → Open s
  exported_open s e = or_left (bytes_eq s.«package» []) (of_std (package_at w s.«package»)) ((bytes_eq-Decides s.«package» []).1 e)

  pub own_open : (path name : List ℕ) → of_std (package_at w path) ≡ true → Open (selector path name)
  own_open path name s = by (is_exported name) refl
    where
      by : (b : Bool) → is_exported name ≡ b → Open (selector path name)
      by true e = exported_open (selector path name) (ap (λ b. if b then [] else path) e)
      by false e = or_right (bytes_eq (selector path name).«package» []) (of_std (package_at w (selector path name).«package»)) (ap (λ b. of_std (package_at w (if b then [] else path))) e ∙ s)

  module _ (empty : package_at w [] ≡ None) where
    pub exported_stays : (s : Sel) (g : Signature) → s.«package» ≡ [] → Stays s g
    exported_stays s g e f = absurd (no_truth (sym f ∙ ap (λ path. of_std (package_at w path)) e ∙ ap of_std empty))

    pub own_stays : (path name : List ℕ) (g : Signature) → of_std (package_at w path) ≡ false → Stays (selector path name) g
    own_stays path name g n = by (is_exported name) refl
      where
        by : (b : Bool) → is_exported name ≡ b → Stays (selector path name) g
        by true e = exported_stays (selector path name) g (ap (λ b. if b then [] else path) e)
        by false e = λ f. absurd (no_truth (sym f ∙ ap (λ b. of_std (package_at w (if b then [] else path))) e ∙ n))

-- ---- packages in turn

module _ (bits : ℕ) (us : List PackageSource) (apart : KeepStdApart us) (paths : HavePaths us) (w : Packages) (world : IsWorldOf bits us w) where
  empty : package_at w [] ≡ None
  empty = let a = in_order bits us w world in nothing_at_empty bits us a.0 w (own_of us apart paths) a.1

  -- what stands in the first packages stands in the last
  abbrev Within : Packages → Type 0
  Within x = (path : List ℕ) (q : Package) → first_with path_of x.packages path ≡ Some q → first_with path_of w.packages path ≡ Some q

  -- ---- one package

  module _ (x : Packages) (u : PackageSource) (p : Package) (among : Has us u) (t : AreTyped x u) (y : IsOfferedAs (over bits x) u p) (whole : Within x) (place : first_with path_of w.packages u.path ≡ Some p) where
    std_at : (path : List ℕ) (q : Package) → first_with path_of x.packages path ≡ Some q → of_std (package_at w path) ≡ true → q.from_std ≡ true
    std_at path q e s = sym (ap of_std (whole path q e)) ∙ s

    here : of_std (package_at w u.path) ≡ p.from_std
    here = ap of_std place

    -- a package of the standard library imports such packages
    import_path : u.from_std ≡ true → (file : ℕ) (i : Import) → Has (imports_of u file) i → Imported w (had_path i)
    import_path s file i h = elim (either i.is_found) [
      | inl e ↦ (
          let q = key_finds path_of x.packages i.path (t file i h e) in
          let v = written bits us w (own_of us apart paths) world i.path q.0 (whole i.path q.0 q.1) in
          let std = apart.std_imports u v.0 file i among v.1 s h e v.2 in
          inl (ap (λ path. of_std (package_at w path)) (path_found i e) ∙ ap of_std (whole i.path q.0 q.1) ∙ (v.3).1.«package».from_std ∙ std)
          )
      | inr e ↦ inr (path_missing i e)
    ]

    std_source : p.from_std ≡ true → ((path : List ℕ) (q : Package) → first_with path_of x.packages path ≡ Some q → q.from_std ≡ true → StdPackage w q) → SourceMade (Named w) (Open w) (Declared w) (Imported w) (over bits x) u
    std_source s before = record {
      own_field = λ name. own_open w u.path name (here ∙ s);
      own_method = λ name g h. own_open w u.path name (here ∙ s);
      error = refl;
      error_made = exported_open w (method_sel error_method) error_sel;
      paths = import_path (sym y.«package».from_std ∙ s);
      imports = λ path q i e. elim i [
        | inl z ↦ before path q e (std_at path q e z)
        | inr z ↦ none_some (package_at w []) q empty (ap (package_at w) (sym z) ∙ whole path q e)
      ];
      others = λ n q z f g e. before n.path q e (std_at n.path q e (sym (ap (λ b. b || of_std (package_at w n.path)) f) ∙ z));
      types = λ name d c e f. or_right (is_error (record { path = u.path; name = c.name.text })) (of_std (package_at w u.path)) (here ∙ s);
    }

    own_source : p.from_std ≡ false → ((path : List ℕ) (q : Package) → first_with path_of x.packages path ≡ Some q → StayingPackage w q) → SourceMade (AnyName w) (AnyLabel w) (Stays w) (AnyPath w) (over bits x) u
    own_source s before = record {
      own_field = λ name. tt;
      own_method = λ name g h. own_stays w empty u.path name g (here ∙ s);
      error = tt;
      error_made = exported_stays w empty (method_sel error_method) (out-Method error_method).signature error_sel;
      paths = λ file i h. tt;
      imports = λ path q i e. before path q e;
      others = λ n q z f g e. before n.path q e;
      types = λ name d c e f. tt;
    }

  -- ---- all of them

  -- those that come after these packages
  record AreNew (x : Packages) (rest : List PackageSource) : Type 0 where
    pub among : (u : PackageSource) → Has rest u → Has us u
    pub free : (u : PackageSource) → Has rest u → first_with path_of x.packages u.path ≡ None
    pub once : HaveOwnPaths rest

  still : {x : Packages} {rest : List PackageSource} {os : List Outcome} → Become bits x rest os w → AreNew x rest → Within x
  still {x = x} {rest = rest} r n path q e =
      rest_kept bits path r (λ h. let u = at_path rest path h in none_some (first_with path_of x.packages path) q (ap (first_with path_of x.packages) (sym u.2) ∙ n.free u.0 u.1) e) ∙ e

  -- what holds of each package where it holds of those before it
  module _ (P : Package → Type 0) where
    abbrev All : Packages → Type 0
    All x = (path : List ℕ) (q : Package) → first_with path_of x.packages path ≡ Some q → P q

    abbrev Step : Type 0
    Step = (x : Packages) (u : PackageSource) (p : Package) → Has us u → AreTyped x u → IsOfferedAs (over bits x) u p → Within x → first_with path_of w.packages u.path ≡ Some p → All x → P p

    in_turn : Step → {x : Packages} {rest : List PackageSource} {os : List Outcome} → Become bits x rest os w → Passes is_typed os → AreNew x rest → All x → All w
    in_turn step become_none o n g = g
    in_turn step (become_more {w = x} {u = u} {us = rest} {x = typed p} a r) o n g =
        let mine = own_found bits x u (typed p) a (n.free u (inl refl)) in
        let next : AreNew (with_package x p (is_public u)) rest = record {
          among = λ v h. n.among v (inr h);
          free = λ v h. other_kept bits x u (typed p) v.path a (λ e. n.once.0 (subst (Has (map source_path rest)) (sym e) (mapped source_path rest v h))) ∙ n.free v (inr h);
          once = n.once.1;
        } in
        in_turn step r o.1 next (λ path q e. elim (same_or_other u.path path) [
          | inl s ↦ subst P (some_once p q (sym mine ∙ ap (first_with path_of (with_package x p (is_public u)).packages) s ∙ e))
              (step x u p (n.among u (inl refl)) a.0 a.1 (still (become_more {x = typed p} a r) n) (rest_kept bits u.path r n.once.0 ∙ mine) g)
          | inr d ↦ g path q (sym (other_kept bits x u (typed p) path a d) ∙ e)
        ])
    in_turn step (become_more {x = refused q} a r) o n g = absurd (no_truth (sym o.0))
    in_turn step (become_more {x = blocked} a r) o n g = absurd (no_truth (sym o.0))

    all_in : Step → All w
    all_in step = in_turn step world.become world.all_typed (record { among = λ u h. h; free = λ u h. refl; once = apart.own_paths }) (λ path q e. none_some (first_with path_of no_packages.packages path) q refl e)

  -- ---- both premises

  all_std : (path : List ℕ) (q : Package) → first_with path_of w.packages path ≡ Some q → q.from_std ≡ true → StdPackage w q
  all_std = all_in (λ q. q.from_std ≡ true → StdPackage w q) (λ x u p h t y whole place before s.
      package_made (Named w) (Open w) (Declared w) (Imported w) (over bits x) u (std_source x u p h t y whole place s before) y.within y.entries y.kept.typing p y.«package»)

  all_stay : (path : List ℕ) (q : Package) → first_with path_of w.packages path ≡ Some q → StayingPackage w q
  all_stay = all_in (StayingPackage w) (λ x u p h t y whole place before. elim (either p.from_std) [
    | inl s ↦ staying_package w p (all_std u.path p place s)
    | inr s ↦ package_made (AnyName w) (AnyLabel w) (Stays w) (AnyPath w) (over bits x) u (own_source x u p h t y whole place s before) y.within y.entries y.kept.typing p y.«package»
  ])

  pub stands_alone : StdStandsAlone w
  stands_alone = record { names = λ path p e s. names_pass w p (all_std path p e s); selectors = λ path p e s. selectors_pass w p (all_std path p e s) }

  object_stays : (path : List ℕ) (c : Option Package) (o : Object) → package_at w path ≡ c → object_in c o.name ≡ Some o → EntityHasStdMethods w o.entity
  object_stays path None o f e = none_some (object_in None o.name) o refl e
  object_stays path (Some p) o f e = entity_methods w o.entity ((all_stay path p f).entities o (first_has object_name p.objects o.name o e))

  type_stays : (n : TypeName) (d : Defined) → entry (types_of w) n ≡ Some d → DefinedMade (AnyName w) (AnyLabel w) (Stays w) d
  type_stays n d e = elim (either (is_error n)) [
    | inl q ↦ subst (DefinedMade (AnyName w) (AnyLabel w) (Stays w)) (some_once error_type d (sym (if_true (is_error n) (Some error_type) (types_of w n) q) ∙ e))
        (error_kept (AnyName w) (AnyLabel w) (Stays w) (AnyPath w) (exported_stays w empty (method_sel error_method) (out-Method error_method).signature error_sel))
    | inr q ↦ found_defined (AnyName w) (AnyLabel w) (Stays w) (AnyPath w) (first_with path_of w.packages n.path) n.name d (λ p f. all_stay n.path p f) (sym (if_false (is_error n) (Some error_type) (types_of w n) q) ∙ e)
  ]

  pub methods_stay : StdMethodsStay w
  methods_stay = record {
    objects = λ path o x. object_stays path (package_at w path) o refl x.there;
    beneath = λ n d e. with_methods w d.underlying (type_stays n d e).beneath;
    declared = λ n d m e k. (let x = (type_stays n d e).methods m k in (with_methods w (function_type m.signature) x.0, x.1));
  }
