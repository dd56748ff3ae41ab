-- A feature of a package that two worlds share is one in both.
use Rattle.std.proofs.Common.{◌≡◌, ◌≢◌, ℕ, Bool, true, false, ◌||◌, List, [], ◌∷◌, ◌++◌, map, Option, Some, None, refl, sym, ap, ◌∙◌, subst, inl, inr, ◌⊎◌, if◌then◌else◌}
use Rattle.std.specs.Prelude.{codes}
use Rattle.std.specs.Str.{bytes_eq}
use Rattle.go_base.specs.Gathered.{gather}
use Rattle.go_base.specs.Keys.{first_with}
use Rattle.go_base.specs.Lists.{Each, Has, Passes}
use Rattle.go_base.proofs.Members.{each_has}
use Rattle.go_model.specs.declared.types.names.Sel.{Sel}
use Rattle.go_model.specs.declared.types.names.TypeName.{TypeName}
use Rattle.go_model.specs.declared.types.package.ConstTerm.{ConstTerm}
use Rattle.go_model.specs.declared.types.package.ConstTerm.TheVariants as constant
use Rattle.go_model.specs.declared.types.package.Entity.{Entity}
use Rattle.go_model.specs.declared.types.package.Entity.TheVariants as entity
use Rattle.go_model.specs.declared.types.package.Object.{Object}
use Rattle.go_model.specs.declared.types.package.Package.{Package}
use Rattle.go_model.specs.declared.types.term.Field.{Field, out-Field}
use Rattle.go_model.specs.declared.types.term.Method.{Method, out-Method}
use Rattle.go_model.specs.declared.types.term.Signature.{Signature, out-Signature}
use Rattle.go_model.specs.declared.types.term.Term.{Term, Term-F, out-Term, out-roll-Term, roll-Term}
use Rattle.go_model.specs.types.MethodSets.{InSet}
use Rattle.go_model.specs.types.Tables.{Table}
use Rattle.go_model.specs.types.Terms.{Layer, is_error, pointer_to}
use Rattle.go_model.specs.types.Underlying.{entry, under, under_entry, under_layer}
use Rattle.go_model.specs.worlds.PackageTypes.{defined_names, object_names, package_names}
use Rattle.go_model.specs.worlds.Worlds.{EntityResolves, IsPackage, IsWorld, Packages, path_of, table_of}
use Rattle.go_type_images.specs.Leaves.{Leaves}
use Rattle.go_type_images.specs.Parts.{field_type, function_type, method_type, parts}
use Rattle.go_type_images.proofs.Leaves.{leaf, part_leaves}
use Rattle.go_types.proofs.Agree.{agree_back, closed_back, set_over}
use Rattle.api_correspond.proofs.Lookups.{first_member, member_first}
use Rattle.api_kept_members.proofs.Resolving.{field_resolves, level_parts, under_resolves}
use Rattle.api_kept_members.proofs.ResolvingPairs.{method_in_resolves, pointer_resolves}
use Rattle.api_lines.specs.declared.line.Line.{Line}
use Rattle.api_features.specs.Features.{IsExported, IsFeature, IsMethodRest, IsRest, IsTypeRest, alias, constant_kind, constant_value, defined, defined_term, function, interface_empty, interface_exported, interface_method, interface_unexported, is_interface, method, method_of_pointer, method_of_type, plain_type, struct_embedded, struct_field, struct_type, type_start, variable}
use Rattle.api_features.specs.TypeTexts.{constant_type, kind_text, name_text, qualified, signature_text, type_text}
use Rattle.api_shared_features.proofs.SharedTexts.{Same, shown_same, signature_same, text_same}
use Rattle.api_shared_features.proofs.SharedTypes.{EntityKept, Keeps, agree, agree_own, all_resolve, closed, entity_kept, of_shared, own, passes_at, passes_left, same_entry, within}
use Rattle.api_shared_features.specs.SharedPackages.{AreShared, is_of}

either : (b : Bool) → (b ≡ true) ⊎ (b ≡ false)
either true = inl refl
either false = inr refl

second_of : (a b : Bool) → a ≡ false → (a || b) ≡ true → b ≡ true
second_of true b e f = absurd (cc)
second_of false b e f = f

pub turned : (shared : List ℕ → Bool) (w v : Packages) → AreShared shared w v → AreShared shared v w
turned shared w v b = record { same = λ path i. sym (b.same path i); closed = λ path p i e. b.closed path p i (b.same path i ∙ e) }

module _ (shared : List ℕ → Bool) (w v : Packages) (both : AreShared shared w v) (i : IsWorld w) where
  abbrev K : TypeName → Bool
  K = Keeps shared w v both

  abbrev R : Table
  R = own shared w v both

  abbrev A : Table
  A = table_of w.packages

  abbrev B : Table
  B = table_of v.packages

  names_same : (path : List ℕ) (n : TypeName) → K n ≡ true → name_text w.packages path n ≡ name_text v.packages path n
  names_same path n h = elim (either (is_error n)) [
    | inl e ↦ ap (λ b. if b then codes "error" else (if bytes_eq n.path path then n.name else qualified (first_with path_of w.packages n.path) n.name)) e
        ∙ sym (ap (λ b. if b then codes "error" else (if bytes_eq n.path path then n.name else qualified (first_with path_of v.packages n.path) n.name)) e)
    | inr e ↦ ap (λ o. if is_error n then codes "error" else (if bytes_eq n.path path then n.name else qualified o n.name)) (both.same n.path (second_of (is_error n) (shared n.path) e (of_shared shared w v both n h)))
  ]

  -- ---- the texts in lines

  module _ (path name : List ℕ) where
    text : (t : Term) → Leaves K t → type_text w.packages path t ≡ type_text v.packages path t
    text t h = text_same w.packages v.packages path K (names_same path) t h

    signature : (g : Signature) → Leaves K (function_type g) → signature_text w.packages path g ≡ signature_text v.packages path g
    signature g h = signature_same w.packages v.packages path K (names_same path) g (λ u k. shown_same w.packages v.packages path K (names_same path) u (part_leaves h u (subst (λ (l : Layer). Has (parts l) u) (sym (out-roll-Term (Term-F.Func g))) k)))

    -- the lines of a type by what is underneath
    of_type : {l : Layer} {r : List ℕ} → Leaves K (roll-Term l) → IsTypeRest w.packages path name l r → IsTypeRest v.packages path name l r
    of_type h struct_type = struct_type
    of_type h (struct_field {fs = fs} f k x e) =
        subst (λ (t : List ℕ). IsTypeRest v.packages path name (Term-F.Struct fs) (type_start v.packages path name ++ codes " struct, " ++ (out-Field f).sel.name ++ codes " " ++ t)) (sym (text (out-Field f).term (field_resolves R (all_resolve shared w v both i) (Term-F.Struct fs) f h k))) (struct_field f k x e)
    of_type h (struct_embedded {fs = fs} f k x e) =
        subst (λ (t : List ℕ). IsTypeRest v.packages path name (Term-F.Struct fs) (type_start v.packages path name ++ codes " struct, embedded " ++ t)) (sym (text (out-Field f).term (field_resolves R (all_resolve shared w v both i) (Term-F.Struct fs) f h k))) (struct_embedded f k x e)
    of_type h (interface_method {ms = ms} m k x) =
        subst (λ (t : List ℕ). IsTypeRest v.packages path name (Term-F.Interface ms) (type_start v.packages path name ++ codes " interface, " ++ (out-Method m).sel.name ++ t)) (sym (signature (out-Method m).signature (level_parts R (all_resolve shared w v both i) (Term-F.Interface ms) h (method_type m) (in_map ms k)))) (interface_method m k x)
      where
        in_map : (ns : List Method) → Has ns m → Has (map method_type ns) (method_type m)
        in_map [] j = absurd j
        in_map (n ∷ ns) (inl e) = inl (ap method_type e)
        in_map (n ∷ ns) (inr j) = inr (in_map ns j)
    of_type h (interface_unexported m k x) = interface_unexported m k x
    of_type h (interface_exported e) = interface_exported e
    of_type h interface_empty = interface_empty
    of_type h (plain_type {l = l} p) =
        subst (λ (t : List ℕ). IsTypeRest v.packages path name l (type_start v.packages path name ++ codes " " ++ t)) (sym (text (roll-Term l) h)) (plain_type p)

    -- ---- methods

    in_own : (t : Term) (s : Sel) (g : Signature) → Leaves K t → InSet A t s g → InSet R t s g
    in_own t s g h k = set_over K A R (agree_own shared w v both) (closed shared w v both i) t s g (within shared w v both i t h) k

    in_other : (t : Term) (s : Sel) (g : Signature) → Leaves K t → InSet A t s g → InSet B t s g
    in_other t s g h k = set_over K A B (agree shared w v both) (closed shared w v both i) t s g (within shared w v both i t h) k

    in_first : (t : Term) (s : Sel) (g : Signature) → Leaves K t → InSet B t s g → InSet A t s g
    in_first t s g h k = set_over K B A (agree_back K A B (agree shared w v both)) (closed_back K A B (agree shared w v both) (closed shared w v both i)) t s g (within shared w v both i t h) k

    of_set : (t : Term) (s : Sel) (g : Signature) → Leaves K t → InSet A t s g → signature_text w.packages path g ≡ signature_text v.packages path g
    of_set t s g h k = signature g (method_in_resolves R (all_resolve shared w v both i) t s g h (in_own t s g h k))

    of_methods : {t : Term} {r : List ℕ} → Leaves K t → IsMethodRest w.packages path name A t r → IsMethodRest v.packages path name B t r
    of_methods {t = t} h (method_of_type {s = s} {g = g} x k) =
        subst (λ (z : List ℕ). IsMethodRest v.packages path name B t (codes "method (" ++ name ++ codes ") " ++ s.name ++ z)) (sym (of_set t s g h k)) (method_of_type x (in_other t s g h k))
    of_methods {t = t} h (method_of_pointer {s = s} {g = g} x k none) =
        let p = pointer_resolves R t h in
        subst (λ (z : List ℕ). IsMethodRest v.packages path name B t (codes "method (*" ++ name ++ codes ") " ++ s.name ++ z)) (sym (of_set (pointer_to t) s g p k)) (method_of_pointer x (in_other (pointer_to t) s g p k) (λ g2 j. none g2 (in_first t s g2 h j)))

    -- ---- what a name denotes

    abbrev named : TypeName
    named = record { path = path; name = name }

    abbrev it : Term
    it = defined_term path name

    under_as : (T : Table) → under T it ≡ under_entry named (entry T named)
    under_as T = ap (under_layer T) (out-roll-Term (Term-F.Named named))

    it_kept : Leaves K it → K named ≡ true
    it_kept h = leaf h named (out-roll-Term (Term-F.Named named))

    under_own : Leaves K it → under R it ≡ under A it
    under_own h = under_as R ∙ ap (under_entry named) (sym (same_entry shared w v both named (it_kept h))) ∙ sym (under_as A)

    under_other : Leaves K it → under A it ≡ under B it
    under_other h = under_as A ∙ ap (under_entry named) (agree shared w v both named (it_kept h)) ∙ sym (under_as B)

    beneath : Leaves K it → Leaves K (roll-Term (under A it))
    beneath h = subst (λ (l : Layer). Leaves K (roll-Term l)) (under_own h) (under_resolves R (all_resolve shared w v both i) it h)

    constant_same : (t : ConstTerm) (c : _) → EntityKept shared w v both i (entity.Const t c) → constant_type w.packages path t ≡ constant_type v.packages path t
    constant_same (constant.OfTerm t) c h = text t h
    constant_same (constant.OfKind k) c h = refl

    of_name : {x : Entity} {r : List ℕ} → EntityKept shared w v both i x → IsRest w.packages path name x r → IsRest v.packages path name x r
    of_name h (constant_value d) = constant_value d
    of_name h (constant_kind {t = t} {v = c}) = subst (λ (z : List ℕ). IsRest v.packages path name (entity.Const t c) (codes "const " ++ name ++ codes " " ++ z)) (sym (constant_same t c h)) constant_kind
    of_name h (variable {t = t}) = subst (λ (z : List ℕ). IsRest v.packages path name (entity.Var t) (codes "var " ++ name ++ codes " " ++ z)) (sym (text t h)) variable
    of_name h (function {g = g}) = subst (λ (z : List ℕ). IsRest v.packages path name (entity.Function g) (codes "func " ++ name ++ z)) (sym (signature g h)) function
    of_name h (alias {t = t} n) = subst (λ (z : List ℕ). IsRest v.packages path name (entity.TypeOf t) (type_start v.packages path name ++ codes " = " ++ z)) (sym (text t h)) (alias n)
    of_name h (defined {t = t} {rest = rest} e r) =
        let k : Leaves K it = subst (Leaves K) e h in
        let same : under A t ≡ under A it = ap (under A) e in
        let moved : under A it ≡ under B t = under_other k ∙ ap (under B) (sym e) in
        defined e (subst (λ (l : Layer). IsTypeRest v.packages path name l rest) moved (of_type (beneath k) (subst (λ (l : Layer). IsTypeRest w.packages path name l rest) same r)))
    of_name h (method {t = t} {rest = rest} e n r) =
        let k : Leaves K it = subst (Leaves K) e h in
        let moved : under B t ≡ under A t = ap (under B) e ∙ sym (under_other k) ∙ ap (under A) (sym e) in
        method e (ap is_interface moved ∙ n) (of_methods h r)

  -- ---- features

  package_at : (p : Package) → Has w.packages p → shared p.path ≡ true → first_with path_of w.packages p.path ≡ Some p
  package_at p h s = member_first path_of w.packages p i.ordered h

  object_kept : (p : Package) (o : Object) → Has w.packages p → Has p.objects o → shared p.path ≡ true → EntityKept shared w v both i o.entity
  object_kept p o h k s =
      let kept : IsPackage A p = each_has (λ (x : Package). IsPackage A x) w.packages p i.packaged h in
      entity_kept shared w v both i o.entity (each_has (λ (x : Object). EntityResolves A x.entity) p.objects o kept.entities k)
      (passes_at (is_of shared) object_names p.objects o (passes_left (is_of shared) (gather object_names p.objects) (gather defined_names p.defined) (both.closed p.path p s (package_at p h s))) k)

  pub shared_feature : (l : Line) → shared l.path ≡ true → Has v.publics l.path → IsFeature w l → IsFeature v l
  shared_feature l s public f =
      let at : shared f.of.path ≡ true = ap shared f.path ∙ s in
      record {
        of = f.of;
        here = first_member path_of v.packages f.of.path f.of (sym (sym (both.same f.of.path at) ∙ package_at f.of f.here at));
        public = subst (Has v.publics) (sym f.path) public;
        object = f.object;
        there = f.there;
        exported = f.exported;
        path = f.path;
        context = f.context;
        rest = of_name f.of.path f.object.name (object_kept f.of f.object f.here f.there at) f.rest;
      }
