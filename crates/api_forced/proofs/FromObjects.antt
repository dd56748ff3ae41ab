-- The pairs that the packages of public paths give are those of exported objects.
use Rattle.std.proofs.Common.{◌≡◌, ℕ, Option, None, Some, List, [], ◌∷◌, ◌++◌, ◌≤◌, inl, inr, length, take, refl, sym, ap, ◌∙◌, subst}
use Rattle.go_base.specs.Lists.{Has}
use Rattle.go_base.specs.Growing.{Grows}
use Rattle.go_base.specs.Keys.{first_with}
use Rattle.go_base.proofs.Lists.{take_past}
use Rattle.go_base.proofs.Ordered.{first_key}
use Rattle.go_model.specs.worlds.Worlds.{Packages, IsWorld, object_name}
use Rattle.go_model.specs.declared.types.package.Package.{Package}
use Rattle.go_model.specs.declared.types.package.Object.{Object}
use Rattle.go_type_images.specs.declared.pair.TypePair.{TypePair}
use Rattle.api_correspond.specs.declared.pair.OwnedPair.{OwnedPair}
use Rattle.api_correspond.specs.Publics.{package_at, IsPublic, IsExportedName, qualified}
use Rattle.api_correspond.specs.OwnedPairs.{types_of_entities, FromObject, pair_of}
use Rattle.api_correspond.specs.inner.Members.{OfSome}
use Rattle.api_forced.specs.inner.Objects.{IsOfObject, IsOfPackage, IsOfPath}
use Rattle.api_correspond.proofs.ExportedObjects.{object_there, objects_ordered, package_there}
use Rattle.api_correspond.proofs.Growing.{grows_none, grows_one, grows_as, of_none}
use Rattle.api_correspond.proofs.Lookups.{first_member, member_first}

-- one object
module _ (path : List ℕ) (q : Package) (a : Object) (rs : List OwnedPair) where
  pub object_hidden : (IsExportedName a.name → ⊥) → Grows (IsOfObject path q a) rs rs
  object_hidden n = grows_none rs (λ r h. n h.exported)

  pub object_gone : None ≡ first_with object_name q.objects a.name → Grows (IsOfObject path q a) rs rs
  object_gone e = grows_none rs (λ r h. let k = h.kept in absurd (cc (e, k)))

  same_object : (b c : Object) → Some b ≡ first_with object_name q.objects a.name → first_with object_name q.objects a.name ≡ Some c → b ≡ c
  same_object b c e k = cc

  pub object_apart : (b : Object) → Some b ≡ first_with object_name q.objects a.name → None ≡ types_of_entities a.entity b.entity → Grows (IsOfObject path q a) rs rs
  object_apart b e n = grows_none rs (λ r h. let t = h.types in let s = ap (λ (x : Object). types_of_entities a.entity x.entity) (same_object b h.after e h.kept) in absurd (cc (n, s, t)))

  same_pair : (p : TypePair) (o : Option TypePair) (s : TypePair) → Some p ≡ o → o ≡ Some s → p ≡ s
  same_pair p o s e f = cc

  pub object_given : (b : Object) (p : TypePair) (owner : List ℕ) (new : List OwnedPair) → IsExportedName a.name → Some b ≡ first_with object_name q.objects a.name → Some p ≡ types_of_entities a.entity b.entity → owner ≡ qualified path a.name → new ≡ rs ++ record { owner = owner; old = p.old; new = p.new } ∷ [] → Grows (IsOfObject path q a) rs new
  object_given b p owner new x e t o g = grows_one rs new (record { owner = owner; old = p.old; new = p.new }) g
      (record { exported = x; after = b; kept = sym e; types = sym t; named = o })
      (λ r h.
      let s = ap (λ (z : Object). types_of_entities a.entity z.entity) (same_object b h.after e h.kept) in
      let k : p ≡ pair_of r = same_pair p (types_of_entities a.entity b.entity) (pair_of r) t (s ∙ h.types) in
      let n : owner ≡ r.owner = o ∙ sym h.named in
      (λ i. record { owner = n i; old = (k i).old; new = (k i).new }))

  -- the same, where the types were moved out of a box
  pub object_added : (b : Object) (p moved : TypePair) (new : List OwnedPair) → IsExportedName a.name → Some b ≡ first_with object_name q.objects a.name → Some p ≡ types_of_entities a.entity b.entity → moved ≡ p → new ≡ rs ++ record { owner = qualified path a.name; old = moved.old; new = moved.new } ∷ [] → Grows (IsOfObject path q a) rs new
  object_added b p moved new x e t m g = object_given b p (qualified path a.name) new x e t refl (g ∙ ap (λ (z : TypePair). rs ++ record { owner = qualified path a.name; old = z.old; new = z.new } ∷ []) m)

-- one path
module _ (old new : Packages) (path : List ℕ) (rs : List OwnedPair) where
  pub path_hidden : (IsPublic new path → ⊥) → Grows (IsOfPath old new path) rs rs
  path_hidden n = grows_none rs (λ r h. n h.shown)

  pub path_gone : None ≡ package_at old path → Grows (IsOfPath old new path) rs rs
  path_gone e = grows_none rs (λ r h. let k = h.first in absurd (cc (e, k)))

  pub path_lost : None ≡ package_at new path → Grows (IsOfPath old new path) rs rs
  path_lost e = grows_none rs (λ r h. let k = h.second in absurd (cc (e, k)))

  same_package : (p q : Package) (o : Option Package) → Some p ≡ o → o ≡ Some q → p ≡ q
  same_package p q o e f = cc

  pub path_given : (b a : Package) (more : List OwnedPair) → IsPublic new path → Some b ≡ package_at old path → Some a ≡ package_at new path → Grows (IsOfPackage path a b.objects) rs more → Grows (IsOfPath old new path) rs more
  path_given b a more s e f g = grows_as rs more
      (λ r h. record { shown = s; before = b; after = a; first = sym e; second = sym f; gives = h })
      (λ r h. subst (λ (x : Package). IsOfPackage path a x.objects r) (sym (same_package b h.before (package_at old path) e h.first)) (subst (λ (x : Package). IsOfPackage path x h.before.objects r) (sym (same_package a h.after (package_at new path) f h.second)) h.gives))
      g

-- all paths
module _ (old new : Packages) (world : IsWorld old) where
  pub objects_sound : (r : OwnedPair) → OfSome (IsOfPath old new) old.publics r → FromObject old new r.owner (pair_of r)
  objects_sound r (path, shown, h) =
      let a = h.gives.0 in let g = h.gives.2 in
      let same : g.after.name ≡ a.name = first_key object_name h.after.objects a.name g.after (sym g.kept) in
      record {
        path = path;
        before = a;
        after = g.after;
        exported = record { shown = shown; exported = g.exported; there = object_there (package_at old path) h.before a a.name h.first (member_first object_name h.before.objects a (objects_ordered old world path h.before h.first) h.gives.1) };
        kept = record { shown = h.shown; exported = subst IsExportedName (sym same) g.exported; there = object_there (package_at new path) h.after g.after g.after.name h.second (ap (first_with object_name h.after.objects) same ∙ g.kept) };
        same = same;
        named = g.named;
        types = g.types;
      }

  pub objects_complete : (r : OwnedPair) → FromObject old new r.owner (pair_of r) → OfSome (IsOfPath old new) old.publics r
  objects_complete r f =
      let b = package_there (package_at old f.path) f.before f.before.name f.exported.there in
      let a = package_there (package_at new f.path) f.after f.after.name f.kept.there in (
        f.path,
        f.exported.shown,
        record {
          shown = f.kept.shown;
          before = b.0;
          after = a.0;
          first = b.1;
          second = a.1;
          gives = (
            f.before,
            first_member object_name b.0.objects f.before.name f.before (sym b.2),
            record {
              exported = f.exported.exported;
              after = f.after;
              kept = ap (first_with object_name a.0.objects) (sym f.same) ∙ a.2;
              types = f.types;
              named = f.named;
            },
          );
        },
      )

  module _ (paths : List (List ℕ)) (n : ℕ) (rs : List OwnedPair) (e : paths ≡ old.publics) (h : length paths ≤ n) (g : Grows (OfSome (IsOfPath old new) (take n paths)) [] rs) where
    all_paths : Grows (OfSome (IsOfPath old new) old.publics) [] rs
    all_paths = subst (λ (w : List (List ℕ)). Grows (OfSome (IsOfPath old new) w) [] rs) (take_past n paths h ∙ e) g

    pub paths_sound : (r : OwnedPair) → Has rs r → FromObject old new r.owner (pair_of r)
    paths_sound r m = elim (all_paths.sound r m) [ inl x ↦ absurd x | inr k ↦ objects_sound r k ]

    pub paths_complete : (r : OwnedPair) → FromObject old new r.owner (pair_of r) → Has rs r
    paths_complete r f = all_paths.complete r (objects_complete r f)

pub paths_begun : (old new : Packages) (rs : List OwnedPair) → rs ≡ [] → Grows (OfSome (IsOfPath old new) []) [] rs
paths_begun old new rs e = subst (Grows (OfSome (IsOfPath old new) []) []) (sym e) (of_none (IsOfPath old new) [])

pub package_all : (path : List ℕ) (q : Package) (objects items : List Object) (n : ℕ) (rs new : List OwnedPair) → items ≡ objects → length items ≤ n → Grows (IsOfPackage path q (take n items)) rs new → Grows (IsOfPackage path q objects) rs new
package_all path q objects items n rs new e h g = subst (λ (w : List Object). Grows (IsOfPackage path q w) rs new) (take_past n items h ∙ e) g
