-- What packages lose, object by object and path by path, is what the rules say.
use Rattle.std.proofs.Common.{◌≡◌, ◌↔◌, ◌⊎◌, ◌≤◌, inl, inr, ℕ, length, take, Option, None, Some, List, [], ◌∷◌, ◌++◌, map, refl, sym, ap, ◌∙◌, subst}
use Rattle.go_base.specs.Lists.{Has}
use Rattle.go_base.specs.Growing.{Grows}
use Rattle.go_base.specs.Keys.{first_with}
use Rattle.go_base.proofs.Lists.{take_past}
use Rattle.go_base.proofs.Members.{each_has}
use Rattle.go_base.proofs.Ordered.{first_key}
use Rattle.go_model.specs.worlds.Worlds.{Packages, IsWorld, object_name, object_in, path_of}
use Rattle.go_model.specs.declared.types.package.Package.{Package}
use Rattle.go_model.specs.declared.types.package.Object.{Object}
use Rattle.go_model.specs.declared.types.package.Entity.{Entity}
use Rattle.api_correspond.specs.Publics.{package_at, IsPublic, IsExportedName, Exports, qualified}
use Rattle.api_correspond.specs.Rules.{CoversName, KeepsName, CoversObjects, KeepsKind, KeepsConstant, KeepsObject, KeepsPath}
use Rattle.api_correspond.specs.inner.Members.{OfSome}
use Rattle.api_correspond.proofs.ExportedObjects.{object_there, objects_ordered, package_there}
use Rattle.api_correspond.proofs.Growing.{grows_none, grows_one, grows_as, grows_both, of_none}
use Rattle.api_correspond.proofs.Lookups.{first_member, member_first}
use Rattle.api_breaks.proofs.DecidedRules.{has_text, same_texts, kind_decided, constant_decided}
use Rattle.api_breaks.specs.declared.broken.Break.{Break}
use Rattle.api_breaks.specs.declared.broken.Sort.{Sort}
use Rattle.api_breaks.specs.declared.broken.Lost.TheVariants as lost
use Rattle.api_breaks.specs.Breaks.{broken, sort_of, IsPackageBreak, package_gone, package_renamed, object_gone, object_of_other_kind, constant_apart}
use Rattle.api_breaks.specs.inner.Objects.{IsOtherKind, IsOtherConstant, IsGone, IsOfObject, IsOfObjects, IsRenamed, IsOfBoth, IsOfPackages, IsOfPath}

-- one object
module _ (path : List ℕ) (q : Package) (a : Object) (bs : List Break) where
  pub object_hidden : (IsExportedName a.name → ⊥) → Grows (IsOfObject path q a) bs bs
  object_hidden n = grows_none bs (λ b h. n h.0)

  object_as : (new : List Break) (o : Option Object) → o ≡ first_with object_name q.objects a.name → IsExportedName a.name → Grows (IsGone path a o) bs new → Grows (IsOfObject path q a) bs new
  object_as new o e x g = subst (λ (z : Option Object). Grows (λ (b : Break). IsExportedName a.name × IsGone path a z b) bs new) e (grows_as bs new (λ b h. (x, h)) (λ b h. h.1) g)

  pub object_removed : (new : List Break) → None ≡ first_with object_name q.objects a.name → IsExportedName a.name → new ≡ bs ++ broken (qualified path a.name) lost.Removed ∷ [] → Grows (IsOfObject path q a) bs new
  object_removed new e x g = object_as new None e x (grows_one bs new (broken (qualified path a.name) lost.Removed) g refl (λ b s. s))

  pub object_both : (c : Object) (more grown : List Break) → Some c ≡ first_with object_name q.objects a.name → IsExportedName a.name → Grows (IsOtherKind path a c) bs more → Grows (IsOtherConstant path a c) more grown → Grows (IsOfObject path q a) bs grown
  object_both c more grown e x f g = object_as grown (Some c) e x (grows_both bs more grown (λ b h. inl h) (λ b h. inr h) (λ b h. h) f g)

-- two objects of one name
module _ (path : List ℕ) (a c : Object) (bs : List Break) where
  pub kind_kept : KeepsKind a.entity c.entity → Grows (IsOtherKind path a c) bs bs
  kind_kept k = grows_none bs (λ b h. h.0 k)

  pub kind_lost : (new : List Break) (s t : Sort) → (KeepsKind a.entity c.entity → ⊥) → s ≡ sort_of a.entity → t ≡ sort_of c.entity → new ≡ bs ++ broken (qualified path a.name) (lost.Kind s t) ∷ [] → Grows (IsOtherKind path a c) bs new
  kind_lost new s t n i j g =
      let k : bs ++ broken (qualified path a.name) (lost.Kind s t) ∷ [] ≡ bs ++ broken (qualified path a.name) (lost.Kind (sort_of a.entity) (sort_of c.entity)) ∷ [] = (λ l. bs ++ broken (qualified path a.name) (lost.Kind (i l) (j l)) ∷ []) in
      grows_one bs new (broken (qualified path a.name) (lost.Kind (sort_of a.entity) (sort_of c.entity))) (g ∙ k) (n, refl) (λ b s. s.1)

  pub constant_kept : KeepsConstant a.entity c.entity → Grows (IsOtherConstant path a c) bs bs
  constant_kept k = grows_none bs (λ b h. h.0 k)

  pub constant_lost : (new : List Break) (of : List ℕ) (s t : Entity) → (KeepsConstant a.entity c.entity → ⊥) → of ≡ path → s ≡ a.entity → t ≡ c.entity → new ≡ bs ++ broken (qualified path a.name) (lost.Constant of s t) ∷ [] → Grows (IsOtherConstant path a c) bs new
  constant_lost new of s t n h i j g =
      let k : bs ++ broken (qualified path a.name) (lost.Constant of s t) ∷ [] ≡ bs ++ broken (qualified path a.name) (lost.Constant path a.entity c.entity) ∷ [] = (λ l. bs ++ broken (qualified path a.name) (lost.Constant (h l) (i l) (j l)) ∷ []) in
      grows_one bs new (broken (qualified path a.name) (lost.Constant path a.entity c.entity)) (g ∙ k) (n, refl) (λ b s. s.1)

pub objects_all : (path : List ℕ) (q : Package) (objects items : List Object) (n : ℕ) (bs new : List Break) → items ≡ objects → length items ≤ n → Grows (IsOfObjects path q (take n items)) bs new → Grows (IsOfObjects path q objects) bs new
objects_all path q objects items n bs new e h g = subst (λ (w : List Object). Grows (IsOfObjects path q w) bs new) (take_past n items h ∙ e) g

-- one package
module _ (path : List ℕ) (p q : Package) (bs : List Break) where
  pub name_kept : q.name ≡ p.name → Grows (IsRenamed path p q) bs bs
  name_kept e = grows_none bs (λ b h. h.0 e)

  pub name_lost : (grown : List Break) (name : List ℕ) → (q.name ≡ p.name → ⊥) → name ≡ q.name → grown ≡ bs ++ broken path (lost.Name name) ∷ [] → Grows (IsRenamed path p q) bs grown
  name_lost grown name n e g =
      let k : bs ++ broken path (lost.Name name) ∷ [] ≡ bs ++ broken path (lost.Name q.name) ∷ [] = ap (λ (w : List ℕ). bs ++ broken path (lost.Name w) ∷ []) e in
      grows_one bs grown (broken path (lost.Name q.name)) (g ∙ k) (n, refl) (λ b s. s.1)

  pub both_lost : (more grown : List Break) → Grows (IsRenamed path p q) bs more → Grows (IsOfObjects path q p.objects) more grown → Grows (IsOfBoth path p q) bs grown
  both_lost more grown f g = grows_both bs more grown (λ b h. inl h) (λ b h. inr h) (λ b h. h) f g

-- one path
module _ (old new : Packages) (path : List ℕ) (bs : List Break) where
  pub path_gone : (grown : List Break) → (IsPublic new path → ⊥) → grown ≡ bs ++ broken path lost.Package ∷ [] → Grows (IsOfPath old new path) bs grown
  path_gone grown n g = grows_one bs grown (broken path lost.Package) g (inl (n, refl)) (λ b h. elim h [ inl s ↦ s.1 | inr k ↦ absurd (n k.0) ])

  path_as : (grown : List Break) (x y : Option Package) → x ≡ package_at old path → y ≡ package_at new path → IsPublic new path → Grows (IsOfPackages path x y) bs grown → Grows (IsOfPath old new path) bs grown
  path_as grown x y e f s g =
      subst (λ (z : Option Package). Grows (λ (b : Break). ((IsPublic new path → ⊥) × (broken path lost.Package ≡ b)) ⊎ (IsPublic new path × IsOfPackages path z (package_at new path) b)) bs grown) e
      (subst (λ (z : Option Package). Grows (λ (b : Break). ((IsPublic new path → ⊥) × (broken path lost.Package ≡ b)) ⊎ (IsPublic new path × IsOfPackages path x z b)) bs grown) f
      (grows_as bs grown (λ b h. inr (s, h)) (λ b h. elim h [ inl k ↦ absurd (k.0 s) | inr k ↦ k.1 ]) g))

  pub path_unknown : (y : Option Package) → None ≡ package_at old path → y ≡ package_at new path → IsPublic new path → Grows (IsOfPath old new path) bs bs
  path_unknown y e f s = path_as bs None y e f s (grows_none bs (λ b h. h))

  pub path_lost : (p : Package) → Some p ≡ package_at old path → None ≡ package_at new path → IsPublic new path → Grows (IsOfPath old new path) bs bs
  path_lost p e f s = path_as bs (Some p) None e f s (grows_none bs (λ b h. h))

  pub path_kept : (grown : List Break) (p q : Package) → Some p ≡ package_at old path → Some q ≡ package_at new path → IsPublic new path → Grows (IsOfBoth path p q) bs grown → Grows (IsOfPath old new path) bs grown
  path_kept grown p q e f s g = path_as grown (Some p) (Some q) e f s g

-- all paths
module _ (old new : Packages) (world : IsWorld old) where
  object_back : (o : Option Package) (p : Package) (a : Object) (name : List ℕ) → o ≡ Some p → object_in o name ≡ Some a → first_with object_name p.objects name ≡ Some a
  object_back o p a name e h = sym (ap (λ (x : Option Package). object_in x name) e) ∙ h

  both : (path : List ℕ) (b : Break) (x y : Option Package) → IsOfPackages path x y b → (p : Package) × (q : Package) × (x ≡ Some p) × (y ≡ Some q) × IsOfBoth path p q b
  both path b (Some p) (Some q) h = (p, q, refl, refl, h)
  both path b (Some p) None h = absurd h
  both path b None y h = absurd h

  none_some : (o : Option Object) (c : Object) → o ≡ None → o ≡ Some c → ⊥
  none_some o c e f = cc

  -- an object that the new package of its path doesn't have
  gone_sound : (path : List ℕ) (p q : Package) (a : Object) (b : Break) → IsPublic old path → IsPublic new path → package_at old path ≡ Some p → package_at new path ≡ Some q → Has p.objects a → IsExportedName a.name → (o : Option Object) → first_with object_name q.objects a.name ≡ o → IsGone path a o b → IsPackageBreak old new b
  gone_sound path p q a b s t e f m x None r h = object_gone path a (record { exported = record { shown = s; exported = x; there = object_there (package_at old path) p a a.name e (member_first object_name p.objects a (objects_ordered old world path p e) m) }; still = t })
      (λ k. none_some (first_with object_name q.objects a.name) k.0 r (ap (first_with object_name q.objects) (sym k.2) ∙ object_back (package_at new path) q k.0 k.0.name f k.1.there))
      h
  gone_sound path p q a b s t e f m x (Some c) r h =
      let same : c.name ≡ a.name = first_key object_name q.objects a.name c (sym r) in
      let before : Exports old path a = record { shown = s; exported = x; there = object_there (package_at old path) p a a.name e (member_first object_name p.objects a (objects_ordered old world path p e) m) } in
      let after : Exports new path c = record { shown = t; exported = subst IsExportedName (sym same) x; there = object_there (package_at new path) q c c.name f (ap (first_with object_name q.objects) same ∙ r) } in
      let both_have : CoversObjects old new path a c = record { before = before; after = after; same = same } in
      elim h [ inl k ↦ object_of_other_kind path a c both_have k.0 k.1 | inr k ↦ constant_apart path a c both_have k.0 k.1 ]

  path_sound : (path : List ℕ) (b : Break) → IsPublic old path → IsOfPath old new path b → IsPackageBreak old new b
  path_sound path b s (inl h) = package_gone path s h.0 h.1
  path_sound path b s (inr h) = let k = both path b (package_at old path) (package_at new path) h.1 in told k.0 k.1 k.2 k.3 k.4
    where
      told : (p q : Package) → package_at old path ≡ Some p → package_at new path ≡ Some q → IsOfBoth path p q b → IsPackageBreak old new b
      told p q e f (inl r) = package_renamed path p q (record { shown = s; still = h.0; before = e; after = f }) r.0 r.1
      told p q e f (inr m) = gone_sound path p q m.0 b s h.0 e f m.1 m.2.0 (first_with object_name q.objects m.0.name) refl m.2.1

  of_both : (path : List ℕ) (p q : Package) (b : Break) → package_at old path ≡ Some p → package_at new path ≡ Some q → IsPublic new path → IsOfBoth path p q b → IsOfPath old new path b
  of_both path p q b e f s h = inr (s, subst (λ (x : Option Package). IsOfPackages path x (package_at new path) b) (sym e) (subst (λ (y : Option Package). IsOfPackages path (Some p) y b) (sym f) h))

  has_unmap : (xs : List Package) (path : List ℕ) → Has (map path_of xs) path → (q : Package) × Has xs q × (path_of q ≡ path)
  has_unmap [] path h = absurd h
  has_unmap (x ∷ xs) path (inl e) = (x, inl refl, e)
  has_unmap (x ∷ xs) path (inr h) = let k = has_unmap xs path h in (k.0, inr k.1, k.2)

  -- a public path of a world has its package
  found_package : (w : Packages) → IsWorld w → (path : List ℕ) → IsPublic w path → (q : Package) × (package_at w path ≡ Some q)
  found_package w k path s =
      let m = has_unmap w.packages path (each_has (Has (map path_of w.packages)) w.publics path k.public_paths s) in
      (m.0, ap (first_with path_of w.packages) (sym m.2) ∙ member_first path_of w.packages m.0 k.ordered m.1)

  in_old : (path : List ℕ) (a : Object) → Exports old path a → (p : Package) × (package_at old path ≡ Some p) × Has p.objects a
  in_old path a x = let k = package_there (package_at old path) a a.name x.there in (k.0, k.1, first_member object_name k.0.objects a.name a (sym k.2))

  of_object : (path : List ℕ) (p q : Package) (a : Object) (b : Break) → package_at old path ≡ Some p → package_at new path ≡ Some q → IsPublic new path → Has p.objects a → IsExportedName a.name → (o : Option Object) → first_with object_name q.objects a.name ≡ o → IsGone path a o b → IsOfPath old new path b
  of_object path p q a b e f s m x o r g = of_both path p q b e f s (inr (a, m, (x, subst (λ (z : Option Object). IsGone path a z b) (sym r) g)))

  -- an object that isn't kept is found in no place
  not_kept : (path : List ℕ) (q : Package) (a : Object) → IsPublic new path → package_at new path ≡ Some q → IsExportedName a.name → (KeepsObject new path a → ⊥) → (o : Option Object) → first_with object_name q.objects a.name ≡ o → o ≡ None
  not_kept path q a s f x n None r = refl
  not_kept path q a s f x n (Some c) r =
      let same : c.name ≡ a.name = first_key object_name q.objects a.name c (sym r) in
      absurd (n (c, record { shown = s; exported = subst IsExportedName (sym same) x; there = object_there (package_at new path) q c c.name f (ap (first_with object_name q.objects) same ∙ r) }, same))

  pub packages_exact : IsWorld new → (bs : List Break) → Grows (OfSome (IsOfPath old new) old.publics) [] bs → (b : Break) → Has bs b ↔ IsPackageBreak old new b
  packages_exact later bs g b = (to, back b)
    where
      to : Has bs b → IsPackageBreak old new b
      to h = elim (g.sound b h) [ inl x ↦ absurd x | inr k ↦ path_sound k.0 b k.1 k.2 ]

      of_two : (path : List ℕ) (a c : Object) (d : Break) → Exports old path a → Exports new path c → c.name ≡ a.name → IsGone path a (Some c) d → Has bs d
      of_two path a c d x y same k =
          let p = in_old path a x in
          let q = package_there (package_at new path) c c.name y.there in
          g.complete d (path, x.shown, of_object path p.0 q.0 a d p.1 q.1 y.shown p.2 x.exported (Some c) (ap (first_with object_name q.0.objects) (sym same) ∙ q.2) k)

      back : (d : Break) → IsPackageBreak old new d → Has bs d
      back d (package_gone path s n e) = g.complete d (path, s, inl (n, e))
      back d (package_renamed path p q x n r) = g.complete d (path, x.shown, of_both path p q d x.before x.after x.still (inl (n, r)))
      back d (object_gone path a x n r) =
          let y = x.exported in
          let p = in_old path a y in
          let q = found_package new later path x.still in
          g.complete d (path, y.shown, of_object path p.0 q.0 a d p.1 q.1 x.still p.2 y.exported None (not_kept path q.0 a x.still q.1 y.exported n (first_with object_name q.0.objects a.name) refl) r)
      back d (object_of_other_kind path a c x n r) = of_two path a c d x.before x.after x.same (inl (n, r))
      back d (constant_apart path a c x n r) = of_two path a c d x.before x.after x.same (inr (n, r))

  -- where nothing is told, all is kept
  module _ (later : IsWorld new) (none : (b : Break) → IsPackageBreak old new b → ⊥) where
    name_same : (path : List ℕ) (p q : Package) → CoversName old new path p q → KeepsName p q
    name_same path p q x = elim (same_texts q.name p.name) [ inl e ↦ e | inr n ↦ absurd (none (broken path (lost.Name q.name)) (package_renamed path p q x n refl)) ]

    object_kept : (path : List ℕ) (a : Object) → Exports old path a → (t : IsPublic new path) → (q : Package) → package_at new path ≡ Some q → (o : Option Object) → first_with object_name q.objects a.name ≡ o → KeepsObject new path a
    object_kept path a x t q f None r = absurd (none (broken (qualified path a.name) lost.Removed) (object_gone path a (record { exported = x; still = t }) (λ k. none_some (first_with object_name q.objects a.name) k.0 r (ap (first_with object_name q.objects) (sym k.2) ∙ object_back (package_at new path) q k.0 k.0.name f k.1.there)) refl))
    object_kept path a x t q f (Some c) r =
        let same : c.name ≡ a.name = first_key object_name q.objects a.name c (sym r) in
        (c, record { shown = t; exported = subst IsExportedName (sym same) x.exported; there = object_there (package_at new path) q c c.name f (ap (first_with object_name q.objects) same ∙ r) }, same)

    pub path_keeps : (path : List ℕ) → KeepsPath old new path
    path_keeps path = record {
      package_kept = λ s. elim (has_text new.publics path) [ inl x ↦ x | inr n ↦ absurd (none (broken path lost.Package) (package_gone path s n refl)) ];
      name_kept = name_same path;
      objects = λ a x. (let q = found_package new later path x.still in object_kept path a x.exported x.still q.0 q.1 (first_with object_name q.0.objects a.name) refl);
      kinds = λ a c x. elim (kind_decided a.entity c.entity) [ inl k ↦ k | inr n ↦ absurd (none (broken (qualified path a.name) (lost.Kind (sort_of a.entity) (sort_of c.entity))) (object_of_other_kind path a c x n refl)) ];
      constants = λ a c x. elim (constant_decided a.entity c.entity) [ inl k ↦ k | inr n ↦ absurd (none (broken (qualified path a.name) (lost.Constant path a.entity c.entity)) (constant_apart path a c x n refl)) ];
    }

pub paths_kept : (old new : Packages) → IsWorld old → IsWorld new → (bs : List Break) → ((b : Break) → Has bs b ↔ IsPackageBreak old new b) → bs ≡ [] → (path : List ℕ) → KeepsPath old new path
paths_kept old new world later bs x e path = path_keeps old new world later (λ b k. subst (λ (w : List Break). Has w b) e ((x b).1 k)) path

pub paths_begun : (old new : Packages) (bs : List Break) → bs ≡ [] → Grows (OfSome (IsOfPath old new) []) [] bs
paths_begun old new bs e = subst (Grows (OfSome (IsOfPath old new) []) []) (sym e) (of_none (IsOfPath old new) [])

pub paths_exact : (old new : Packages) → IsWorld old → IsWorld new → (paths : List (List ℕ)) (n : ℕ) (bs : List Break) → paths ≡ old.publics → length paths ≤ n → Grows (OfSome (IsOfPath old new) (take n paths)) [] bs → (b : Break) → Has bs b ↔ IsPackageBreak old new b
paths_exact old new world later paths n bs e h g = packages_exact old new world later bs (subst (λ (w : List (List ℕ)). Grows (OfSome (IsOfPath old new) w) [] bs) (take_past n paths h ∙ e) g)
