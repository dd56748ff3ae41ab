-- A package is offered as one package.
use Rattle.std.proofs.Common.{◌≡◌, ℕ, true, List, [], ◌∷◌, Option, Some, None, map, refl, sym, ap, ◌∙◌, subst}
use Rattle.std.specs.List.{AllByRecursion}
use Rattle.std.specs.List.Sorted.{IsStrictlySortedBy}
use Rattle.std.specs.Ordering.{is_lt, nat_cmp, ordering_reverse, ordering_then}
use Rattle.std.specs.declared.cmp.Ordering.{Ordering}
use Rattle.std.specs.declared.cmp.Ordering.TheVariants.{Less, Equal, Greater}
use Rattle.std.specs.Cmp.Lexicographic.{slice_cmp}
use Rattle.std.proofs.lemmas.Cmp.{nat_list_cmp_total}
use Rattle.go_base.specs.Keys.{first_with}
use Rattle.go_base.specs.Lists.{Each, Has}
use Rattle.go_base.proofs.Ordered.{first_key}
use Rattle.go_model.specs.declared.types.names.Sel.{Sel}
use Rattle.go_model.specs.declared.types.package.Defined.{Defined}
use Rattle.go_model.specs.declared.types.package.MethodOf.{MethodOf}
use Rattle.go_model.specs.declared.types.package.Object.{Object}
use Rattle.go_model.specs.declared.types.package.Package.{Package}
use Rattle.go_model.specs.types.MethodSets.{sel_order}
use Rattle.go_model.specs.worlds.Worlds.{declared_sel, name_of, object_name}
use Rattle.go_typings.specs.go_rules.Scopes.{entity_of}
use Rattle.go_typings.proofs.go_rules_proofs.OneKind.{no_truth}
use Rattle.go_typings.specs.PackageEnvironments.{Entries, own_defined}
use Rattle.go_typings.specs.Sources.{PackageSource, Setting}
use Rattle.go_typings.specs.TypedPackages.{AreOrdered, IsOrdered}
use Rattle.go_typings.proofs.Cells.{none_some, some_once}
use Rattle.go_typings.proofs.OnePackage.{Earlier, InOrder, earlier_one_way, found, in_order, one_in_order}
use Rattle.go_typings.proofs.ReachedRegion.{first_has}
use Rattle.go_exposed.specs.OfferedPackages.{IsOfferedAs, IsPackageOf}
use Rattle.go_exposed.proofs.OneKeptSet.{one_entries}

-- ---- objects

same_object : (c : Option Object) (o : Object) → ((p : Object) → c ≡ Some p → p.name ≡ o.name) → entity_of c ≡ Some o.entity → c ≡ Some o
same_object None o h e = none_some (entity_of None) o.entity refl e
same_object (Some p) o h e = let n = h p refl in let x = some_once p.entity o.entity e in λ i. Some (record { name = n i; entity = x i })

module _ (xs ys : List Object) (h : InOrder (Earlier object_name) (earlier_one_way object_name) xs) (same : (name : List ℕ) → entity_of (first_with object_name xs name) ≡ entity_of (first_with object_name ys name)) where
  object_there : (o : Object) → Has xs o → Has ys o
  object_there o k =
      let e = sym (same o.name) ∙ ap entity_of (found object_name xs o h k) in
      first_has object_name ys o.name o (same_object (first_with object_name ys o.name) o (λ p f. first_key object_name ys o.name p (sym f)) e)

-- ---- defined types

not_both : (o : Ordering) → is_lt o ≡ true → is_lt (ordering_reverse o) ≡ true → ⊥
not_both Less e d = no_truth (sym d)
not_both Equal e d = no_truth (sym e)
not_both Greater e d = no_truth (sym e)

reversed : (x y : Ordering) → ordering_then (ordering_reverse x) (ordering_reverse y) ≡ ordering_reverse (ordering_then x y)
reversed Less y = refl
reversed Equal y = refl
reversed Greater y = refl

sels_one_way : (a b : Sel) → sel_order a b ≡ Less → sel_order b a ≡ Less → ⊥
sels_one_way a b e d =
    let name = nat_list_cmp_total.antisymm b.name a.name in
    let path = nat_list_cmp_total.antisymm b.«package» a.«package» in
    let turned = (λ i. ordering_then (name i) (path i)) ∙ reversed (slice_cmp nat_cmp a.name b.name) (slice_cmp nat_cmp a.«package» b.«package») in
    not_both (sel_order a b) (ap is_lt e) (ap is_lt (sym turned ∙ d))

abbrev ByMethod : MethodOf → MethodOf → Type 0
ByMethod m n = sel_order m.sel n.sel ≡ Less

methods_one_way : (m n : MethodOf) → ByMethod m n → ByMethod n m → ⊥
methods_one_way m n = sels_one_way m.sel n.sel

each_method : (m : MethodOf) (ms : List MethodOf) → AllByRecursion (λ y. sel_order m.sel y ≡ Less) (map declared_sel ms) → Each (ByMethod m) ms
each_method m [] h = tt
each_method m (n ∷ ns) h = (h.0, each_method m ns h.1)

methods_in_order : (ms : List MethodOf) → IsStrictlySortedBy sel_order (map declared_sel ms) → InOrder ByMethod methods_one_way ms
unfolding IsStrictlySortedBy
methods_in_order [] h = tt
methods_in_order (m ∷ ms) h = (each_method m ms h.0, methods_in_order ms h.1)

one_defined : (d e had : Defined) → IsOrdered d had → IsOrdered e had → d ≡ e
one_defined d e had a b =
    let n = a.name ∙ sym b.name in
    let u = a.underlying ∙ sym b.underlying in
    let m = one_in_order ByMethod methods_one_way d.methods e.methods (methods_in_order d.methods a.ordered) (methods_in_order e.methods b.ordered) (λ z k. (b.same z).1 ((a.same z).0 k)) (λ z k. (a.same z).1 ((b.same z).0 k)) in
    λ i. record { name = n i; underlying = u i; methods = m i }

same_defined : (c d w : Option Defined) → AreOrdered c w → AreOrdered d w → c ≡ d
same_defined None None w a b = refl
same_defined None (Some e) None a b = absurd b
same_defined None (Some e) (Some had) a b = absurd a
same_defined (Some d) None None a b = absurd a
same_defined (Some d) None (Some had) a b = absurd b
same_defined (Some d) (Some e) None a b = absurd a
same_defined (Some d) (Some e) (Some had) a b = ap Some (one_defined d e had a b)

module _ (xs ys : List Defined) (h : InOrder (Earlier name_of) (earlier_one_way name_of) xs) (same : (name : List ℕ) → first_with name_of xs name ≡ first_with name_of ys name) where
  defined_there : (d : Defined) → Has xs d → Has ys d
  defined_there d k = first_has name_of ys d.name d (sym (same d.name) ∙ found name_of xs d h k)

-- ---- packages

module _ (u : PackageSource) (a : Entries) where
  one_package_of : (p q : Package) → IsPackageOf u a p → IsPackageOf u a q → p ≡ q
  one_package_of p q x y =
      let h = in_order object_name p.objects x.objects_ordered in
      let k = in_order object_name q.objects y.objects_ordered in
      let same = λ (name : List ℕ). x.objects name ∙ sym (y.objects name) in
      let os = one_in_order (Earlier object_name) (earlier_one_way object_name) p.objects q.objects h k (object_there p.objects q.objects h same) (object_there q.objects p.objects k (λ name. sym (same name))) in
      let f = in_order name_of p.defined x.defined_ordered in
      let g = in_order name_of q.defined y.defined_ordered in
      let alike = λ (name : List ℕ). same_defined (first_with name_of p.defined name) (first_with name_of q.defined name) (own_defined u a name) (x.defined name) (y.defined name) in
      let ds = one_in_order (Earlier name_of) (earlier_one_way name_of) p.defined q.defined f g (defined_there p.defined q.defined f alike) (defined_there q.defined p.defined g (λ name. sym (alike name))) in
      let path = x.path ∙ sym y.path in
      let name = x.name ∙ sym y.name in
      let std = x.from_std ∙ sym y.from_std in
      λ i. record { path = path i; name = name i; from_std = std i; objects = os i; defined = ds i }

pub one_offer : (s : Setting) (u : PackageSource) (p q : Package) → IsOfferedAs s u p → IsOfferedAs s u q → p ≡ q
one_offer s u p q x y =
    let e : y.entries ≡ x.entries = λ i n. one_entries s u y.within x.within y.entries x.entries y.kept x.kept n i in
    one_package_of u x.entries p q x.«package» (subst (λ z. IsPackageOf u z q) e y.«package»)
