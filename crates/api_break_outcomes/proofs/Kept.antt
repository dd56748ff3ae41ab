-- Where nothing is broken, a new world keeps all of the old one.
use Rattle.std.proofs.Common.{◌≡◌, ◌⊎◌, ℕ, List, [], ◌∷◌, Some, refl, sym, ap, ◌∙◌, subst, inl, inr}
use Rattle.api_break_outcomes.proofs.BreakSets.{Shown, shown_finite}
use Rattle.api_break_outcomes.proofs.Losses.{finds, in_set, sels}
use Rattle.api_breaks.specs.Breaks.{IsBreak, IsLoss, IsLossAmong, broken, constant_apart, field_gone, interface_method_gone, interface_method_new, method_gone, not_apart, not_comparable, not_implementing, not_selectable, object_gone, object_of_other_kind, of_packages, of_pair, of_pairs, package_gone, package_renamed, pointer_method_gone, pointer_not_implementing, sealing_apart, types_apart, underlying_apart}
use Rattle.api_breaks.specs.declared.broken.Break.{Break}
use Rattle.api_breaks.specs.declared.broken.Lost.{Lost}
use Rattle.api_correspond.specs.OwnedPairs.{IsOwned, Owned}
use Rattle.api_correspond.specs.Publics.{Exports, IsPublic, package_at, types_of}
use Rattle.api_correspond.specs.Rules.{Compatible, CoversApart, CoversComparable, CoversField, CoversImplementing, CoversInSet, CoversInterfaceMethod, CoversInterfaces, CoversName, CoversObject, CoversObjects, CoversOpen, CoversPackage, CoversSelectable, CoversUnderlying, KeepsAmong, KeepsApart, KeepsComparable, KeepsConstant, KeepsField, KeepsImplementing, KeepsInSet, KeepsInterfaceMethod, KeepsKind, KeepsName, KeepsObject, KeepsOpen, KeepsPackage, KeepsPair, KeepsSealing, KeepsSelectable, KeepsType, KeepsUnderlying}
use Rattle.api_pair_outcomes.proofs.OwnedPairs.{owned_finite}
use Rattle.go_base.specs.Lists.{Has}
use Rattle.go_type_images.specs.declared.pair.TypePair.{TypePair}
use Rattle.go_existence.specs.Existence.{AreFinite, NotNone}
use Rattle.go_existence.proofs.DoubleNegation.{bind, so}
use Rattle.go_existence.proofs.FiniteSets.{finite_image, finite_in, finite_less, finite_list, finite_one, finite_over, of_all, whenever}
use Rattle.go_model.specs.declared.types.found.FieldFound.{FieldFound}
use Rattle.go_model.specs.declared.types.found.Found.{Found}
use Rattle.go_model.specs.declared.types.found.Found.TheVariants.{FieldAt}
use Rattle.go_model.specs.declared.types.names.Sel.{Sel}
use Rattle.go_model.specs.declared.types.package.Object.{Object}
use Rattle.go_model.specs.declared.types.package.Package.{Package}
use Rattle.go_model.specs.declared.types.term.Field.{Field}
use Rattle.go_model.specs.declared.types.term.Method.{Method}
use Rattle.go_model.specs.declared.types.term.Signature.{Signature}
use Rattle.go_model.specs.declared.types.term.Term.{Term}
use Rattle.go_model.specs.types.MethodSets.{InSet}
use Rattle.go_model.specs.types.Selectors.{Finds}
use Rattle.go_model.specs.types.Terms.{pointer_to}
use Rattle.go_model.specs.types.Underlying.{fields_of, methods_of, under}
use Rattle.go_model.specs.worlds.Worlds.{Packages}
use Rattle.go_selectors.proofs.UniqueFind.{found_once, signature_once}

some_once : {A : Type 0} (c : _) (x y : A) → c ≡ Some x → c ≡ Some y → x ≡ y
some_once c x y e f = let g : ◌≡◌ (Some x) (Some y) = sym e ∙ f in cc

field_once : (f g : FieldFound) → ◌≡◌ {A = Found} (FieldAt f) (FieldAt g) → f ≡ g
field_once f g e = cc

module _ (old new : Packages) (whole : (b : Break) → IsBreak old new b → ⊥) where
  -- ---- packages and objects

  abbrev Names : List ℕ × Package × Package → Type 0
  Names k = CoversName old new k.0 k.1 k.2

  abbrev NamesAt : List ℕ → List ℕ × Package × Package → Type 0
  NamesAt path k = Names k × (k.0 ≡ path)

  same_names : (path : List ℕ) (k l : List ℕ × Package × Package) → NamesAt path k → NamesAt path l → k ≡ l
  same_names path k l a b =
      let e : k.0 ≡ l.0 = a.1 ∙ sym b.1 in
      let f : k.1 ≡ l.1 = some_once (package_at old l.0) k.1 l.1 (ap (package_at old) (sym e) ∙ a.0.before) b.0.before in
      let g : k.2 ≡ l.2 = some_once (package_at new l.0) k.2 l.2 (ap (package_at new) (sym e) ∙ a.0.after) b.0.after in
      λ i. (e i, f i, g i)

  names_finite : AreFinite Names
  names_finite =
      finite_less Names (λ k. (path : List ℕ) × Has old.publics path × NamesAt path k) (λ k c. (k.0, c.shown, (c, refl)))
      (finite_over (Has old.publics) NamesAt (finite_list old.publics) (λ path h. finite_one (NamesAt path) (same_names path)))

  abbrev OneObject : List ℕ × Object → Type 0
  OneObject k = CoversObject old new k.0 k.1

  abbrev Objects : List ℕ × Object × Object → Type 0
  Objects k = CoversObjects old new k.0 k.1 k.2

  abbrev With : List ℕ × Object → List ℕ × Object × Object → Type 0
  With m k = (n : List ℕ × Object) × Exports new n.0 n.1 × ((m.0, m.1, n.1) ≡ k)

  objects_finite : AreFinite Objects
  objects_finite =
      finite_less Objects (λ k. (m : List ℕ × Object) × Exports old m.0 m.1 × With m k) (λ k c. ((k.0, k.1), c.before, ((k.0, k.2), c.after, refl)))
      (finite_over (Shown old) With (shown_finite old) (λ m h. finite_image (λ (n : List ℕ × Object). (m.0, m.1, n.1)) (Shown new) (shown_finite new)))

  record Paths : Type 0 where
    pub packages : (path : List ℕ) → CoversPackage old path → KeepsPackage new path
    pub names : (k : List ℕ × Package × Package) → Names k → KeepsName k.1 k.2
    pub one : (k : List ℕ × Object) → OneObject k → KeepsObject new k.0 k.1
    pub kinds : (k : List ℕ × Object × Object) → Objects k → KeepsKind k.1.entity k.2.entity
    pub constants : (k : List ℕ × Object × Object) → Objects k → KeepsConstant k.1.entity k.2.entity

  paths_kept : NotNone Paths
  paths_kept =
      bind (of_all (CoversPackage old) (KeepsPackage new) (finite_list old.publics) (λ path c. λ n. whole _ (of_packages (package_gone path c n refl)))) (λ a.
      bind (of_all Names (λ k. KeepsName k.1 k.2) names_finite (λ k c. λ n. whole _ (of_packages (package_renamed k.0 k.1 k.2 c n refl)))) (λ b.
      bind (of_all OneObject (λ k. KeepsObject new k.0 k.1) (finite_less OneObject (Shown old) (λ k c. c.exported) (shown_finite old)) (λ k c. λ n. whole _ (of_packages (object_gone k.0 k.1 c n refl)))) (λ d.
      bind (of_all Objects (λ k. KeepsKind k.1.entity k.2.entity) objects_finite (λ k c. λ n. whole _ (of_packages (object_of_other_kind k.0 k.1 k.2 c n refl)))) (λ e.
      so (of_all Objects (λ k. KeepsConstant k.1.entity k.2.entity) objects_finite (λ k c. λ n. whole _ (of_packages (constant_apart k.0 k.1 k.2 c n refl)))) (λ f.
      record { packages = a; names = b; one = d; kinds = e; constants = f })))))

  -- ---- pairs

  module _ (p : TypePair) (owner : List ℕ) (owned : Owned old new owner p) where
    lost : (l : Lost) → IsLoss old new p l → ⊥
    lost l k = whole (broken owner l) (of_pair owner p l owned k refl)

    lost_among : (l : Lost) → IsLossAmong old new p l → ⊥
    lost_among l k = whole (broken owner l) (of_pairs owner p l owned k refl)

    abbrev Selects : Sel × FieldFound → Type 0
    Selects k = CoversSelectable old new p k.0 k.1

    abbrev SelectsAt : Sel → Sel × FieldFound → Type 0
    SelectsAt s k = Selects k × (k.0 ≡ s)

    same_selects : (s : Sel) (k l : Sel × FieldFound) → SelectsAt s k → SelectsAt s l → k ≡ l
    same_selects s k l a b =
        let e : k.0 ≡ l.0 = a.1 ∙ sym b.1 in
        let f : k.1 ≡ l.1 = field_once k.1 l.1 (found_once (types_of old) l.0 p.old (FieldAt k.1) (FieldAt l.1) (subst (λ (s : Sel). Finds (types_of old) s p.old (FieldAt k.1)) e a.0.found) b.0.found) in
        λ i. (e i, f i)

    selects_finite : AreFinite Selects
    selects_finite =
        finite_less Selects (λ k. (s : Sel) × Has (sels old p.old) s × SelectsAt s k) (λ k c. (k.0, finds old p.old k.0 k.1 c.found, (c, refl)))
        (finite_over (Has (sels old p.old)) SelectsAt (finite_list (sels old p.old)) (λ s h. finite_one (SelectsAt s) (same_selects s)))

    abbrev InSets : Term → Sel × Signature → Type 0
    InSets t k = CoversInSet old new p t k.0 k.1

    abbrev InSetsAt : Term → Sel → Sel × Signature → Type 0
    InSetsAt t s k = InSets t k × (k.0 ≡ s)

    same_in_sets : (t : Term) (s : Sel) (k l : Sel × Signature) → InSetsAt t s k → InSetsAt t s l → k ≡ l
    same_in_sets t s k l a b =
        let e : k.0 ≡ l.0 = a.1 ∙ sym b.1 in
        let f : k.1 ≡ l.1 = signature_once (types_of old) l.0 t k.1 l.1 (subst (λ (s : Sel). InSet (types_of old) t s k.1) e a.0.there) b.0.there in
        λ i. (e i, f i)

    in_sets_finite : (t : Term) → AreFinite (InSets t)
    in_sets_finite t =
        finite_less (InSets t) (λ k. (s : Sel) × Has (sels old t) s × InSetsAt t s k) (λ k c. (k.0, in_set old t k.0 k.1 c.there, (c, refl)))
        (finite_over (Has (sels old t)) (InSetsAt t) (finite_list (sels old t)) (λ s h. finite_one (InSetsAt t s) (same_in_sets t s)))

    pair_kept : NotNone (KeepsPair old new p)
    pair_kept =
        bind {A = KeepsType old new p} (λ n. lost _ (types_apart n refl)) (λ a.
        bind (whenever (CoversUnderlying old new p) {B = KeepsUnderlying old new p} (λ c. λ n. lost _ (underlying_apart c n refl))) (λ b.
        bind (of_all (CoversField old new p) (KeepsField new p) (finite_in (CoversField old new p) (fields_of (under (types_of old) p.old)) (λ f c. c.there)) (λ f c. λ n. lost _ (field_gone f c n refl))) (λ d.
        bind (of_all Selects (λ k. KeepsSelectable new p k.0 k.1) selects_finite (λ k c. λ n. lost _ (not_selectable k.0 k.1 c n refl))) (λ e.
        bind (whenever (CoversComparable old new p) {B = KeepsComparable new p} (λ c. λ n. lost _ (not_comparable c n refl))) (λ f.
        bind (whenever (CoversInterfaces old new p) {B = KeepsSealing old new p} (λ c. λ n. lost _ (sealing_apart c n refl))) (λ g.
        bind (of_all (CoversInterfaceMethod old new p) (KeepsInterfaceMethod old new p) (finite_in (CoversInterfaceMethod old new p) (methods_of (under (types_of old) p.old)) (λ m c. c.there)) (λ m c. λ n. lost _ (interface_method_gone m c n refl))) (λ h.
        bind (of_all (CoversOpen old new p) (KeepsOpen old p) (finite_in (CoversOpen old new p) (methods_of (under (types_of new) p.new)) (λ m c. c.there)) (λ m c. λ n. lost _ (interface_method_new m c n refl))) (λ i.
        bind (of_all (InSets p.old) (λ k. KeepsInSet old new p.new k.0 k.1) (in_sets_finite p.old) (λ k c. λ n. lost _ (method_gone k.0 k.1 c n refl))) (λ j.
        so (of_all (InSets (pointer_to p.old)) (λ k. KeepsInSet old new (pointer_to p.new) k.0 k.1) (in_sets_finite (pointer_to p.old)) (λ k c. λ n. lost _ (pointer_method_gone k.0 k.1 c n refl))) (λ k.
        record {
          types = a;
          underlying = b;
          fields = d;
          selectable = λ s f. e (s, f);
          comparable = f;
          sealing = g;
          interface_methods = h;
          open_interfaces = i;
          method_sets = λ s g. j (s, g);
          pointer_sets = λ s g. k (s, g);
        }))))))))))

    abbrev Implementing : Term → TypePair → Type 0
    Implementing t i = CoversImplementing old new t i

    implementing_finite : (t : Term) → AreFinite (Implementing t)
    implementing_finite t = finite_less (Implementing t) (IsOwned old new) (λ i c. c.sealed.owned) (owned_finite old new)

    among_kept : NotNone (KeepsAmong old new p)
    among_kept =
        bind (of_all (Implementing p.old) (KeepsImplementing new p.new) (implementing_finite p.old) (λ i c. λ n. lost_among _ (not_implementing i c n refl))) (λ a.
        bind (of_all (Implementing (pointer_to p.old)) (KeepsImplementing new (pointer_to p.new)) (implementing_finite (pointer_to p.old)) (λ i c. λ n. lost_among _ (pointer_not_implementing i c n refl))) (λ b.
        so (of_all (CoversApart old new p) (KeepsApart p) (finite_less (CoversApart old new p) (IsOwned old new) (λ q c. c.owned) (owned_finite old new)) (λ q c. λ n. lost_among _ (not_apart q c n refl))) (λ d.
        record { implements = a; pointer_implements = b; one_to_one = d })))

    both_kept : NotNone (KeepsPair old new p × KeepsAmong old new p)
    both_kept = bind pair_kept (λ a. so among_kept (λ b. (a, b)))

  pub all_kept : NotNone (Compatible old new)
  all_kept =
      bind paths_kept (λ a. so (of_all (IsOwned old new) (λ p. KeepsPair old new p × KeepsAmong old new p) (owned_finite old new) (λ p w. both_kept p w.0 w.1)) (λ b.
      record {
        paths = λ path. record {
          package_kept = a.packages path;
          name_kept = λ p q. a.names (path, p, q);
          objects = λ o. a.one (path, o);
          kinds = λ o q. a.kinds (path, o, q);
          constants = λ o q. a.constants (path, o, q);
        };
        pairs = b;
      }))
