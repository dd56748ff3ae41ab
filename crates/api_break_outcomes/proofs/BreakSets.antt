-- Finitely much is broken.
use Rattle.std.proofs.Common.{◌≡◌, ◌⊎◌, ℕ, Bool, List, [], ◌∷◌, Some, refl, sym, ap, ◌∙◌, subst, inl, inr}
use Rattle.api_breaks.specs.Breaks.{IsBreak, IsLoss, IsLossAmong, IsPackageBreak, broken, constant_apart, not_apart, not_implementing, object_gone, object_of_other_kind, of_packages, of_pair, of_pairs, package_gone, package_renamed, pointer_not_implementing, sort_of}
use Rattle.api_breaks.specs.declared.broken.Break.{Break}
use Rattle.api_breaks.specs.declared.broken.Lost.{Lost}
use Rattle.api_breaks.specs.declared.broken.Lost.TheVariants as lost
use Rattle.api_break_outcomes.proofs.Losses.{loss_listed, losses}
use Rattle.api_correspond.specs.OwnedPairs.{Owned}
use Rattle.api_correspond.specs.Publics.{Exports, package_at, qualified}
use Rattle.go_type_images.specs.declared.pair.TypePair.{TypePair}
use Rattle.api_pair_outcomes.proofs.Owners.{owned_by_finite}
use Rattle.api_pair_outcomes.proofs.OwnedPairs.{owned_finite}
use Rattle.api_pair_outcomes.proofs.WorldTypes.{exported_there, package_there}
use Rattle.go_base.specs.Lists.{Has}
use Rattle.go_existence.specs.Existence.{AreFinite}
use Rattle.go_existence.proofs.FiniteSets.{finite_image, finite_in, finite_less, finite_list, finite_or, finite_over}
use Rattle.go_model.specs.declared.types.package.Object.{Object}
use Rattle.go_model.specs.declared.types.package.Package.{Package}
use Rattle.go_model.specs.worlds.Worlds.{Packages}

-- ---- exported objects

module _ (w : Packages) where
  abbrev pub Shown : List ℕ × Object → Type 0
  Shown k = Exports w k.0 k.1

  abbrev Of : Package → List ℕ × Object → Type 0
  Of p k = (o : Object) × Has p.objects o × ((p.path, o) ≡ k)

  pub shown_finite : AreFinite Shown
  shown_finite =
      finite_less Shown (λ k. (p : Package) × Has w.packages p × Of p k) (λ k x. let t = exported_there w k.0 k.1 x in (t.0, t.1, (k.1, t.2, λ i. (t.3 i, k.1))))
      (finite_over (Has w.packages) Of (finite_list w.packages) (λ p h. finite_image (λ (o : Object). (p.path, o)) (Has p.objects) (finite_list p.objects)))

module _ (old new : Packages) where
  -- ---- of packages and objects

  abbrev Renamed : List ℕ → Break → Type 0
  Renamed path b = (q : Package) × Has new.packages q × (broken path (lost.Name q.name) ≡ b)

  abbrev OfObjects : List ℕ × Object → Break → Type 0
  OfObjects k b = (m : List ℕ × Object) × Exports new m.0 m.1 × (broken (qualified k.0 k.1.name) (lost.Kind (sort_of k.1.entity) (sort_of m.1.entity)) ≡ b)

  abbrev OfConstants : List ℕ × Object → Break → Type 0
  OfConstants k b = (m : List ℕ × Object) × Exports new m.0 m.1 × (broken (qualified k.0 k.1.name) (lost.Constant k.0 k.1.entity m.1.entity) ≡ b)

  abbrev removed : List ℕ × Object → Break
  removed k = broken (qualified k.0 k.1.name) lost.Removed

  abbrev gone : List ℕ → Break
  gone path = broken path lost.Package

  abbrev Gone : Break → Type 0
  Gone b = (path : List ℕ) × Has old.publics path × (gone path ≡ b)

  abbrev AnyRenamed : Break → Type 0
  AnyRenamed b = (path : List ℕ) × Has old.publics path × Renamed path b

  abbrev AnyRemoved : Break → Type 0
  AnyRemoved b = (k : List ℕ × Object) × Exports old k.0 k.1 × (removed k ≡ b)

  abbrev AnyKind : Break → Type 0
  AnyKind b = (k : List ℕ × Object) × Exports old k.0 k.1 × OfObjects k b

  abbrev AnyConstant : Break → Type 0
  AnyConstant b = (k : List ℕ × Object) × Exports old k.0 k.1 × OfConstants k b

  abbrev AnyObject : Break → Type 0
  AnyObject b = AnyRemoved b ⊎ (AnyKind b ⊎ AnyConstant b)

  abbrev OfPackages : Break → Type 0
  OfPackages b = Gone b ⊎ (AnyRenamed b ⊎ AnyObject b)

  of_package : (b : Break) → IsPackageBreak old new b → OfPackages b
  of_package b (package_gone path s n e) = inl (path, s, e)
  of_package b (package_renamed path p q c n r) = inr (inl (path, c.shown, (q, package_there new path q c.after, r)))
  of_package b (object_gone path a c n r) = inr (inr (inl ((path, a), c.exported, r)))
  of_package b (object_of_other_kind path a d c n r) = inr (inr (inr (inl ((path, a), c.before, ((path, d), c.after, r)))))
  of_package b (constant_apart path a d c n r) = inr (inr (inr (inr ((path, a), c.before, ((path, d), c.after, r)))))

  packages_finite : AreFinite OfPackages
  packages_finite =
      finite_or Gone (λ b. AnyRenamed b ⊎ AnyObject b) (finite_image gone (Has old.publics) (finite_list old.publics))
      (finite_or AnyRenamed AnyObject (finite_over (Has old.publics) Renamed (finite_list old.publics) (λ path h. finite_image (λ (q : Package). broken path (lost.Name q.name)) (Has new.packages) (finite_list new.packages)))
      (finite_or AnyRemoved (λ b. AnyKind b ⊎ AnyConstant b) (finite_image removed (Shown old) (shown_finite old))
      (finite_or AnyKind AnyConstant
      (finite_over (Shown old) OfObjects (shown_finite old) (λ k h. finite_image (λ (m : List ℕ × Object). broken (qualified k.0 k.1.name) (lost.Kind (sort_of k.1.entity) (sort_of m.1.entity))) (Shown new) (shown_finite new)))
      (finite_over (Shown old) OfConstants (shown_finite old) (λ k h. finite_image (λ (m : List ℕ × Object). broken (qualified k.0 k.1.name) (lost.Constant k.0 k.1.entity m.1.entity)) (Shown new) (shown_finite new))))))

  -- ---- of pairs

  abbrev IsSome : TypePair → Type 0
  IsSome p = (owner : List ℕ) × Owned old new owner p

  abbrev Implementing : Lost → Type 0
  Implementing l = (i : TypePair) × IsSome i × (lost.Implements i.old ≡ l)

  among : (p : TypePair) (l : Lost) → IsLossAmong old new p l → Implementing l ⊎ (lost.OneToOne p.old p.new ≡ l)
  among p l (not_implementing i c n e) = inl (i, c.sealed.owned, e)
  among p l (pointer_not_implementing i c n e) = inl (i, c.sealed.owned, e)
  among p l (not_apart q c n e) = inr e

  among_finite : (p : TypePair) → AreFinite (IsLossAmong old new p)
  among_finite p =
      finite_less (IsLossAmong old new p) (λ l. Implementing l ⊎ (lost.OneToOne p.old p.new ≡ l)) (among p)
      (finite_or Implementing (λ l. lost.OneToOne p.old p.new ≡ l) (finite_image (λ (i : TypePair). lost.Implements i.old) IsSome (owned_finite old new))
      (finite_in (λ l. lost.OneToOne p.old p.new ≡ l) (lost.OneToOne p.old p.new ∷ []) (λ l e. inl e)))

  abbrev Loses : TypePair → Lost → Type 0
  Loses p l = IsLoss old new p l ⊎ IsLossAmong old new p l

  loses_finite : (p : TypePair) → AreFinite (Loses p)
  loses_finite p = finite_or (IsLoss old new p) (IsLossAmong old new p) (finite_in (IsLoss old new p) (losses old new p) (loss_listed old new p)) (among_finite p)

  abbrev OwnedBy : List ℕ × TypePair → Type 0
  OwnedBy k = Owned old new k.0 k.1

  abbrev OfOwned : List ℕ × TypePair → Break → Type 0
  OfOwned k b = (l : Lost) × Loses k.1 l × (broken k.0 l ≡ b)

  abbrev OfPairs : Break → Type 0
  OfPairs b = (k : List ℕ × TypePair) × OwnedBy k × OfOwned k b

  pairs_finite : AreFinite OfPairs
  pairs_finite = finite_over OwnedBy OfOwned (owned_by_finite old new) (λ k h. finite_image (broken k.0) (Loses k.1) (loses_finite k.1))

  of_break : (b : Break) → IsBreak old new b → OfPackages b ⊎ OfPairs b
  of_break b (of_packages k) = inl (of_package b k)
  of_break b (of_pair owner p l w k e) = inr ((owner, p), w, (l, inl k, e))
  of_break b (of_pairs owner p l w k e) = inr ((owner, p), w, (l, inr k, e))

  pub breaks_finite : AreFinite (IsBreak old new)
  breaks_finite = finite_less (IsBreak old new) (λ b. OfPackages b ⊎ OfPairs b) of_break (finite_or OfPackages OfPairs packages_finite pairs_finite)
