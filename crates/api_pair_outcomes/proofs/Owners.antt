-- Finitely many owners have pairs of types.
use Rattle.std.proofs.Common.{◌≡◌, ◌⊎◌, ℕ, Bool, true, false, List, [], ◌∷◌, ◌++◌, map, Option, Some, None, refl, sym, ap, ◌∙◌, subst, inl, inr}
use Rattle.api_correspond.specs.OwnedPairs.{FromObject, Owned, from_object, led_to}
use Rattle.api_correspond.specs.Publics.{Exports, IsOwner, by_leader, by_name, package_at, qualified}
use Rattle.go_type_images.specs.declared.pair.TypePair.{TypePair}
use Rattle.api_pair_outcomes.proofs.OwnedPairs.{object_in, owned_in, owned_finite}
use Rattle.api_pair_outcomes.proofs.TypesWithin.{has_gathered}
use Rattle.api_pair_outcomes.proofs.WorldTypes.{all_types, exported_there}
use Rattle.go_base.specs.Gathered.{gather}
use Rattle.go_base.specs.Lists.{Has}
use Rattle.go_existence.specs.Existence.{AreFinite}
use Rattle.go_existence.proofs.DoubleNegation.{so}
use Rattle.go_existence.proofs.FiniteSets.{finite_image, finite_in, finite_less, finite_list, finite_over, has_left, has_map, has_right}
use Rattle.go_model.specs.declared.types.names.TypeName.{TypeName}
use Rattle.go_model.specs.declared.types.package.Object.{Object}
use Rattle.go_model.specs.declared.types.package.Package.{Package}
use Rattle.go_model.specs.declared.types.term.Term.{Term, Term-F, out-Term}
use Rattle.go_model.specs.types.Terms.{Layer}
use Rattle.go_model.specs.worlds.Worlds.{Packages}

abbrev named_owner : Layer → List (List ℕ)
named_owner (Term-F.Named n) = qualified n.path n.name ∷ []
named_owner l = []

abbrev type_owner : Term → List (List ℕ)
type_owner t = named_owner (out-Term t)

abbrev object_owner : Package → Object → List ℕ
object_owner p o = qualified p.path o.name

abbrev package_owners : Package → List (List ℕ)
package_owners p = map (object_owner p) p.objects

module _ (old new : Packages) where
  abbrev owners : List (List ℕ)
  owners = gather package_owners old.packages ++ gather type_owner (all_types old)

  of_object : (path : List ℕ) (o : Object) → Exports old path o → Has owners (qualified path o.name)
  of_object path o x =
      let k = exported_there old path o x in
      subst (λ (q : List ℕ). Has owners (qualified q o.name)) k.3
      (has_left (gather package_owners old.packages) (gather type_owner (all_types old)) (qualified k.0.path o.name) (has_gathered package_owners old.packages k.0 (qualified k.0.path o.name) k.1 (has_map (object_owner k.0) k.0.objects o k.2)))

  of_owner : (leader : List ℕ) (t : Term) (owner : List ℕ) → Has (all_types old) t → Has owners leader → IsOwner old leader t owner → Has owners owner
  of_owner leader t owner h k (by_name {n = n} e s) =
      has_right (gather package_owners old.packages) (gather type_owner (all_types old)) (qualified n.path n.name)
      (has_gathered type_owner (all_types old) t (qualified n.path n.name) h (subst (λ (l : Layer). Has (named_owner l) (qualified n.path n.name)) (sym e) (inl refl)))
  of_owner leader t owner h k (by_leader n) = k

  owner_in : (owner : List ℕ) (p : TypePair) → Owned old new owner p → Has owners owner
  owner_in owner all (from_object {name = name} {p = p} f o) =
      of_owner name p.old owner (object_in old new name p f).0 (subst (Has owners) (sym f.named) (of_object f.path f.before f.exported)) o
  owner_in owner all (led_to {leader = leader} {p = p} {q = q} w l o) = of_owner leader q.old owner (owned_in old new owner q (led_to w l o)).0 (owner_in leader p w) o

  abbrev IsOwnedBy : List ℕ × TypePair → Type 0
  IsOwnedBy k = Owned old new k.0 k.1

  abbrev IsSome : TypePair → Type 0
  IsSome p = (owner : List ℕ) × Owned old new owner p

  abbrev Of : List ℕ → List ℕ × TypePair → Type 0
  Of owner k = (p : TypePair) × IsSome p × ((owner, p) ≡ k)

  pub owned_by_finite : AreFinite (λ (k : List ℕ × TypePair). Owned old new k.0 k.1)
  owned_by_finite =
      finite_less IsOwnedBy (λ k. (owner : List ℕ) × Has owners owner × Of owner k) (λ k w. (k.0, owner_in k.0 k.1 w, (k.1, (k.0, w), refl)))
      (finite_over (Has owners) Of (finite_list owners) (λ owner h. finite_image (λ (p : TypePair). (owner, p)) IsSome (owned_finite old new)))
