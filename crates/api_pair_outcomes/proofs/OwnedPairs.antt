-- Finitely many pairs of types have an owner.
use Rattle.std.proofs.Common.{◌≡◌, ◌⊎◌, ℕ, List, [], ◌∷◌, map, refl, sym, subst, inl, inr}
use Rattle.api_correspond.specs.Outermost.{pair, side_by_side}
use Rattle.go_type_images.specs.Parts.{parts}
use Rattle.api_correspond.specs.OwnedPairs.{FromObject, Leads, Owned, from_object, led_to, receiver, receiver_layer, to_field, to_method, to_part, to_part_underneath, to_promoted_field}
use Rattle.api_correspond.specs.Publics.{types_of}
use Rattle.go_type_images.specs.declared.pair.TypePair.{TypePair}
use Rattle.api_pair_outcomes.proofs.TypesOnPaths.{IsBegun, begun, field_found, field_held, method_found, pointer_begun, under_held}
use Rattle.api_pair_outcomes.proofs.TypesWithin.{has_gathered}
use Rattle.api_pair_outcomes.proofs.WorldTypes.{IsIn, all_types, closed, entity_pair, exported_in, known}
use Rattle.go_base.specs.Gathered.{gather}
use Rattle.go_base.specs.Lists.{Has}
use Rattle.go_existence.specs.Existence.{AreFinite}
use Rattle.go_existence.proofs.FiniteSets.{finite_in, finite_less, has_map}
use Rattle.go_model.specs.declared.types.term.Term.{Term, Term-F, out-Term}
use Rattle.go_model.specs.types.Terms.{Layer, pointer_to}
use Rattle.go_model.specs.types.Underlying.{under}
use Rattle.go_model.specs.worlds.Worlds.{Packages}

beside : (xs ys : List Term) (q : TypePair) → Has (side_by_side xs ys) q → Has xs q.old × Has ys q.new
beside [] ys q h = absurd h
beside (x ∷ xs) [] q h = absurd h
beside (x ∷ xs) (y ∷ ys) q (inl e) = (inl (λ i. (e i).old), inl (λ i. (e i).new))
beside (x ∷ xs) (y ∷ ys) q (inr h) = let r = beside xs ys q h in (inr r.0, inr r.1)

module _ (w : Packages) where
  abbrev Begun : Term → Type 0
  Begun t = IsBegun (types_of w) (IsIn w) (closed w) (known w) t

  receiver_by : (t : Term) (l : Layer) → IsIn w t → Begun (receiver_layer t l)
  receiver_by t (Term-F.Interface ms) k = begun (types_of w) (IsIn w) (closed w) (known w) t k
  receiver_by t (Term-F.Plain b) k = pointer_begun (types_of w) (IsIn w) (closed w) (known w) t k
  receiver_by t (Term-F.Named n) k = pointer_begun (types_of w) (IsIn w) (closed w) (known w) t k
  receiver_by t (Term-F.Pointer e) k = pointer_begun (types_of w) (IsIn w) (closed w) (known w) t k
  receiver_by t (Term-F.Slice e) k = pointer_begun (types_of w) (IsIn w) (closed w) (known w) t k
  receiver_by t (Term-F.Array n e) k = pointer_begun (types_of w) (IsIn w) (closed w) (known w) t k
  receiver_by t (Term-F.Map m e) k = pointer_begun (types_of w) (IsIn w) (closed w) (known w) t k
  receiver_by t (Term-F.Chan d e) k = pointer_begun (types_of w) (IsIn w) (closed w) (known w) t k
  receiver_by t (Term-F.Func g) k = pointer_begun (types_of w) (IsIn w) (closed w) (known w) t k
  receiver_by t (Term-F.Struct fs) k = pointer_begun (types_of w) (IsIn w) (closed w) (known w) t k

  below : (t : Term) → IsIn w t → (q : Term) → Has (parts (under (types_of w) t)) q → IsIn w q
  below t k q h = under_held (types_of w) (IsIn w) (closed w) (known w) t k q h

module _ (old new : Packages) where
  abbrev pub AreIn : TypePair → Type 0
  AreIn p = IsIn old p.old × IsIn new p.new

  pub leads_in : (p q : TypePair) → AreIn p → Leads old new p q → AreIn q
  leads_in p all k (to_part {q = q} m h) = let b = beside (parts (out-Term p.old)) (parts (out-Term p.new)) q h in (closed old p.old q.old k.0 b.0, closed new p.new q.new k.1 b.1)
  leads_in p all k (to_part_underneath {q = q} o m s h) =
      let b = beside (parts (under (types_of old) p.old)) (parts (under (types_of new) p.new)) q h in (below old p.old k.0 q.old b.0, below new p.new k.1 q.new b.1)
  leads_in p q k (to_field f g o h i x s) = (
    field_held (types_of old) (IsIn old) (closed old) (known old) (under (types_of old) p.old) (below old p.old k.0) f h,
    field_held (types_of new) (IsIn new) (closed new) (known new) (under (types_of new) p.new) (below new p.new k.1) g i,
  )
  leads_in p q k (to_promoted_field s f g o x h d i) = (
    field_found (types_of old) (IsIn old) (closed old) (known old) s p.old f (begun (types_of old) (IsIn old) (closed old) (known old) p.old k.0) h,
    field_found (types_of new) (IsIn new) (closed new) (known new) s p.new g (begun (types_of new) (IsIn new) (closed new) (known new) p.new k.1) i,
  )
  leads_in p q k (to_method s g h o x i j) = (
    method_found (types_of old) (IsIn old) (closed old) (known old) s (receiver (types_of old) p.old) g (receiver_by old p.old (under (types_of old) p.old) k.0) i,
    method_found (types_of new) (IsIn new) (closed new) (known new) s (receiver (types_of new) p.new) h (receiver_by new p.new (under (types_of new) p.new) k.1) j,
  )

  pub object_in : (name : List ℕ) (p : TypePair) → FromObject old new name p → AreIn p
  object_in name p f =
      let e = entity_pair f.before.entity f.after.entity p f.types in
      (exported_in old f.path f.before p.old f.exported e.0, exported_in new f.path f.after p.new f.kept e.1)

  pub owned_in : (owner : List ℕ) (p : TypePair) → Owned old new owner p → AreIn p
  owned_in owner all (from_object {name = name} {p = p} f o) = object_in name p f
  owned_in owner all (led_to {leader = leader} {p = p} {q = q} w l o) = leads_in p q (owned_in leader p w) l

  abbrev with_new : Term → List TypePair
  with_new s = map (pair s) (all_types new)

  pub pairs_finite : AreFinite AreIn
  pairs_finite = finite_in AreIn (gather with_new (all_types old)) (λ p i. has_gathered with_new (all_types old) p.old p i.0 (has_map (pair p.old) (all_types new) p.new i.1))

  pub owned_finite : AreFinite (λ (p : TypePair). (owner : List ℕ) × Owned old new owner p)
  owned_finite = finite_less (λ (p : TypePair). (owner : List ℕ) × Owned old new owner p) AreIn (λ p k. owned_in k.0 p k.1) pairs_finite
