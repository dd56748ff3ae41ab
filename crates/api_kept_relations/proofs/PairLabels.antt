-- The old types of owned pairs have selectors of the old world, and methods by unexported selectors of the standard library as it does.
use Rattle.std.proofs.Common.{◌≡◌, ◌⊎◌, inl, inr, ℕ, Bool, true, false, List, [], ◌∷◌, refl, sym, ap, ◌∙◌, subst, Option, Some, None}
use Rattle.go_base.specs.Lists.{Has}
use Rattle.go_model.specs.declared.types.found.FieldFound.{FieldFound}
use Rattle.go_model.specs.declared.types.found.Found.TheVariants.{FieldAt}
use Rattle.go_model.specs.declared.types.names.Sel.{Sel}
use Rattle.go_model.specs.declared.types.package.ConstTerm.TheVariants as constant
use Rattle.go_model.specs.declared.types.package.Entity.{Entity}
use Rattle.go_model.specs.declared.types.package.Entity.TheVariants as entity
use Rattle.go_model.specs.declared.types.package.Object.{Object}
use Rattle.go_model.specs.declared.types.term.Method.{Method}
use Rattle.go_model.specs.declared.types.term.Signature.{Signature}
use Rattle.go_model.specs.declared.types.term.Term.{Term, Term-F, out-Term, out-roll-Term}
use Rattle.go_model.specs.types.MethodSets.{InSet, method_sel}
use Rattle.go_model.specs.types.Selectors.{Finds, field, method, start}
use Rattle.go_model.specs.types.Tables.{Table}
use Rattle.go_model.specs.types.Terms.{Layer, pointer_to}
use Rattle.go_model.specs.types.TypeSelectors.{Sels, selectors, signature_selectors}
use Rattle.go_model.specs.types.Underlying.{methods_of, under}
use Rattle.go_model.specs.worlds.PackageTypes.{of_entity}
use Rattle.go_model.specs.worlds.Worlds.{IsWorld, Packages}
use Rattle.go_type_images.specs.Parts.{function_type, parts}
use Rattle.go_type_images.specs.SpotImages.{at_spot}
use Rattle.go_type_images.specs.declared.pair.TypePair.{TypePair}
use Rattle.go_client_types.specs.Endings.{end_at}
use Rattle.go_shared_types.proofs.PartNames.{pointer_selectors, selectors_of_function}
use Rattle.go_shared_types.proofs.Regions as R
use Rattle.api_correspond.specs.Outermost.{pair, side_by_side}
use Rattle.api_correspond.specs.OwnedPairs.{Leads, to_part, to_part_underneath, to_field, to_promoted_field, to_method, Owned, from_object, led_to, receiver, receiver_layer, types_of_entities}
use Rattle.api_correspond.specs.Publics.{types_of}
use Rattle.api_correspond.specs.Rules.{is_std_sel}
use Rattle.api_kept_relations.specs.StdTypes.{EntityHasStdMethods, HasStdMethods, IsOfStd, StdMethodsStay, std_methods}
use Rattle.api_kept_relations.proofs.Labels as L

at_left : (us ts : List Term) (q : TypePair) → Has (side_by_side us ts) q → Has us q.old
at_left [] ts q h = absurd h
at_left (u ∷ us) [] q h = absurd h
at_left (u ∷ us) (t ∷ ts) q (inl e) = inl (ap (λ (z : TypePair). z.old) e)
at_left (u ∷ us) (t ∷ ts) q (inr h) = inr (at_left us ts q h)

old_of : (s t : Term) (p : TypePair) → Some (pair s t) ≡ Some p → s ≡ p.old
old_of s t p e = let f : pair s t ≡ p = cc in ap (λ (z : TypePair). z.old) f

module _ (w : Packages) (i : IsWorld w) (Y : StdMethodsStay w) where
  abbrev T : Table
  T = types_of w

  abbrev pub IsLabelled : Term → Type 0
  IsLabelled = L.IsLabelled w i Y

  pointer_labelled : (t : Term) → IsLabelled t → IsLabelled (pointer_to t)
  pointer_labelled t g = record {
    homes = λ s h. g.homes s (subst (λ (xs : Sels). Has xs s) (pointer_selectors t) h);
    methods = std_methods (λ m k x. absurd (subst (λ l. Has (methods_of l) m) (out-roll-Term (Term-F.Pointer t)) k)) (λ u k. of_one u (subst (λ l. Has (parts l) u) (out-roll-Term (Term-F.Pointer t)) k));
  }
    where
      of_one : (u : Term) → Has (t ∷ []) u → HasStdMethods w u
      of_one u (inl e) = subst (HasStdMethods w) e g.methods
      of_one u (inr k) = absurd k

  receiver_at : (t : Term) (l : Layer) → IsLabelled t → IsLabelled (receiver_layer t l)
  receiver_at t (Term-F.Interface ms) h = h
  receiver_at t l h = pointer_labelled t h

  -- ---- what is found

  found_field : (s : Sel) (t : Term) (f : FieldFound) → IsLabelled t → Finds T s t (FieldAt f) → IsLabelled f.term
  found_field s t f g k = (R.found_in T IsLabelled (L.IsHome w i Y) (L.IsStdOnly w i Y) (L.labelled w i Y) s k.0 (start T t) (end_at f.through_pointer (field f.term)) (R.start_in T IsLabelled (L.IsHome w i Y) (L.IsStdOnly w i Y) (L.labelled w i Y) t g) k.1).target

  method_of : (t : Term) (s : Sel) (g : Signature) → IsLabelled t → InSet T t s g → IsLabelled (function_type g)
  method_of t s g h k = (R.found_in T IsLabelled (L.IsHome w i Y) (L.IsStdOnly w i Y) (L.labelled w i Y) s k.depth (start T t) (end_at k.through (method k.owner k.pointer g)) (R.start_in T IsLabelled (L.IsHome w i Y) (L.IsStdOnly w i Y) (L.labelled w i Y) t h) k.only).target

  -- ---- objects

  function_labelled : (g : Signature) → ((s : Sel) → Has (signature_selectors g) s → L.IsHome w i Y s) → HasStdMethods w (function_type g) → IsLabelled (function_type g)
  function_labelled g h m = record { homes = λ s k. h s (subst (λ (xs : Sels). Has xs s) (selectors_of_function g) k); methods = m }

  of_entities : (a b : Entity) (p : TypePair) → ((s : Sel) → Has (of_entity selectors signature_selectors a) s → L.IsHome w i Y s) → EntityHasStdMethods w a → types_of_entities a b ≡ Some p → IsLabelled p.old
  of_entities (entity.Const (constant.OfTerm s) v) (entity.Const (constant.OfTerm t) x) p h m e = subst IsLabelled (old_of s t p e) (record { homes = h; methods = m })
  of_entities (entity.Var s) (entity.Var t) p h m e = subst IsLabelled (old_of s t p e) (record { homes = h; methods = m })
  of_entities (entity.Function g) (entity.Function k) p h m e = subst IsLabelled (old_of (function_type g) (function_type k) p e) (function_labelled g h m)
  of_entities (entity.Function g) (entity.Var t) p h m e = subst IsLabelled (old_of (function_type g) t p e) (function_labelled g h m)
  of_entities (entity.TypeOf s) (entity.TypeOf t) p h m e = subst IsLabelled (old_of s t p e) (record { homes = h; methods = m })
  of_entities a b p h m e = absurd (cc)

module _ (old new : Packages) (i : IsWorld old) (Y : StdMethodsStay old) where
  abbrev S : Table
  S = types_of old

  abbrev Good : Term → Type 0
  Good = L.IsLabelled old i Y

  led : (p q : TypePair) → Good p.old → Leads old new p q → Good q.old
  led p q h (to_part m k) = (L.labelled old i Y).inside p.old q.old h (at_left (parts (out-Term p.old)) (parts (out-Term p.new)) q k)
  led p q h (to_part_underneath o m n k) =
      let v = R.under_of S Good (L.IsHome old i Y) (L.IsStdOnly old i Y) (L.labelled old i Y) p.old h in
      (L.labelled old i Y).inside v.0 q.old v.1 (subst (λ l. Has (parts l) q.old) v.2 (at_left (parts (under S p.old)) (parts (under (types_of new) p.new)) q k))
  led p q h (to_field f g o k l x e) = (R.field_in S Good (L.IsHome old i Y) (L.IsStdOnly old i Y) (L.labelled old i Y) p.old f h k).0
  led p q h (to_promoted_field s f g o x k d l) = found_field old i Y s p.old f h k
  led p q h (to_method s g m o x k l) = method_of old i Y (receiver S p.old) s g (receiver_at old i Y p.old (under S p.old) h) k

  -- each owned pair's old type
  pub pair_labelled : {owner : List ℕ} {p : TypePair} → Owned old new owner p → Good p.old
  pair_labelled (from_object {p = p} f o) = of_entities old i Y (f.before).entity (f.after).entity p (L.object_home old i Y f.path f.before f.exported) (Y.objects f.path f.before f.exported) f.types
  pair_labelled (led_to {p = p} {q = q} x l o) = led p q (pair_labelled x) l
