-- A method of a client's own type that a selector finds on the new side it finds on the old one.
use Rattle.std.proofs.Common.{◌≡◌, ◌⊎◌, inl, inr, ℕ, zero, suc, ◌<◌, Bool, true, false, List, [], ◌∷◌, map, refl, sym, ap, ◌∙◌, subst, Option, Some, None, arith}
use Rattle.go_model.specs.declared.types.names.Sel.{Sel}
use Rattle.go_model.specs.declared.types.names.TypeName.{TypeName}
use Rattle.go_model.specs.declared.types.term.Signature.{Signature}
use Rattle.go_model.specs.declared.types.term.Term.{Term, out-Term}
use Rattle.go_model.specs.types.Selectors.{Ending, IsOnly, Spot, Target, ends, field, method, start}
use Rattle.go_model.specs.types.Tables.{Table}
use Rattle.go_model.specs.types.Terms.{IsBlank, client_path}
use Rattle.go_rules.specs.Asks.{IsOwnLayer}
use Rattle.go_rules.specs.Environments.{Env, Found}
use Rattle.go_type_images.specs.Images.{Naming, image, image_of_signature, same_sels}
use Rattle.go_type_images.specs.SpotImages.{at_spot, ending_to, target_to}
use Rattle.go_type_images.specs.declared.pair.TypePair.{TypePair}
use Rattle.go_client_types.specs.Endings.{end_at}
use Rattle.go_client_types.specs.Keeping.{Keeps}
use Rattle.go_client_types.specs.Reached.{IsClientSel, IsGiven, IsReached, reach_given, reach_made, reach_own}
use Rattle.go_client_types.proofs.FoundEnds as W
use Rattle.go_client_types.proofs.FoundTypes.{start_kept, start_reached}
use Rattle.go_client_types.proofs.Own.{own_ends}

-- ---- one ending

compared : (a b : ℕ) → (a < b) ⊎ ((b < a) ⊎ (a ≡ b))
compared zero zero = inr (inr refl)
compared zero (suc b) = inl (omega arith)
compared (suc a) zero = inr (inl (omega arith))
compared (suc a) (suc b) = elim (compared a b) [ inl h ↦ inl (omega arith) | inr k ↦ elim k [ inl h ↦ inr (inl (omega arith)) | inr e ↦ inr (inr (ap suc e)) ] ]

empty_one : {A : Type 0} (xs : List A) (x : A) → xs ≡ [] → xs ≡ x ∷ [] → ⊥
empty_one xs x e f = absurd (cc)

head_same : {A : Type 0} (xs : List A) (x y : A) → xs ≡ x ∷ [] → xs ≡ y ∷ [] → x ≡ y
head_same xs x y e f = cc

one_only : (T : Table) (s : Sel) (at : Spot) (d e : ℕ) (x y : Ending) → IsOnly T s at d x → IsOnly T s at e y → x ≡ y
one_only T s at d e x y a b = elim (compared d e) [
  | inl h ↦ absurd (empty_one (ends T s d at) x (b.none d h) a.only)
  | inr k ↦ elim k [
    | inl h ↦ absurd (empty_one (ends T s e at) y (a.none e h) b.only)
    | inr p ↦ head_same (ends T s d at) x y a.only (subst (λ (n : ℕ). ends T s n at ≡ y ∷ []) (sym p) b.only)
  ]
]

abbrev owner_in : Target → Option TypeName
owner_in (field t) = None
owner_in (method o p g) = o

abbrev is_method : Target → Bool
is_method (field t) = false
is_method (method o p g) = true

no_method : false ≡ true → ⊥
no_method e = absurd (cc)

-- ---- what is found

module _ (E F : Env) (r : Naming) (pairs : List TypePair) (std : TypeName → Bool) (is_open : Sel → Bool) (K : Keeps E F r pairs std is_open) where
  abbrev to : Term → Term
  to = image r same_sels

  abbrev R : Term → Type 0
  R = IsReached pairs std is_open

  -- a method of this owner
  abbrev pub OfOwner : Ending → TypeName → Type 0
  OfOwner e n = (q : Bool) × (a : Bool) × (g : Signature) × (e ≡ end_at q (method (Some n) a g))

  -- the image of a method of the owner is of the owner
  image_owner : (e : Ending) (n : TypeName) (k c : Bool) (h : Signature) → ending_to r e ≡ end_at k (method (Some n) c h) → OfOwner e n
  image_owner e n k c h f = by e.target refl
    where
      by : (x : Target) → e.target ≡ x → OfOwner e n
      by (field t) i = absurd (no_method (sym (ap (λ y. is_method (target_to r y)) i) ∙ ap (λ (y : Ending). is_method y.target) f))
      by (method o a g) i =
          let same : o ≡ Some n = sym (ap (λ y. owner_in (target_to r y)) i) ∙ ap (λ (y : Ending). owner_in y.target) f in
          (e.through, a, g, ap (end_at e.through) i ∙ ap (λ z. end_at e.through (method z a g)) same)

  abbrev OnlyOwner : Sel → Bool → Term → TypeName → Type 0
  OnlyOwner s b t n = (d : ℕ) × (k : Bool) × (c : Bool) × (h : Signature) × IsOnly F.table s (at_spot b (to t)) d (end_at k (method (Some n) c h))

  by_ends : (s : Sel) (b : Bool) (t : Term) (d : ℕ) (e : Ending) (n : TypeName) → ((k : ℕ) → ends F.table s k (at_spot b (to t)) ≡ map (ending_to r) (ends E.table s k (at_spot b t))) → IsOnly E.table s (at_spot b t) d e → OnlyOwner s b t n → OfOwner e n
  by_ends s b t d e n w o f =
      let i = W.image_only E F r pairs std is_open K s b e.through t d e.target w o in
      image_owner e n f.1 f.2 f.3 (one_only F.table s (at_spot b (to t)) d f.0 (ending_to r e) (end_at f.1 (method (Some n) f.2 f.3)) i f.4)

  -- given types have no methods of the client
  by_given : (s : Sel) (b : Bool) (t : Term) (d : ℕ) (e : Ending) (n : TypeName) → IsGiven pairs std is_open t → n.path ≡ client_path → IsClientSel s → (IsBlank s → ⊥) → IsOnly E.table s (at_spot b t) d e → OnlyOwner s b t n → ⊥
  by_given s b t d e n g c (inr x) nb o f = W.no_item (ends E.table s d (at_spot b t)) e (K.types.strange t s d b g x) o.only
  by_given s b t d e n g c (inl x) nb o f = by e.target refl
    where
      by : (y : Target) → e.target ≡ y → ⊥
      by (field v) i =
          let k = K.types.found_field t s b e.through d v g x nb (subst (IsOnly E.table s (at_spot b t) d) (ap (end_at e.through) i) o) in
          no_method (ap (λ (z : Ending). is_method z.target) (one_only F.table s (at_spot b (to t)) k.0 f.0 (end_at k.1 (field (to v))) (end_at f.1 (method (Some n) f.2 f.3)) k.2 f.4))
      by (method q a h) i =
          let k = K.types.found_method t s b e.through a d q h g (K.types.exported_open s x) (subst (IsOnly E.table s (at_spot b t) d) (ap (end_at e.through) i) o) in
          let same : k.3 ≡ Some n = ap (λ (z : Ending). owner_in z.target) (one_only F.table s (at_spot b (to t)) k.0 f.0 (end_at k.1 (method k.3 k.2 (image_of_signature r same_sels h))) (end_at f.1 (method (Some n) f.2 f.3)) k.4 f.4) in
          k.7 n same c

  by_reached : (s : Sel) (b : Bool) (t : Term) (d : ℕ) (e : Ending) (n : TypeName) → R t → n.path ≡ client_path → IsClientSel s → (IsBlank s → ⊥) → IsOnly E.table s (at_spot b t) d e → OnlyOwner s b t n → OfOwner e n
  by_reached s b t d e n (reach_given g) c x nb o f = absurd (by_given s b t d e n g c x nb o f)
  by_reached s b t d e n (reach_own i h) c x nb o f =
      let l : IsOwnLayer (out-Term t) = subst IsOwnLayer (sym i) h in
      by_ends s b t d e n (λ k. own_ends E.table F.table r (W.own_kept E F r pairs std is_open K) s k b t l) o f
  by_reached s b t d e n (reach_made m h) c x nb o f = by_ends s b t d e n (λ k. W.made_ends E F r pairs std is_open K s k b t m) o f

  -- what is found on the new side as a method of a client's type is so on the old one
  pub owner_back : (t : Term) (s : Sel) (e : Ending) (n : TypeName) (k c : Bool) (h : Signature) → R t → n.path ≡ client_path → IsClientSel s → (IsBlank s → ⊥) → Found E s t e → Found F s (to t) (end_at k (method (Some n) c h)) → OfOwner e n
  owner_back t s e n k c h x p q nb f g =
      let at = start E.table t in
      let there : IsOnly F.table s (at_spot at.through (to at.term)) g.depth (end_at k (method (Some n) c h)) = subst (λ z. IsOnly F.table s z g.depth (end_at k (method (Some n) c h))) (start_kept E F r pairs std is_open K t x) g.only in
      by_reached s at.through at.term f.depth e n (start_reached E F r pairs std is_open K t x) p q nb f.only (g.depth, k, c, h, there)
