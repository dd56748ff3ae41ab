-- A selector finds one thing from a spot, and in a type.
use Rattle.std.proofs.Common.{◌≡◌, ◌≤◌, ◌<◌, ℕ, zero, suc, Bool, true, false, Option, ◌⊎◌, inl, inr, List, [], ◌∷◌, length, refl, sym, ap, ◌∙◌, subst, arith}
use mathlib.Core.Bool.{true≢false}
use Rattle.go_model.specs.types.Tables.{Table}
use Rattle.go_model.specs.declared.types.names.Sel.{Sel}
use Rattle.go_model.specs.declared.types.names.TypeName.{TypeName}
use Rattle.go_model.specs.declared.types.term.Term.{Term}
use Rattle.go_model.specs.declared.types.term.Signature.{Signature}
use Rattle.go_model.specs.declared.types.found.Found.{Found}
use Rattle.go_model.specs.declared.types.found.Found.TheVariants as found
use Rattle.go_model.specs.declared.types.found.FieldFound.{FieldFound}
use Rattle.go_model.specs.declared.types.found.MethodFound.{MethodFound}
use Rattle.go_model.specs.types.Selectors.{Spot, Ending, field, method, ends, start, NoneBelow, IsOnly, bounded_depth, FindsFrom, Finds, is_defined_pointer}
use Rattle.go_model.specs.types.MethodSets.{InSet}

pub compared : (a b : ℕ) → (a < b) ⊎ ((b < a) ⊎ (a ≡ b))
compared zero zero = inr (inr refl)
compared zero (suc b) = inl (omega arith)
compared (suc a) zero = inr (inl (omega arith))
compared (suc a) (suc b) = elim (compared a b) [ inl h ↦ inl (omega arith) | inr k ↦ elim k [ inl h ↦ inr (inl (omega arith)) | inr e ↦ inr (inr (ap suc e)) ] ]

pub one_some : {A : Type 0} (xs : List A) (x : A) → xs ≡ [] → xs ≡ x ∷ [] → ⊥
one_some xs x e f = absurd (cc)

head_same : {A : Type 0} (xs : List A) (x y : A) → xs ≡ x ∷ [] → xs ≡ y ∷ [] → x ≡ y
head_same xs x y e f = cc

not_many : {A : Type 0} (xs : List A) (x : A) → xs ≡ x ∷ [] → 2 ≤ length xs → ⊥
not_many {A} xs x e h = few (subst (λ (w : List A). 2 ≤ length w) e h)
  where
    few : 2 ≤ 1 → ⊥
    few k = omega arith

many_none : {A : Type 0} (xs : List A) → xs ≡ [] → 2 ≤ length xs → ⊥
many_none {A} xs e h = few (subst (λ (w : List A). 2 ≤ length w) e h)
  where
    few : 2 ≤ 0 → ⊥
    few k = omega arith

module _ (T : Table) (s : Sel) (at : Spot) where
  same_depth : (d e : ℕ) (x y : Ending) → IsOnly T s at d x → IsOnly T s at e y → d ≡ e
  same_depth d e x y a b = elim (compared d e) [
    | inl h ↦ absurd (one_some _ x (b.none d h) a.only)
    | inr k ↦ elim k [ inl h ↦ absurd (one_some _ y (a.none e h) b.only) | inr s ↦ s ]
  ]

  pub same_ending : (d e : ℕ) (x y : Ending) → IsOnly T s at d x → IsOnly T s at e y → x ≡ y
  same_ending d e x y a b = head_same _ x y (subst (λ (n : ℕ). ends T s n at ≡ x ∷ []) (same_depth d e x y a b) a.only) b.only

  pub no_many : (d e : ℕ) (x : Ending) → IsOnly T s at d x → NoneBelow T s at e → 2 ≤ length (ends T s e at) → ⊥
  no_many d e x a b h = elim (compared d e) [
    | inl k ↦ one_some _ x (b d k) a.only
    | inr k ↦ elim k [ inl j ↦ many_none _ (a.none e j) h | inr i ↦ not_many _ x (subst (λ (n : ℕ). ends T s n at ≡ x ∷ []) i a.only) h ]
  ]

  nothing_found : (d : ℕ) (x : Ending) → IsOnly T s at d x → ((e : ℕ) → ends T s e at ≡ []) → ⊥
  nothing_found d x o f = one_some _ x (f d) o.only

  no_both : (through other : Bool) (v : Term) (o : Option TypeName) (p : Bool) (g : Signature) → ◌≡◌ {A = Ending} (record { through = through; target = field v }) (record { through = other; target = method o p g }) → ⊥
  no_both through other v o p g e = let k : field v ≡ method o p g = ap (λ (x : Ending). x.target) e in absurd (cc)

  module _ (hidden : Bool) where
    -- two answers are one
    field_same : (f g : FieldFound) → FindsFrom T s at hidden (found.FieldAt f) → FindsFrom T s at hidden (found.FieldAt g) → found.FieldAt f ≡ found.FieldAt g
    field_same f g a b =
        let e = same_ending a.0 b.0 _ _ a.1 b.1 in
        let d : f.depth ≡ g.depth = a.2 ∙ ap bounded_depth (same_depth a.0 b.0 _ _ a.1 b.1) ∙ sym b.2 in
        let h : f.through_pointer ≡ g.through_pointer = ap (λ (x : Ending). x.through) e in
        let k : field f.term ≡ field g.term = ap (λ (x : Ending). x.target) e in
        let i : f.term ≡ g.term = cc in
        ap (λ x. found.FieldAt (record { term = x; through_pointer = f.through_pointer; depth = f.depth })) i
        ∙ ap (λ x. found.FieldAt (record { term = g.term; through_pointer = x; depth = f.depth })) h
        ∙ ap (λ x. found.FieldAt (record { term = g.term; through_pointer = g.through_pointer; depth = x })) d

    method_same : (m n : MethodFound) → FindsFrom T s at hidden (found.MethodAt m) → FindsFrom T s at hidden (found.MethodAt n) → found.MethodAt m ≡ found.MethodAt n
    method_same m n a b =
        let e = same_ending a.0 b.0 _ _ a.1 b.1 in
        let d : m.depth ≡ n.depth = a.2 ∙ ap bounded_depth (same_depth a.0 b.0 _ _ a.1 b.1) ∙ sym b.2 in
        let h : m.through_pointer ≡ n.through_pointer = ap (λ (x : Ending). x.through) e in
        let k : method m.owner m.pointer_receiver m.signature ≡ method n.owner n.pointer_receiver n.signature = ap (λ (x : Ending). x.target) e in
        let i : m.signature ≡ n.signature = cc in
        let j : m.pointer_receiver ≡ n.pointer_receiver = cc in
        let o : m.owner ≡ n.owner = cc in
        ap (λ x. found.MethodAt (record { signature = x; owner = m.owner; pointer_receiver = m.pointer_receiver; through_pointer = m.through_pointer; depth = m.depth })) i
        ∙ ap (λ x. found.MethodAt (record { signature = n.signature; owner = x; pointer_receiver = m.pointer_receiver; through_pointer = m.through_pointer; depth = m.depth })) o
        ∙ ap (λ x. found.MethodAt (record { signature = n.signature; owner = n.owner; pointer_receiver = x; through_pointer = m.through_pointer; depth = m.depth })) j
        ∙ ap (λ x. found.MethodAt (record { signature = n.signature; owner = n.owner; pointer_receiver = n.pointer_receiver; through_pointer = x; depth = m.depth })) h
        ∙ ap (λ x. found.MethodAt (record { signature = n.signature; owner = n.owner; pointer_receiver = n.pointer_receiver; through_pointer = n.through_pointer; depth = x })) d

    pub from_once : (a b : Found) → FindsFrom T s at hidden a → FindsFrom T s at hidden b → a ≡ b
    from_once (found.FieldAt f) (found.FieldAt g) a b = field_same f g a b
    from_once (found.FieldAt f) (found.MethodAt m) a b = absurd (no_both _ _ _ _ _ _ (same_ending a.0 b.0 _ _ a.1 b.1))
    from_once (found.FieldAt f) found.Ambiguous a b = absurd (no_many a.0 b.0 _ a.1 b.1 b.2)
    from_once (found.FieldAt f) found.Nothing a (inl b) = absurd (nothing_found a.0 _ a.1 b)
    from_once (found.FieldAt f) found.Nothing a (inr b) = absurd (no_both _ _ _ _ _ _ (same_ending a.0 b.0 _ _ a.1 b.5))
    from_once (found.MethodAt m) (found.FieldAt f) a b = absurd (no_both _ _ _ _ _ _ (same_ending b.0 a.0 _ _ b.1 a.1))
    from_once (found.MethodAt m) (found.MethodAt n) a b = method_same m n a b
    from_once (found.MethodAt m) found.Ambiguous a b = absurd (no_many a.0 b.0 _ a.1 b.1 b.2)
    from_once (found.MethodAt m) found.Nothing a (inl b) = absurd (nothing_found a.0 _ a.1 b)
    from_once (found.MethodAt m) found.Nothing a (inr b) = absurd (true≢false (sym b.6 ∙ a.3))
    from_once found.Ambiguous (found.FieldAt f) a b = absurd (no_many b.0 a.0 _ b.1 a.1 a.2)
    from_once found.Ambiguous (found.MethodAt m) a b = absurd (no_many b.0 a.0 _ b.1 a.1 a.2)
    from_once found.Ambiguous found.Ambiguous a b = refl
    from_once found.Ambiguous found.Nothing a (inl b) = absurd (many_none _ (b a.0) a.2)
    from_once found.Ambiguous found.Nothing a (inr b) = absurd (no_many b.0 a.0 _ b.5 a.1 a.2)
    from_once found.Nothing (found.FieldAt f) (inl a) b = absurd (nothing_found b.0 _ b.1 a)
    from_once found.Nothing (found.FieldAt f) (inr a) b = absurd (no_both _ _ _ _ _ _ (same_ending b.0 a.0 _ _ b.1 a.5))
    from_once found.Nothing (found.MethodAt m) (inl a) b = absurd (nothing_found b.0 _ b.1 a)
    from_once found.Nothing (found.MethodAt m) (inr a) b = absurd (true≢false (sym a.6 ∙ b.3))
    from_once found.Nothing found.Ambiguous (inl a) b = absurd (many_none _ (a b.0) b.2)
    from_once found.Nothing found.Ambiguous (inr a) b = absurd (no_many a.0 b.0 _ a.5 b.1 b.2)
    from_once found.Nothing found.Nothing a b = refl

pub found_once : (T : Table) (s : Sel) (t : Term) (a b : Found) → Finds T s t a → Finds T s t b → a ≡ b
found_once T s t a b f g = from_once T s (start T t) (is_defined_pointer T t) a b f g

pub signature_once : (T : Table) (s : Sel) (t : Term) (g h : Signature) → InSet T t s g → InSet T t s h → g ≡ h
signature_once T s t g h a b =
    let e = same_ending T s (start T t) a.depth b.depth _ _ a.only b.only in
    let k : method a.owner a.pointer g ≡ method b.owner b.pointer h = ap (λ (x : Ending). x.target) e in
    cc
