-- Methods in order stand once.
use Rattle.std.proofs.Common.{◌≡◌, List, [], ◌∷◌, sym, ◌∙◌, subst, inl, inr}
use Rattle.std.specs.List.{AllByRecursion}
use Rattle.std.specs.List.Sorted.{IsStrictlySortedBy}
use Rattle.std.specs.Ordering.{nat_cmp, ordering_reverse, ordering_then}
use Rattle.std.specs.declared.cmp.Ordering.{Ordering}
use Rattle.std.specs.declared.cmp.Ordering.TheVariants.{Less, Equal, Greater}
use Rattle.std.specs.Cmp.Lexicographic.{slice_cmp}
use Rattle.std.proofs.lemmas.Cmp.{nat_list_cmp_total}
use Rattle.go_base.specs.Lists.{Has, Once}
use Rattle.go_model.specs.declared.types.names.Sel.{Sel}
use Rattle.go_model.specs.types.MethodSets.{sel_order}

tied : (o : Ordering) → o ≡ ordering_reverse o → o ≡ Equal
tied Less e = absurd (cc)
tied Equal e = λ i. Equal
tied Greater e = absurd (cc)

-- a selector doesn't come before itself
not_before : (s : Sel) → sel_order s s ≡ Less → ⊥
not_before s e =
    let name = tied (slice_cmp nat_cmp s.name s.name) (nat_list_cmp_total.antisymm s.name s.name) in
    let path = tied (slice_cmp nat_cmp s.«package» s.«package») (nat_list_cmp_total.antisymm s.«package» s.«package») in
    let same : ordering_then Equal Equal ≡ Less = (λ i. ordering_then (sym name i) (sym path i)) ∙ e in
    absurd (cc)

before_each : (s : Sel) (ss : List Sel) (other : Sel) → AllByRecursion (λ y. sel_order s y ≡ Less) ss → Has ss other → sel_order s other ≡ Less
before_each s [] other h k = absurd k
before_each s (t ∷ ss) other h (inl e) = subst (λ (x : Sel). sel_order s x ≡ Less) e h.0
before_each s (t ∷ ss) other h (inr k) = before_each s ss other h.1 k

pub once_in_order : (ss : List Sel) → IsStrictlySortedBy sel_order ss → Once ss
unfolding IsStrictlySortedBy
once_in_order [] h = tt
once_in_order (s ∷ ss) h = ((λ k. not_before s (before_each s ss s h.0 k)), once_in_order ss h.1)
