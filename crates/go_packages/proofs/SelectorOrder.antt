-- Methods that were sorted by their selectors.
use Rattle.std.proofs.Common.{◌≡◌, ◌↔◌, ◌+◌, ◌<◌, ℕ, zero, suc, Bool, true, false, List, [], ◌∷◌, length, map, get_or, refl, sym, ap, ◌∙◌, subst, inl, inr, arith}
use mathlib.Core.Bool.{true≢false}
use Rattle.std.specs.Cmp.{IsStrictWeakOrder, IsTotalOrder}
use Rattle.std.specs.Cmp.Lexicographic.{on_texts, slice_cmp}
use Rattle.std.specs.FinMap.{nat_cmp-IsAntisymmetric, slice_cmp-IsAntisymmetric}
use Rattle.std.specs.List.{AllByRecursion, Contains, IsDistinct}
use Rattle.std.specs.List.Sorted.{IsPermutation, IsSortedBy, IsStrictlySortedBy}
use Rattle.std.specs.Ordering.{is_eq, is_lt, nat_cmp, ordering_reverse, ordering_then}
use Rattle.std.specs.declared.cmp.Ordering.{Ordering}
use Rattle.std.specs.declared.cmp.Ordering.TheVariants.{Less, Equal, Greater}
use Rattle.std.proofs.lemmas.Cmp.{then_total}
use Rattle.std.proofs.lemmas.List.Sorted.{Contains-permutation, IsPermutation-sym, ranks_by, sorted_far}
use Rattle.std.proofs.lemmas.Map.Keys.{IsDistinct-IsPermutation, IsDistinct-head, IsDistinct-tail}
use Rattle.go_base.specs.Lists.{Has}
use Rattle.go_model.specs.declared.types.names.Sel.{Sel}
use Rattle.go_model.specs.declared.types.package.MethodOf.{MethodOf}
use Rattle.go_model.specs.types.MethodSets.{sel_order}
use Rattle.go_model.specs.worlds.Worlds.{declared_sel}
use Rattle.go_packages.specs.inner.HadMethods.{AreSorted, comes_first}

pub sels_total : IsTotalOrder sel_order
sels_total = then_total (on_texts (λ (s : Sel). s.name)) (on_texts (λ (s : Sel). s.«package»))

pub by_selector : IsStrictWeakOrder comes_first
by_selector = ranks_by sels_total declared_sel

-- the methods have one selector
abbrev pub is_same : MethodOf → MethodOf → Bool
is_same m n = is_eq (sel_order m.sel n.sel)

same_back : (m n : MethodOf) → is_same m n ≡ is_same n m
same_back m n = ap is_eq (sels_total.antisymm m.sel n.sel) ∙ turned (sel_order n.sel m.sel)
  where
    turned : (o : Ordering) → is_eq (ordering_reverse o) ≡ is_eq o
    turned Less = refl
    turned Equal = refl
    turned Greater = refl

both_equal : (a b : Ordering) → is_eq (ordering_then a b) ≡ true → (a ≡ Equal) × (b ≡ Equal)
both_equal Less b e = absurd (true≢false (sym e))
both_equal Equal Less e = absurd (true≢false (sym e))
both_equal Equal Equal e = (refl, refl)
both_equal Equal Greater e = absurd (true≢false (sym e))
both_equal Greater b e = absurd (true≢false (sym e))

pub same_selector : (m n : MethodOf) → is_same m n ≡ true → m.sel ≡ n.sel
same_selector m n e =
    let both = both_equal (slice_cmp nat_cmp m.sel.name n.sel.name) (slice_cmp nat_cmp m.sel.«package» n.sel.«package») e in
    let f : m.sel.name ≡ n.sel.name = slice_cmp-IsAntisymmetric nat_cmp-IsAntisymmetric m.sel.name n.sel.name both.0 in
    let g : m.sel.«package» ≡ n.sel.«package» = slice_cmp-IsAntisymmetric nat_cmp-IsAntisymmetric m.sel.«package» n.sel.«package» both.1 in
    λ i. record { name = f i; «package» = g i }

-- ---- order

less_of : (a b : Sel) → is_lt (sel_order b a) ≡ false → is_eq (sel_order a b) ≡ false → sel_order a b ≡ Less
less_of a b h k = by (sel_order a b) (ap is_lt (sym (sels_total.antisymm b a)) ∙ h) k
  where
    by : (o : Ordering) → is_lt (ordering_reverse o) ≡ false → is_eq o ≡ false → o ≡ Less
    by Less i j = refl
    by Equal i j = absurd (true≢false j)
    by Greater i j = absurd (true≢false i)

rest_sorted : (m : MethodOf) (ms : List MethodOf) → IsSortedBy comes_first (m ∷ ms) → IsSortedBy comes_first ms
rest_sorted m ms up k d low high =
    subst (λ (n : ℕ). comes_first (get_or (m ∷ ms) n d) (get_or ms k d) ≡ false) (let e : suc k + 1 ≡ suc (k + 1) = omega arith in e) (up (suc k) d (omega arith) (omega (arith, high)))

all_after : (m : MethodOf) (ms : List MethodOf) → ((k : ℕ) (d : MethodOf) → k < length ms → comes_first (get_or ms k d) m ≡ false) → AllByRecursion (λ n. is_same m n ≡ false) ms → AllByRecursion (λ s. sel_order m.sel s ≡ Less) (map declared_sel ms)
all_after m [] h a = tt
all_after m (n ∷ ms) h a = (less_of m.sel n.sel (h 0 n (omega arith)) a.0, all_after m ms (λ k d i. h (suc k) d (omega (arith, i))) a.1)

strictly_sorted : (ms : List MethodOf) → IsSortedBy comes_first ms → IsDistinct is_same ms → IsStrictlySortedBy sel_order (map declared_sel ms)
unfolding IsStrictlySortedBy
strictly_sorted [] up apart = tt
strictly_sorted (m ∷ ms) up apart = (
  all_after m ms (λ k d h. sorted_far comes_first by_selector (m ∷ ms) up 0 (suc k) d (omega arith) (omega (arith, h))) (IsDistinct-head is_same m ms apart),
  strictly_sorted ms (rest_sorted m ms up) (IsDistinct-tail is_same m ms apart),
)

-- methods of different selectors that were sorted are in order
pub in_order : (had ms : List MethodOf) → AreSorted had ms → IsDistinct is_same had → IsStrictlySortedBy sel_order (map declared_sel ms)
in_order had ms s apart = strictly_sorted ms s.sorted (IsDistinct-IsPermutation is_same same_back had ms s.same apart)

-- ---- members

contained : (ms : List MethodOf) (m : MethodOf) → Has ms m → Contains ms m
contained [] m h = absurd h
contained (n ∷ ms) m (inl e) = (0, omega arith, e)
contained (n ∷ ms) m (inr h) = let c = contained ms m h in (suc c.0, (let i = c.1 in omega (arith, i)), c.2)

member : (ms : List MethodOf) (m : MethodOf) (k : ℕ) → k < length ms → get_or ms k m ≡ m → Has ms m
member [] m k h e = absurd (omega (arith, h))
member (n ∷ ms) m zero h e = inl e
member (n ∷ ms) m (suc k) h e = inr (member ms m k (omega (arith, h)) e)

permuted : (xs ys : List MethodOf) (m : MethodOf) → IsPermutation xs ys → Has xs m → Has ys m
permuted xs ys m p h = let c = Contains-permutation xs ys m p (contained xs m h) in member ys m c.0 c.1 c.2

pub same_members : (had ms : List MethodOf) → AreSorted had ms → (m : MethodOf) → Has ms m ↔ Has had m
same_members had ms s m = (permuted ms had m (IsPermutation-sym had ms s.same), permuted had ms m s.same)
