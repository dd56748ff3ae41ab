-- Methods can be put into the order of their selectors.
use Rattle.std.proofs.Common.{◌≡◌, ◌+◌, ◌<◌, ◌≤◌, ℕ, zero, suc, Bool, true, false, List, [], ◌∷◌, length, get_or, refl, sym, ap, ◌∙◌, subst, arith}
use mathlib.Core.Bool.{true≢false}
use Rattle.std.specs.Prelude.{if◌then◌else◌}
use Rattle.std.specs.List.Sorted.{IsPermutation, IsSortedBy}
use Rattle.std.specs.Ordering.{is_lt, ordering_reverse}
use Rattle.std.specs.declared.cmp.Ordering.{Ordering}
use Rattle.std.specs.declared.cmp.Ordering.TheVariants.{Less, Equal, Greater}
use Rattle.std.proofs.lemmas.List.Sorted.{IsPermutation-cons, IsPermutation-refl, IsPermutation-swap, IsPermutation-trans}
use Rattle.go_model.specs.declared.types.package.MethodOf.{MethodOf}
use Rattle.go_model.specs.types.MethodSets.{sel_order}
use Rattle.go_packages.proofs.SelectorOrder.{sels_total}
use Rattle.go_packages.specs.inner.HadMethods.{AreSorted, comes_first}

abbrev put : MethodOf → List MethodOf → List MethodOf
put m [] = m ∷ []
put m (n ∷ ns) = if comes_first m n then m ∷ n ∷ ns else n ∷ put m ns

abbrev sorted : List MethodOf → List MethodOf
sorted [] = []
sorted (m ∷ ms) = put m (sorted ms)

-- ---- the same methods

moved : (m n : MethodOf) (ns ms : List MethodOf) → IsPermutation (m ∷ ns) ms → IsPermutation (m ∷ n ∷ ns) (n ∷ ms)
moved m n ns ms p = IsPermutation-trans (m ∷ n ∷ ns) (n ∷ m ∷ ns) (n ∷ ms) (IsPermutation-swap (m ∷ n ∷ ns) (n ∷ m ∷ ns) 0 1 (omega arith) (omega arith) refl) (IsPermutation-cons n (m ∷ ns) ms p)

put_by : (m n : MethodOf) (ns : List MethodOf) (b : Bool) → IsPermutation (m ∷ ns) (put m ns) → IsPermutation (m ∷ n ∷ ns) (if b then m ∷ n ∷ ns else n ∷ put m ns)
put_by m n ns true p = IsPermutation-refl (m ∷ n ∷ ns)
put_by m n ns false p = moved m n ns (put m ns) p

put_same : (m : MethodOf) (ns : List MethodOf) → IsPermutation (m ∷ ns) (put m ns)
put_same m [] = IsPermutation-refl (m ∷ [])
put_same m (n ∷ ns) = put_by m n ns (comes_first m n) (put_same m ns)

sorted_same : (ms : List MethodOf) → IsPermutation ms (sorted ms)
sorted_same [] = IsPermutation-refl []
sorted_same (m ∷ ms) = IsPermutation-trans (m ∷ ms) (m ∷ sorted ms) (put m (sorted ms)) (IsPermutation-cons m ms (sorted ms) (sorted_same ms)) (put_same m (sorted ms))

-- ---- their order

-- a method doesn't come after the first of these
abbrev Fits : MethodOf → List MethodOf → Type 0
Fits m [] = Unit {0}
Fits m (n ∷ ns) = comes_first n m ≡ false

abbrev Rise : List MethodOf → Type 0
Rise [] = Unit {0}
Rise (m ∷ ms) = Fits m ms × Rise ms

turned : (o : Ordering) → is_lt o ≡ true → is_lt (ordering_reverse o) ≡ false
turned Less e = refl
turned Equal e = absurd (true≢false (sym e))
turned Greater e = absurd (true≢false (sym e))

first_not : (m n : MethodOf) → comes_first m n ≡ true → comes_first n m ≡ false
first_not m n e = ap is_lt (sels_total.antisymm n.sel m.sel) ∙ turned (sel_order m.sel n.sel) e

fits_by : (k m n : MethodOf) (ns : List MethodOf) (b : Bool) → comes_first m k ≡ false → Fits k (n ∷ ns) → Fits k (if b then m ∷ n ∷ ns else n ∷ put m ns)
fits_by k m n ns true e f = e
fits_by k m n ns false e f = f

put_fits : (k m : MethodOf) (ns : List MethodOf) → comes_first m k ≡ false → Fits k ns → Fits k (put m ns)
put_fits k m [] e f = e
put_fits k m (n ∷ ns) e f = fits_by k m n ns (comes_first m n) e f

rise_by : (m n : MethodOf) (ns : List MethodOf) (b : Bool) → comes_first m n ≡ b → Rise (n ∷ ns) → Rise (put m ns) → Rise (if b then m ∷ n ∷ ns else n ∷ put m ns)
rise_by m n ns true e r q = (first_not m n e, r)
rise_by m n ns false e r q = (put_fits n m ns e r.0, q)

put_rise : (m : MethodOf) (ns : List MethodOf) → Rise ns → Rise (put m ns)
put_rise m [] r = (tt, tt)
put_rise m (n ∷ ns) r = rise_by m n ns (comes_first m n) refl r (put_rise m ns r.1)

sorted_rise : (ms : List MethodOf) → Rise (sorted ms)
sorted_rise [] = tt
sorted_rise (m ∷ ms) = put_rise m (sorted ms) (sorted_rise ms)

at_each : (ms : List MethodOf) → Rise ms → (k : ℕ) (d : MethodOf) → k + 1 < length ms → comes_first (get_or ms (k + 1) d) (get_or ms k d) ≡ false
at_each [] r k d h = absurd (omega (arith, h))
at_each (m ∷ []) r k d h = absurd (omega (arith, h))
at_each (m ∷ n ∷ ns) r zero d h = r.0
at_each (m ∷ n ∷ ns) r (suc k) d h =
    subst (λ (j : ℕ). comes_first (get_or (m ∷ n ∷ ns) j d) (get_or (n ∷ ns) k d) ≡ false) (let e : suc (k + 1) ≡ suc k + 1 = omega arith in e)
    (at_each (n ∷ ns) r.1 k d (omega (arith, h)))

pub sorted_methods : (ms : List MethodOf) → (ns : List MethodOf) × AreSorted ms ns
sorted_methods ms = (sorted ms, record { same = sorted_same ms; sorted = λ k d low high. at_each (sorted ms) (sorted_rise ms) k d high })
