-- Methods in order are told by which they are.
use Rattle.std.proofs.Common.{◌≡◌, List, [], ◌∷◌, refl, sym, ◌∙◌, subst, inl, inr}
use Rattle.std.specs.Prelude.{map}
use Rattle.std.specs.List.{AllByRecursion}
use Rattle.std.specs.List.Sorted.{IsStrictlySortedBy}
use Rattle.std.specs.Ordering.{nat_cmp, ordering_reverse, ordering_then}
use Rattle.std.specs.declared.cmp.Ordering.{Ordering}
use Rattle.std.specs.declared.cmp.Ordering.TheVariants.{Less, Equal, Greater}
use Rattle.std.specs.Cmp.Lexicographic.{slice_cmp}
use Rattle.std.proofs.lemmas.Cmp.{nat_list_cmp_total}
use Rattle.go_syntax.specs.go_base.Lists.{Has}
use Rattle.go_model.specs.declared.types.names.Sel.{Sel}
use Rattle.go_model.specs.declared.types.term.Method.{Method}
use Rattle.go_model.specs.types.MethodSets.{method_sel, sel_order}

reversed : (x y : Ordering) → ordering_then (ordering_reverse x) (ordering_reverse y) ≡ ordering_reverse (ordering_then x y)
reversed Less y = refl
reversed Equal y = refl
reversed Greater y = refl

turned : (a b : Sel) → sel_order b a ≡ ordering_reverse (sel_order a b)
turned a b =
    let name = nat_list_cmp_total.antisymm b.name a.name in
    let path = nat_list_cmp_total.antisymm b.«package» a.«package» in
    (λ i. ordering_then (name i) (path i)) ∙ reversed (slice_cmp nat_cmp a.name b.name) (slice_cmp nat_cmp a.«package» b.«package»)

not_both : (o : Ordering) → o ≡ Less → ordering_reverse o ≡ Less → ⊥
not_both Less e d = absurd (cc)
not_both Equal e d = absurd (cc)
not_both Greater e d = absurd (cc)

-- no selector comes before one that comes before it
one_way : (a b : Sel) → sel_order a b ≡ Less → sel_order b a ≡ Less → ⊥
one_way a b e d = not_both (sel_order a b) e (sym (turned a b) ∙ d)

before : (s : Sel) (ms : List Method) (m : Method) → AllByRecursion (λ y. sel_order s y ≡ Less) (map method_sel ms) → Has ms m → sel_order s (method_sel m) ≡ Less
before s [] m h k = absurd k
before s (n ∷ ms) m h (inl e) = subst (λ (x : Method). sel_order s (method_sel x) ≡ Less) e h.0
before s (n ∷ ms) m h (inr k) = before s ms m h.1 k

abbrev Ordered : List Method → Type 0
Ordered ms = IsStrictlySortedBy sel_order (map method_sel ms)

rest : (m n : Method) (ms ns : List Method) → Ordered (m ∷ ms) → m ≡ n → ((x : Method) → Has (m ∷ ms) x → Has (n ∷ ns) x) → (x : Method) → Has ms x → Has ns x
unfolding IsStrictlySortedBy
rest m n ms ns h e f x k = elim (f x (inr k)) [ inl d ↦ absurd (let b = before (method_sel m) ms m h.0 (subst (Has ms) (sym (e ∙ d)) k) in one_way (method_sel m) (method_sel m) b b) | inr j ↦ j ]

heads : (m n : Method) (ms ns : List Method) → Ordered (m ∷ ms) → Ordered (n ∷ ns) → Has (n ∷ ns) m → Has (m ∷ ms) n → m ≡ n
unfolding IsStrictlySortedBy
heads m n ms ns h k (inl e) g = sym e
heads m n ms ns h k (inr f) (inl e) = e
heads m n ms ns h k (inr f) (inr g) = absurd (one_way (method_sel n) (method_sel m) (before (method_sel n) ns m k.0 f) (before (method_sel m) ms n h.0 g))

pub one_order : (ms ns : List Method) → Ordered ms → Ordered ns → ((x : Method) → Has ms x → Has ns x) → ((x : Method) → Has ns x → Has ms x) → ms ≡ ns
unfolding IsStrictlySortedBy
one_order [] [] h k f g = refl
one_order [] (n ∷ ns) h k f g = absurd (g n (inl refl))
one_order (m ∷ ms) [] h k f g = absurd (f m (inl refl))
one_order (m ∷ ms) (n ∷ ns) h k f g =
    let e = heads m n ms ns h k (f m (inl refl)) (g n (inl refl)) in
    let t = one_order ms ns h.1 k.1 (rest m n ms ns h e f) (rest n m ns ms k (sym e) g) in
    λ i. e i ∷ t i
