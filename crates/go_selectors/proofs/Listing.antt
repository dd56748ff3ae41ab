-- The methods that a map of selectors tells, one after another.
use Rattle.std.proofs.Common.{◌≡◌, Bool, true, false, ◌⊎◌, inl, inr, List, [], ◌∷◌, ◌++◌, map, refl, sym, ap, ◌∙◌, subst, append_assoc, Option, Some, None, if◌then◌else◌, append-nil}
use mathlib.Core.Bool.{true≢false}
use Rattle.std.specs.List.{AllByRecursion}
use Rattle.std.specs.List.Sorted.{IsStrictlySortedBy}
use Rattle.std.specs.BTreeMap.{keys, Updates}
use Rattle.std.specs.Map.{keys_of}
use Rattle.std.specs.declared.cmp.Ordering.TheVariants.{Less}
use Rattle.std.proofs.lemmas.List.{map-append}
use Rattle.go_base.specs.Lists.{Has}
use Rattle.go_model.specs.types.Tables.{Table}
use Rattle.go_model.specs.types.Terms.{same_sel}
use Rattle.go_model.specs.types.Selectors.{is_defined_pointer}
use Rattle.go_model.specs.types.MethodSets.{sel_order, method_sel, IsMethodSet}
use Rattle.go_model.specs.declared.types.names.Sel.{Sel}
use Rattle.go_model.specs.declared.types.term.Term.{Term}
use Rattle.go_model.specs.declared.types.term.Method.{Method, out-Method, roll-Method, roll-out-Method}
use Rattle.go_model.specs.declared.types.term.Signature.{Signature}
use Rattle.go_selectors.specs.Candidates.{Candidate, Candidates, candidate_at, called_of, called_at, AddsMethod, Lists}
use Rattle.go_selectors.proofs.Lists.{has-left, has-right, has-back}
use Rattle.go_selectors.proofs.Noting.{eq_same, sel_is, no_candidate}

-- the selectors that are left, and the methods of the others
pub record Listing (first rest : Candidates) (found : List Method) : Type 0 where
  pub sorted : IsStrictlySortedBy sel_order (map method_sel found ++ keys rest)
  pub sound : (m : Method) → Has found m → called_at first (out-Method m).sel ≡ Some (out-Method m).signature
  pub stays : (s : Sel) (g : Signature) → called_at rest s ≡ Some g → called_at first s ≡ Some g
  pub left : (m : Method) → called_at first (out-Method m).sel ≡ Some (out-Method m).signature → (called_at rest (out-Method m).sel ≡ Some (out-Method m).signature) ⊎ Has found m

pub first_listing : (candidates : Candidates) (found : List Method) → found ≡ [] → IsStrictlySortedBy sel_order (keys candidates) → Listing candidates candidates found
first_listing candidates found e o = subst (Listing candidates candidates) (sym e) (record { sorted = o; sound = λ m h. absurd h; stays = λ s g h. h; left = λ m h. inl h })

all_drop : (k : Sel) (P : Sel → Type 0) (xs ys : List Sel) → AllByRecursion P (xs ++ k ∷ ys) → AllByRecursion P (xs ++ ys)
all_drop k P [] ys h = h.1
all_drop k P (x ∷ xs) ys h = (h.0, all_drop k P xs ys h.1)

drop_middle : (k : Sel) (xs ys : List Sel) → IsStrictlySortedBy sel_order (xs ++ k ∷ ys) → IsStrictlySortedBy sel_order (xs ++ ys)
unfolding IsStrictlySortedBy
drop_middle k [] ys h = h.1
drop_middle k (x ∷ xs) ys h = (all_drop k (λ y. sel_order x y ≡ Less) xs ys h.0, drop_middle k xs ys h.1)

same_method : (m n : Method) → (out-Method m).sel ≡ (out-Method n).sel → (out-Method m).signature ≡ (out-Method n).signature → m ≡ n
same_method m n i j = sym (roll-out-Method m) ∙ ap (λ x. roll-Method (record { sel = x; signature = (out-Method m).signature })) i ∙ ap (λ x. roll-Method (record { sel = (out-Method n).sel; signature = x })) j ∙ roll-out-Method n

module _ (first old new : Candidates) (s : Sel) (x : Candidate) (found more : List Method) (removal : old.entries ≡ (s, x) ∷ new.entries) (at : candidate_at old s ≡ Some x) (update : Updates sel_order old new s None) (l : Listing first old found) where
  shape : keys old ≡ s ∷ keys new
  shape = ap keys_of removal

  candidate_new : (q : Sel) → candidate_at new q ≡ (if same_sel s q then None else candidate_at old q)
  candidate_new q = subst (λ (b : Bool). candidate_at new q ≡ (if b then None else candidate_at old q)) (eq_same s q) (update.0 q)

  gone : (q : Sel) → same_sel s q ≡ true → candidate_at new q ≡ None
  gone q e = candidate_new q ∙ ap (λ b. if b then None else candidate_at old q) e

  other : (q : Sel) → same_sel s q ≡ false → candidate_at new q ≡ candidate_at old q
  other q e = candidate_new q ∙ ap (λ b. if b then None else candidate_at old q) e

  stays_new : (q : Sel) (g : Signature) → called_at new q ≡ Some g → called_at first q ≡ Some g
  stays_new q g h = by (same_sel s q) refl
    where
      by : (b : Bool) → same_sel s q ≡ b → called_at first q ≡ Some g
      by true e = let k : called_of None ≡ Some g = sym (ap called_of (gone q e)) ∙ h in absurd (cc)
      by false e = l.stays q g (sym (ap called_of (other q e)) ∙ h)

  -- a method of another selector is left, and this one's is in the candidate
  left_new : (m : Method) → called_at old (out-Method m).sel ≡ Some (out-Method m).signature → (called_at new (out-Method m).sel ≡ Some (out-Method m).signature) ⊎ ((s ≡ (out-Method m).sel) × (x.called ≡ Some (out-Method m).signature))
  left_new m h = by (same_sel s (out-Method m).sel) refl
    where
      by : (b : Bool) → same_sel s (out-Method m).sel ≡ b → (called_at new (out-Method m).sel ≡ Some (out-Method m).signature) ⊎ ((s ≡ (out-Method m).sel) × (x.called ≡ Some (out-Method m).signature))
      by true e = let i = sel_is s (out-Method m).sel e in inr (i, sym (ap called_of at) ∙ ap (called_at old) i ∙ h)
      by false e = inl (ap called_of (other (out-Method m).sel e) ∙ h)

  listing_by : (c : Option Signature) → x.called ≡ c → AddsMethod s c found more → Listing first new more
  listing_by None i a = record {
    sorted = subst (λ (w : List Method). IsStrictlySortedBy sel_order (map method_sel w ++ keys new)) (sym a) (drop_middle s (map method_sel found) (keys new) (subst (λ (w : List Sel). IsStrictlySortedBy sel_order (map method_sel found ++ w)) shape l.sorted));
    sound = λ m h. l.sound m (subst (λ (w : List Method). Has w m) a h);
    stays = stays_new;
    left = λ m h. elim (l.left m h) [
      | inl j ↦ elim (left_new m j) [ inl k ↦ inl k | inr k ↦ (let n : None ≡ Some (out-Method m).signature = sym i ∙ k.1 in absurd (cc)) ]
      | inr j ↦ inr (subst (λ (w : List Method). Has w m) (sym a) j)
    ];
  }
  listing_by (Some g) i a = record {
    sorted = subst (IsStrictlySortedBy sel_order) joined l.sorted;
    sound = λ m h. elim (has-back found a.0 m (subst (λ (w : List Method). Has w m) a.1 h)) [ inl j ↦ l.sound m j | inr e ↦ subst (λ (w : Method). called_at first (out-Method w).sel ≡ Some (out-Method w).signature) e here ];
    stays = stays_new;
    left = λ m h. elim (l.left m h) [
      | inl j ↦ elim (left_new m j) [
        | inl k ↦ inl k
        | inr k ↦ (let n : Some g ≡ Some (out-Method m).signature = sym i ∙ k.1 in let o : g ≡ (out-Method m).signature = cc in inr (subst (λ (w : List Method). Has w m) (sym a.1) (subst (Has (found ++ a.0 ∷ [])) (same_method a.0 m (a.2 ∙ k.0) (a.3 ∙ o)) (has-right found (a.0 ∷ []) a.0 (inl refl)))))
      ]
      | inr j ↦ inr (subst (λ (w : List Method). Has w m) (sym a.1) (has-left found (a.0 ∷ []) m j))
    ];
  }
    where
      joined : map method_sel found ++ keys old ≡ map method_sel more ++ keys new
      joined = ap (λ w. map method_sel found ++ w) (shape ∙ ap (λ w. w ∷ keys new) (sym a.2)) ∙ sym (append_assoc (map method_sel found) (method_sel a.0 ∷ []) (keys new)) ∙ ap (λ w. w ++ keys new) (sym (ap (map method_sel) a.1 ∙ map-append method_sel found (a.0 ∷ [])))

      here : called_at first (out-Method a.0).sel ≡ Some (out-Method a.0).signature
      here = ap (called_at first) a.2 ∙ l.stays s g (ap called_of at ∙ i) ∙ ap Some (sym a.3)

  pub next_listing : AddsMethod s x.called found more → Listing first new more
  next_listing a = listing_by x.called refl a

pub all_listed : (first rest : Candidates) (found : List Method) → rest.entries ≡ [] → Listing first rest found → Lists first found
all_listed first rest found e l = record {
  ordered = subst (IsStrictlySortedBy sel_order) (ap (λ w. map method_sel found ++ w) none ∙ append-nil (map method_sel found)) l.sorted;
  exact = λ m. (l.sound m, λ h. elim (l.left m h) [ inl i ↦ absurd (nothing_called (out-Method m).sel (out-Method m).signature i) | inr j ↦ j ]);
}
  where
    none : keys rest ≡ []
    none = ap (map (λ p. p.0)) e

    nothing_called : (s : Sel) (g : Signature) → called_at rest s ≡ Some g → ⊥
    nothing_called s g h = let k : called_of None ≡ Some g = sym (ap called_of (no_candidate rest s e)) ∙ h in absurd (cc)

sorted_none : IsStrictlySortedBy sel_order []
unfolding IsStrictlySortedBy
sorted_none = tt

pub none_counts : (T : Table) (t : Term) (ms : List Method) → ms ≡ [] → is_defined_pointer T t ≡ true → IsMethodSet T t ms
none_counts T t ms e d = subst (IsMethodSet T t) (sym e) (record { ordered = sorted_none; sound = λ m h. absurd h; complete = λ m h. true≢false (sym d ∙ h.counts) })
