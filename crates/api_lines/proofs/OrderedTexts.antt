-- Items that are put in the order of their texts, each text once.
use Rattle.std.proofs.Common.{◌≡◌, ℕ, suc, true, List, [], ◌∷◌, map, refl, sym, ap, ◌∙◌, subst, inl, inr, arith}
use Rattle.std.specs.Ordering.{nat_cmp, on}
use Rattle.std.specs.Prelude.{bytes_eq}
use Rattle.std.specs.declared.cmp.Ordering.{Ordering}
use Rattle.std.specs.declared.cmp.Ordering.TheVariants.{Less}
use Rattle.std.specs.Cmp.{on_equiv, on_total}
use Rattle.std.specs.Cmp.Lexicographic.{slice_cmp, bytes_decides, nat_list_cmp_total, nat_list_eq_equiv, texts_ties}
use Rattle.std.specs.List.{Any, Contains, dedup, AllByRecursion}
use Rattle.std.specs.List.Retain.{IsFiltered, DiffersFromLast}
use Rattle.std.specs.List.Sorted.{IsPermutation, IsSorted, IsStrictlySortedBy}
use Rattle.std.proofs.lemmas.List.Filters.{dedup_is}
use Rattle.std.proofs.lemmas.List.Kept.{Any-dedup, Contains-from_dedup, IsStrictlySortedBy-dedup}
use Rattle.std.proofs.lemmas.List.Sorted.{Contains-permutation, IsPermutation-sym}
use Rattle.go_base.specs.Lists.{Has}
use Rattle.api_lines.proofs.Growing.{has_at}
use Rattle.api_lines.specs.OrderedTexts.{IsArranged}

pub has_contains : {A : Type 0} (xs : List A) (x : A) → Has xs x → Contains xs x
has_contains [] x h = absurd h
has_contains (y ∷ xs) x h = elim h [
  | inl e ↦ (0, omega arith, e)
  | inr r ↦ let c : Contains xs x = has_contains xs x r in (suc c.0, omega (arith, c.1), c.2)
]

pub contains_has : {A : Type 0} (xs : List A) (x : A) → Contains xs x → Has xs x
contains_has xs x c = has_at xs c.0 x c.1 (sym c.2)

any_has : {A : Type 0} (P : A → Type 0) (xs : List A) → Any P xs → (x : A) × Has xs x × P x
any_has P xs a = (a.1, has_at xs a.0 a.1 a.2 (sym a.3), a.4)

pub has_map : {A B : Type 0} (f : A → B) (xs : List A) (x : A) → Has xs x → Has (map f xs) (f x)
has_map f [] x h = absurd h
has_map f (y ∷ xs) x (inl e) = inl (ap f e)
has_map f (y ∷ xs) x (inr h) = inr (has_map f xs x h)

pub map_has : {A B : Type 0} (f : A → B) (xs : List A) (y : B) → Has (map f xs) y → (x : A) × Has xs x × (f x ≡ y)
map_has f [] y h = absurd h
map_has f (x ∷ xs) y (inl e) = (x, inl refl, e)
map_has f (x ∷ xs) y (inr h) = let k = map_has f xs y h in (k.0, inr k.1, k.2)

module _ {P : Type 0} (text_of : P → List ℕ) where
  abbrev order : P → P → Ordering
  order p q = slice_cmp nat_cmp (text_of p) (text_of q)

  below_texts : (p : P) (ps : List P) → AllByRecursion (λ q. order p q ≡ Less) ps → AllByRecursion (λ (t : List ℕ). slice_cmp nat_cmp (text_of p) t ≡ Less) (map text_of ps)
  below_texts p [] h = tt
  below_texts p (q ∷ ps) h = (h.0, below_texts p ps h.1)

  strict_texts : (ps : List P) → IsStrictlySortedBy order ps → IsStrictlySortedBy (slice_cmp nat_cmp) (map text_of ps)
  unfolding IsStrictlySortedBy
  strict_texts [] h = tt
  strict_texts (p ∷ ps) h = (below_texts p ps h.0, strict_texts ps h.1)

  module _ (old sorted : List P) (moved : IsPermutation old sorted) where
    sound : (p : P) → Has (dedup (on text_of bytes_eq) sorted) p → Has old p
    sound p h = contains_has old p (Contains-permutation sorted old p (IsPermutation-sym old sorted moved) (Contains-from_dedup (on text_of bytes_eq) sorted p (has_contains (dedup (on text_of bytes_eq) sorted) p h)))

    complete : (p : P) → Has old p → (q : P) × Has (dedup (on text_of bytes_eq) sorted) q × (text_of p ≡ text_of q)
    complete p h =
        let b = any_has (λ y. on text_of bytes_eq p y ≡ true) (dedup (on text_of bytes_eq) sorted) (Any-dedup (on_equiv text_of nat_list_eq_equiv) sorted p (Contains-permutation old sorted p moved (has_contains old p h))) in
        (b.0, b.1, (bytes_decides (text_of p) (text_of b.0)).0 b.2)

    pub arranged : (new : List P) → IsSorted order sorted → IsFiltered (DiffersFromLast (on text_of bytes_eq)) [] sorted new → IsArranged text_of old new
    arranged new up filtered =
        subst (IsArranged text_of old) (sym (dedup_is (on text_of bytes_eq) sorted new filtered))
        (record { sound = sound; complete = complete; ordered = strict_texts (dedup (on text_of bytes_eq) sorted) (IsStrictlySortedBy-dedup (on_total text_of nat_list_cmp_total) (λ x y. texts_ties (text_of x) (text_of y)) sorted up) })

-- values that were put in order with their texts
module _ {P A : Type 0} (text : A → List ℕ) (old sorted new : List P) (text_of : P → List ℕ) (value_of : P → A) (shown : (p : P) → text_of p ≡ text (value_of p)) where
  texts_shown : (ps : List P) → map text_of ps ≡ map text (map value_of ps)
  texts_shown [] = refl
  texts_shown (p ∷ ps) = let rest = texts_shown ps in (λ i. shown p i ∷ rest i)

  pub values_arranged : IsPermutation old sorted → IsSorted (λ p q. slice_cmp nat_cmp (text_of p) (text_of q)) sorted → IsFiltered (DiffersFromLast (on text_of bytes_eq)) [] sorted new → IsArranged text (map value_of old) (map value_of new)
  values_arranged moved up filtered =
      let a = arranged text_of old sorted moved new up filtered in
      record {
        sound = λ x h. let k = map_has value_of new x h in subst (Has (map value_of old)) k.2 (has_map value_of old k.0 (a.sound k.0 k.1));
        complete = λ x h. let k = map_has value_of old x h in let b = a.complete k.0 k.1 in (value_of b.0, has_map value_of new b.0 b.1, sym (ap text k.2) ∙ sym (shown k.0) ∙ b.2 ∙ shown b.0);
        ordered = subst (IsStrictlySortedBy (slice_cmp nat_cmp)) (texts_shown new) a.ordered;
      }
