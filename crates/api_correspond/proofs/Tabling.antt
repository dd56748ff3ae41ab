-- Sets of texts and tables of pairs keep what they had in its places.
use Rattle.std.proofs.Common.{◌≡◌, ◌≤◌, ◌<◌, ◌⊎◌, inl, inr, ℕ, zero, suc, Bool, true, false, not, Option, Some, None, List, [], ◌∷◌, ◌++◌, map, length, refl, sym, ap, ◌∙◌, subst, arith, append_assoc, append-nil, ◌||◌}
use mathlib.Core.Bool.{true≢false}
use Rattle.std.specs.Prelude.{if◌then◌else◌, slice_get, bytes_eq}
use Rattle.std.specs.List.{list_any}
use Rattle.std.proofs.lemmas.Slice.Eq.{bytes_eq-Decides}
use Rattle.indexmap.specs.IndexSet.{insert_key}
use Rattle.go_base.specs.Lists.{Has, Once}
use Rattle.go_base.proofs.Members.{found_has, has_found, has_split}
use Rattle.go_type_images.specs.declared.pair.TypePair.{TypePair}
use Rattle.go_type_codes.specs.Codes.{Code, code_of_pair}
use Rattle.api_correspond.specs.inner.Tables.{At, AddsAt, KeepsTexts, InStep, AddsPair, AddsPairs}
use Rattle.go_type_codes.proofs.PrefixFree.{pairs_told}
use Rattle.api_correspond.proofs.Places.{at_left, at_has, at_unmap, has_map, map_last, once_more}

get_at : {A : Type 0} (xs : List A) (i : ℕ) (x : A) → slice_get xs i ≡ Some x → At xs i x
get_at [] i x e = absurd (cc)
get_at (y ∷ xs) zero x e = (let k : y ≡ x = cc in k)
get_at (y ∷ xs) (suc i) x e = get_at xs i x e

module _ {A : Type 0} (same : A → A → Bool) (is : (a b : A) → same a b ≡ true → a ≡ b) (itself : (a : A) → same a a ≡ true) where
  added : (ks new : List A) (k : A) (at : ℕ) (known : Bool) → list_any (same k) ks ≡ known → new ≡ (if known then ks else ks ++ k ∷ []) → At new at k → AddsAt ks new k at (not known)
  added ks new k at true e f h = (f, h)
  added ks new k at false e f h = (f, h, λ m. true≢false (sym (has_found same itself ks k m) ∙ e))

  pub adds_at : (ks new : List A) (k : A) (at : ℕ) (fresh : Bool) → new ≡ insert_key same ks k → fresh ≡ not (list_any (same k) ks) → (j : A) → slice_get new at ≡ Some j → same k j ≡ true → AddsAt ks new k at fresh
  adds_at ks new k at fresh e f j g s = subst (λ (b : Bool). AddsAt ks new k at b) (sym f) (added ks new k at (list_any (same k) ks) refl e (subst (At new at) (sym (is k j s)) (get_at new at j g)))

pub text_at : (ks new : List (List ℕ)) (k : List ℕ) (at : ℕ) (fresh : Bool) → new ≡ insert_key bytes_eq ks k → fresh ≡ not (list_any (bytes_eq k) ks) → (j : List ℕ) → slice_get new at ≡ Some j → bytes_eq k j ≡ true → AddsAt ks new k at fresh
text_at = adds_at bytes_eq (λ a b. (bytes_eq-Decides a b).0) (λ a. (bytes_eq-Decides a a).1 refl)

-- texts are kept where one was added
pub keeps_none : (ks : List (List ℕ)) → KeepsTexts ks ks
keeps_none ks = record { more = []; grown = sym (append-nil ks); once = λ o. o }

pub keeps_more : (a b c : List (List ℕ)) → KeepsTexts a b → KeepsTexts b c → KeepsTexts a c
keeps_more a b c p q = record { more = p.more ++ q.more; grown = q.grown ∙ ap (λ w. w ++ q.more) p.grown ∙ append_assoc a p.more q.more; once = λ o. q.once (p.once o) }

pub keeps_at : (ks new : List (List ℕ)) (k : List ℕ) (at : ℕ) (fresh : Bool) → AddsAt ks new k at fresh → KeepsTexts ks new
keeps_at ks new k at true h = record { more = k ∷ []; grown = h.0; once = λ o. subst Once (sym h.0) (once_more ks k o h.2) }
keeps_at ks new k at false h = subst (KeepsTexts ks) (sym h.0) (keeps_none ks)

pub stands_at : (ks new : List (List ℕ)) (k : List ℕ) (at : ℕ) (fresh : Bool) → AddsAt ks new k at fresh → At new at k
stands_at ks new k at true h = h.1
stands_at ks new k at false h = h.1

pub keeps_place : (a b : List (List ℕ)) (i : ℕ) (x : List ℕ) → KeepsTexts a b → At a i x → At b i x
keeps_place a b i x k h = subst (λ (w : List (List ℕ)). At w i x) (sym k.grown) (at_left a k.more i x h)

-- a pair was added to a table
pub pair_new : (codes longer : List Code) (pairs grown : List TypePair) (p : TypePair) (c : Code) (at : ℕ) (fresh : Bool) → InStep codes pairs → c ≡ code_of_pair p → AddsAt codes longer c at fresh → fresh ≡ true → grown ≡ pairs ++ p ∷ [] → InStep longer grown × AddsPair pairs grown p at
pair_new codes longer pairs grown p c at fresh s e a f g =
    let k = subst (AddsAt codes longer c at) f a in
    let same : longer ≡ map code_of_pair grown = k.0 ∙ ap (λ w. w ++ c ∷ []) s.same ∙ ap (λ z. map code_of_pair pairs ++ z ∷ []) e ∙ sym (map_last code_of_pair pairs p) ∙ ap (map code_of_pair) (sym g) in
    let there = at_unmap code_of_pair grown at c (subst (λ (w : List Code). At w at c) same k.1) in (
      record { same = same; once = subst Once (sym g) (once_more pairs p s.once (λ h. k.2 (subst (Has codes) (sym e) (subst (λ (w : List Code). Has w (code_of_pair p)) (sym s.same) (has_map code_of_pair pairs p h))))) },
      record { more = p ∷ []; grown = g; only = λ q h. elim h [ inl e ↦ sym e | inr n ↦ absurd n ]; there = subst (At grown at) (pairs_told there.0 p (there.2 ∙ e)) there.1 },
    )

pub pair_known : (codes longer : List Code) (pairs : List TypePair) (p : TypePair) (c : Code) (at : ℕ) (fresh : Bool) → InStep codes pairs → c ≡ code_of_pair p → AddsAt codes longer c at fresh → fresh ≡ false → InStep longer pairs × AddsPair pairs pairs p at
pair_known codes longer pairs p c at fresh s e a f =
    let k = subst (AddsAt codes longer c at) f a in
    let same : longer ≡ map code_of_pair pairs = k.0 ∙ s.same in
    let there = at_unmap code_of_pair pairs at c (subst (λ (w : List Code). At w at c) same k.1) in (
      record { same = same; once = s.once },
      record { more = []; grown = sym (append-nil pairs); only = λ q h. absurd h; there = subst (At pairs at) (pairs_told there.0 p (there.2 ∙ e)) there.1 },
    )

-- pairs that were added one by one, the rest still to come
pub record Adding (whole rest : List TypePair) (old new : List TypePair) (numbers : List ℕ) : Type 0 where
  pub more : List TypePair
  pub grown : new ≡ old ++ more
  pub only : (p : TypePair) → Has more p → Has whole p
  pub within : (p : TypePair) → Has rest p → Has whole p
  pub sound : (j : ℕ) → Has numbers j → (p : TypePair) × Has whole p × At new j p
  pub pending : (p : TypePair) → Has whole p → Has rest p ⊎ ((j : ℕ) × Has numbers j × At new j p)

pub adding_none : (whole old : List TypePair) → Adding whole whole old old []
adding_none whole old = record { more = []; grown = sym (append-nil old); only = λ p h. absurd h; within = λ p h. h; sound = λ j h. absurd h; pending = λ p h. inl h }

split_last : {A : Type 0} (xs : List A) (y x : A) → Has (xs ++ y ∷ []) x → Has xs x ⊎ (y ≡ x)
split_last [] y x (inl e) = inr e
split_last [] y x (inr e) = absurd e
split_last (z ∷ xs) y x (inl e) = inl (inl e)
split_last (z ∷ xs) y x (inr h) = elim (split_last xs y x h) [ inl a ↦ inl (inr a) | inr b ↦ inr b ]

left_of : {A : Type 0} (xs ys : List A) (x : A) → Has xs x → Has (xs ++ ys) x
left_of [] ys x h = absurd h
left_of (y ∷ xs) ys x (inl e) = inl e
left_of (y ∷ xs) ys x (inr h) = inr (left_of xs ys x h)

last_of : {A : Type 0} (xs : List A) (x : A) → Has (xs ++ x ∷ []) x
last_of [] x = inl refl
last_of (y ∷ xs) x = inr (last_of xs x)

pub adding_more : (whole rest less : List TypePair) (old mid new : List TypePair) (numbers longer : List ℕ) (p : TypePair) (at : ℕ) → rest ≡ less ++ p ∷ [] → Adding whole rest old mid numbers → AddsPair mid new p at → longer ≡ numbers ++ at ∷ [] → Adding whole less old new longer
adding_more whole rest less old mid new numbers longer p at e a b f = record {
  more = a.more ++ b.more;
  grown = b.grown ∙ ap (λ w. w ++ b.more) a.grown ∙ append_assoc old a.more b.more;
  only = λ q h. elim (has_split a.more b.more q h) [ inl x ↦ a.only q x | inr y ↦ subst (Has whole) (sym (b.only q y)) (a.within p (subst (λ (w : List TypePair). Has w p) (sym e) (last_of less p))) ];
  within = λ q h. a.within q (subst (λ (w : List TypePair). Has w q) (sym e) (left_of less (p ∷ []) q h));
  sound = λ j h. elim (split_last numbers at j (subst (λ (w : List ℕ). Has w j) f h)) [
    | inl x ↦ (let k = a.sound j x in (k.0, k.1, subst (λ (w : List TypePair). At w j k.0) (sym b.grown) (at_left mid b.more j k.0 k.2)))
    | inr s ↦ (p, a.within p (subst (λ (w : List TypePair). Has w p) (sym e) (last_of less p)), subst (λ (i : ℕ). At new i p) s b.there)
  ];
  pending = λ q h. elim (a.pending q h) [
    | inl x ↦ elim (split_last less p q (subst (λ (w : List TypePair). Has w q) e x)) [
      | inl y ↦ inl y
      | inr s ↦ inr (at, subst (λ (w : List ℕ). Has w at) (sym f) (last_of numbers at), subst (At new at) s b.there)
    ]
    | inr k ↦ inr (k.0, subst (λ (w : List ℕ). Has w k.0) (sym f) (left_of numbers (at ∷ []) k.0 k.1), subst (λ (w : List TypePair). At w k.0 q) (sym b.grown) (at_left mid b.more k.0 q k.2))
  ];
}

pub adding_all : (whole old new : List TypePair) (numbers : List ℕ) → Adding whole [] old new numbers → AddsPairs old new whole numbers
adding_all whole old new numbers a = record { more = a.more; grown = a.grown; only = a.only; sound = a.sound; complete = λ p h. elim (a.pending p h) [ inl x ↦ absurd x | inr k ↦ k ] }
