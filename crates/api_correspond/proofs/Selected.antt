-- Tables of the places at which selectors stand.
use Rattle.std.proofs.Common.{◌≡◌, ◌<◌, ◌≤◌, ◌+◌, ◌⊎◌, inl, inr, ℕ, suc, Bool, true, false, cond, Option, None, Some, List, [], ◌∷◌, ◌++◌, length, map, get_or, refl, sym, ap, ◌∙◌, subst, arith}
use Rattle.std.proofs.lemmas.Bool.{cases_lt}
use mathlib.Core.Bool.{true≢false}
use Rattle.std.specs.Prelude.{if◌then◌else◌}
use Rattle.std.specs.BTreeMap.{get, is_at}
use Rattle.std.specs.Ordering.{is_eq}
use Rattle.std.specs.Map.{lookup}
use Rattle.go_base.specs.Lists.{Has}
use Rattle.go_model.specs.types.MethodSets.{sel_order}
use Rattle.go_model.specs.types.Terms.{same_sel}
use Rattle.go_model.specs.declared.types.names.Sel.{Sel}
use Rattle.go_selectors.proofs.Lists.{has-left, has-last, has-back}
use Rattle.go_selectors.proofs.Noting.{eq_same, sel_is, sel_self}
use Rattle.api_correspond.specs.inner.BySel.{PlaceTable, numbers_of, places_at, AddsPlace, ArePlacesBelow, ArePlaces}
use Rattle.api_correspond.specs.inner.Tables.{At}
use Rattle.api_correspond.proofs.Places.{at_within, at_same, at_get, at_map, at_unmap, has_at, at_has}

numbers_by : (b : Bool) (v : List ℕ) (o : Option (List ℕ)) → numbers_of (cond b (Some v) o) ≡ cond b v (numbers_of o)
numbers_by true v o = refl
numbers_by false v o = refl

pub put_places : (k s : Sel) (v : List ℕ) (o : Option (List ℕ)) → numbers_of (cond (is_eq (sel_order k s)) (Some v) o) ≡ cond (same_sel k s) v (numbers_of o)
put_places k s v o = ap (λ (b : Bool). numbers_of (cond b (Some v) o)) (eq_same k s) ∙ numbers_by (same_sel k s) v o

pub other_sel : (k s : Sel) → same_sel k s ≡ false → is_eq (sel_order k s) ≡ false
other_sel k s e = eq_same k s ∙ e

-- a place was taken out, and put back with one more
pub place_added : (k key s : Sel) (old mid new : PlaceTable) (at : ℕ) (numbers more : List ℕ) → numbers ≡ places_at old k → ((q : Sel) → same_sel k q ≡ false → places_at mid q ≡ places_at old q) → more ≡ numbers ++ at ∷ [] → key ≡ k → places_at new s ≡ (if same_sel key s then more else places_at mid s) → places_at new s ≡ (if same_sel k s then places_at old s ++ at ∷ [] else places_at old s)
place_added k key s old mid new at numbers more e others f i j = by (same_sel k s) refl
  where
    g : places_at new s ≡ (if same_sel k s then more else places_at mid s)
    g = j ∙ ap (λ (z : Sel). if same_sel z s then more else places_at mid s) i

    by : (b : Bool) → same_sel k s ≡ b → places_at new s ≡ (if same_sel k s then places_at old s ++ at ∷ [] else places_at old s)
    by true i = g ∙ ap (λ (b : Bool). if b then more else places_at mid s) i ∙ f ∙ ap (λ (w : List ℕ). w ++ at ∷ []) (e ∙ ap (places_at old) (sel_is k s i)) ∙ ap (λ (b : Bool). if b then places_at old s ++ at ∷ [] else places_at old s) (sym i)
    by false i = g ∙ ap (λ (b : Bool). if b then more else places_at mid s) i ∙ others s i ∙ ap (λ (b : Bool). if b then places_at old s ++ at ∷ [] else places_at old s) (sym i)

pub no_places : (sels : List Sel) (m : PlaceTable) → m.entries ≡ [] → ArePlacesBelow 0 sels m
no_places sels m e = record { sound = λ s i h. absurd (subst (λ (w : List ℕ). Has w i) (none s) h); complete = λ s i l h. absurd (omega arith) }
  where
    none : (s : Sel) → places_at m s ≡ []
    none s = ap (λ es. numbers_of (lookup (is_at (sel_order s)) es)) e

pub places_more : (sels : List Sel) (k : Sel) (n : ℕ) (old new : PlaceTable) → At sels n k → ArePlacesBelow n sels old → AddsPlace old new k n → ArePlacesBelow (n + 1) sels new
places_more sels k n old new at p a = record { sound = sound; complete = complete }
  where
    sound_by : (s : Sel) (i : ℕ) (b : Bool) → same_sel k s ≡ b → Has (if b then places_at old s ++ n ∷ [] else places_at old s) i → At sels i s
    sound_by s i true e h = elim (has-back (places_at old s) n i h) [ inl x ↦ p.sound s i x | inr y ↦ subst (λ (j : ℕ). At sels j s) y (subst (At sels n) (sel_is k s e) at) ]
    sound_by s i false e h = p.sound s i h

    sound : (s : Sel) (i : ℕ) → Has (places_at new s) i → At sels i s
    sound s i h = sound_by s i (same_sel k s) refl (subst (λ (w : List ℕ). Has w i) (a s) h)

    back : (s : Sel) (i : ℕ) → Has (if same_sel k s then places_at old s ++ n ∷ [] else places_at old s) i → Has (places_at new s) i
    back s i h = subst (λ (w : List ℕ). Has w i) (sym (a s)) h

    kept_by : (s : Sel) (i : ℕ) (b : Bool) → Has (places_at old s) i → Has (if b then places_at old s ++ n ∷ [] else places_at old s) i
    kept_by s i true h = has-left (places_at old s) (n ∷ []) i h
    kept_by s i false h = h

    same_true : (s : Sel) → k ≡ s → same_sel k s ≡ true
    same_true s e = subst (λ (z : Sel). same_sel k z ≡ true) e (sel_self k)

    complete : (s : Sel) (i : ℕ) → i < n + 1 → At sels i s → Has (places_at new s) i
    complete s i l h = elim (cases_lt i n) [
      | inl x ↦ back s i (kept_by s i (same_sel k s) (p.complete s i x h))
      | inr y ↦ (
          let e : n ≡ i = omega arith in
          let f : k ≡ s = at_same sels n k s at (subst (λ (j : ℕ). At sels j s) (sym e) h) in
          back s i (subst (λ (b : Bool). Has (if b then places_at old s ++ n ∷ [] else places_at old s) i) (sym (same_true s f)) (subst (λ (j : ℕ). Has (places_at old s ++ n ∷ []) j) e (has-last (places_at old s) n)))
          )
    ]

length_map : {A B : Type 0} (f : A → B) (xs : List A) → length (map f xs) ≡ length xs
length_map f [] = refl
length_map f (x ∷ xs) = ap suc (length_map f xs)

module _ {A : Type 0} (key : A → Sel) (xs : List A) where
  pub item_at : (i : ℕ) (x : A) → i < length xs → x ≡ get_or xs i x → At (map key xs) i (key x)
  item_at i x l e = at_map key xs i x (at_get xs i x l e)

  pub places_all : (n : ℕ) (m : PlaceTable) → length xs ≤ n → ArePlacesBelow n (map key xs) m → ArePlaces (map key xs) m
  places_all n m l p = record { sound = p.sound; complete = λ s i h. (let k = at_within (map key xs) i s h in let d = length_map key xs in p.complete s i (omega (arith, k, l, d)) h) }

  -- the item at a place of a selector has it, and each item with it stands at one
  pub placed_item : (m : PlaceTable) (s : Sel) (i : ℕ) → ArePlaces (map key xs) m → Has (places_at m s) i → (x : A) × At xs i x × (key x ≡ s)
  placed_item m s i p h = at_unmap key xs i s (p.sound s i h)

  pub item_placed : (m : PlaceTable) (s : Sel) (x : A) → ArePlaces (map key xs) m → Has xs x → key x ≡ s → (i : ℕ) × Has (places_at m s) i × At xs i x
  item_placed m s x p h e = let k = has_at xs x h in (k.0, p.complete s k.0 (subst (At (map key xs) k.0) e (at_map key xs k.0 x k.1)), k.1)
