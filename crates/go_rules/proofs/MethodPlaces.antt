-- The places of methods by their selectors.
use Rattle.std.proofs.Common.{◌≡◌, ◌<◌, ◌≤◌, ◌+◌, ℕ, zero, suc, Bool, true, false, ◌||◌, ◌⊎◌, inl, inr, cond, Option, None, Some, List, [], ◌∷◌, ◌++◌, length, take, get_or, slice_get, refl, sym, ap, ◌∙◌, subst, arith, append-nil, if◌then◌else◌}
use mathlib.Core.Bool.{true≢false}
use Rattle.std.specs.BTreeMap.{BTreeMap, Updates, get, is_at}
use Rattle.std.specs.Map.{lookup}
use Rattle.std.specs.Option.{is_some}
use Rattle.std.specs.Ordering.{is_eq}
use Rattle.std.proofs.lemmas.List.{take_more}
use Rattle.std.proofs.lemmas.Option.{none-some, same_Some, slice_get-get_or, slice_get_past}
use Rattle.go_model.specs.declared.types.names.Sel.{Sel}
use Rattle.go_model.specs.declared.types.package.MethodOf.{MethodOf}
use Rattle.go_model.specs.types.DeclaredMethods.{having, with_sel}
use Rattle.go_model.specs.types.MethodSets.{sel_order}
use Rattle.go_model.specs.types.Terms.{same_sel}
use Rattle.go_model.proofs.MethodSearch.{eq_same}
use Rattle.go_rules.specs.Environments.{is_among}
use Rattle.go_rules.specs.Scopes.{is_had}
use Rattle.go_rules.specs.declared.place.Place.{Place}
use Rattle.go_rules.specs.declared.place.Place.TheVariants as place
use Rattle.go_rules.specs.inner.Places.{ArePlaces, HoldsEach, IsPlace, NotesPlace, noted}
use Rattle.go_rules.proofs.Lacking.{sel_is}

or_true : (b : Bool) → (b || true) ≡ true
or_true true = refl
or_true false = refl

-- ---- methods with a selector

with_push : (s : Sel) (ms : List MethodOf) (m : MethodOf) → with_sel s (ms ++ m ∷ []) ≡ with_sel s ms ++ having s m
with_push s [] m = append-nil (having s m)
with_push s (n ∷ ms) m = by (same_sel n.sel s) (with_push s ms m)
  where
    by : (b : Bool) → with_sel s (ms ++ m ∷ []) ≡ with_sel s ms ++ having s m → (if b then n ∷ [] else []) ++ with_sel s (ms ++ m ∷ []) ≡ ((if b then n ∷ [] else []) ++ with_sel s ms) ++ having s m
    by true e = ap (λ w. n ∷ w) e
    by false e = e

with_other : (s : Sel) (ms : List MethodOf) (m : MethodOf) → same_sel m.sel s ≡ false → with_sel s (ms ++ m ∷ []) ≡ with_sel s ms
with_other s ms m e = with_push s ms m ∙ ap (λ (b : Bool). with_sel s ms ++ (if b then m ∷ [] else [])) e ∙ append-nil (with_sel s ms)

with_this : (s : Sel) (ms : List MethodOf) (m : MethodOf) → same_sel m.sel s ≡ true → with_sel s (ms ++ m ∷ []) ≡ with_sel s ms ++ m ∷ []
with_this s ms m e = with_push s ms m ∙ ap (λ (b : Bool). with_sel s ms ++ (if b then m ∷ [] else [])) e

had_push : (s : Sel) (ms : List MethodOf) (m : MethodOf) → is_had s ms ≡ true → is_had s (ms ++ m ∷ []) ≡ true
had_push s [] m h = absurd (true≢false (sym h))
had_push s (n ∷ ms) m h = by (same_sel n.sel s) h (had_push s ms m)
  where
    by : (b : Bool) → (b || is_had s ms) ≡ true → (is_had s ms ≡ true → is_had s (ms ++ m ∷ []) ≡ true) → (b || is_had s (ms ++ m ∷ [])) ≡ true
    by true e rest = refl
    by false e rest = rest e

had_last : (s : Sel) (ms : List MethodOf) (m : MethodOf) → same_sel m.sel s ≡ true → is_had s (ms ++ m ∷ []) ≡ true
had_last s [] m e = ap (λ b. b || false) e
had_last s (n ∷ ms) m e = ap (λ b. same_sel n.sel s || b) (had_last s ms m e) ∙ or_true (same_sel n.sel s)

-- a list that isn't empty
abbrev is_filled : List MethodOf → Bool
is_filled [] = false
is_filled (m ∷ ms) = true

had_filled : (s : Sel) (ms : List MethodOf) → is_had s ms ≡ is_filled (with_sel s ms)
had_filled s [] = refl
had_filled s (m ∷ ms) = by (same_sel m.sel s) (had_filled s ms)
  where
    by : (b : Bool) → is_had s ms ≡ is_filled (with_sel s ms) → (b || is_had s ms) ≡ is_filled ((if b then m ∷ [] else []) ++ with_sel s ms)
    by true e = refl
    by false e = e

-- ---- places

abbrev Places : Type 0
Places = BTreeMap Sel Place

pub no_places : (m : Places) → m.entries ≡ [] → ArePlaces [] m
no_places m e = λ s. subst (IsPlace s []) (sym (ap (λ es. lookup (is_at (sel_order s)) es) e)) refl

-- what the table has after an insertion
pub noted_at : (old new : Places) (k : Sel) (at : ℕ) (p : Place) → p ≡ noted (get sel_order old k) at → Updates sel_order old new k (Some p) → NotesPlace old new k at
noted_at old new k at p e u = λ s. subst (λ (b : Bool). get sel_order new s ≡ (if b then Some (noted (get sel_order old k) at) else get sel_order old s)) (eq_same k s) (subst (λ (q : Place). get sel_order new s ≡ cond (is_eq (sel_order k s)) (Some q) (get sel_order old s)) e (u.0 s))

noted_once : (o : Option Place) (at : ℕ) → is_some o ≡ false → place.Once at ≡ noted o at
noted_once None at e = refl
noted_once (Some p) at e = absurd (true≢false e)

noted_several : (o : Option Place) (at : ℕ) → is_some o ≡ true → place.Several ≡ noted o at
noted_several None at e = absurd (true≢false (sym e))
noted_several (Some p) at e = refl

-- the place of a selector that had one or not
pub noted_by : (old new : Places) (k key : Sel) (at : ℕ) (p : Place) (had : Bool) → key ≡ k → had ≡ is_some (get sel_order old k) → ((had ≡ true) × (p ≡ place.Several)) ⊎ ((had ≡ false) × (p ≡ place.Once at)) → Updates sel_order old new key (Some p) → NotesPlace old new k at
noted_by old new k key at p had i e (inl h) u = noted_at old new k at p (h.1 ∙ noted_several (get sel_order old k) at (sym e ∙ h.0)) (subst (λ (x : Sel). Updates sel_order old new x (Some p)) i u)
noted_by old new k key at p had i e (inr h) u = noted_at old new k at p (h.1 ∙ noted_once (get sel_order old k) at (sym e ∙ h.0)) (subst (λ (x : Sel). Updates sel_order old new x (Some p)) i u)

at_stays : (ms : List MethodOf) (i : ℕ) (x m : MethodOf) → slice_get ms i ≡ Some x → slice_get (ms ++ m ∷ []) i ≡ Some x
at_stays [] i x m e = absurd (none-some x e)
at_stays (n ∷ ms) zero x m e = e
at_stays (n ∷ ms) (suc i) x m e = at_stays ms i x m e

at_last : (ms : List MethodOf) (m : MethodOf) → slice_get (ms ++ m ∷ []) (length ms) ≡ Some m
at_last [] m = refl
at_last (n ∷ ms) m = at_last ms m

module _ (ms : List MethodOf) (m : MethodOf) where
  -- the place of another selector stays
  place_stays : (s : Sel) (o : Option Place) → same_sel m.sel s ≡ false → IsPlace s ms o → IsPlace s (ms ++ m ∷ []) o
  place_stays s None e h = with_other s ms m e ∙ h
  place_stays s (Some (place.Once i)) e h = (h.0, at_stays ms i h.0 m h.1, with_other s ms m e ∙ h.2)
  place_stays s (Some place.Several) e h = had_push s ms m h

  -- and the place of the method's is noted
  place_noted : (s : Sel) (o : Option Place) (at : ℕ) → at ≡ length ms → same_sel m.sel s ≡ true → IsPlace s ms o → IsPlace s (ms ++ m ∷ []) (Some (noted o at))
  place_noted s None at i e h = (m, ap (slice_get (ms ++ m ∷ [])) i ∙ at_last ms m, with_this s ms m e ∙ ap (λ w. w ++ m ∷ []) h)
  place_noted s (Some p) at i e h = had_last s ms m e

  pub places_more : (old new : Places) (at : ℕ) → at ≡ length ms → ArePlaces ms old → NotesPlace old new m.sel at → ArePlaces (ms ++ m ∷ []) new
  places_more old new at i h n = λ s. by s (same_sel m.sel s) refl
    where
      by : (s : Sel) (b : Bool) → same_sel m.sel s ≡ b → IsPlace s (ms ++ m ∷ []) (get sel_order new s)
      by s true e =
          let same = sel_is m.sel s e in
          subst (IsPlace s (ms ++ m ∷ [])) (sym (n s ∙ ap (λ (b : Bool). if b then Some (noted (get sel_order old m.sel) at) else get sel_order old s) e))
          (place_noted s (get sel_order old m.sel) at i e (subst (λ (x : Sel). IsPlace s ms (get sel_order old x)) (sym same) (h s)))
      by s false e = subst (IsPlace s (ms ++ m ∷ [])) (sym (n s ∙ ap (λ (b : Bool). if b then Some (noted (get sel_order old m.sel) at) else get sel_order old s) e)) (place_stays s (get sel_order old s) e (h s))

-- one more of the methods that a list begins with
pub places_next : (all : List MethodOf) (at : ℕ) (d : MethodOf) (old new : Places) → at < length all → ArePlaces (take at all) old → NotesPlace old new (get_or all at d).sel at → ArePlaces (take (at + 1) all) new
places_next all at d old new l h n =
    subst (λ (ms : List MethodOf). ArePlaces ms new) (sym (take_more all at d l)) (places_more (take at all) (get_or all at d) old new at (sym (length_take at all l)) h n)
  where
    length_take : (k : ℕ) (ms : List MethodOf) → k < length ms → length (take k ms) ≡ k
    length_take k [] h = absurd (omega arith)
    length_take zero (m ∷ ms) h = refl
    length_take (suc k) (m ∷ ms) h = ap suc (length_take k ms (omega arith))

-- a method is had where it has a place
pub had_placed : (s : Sel) (ms : List MethodOf) (o : Option Place) → IsPlace s ms o → is_some o ≡ is_had s ms
had_placed s ms None h = sym (had_filled s ms ∙ ap is_filled h)
had_placed s ms (Some (place.Once i)) h = sym (had_filled s ms ∙ ap is_filled h.2)
had_placed s ms (Some place.Several) h = sym h

-- ---- selectors in their order

pub holds_none : (m : BTreeMap Sel (Unit {0})) → m.entries ≡ [] → HoldsEach [] m
holds_none m e = λ s. ap (λ es. is_some (lookup (is_at (sel_order s)) es)) e

among_push : (s : Sel) (ss : List Sel) (k : Sel) → is_among s (ss ++ k ∷ []) ≡ (same_sel k s || is_among s ss)
among_push s [] k = refl
among_push s (x ∷ ss) k = ap (λ b. same_sel x s || b) (among_push s ss k) ∙ turned (same_sel x s) (same_sel k s)
  where
    turned : (a b : Bool) → (a || (b || is_among s ss)) ≡ (b || (a || is_among s ss))
    turned true true = refl
    turned true false = refl
    turned false b = refl

pub holds_more : (ss : List Sel) (k : Sel) (old new : BTreeMap Sel (Unit {0})) → HoldsEach ss old → Updates sel_order old new k (Some tt) → HoldsEach (ss ++ k ∷ []) new
holds_more ss k old new h u = λ s. ap is_some (u.0 s) ∙ by s (is_eq (sel_order k s)) (get sel_order old s) (h s) ∙ ap (λ b. b || is_among s ss) (eq_same k s) ∙ sym (among_push s ss k)
  where
    by : (s : Sel) (b : Bool) (o : Option (Unit {0})) → is_some o ≡ is_among s ss → is_some (cond b (Some tt) o) ≡ (b || is_among s ss)
    by s true o e = refl
    by s false o e = e

-- what was found at the place of a selector
pub place_there : (s : Sel) (ms items : List MethodOf) (i : ℕ) (m : MethodOf) → IsPlace s ms (Some (place.Once i)) → items ≡ ms → i < length items → m ≡ get_or items i m → with_sel s ms ≡ m ∷ []
place_there s ms items i m h e l g = h.2 ∙ ap (λ x. x ∷ []) (same_Some h.0 m (sym h.1 ∙ ap (λ w. slice_get w i) (sym e) ∙ slice_get-get_or items i m l ∙ ap Some (sym g)))

pub place_missing : (s : Sel) (ms items : List MethodOf) (i : ℕ) → IsPlace s ms (Some (place.Once i)) → items ≡ ms → length items ≤ i → with_sel s ms ≡ []
place_missing s ms items i h e l = absurd (none-some h.0 (sym (slice_get_past items i l) ∙ ap (λ w. slice_get w i) e ∙ h.1))
