-- Lines of lists in any order that are merged, from those whose texts all lists have and those of each.
use Rattle.std.proofs.Common.{◌≡◌, ℕ, suc, ◌+◌, ◌-◌, ◌<◌, ◌≤◌, List, [], ◌∷◌, ◌++◌, length, take, drop, get_or, refl, sym, ap, ◌∙◌, subst, inl, inr, arith, Option, Some, None}
use Rattle.std.specs.List.{zip}
use Rattle.std.proofs.lemmas.Slice.Zip.{length-zip, get_or-zip}
use Rattle.go_base.specs.Lists.{Has, Each}
use Rattle.go_base.specs.Growing.{Grows}
use Rattle.go_base.proofs.Lists.{take_past}
use Rattle.go_base.proofs.Members.{each_has}
use Rattle.go_model.specs.declared.files.platform.Platform.{Platform}
use Rattle.api_lines.specs.declared.line.Line.{Line}
use Rattle.api_lines.specs.Lines.{printed, in_context, HasText, IsListing}
use Rattle.api_lines.specs.Merging.{HasNoContext, IsMerged, IsMergedIn, IsOnAll}
use Rattle.api_lines.specs.inner.AddedLines.{AreTexts, IsAddedFrom, IsAddedFromSome}
use Rattle.api_lines.specs.inner.MergedLines.{IsTextOnAll}
use Rattle.api_lines.proofs.Growing.{taken, OfSome, grows_as, grows_next}
use Rattle.api_lines.proofs.Merged.{zip_has, itself}

-- ---- texts of lists

are_texts_back : (lists : List (List Line)) (all : List (List (List ℕ))) (lines : List Line) (texts : List (List ℕ)) → AreTexts lists all → Grows (HasText lines) [] texts → AreTexts (lists ++ lines ∷ []) (all ++ texts ∷ [])
are_texts_back [] [] lines texts h g = (g, tt)
are_texts_back [] (other ∷ all) lines texts h g = absurd h
are_texts_back (other ∷ lists) [] lines texts h g = absurd h
are_texts_back (other ∷ lists) (these ∷ all) lines texts h g = (h.0, are_texts_back lists all lines texts h.1 g)

pub are_texts_next : (lists : List (List Line)) (i : ℕ) (lines : List Line) (old new : List (List (List ℕ))) (texts : List (List ℕ)) → i < length lists → lines ≡ get_or lists i lines
    → AreTexts (take i lists) old → Grows (HasText lines) [] texts → new ≡ old ++ texts ∷ [] → AreTexts (take (i + 1) lists) new
are_texts_next lists i lines old new texts h is a g e =
    subst (λ (w : List (List Line)). AreTexts w new) (sym (taken lists i lines h is)) (subst (AreTexts (take i lists ++ lines ∷ [])) (sym e) (are_texts_back (take i lists) old lines texts a g))

-- all these sets have the text
abbrev pub IsInAll : List (List (List ℕ)) → List ℕ → Type 0
IsInAll all text = Each (λ texts. Has texts text) all

to_lists : (lists : List (List Line)) (all : List (List (List ℕ))) (text : List ℕ) → AreTexts lists all → IsInAll all text → IsTextOnAll lists text
to_lists [] [] text h e = tt
to_lists [] (texts ∷ all) text h e = absurd h
to_lists (lines ∷ lists) [] text h e = absurd h
to_lists (lines ∷ lists) (texts ∷ all) text h e = (elim (h.0.sound text e.0) [ inl n ↦ absurd n | inr p ↦ p ], to_lists lists all text h.1 e.1)

from_lists : (lists : List (List Line)) (all : List (List (List ℕ))) (text : List ℕ) → AreTexts lists all → IsTextOnAll lists text → IsInAll all text
from_lists [] [] text h e = tt
from_lists [] (texts ∷ all) text h e = absurd h
from_lists (lines ∷ lists) [] text h e = absurd h
from_lists (lines ∷ lists) (texts ∷ all) text h e = (h.0.complete text e.0, from_lists lists all text h.1 e.1)

-- the text of a line, where all these sets have it
abbrev pub IsCommonText : List (List (List ℕ)) → Line → List ℕ → Type 0
IsCommonText all l text = IsInAll all (printed l) × (printed l ≡ text)

pub common_all : (first : List Line) (others : List (List Line)) (all : List (List (List ℕ))) (common : List (List ℕ)) (i : ℕ) → length first ≤ i → AreTexts others all
    → Grows (OfSome (IsCommonText all) (take i first)) [] common → Grows (λ text. HasText first text × IsTextOnAll others text) [] common
common_all first others all common i h a g =
    grows_as (OfSome (IsCommonText all) first) (λ text. HasText first text × IsTextOnAll others text) [] common
    (λ x p. ((p.0, p.1, p.2.1), to_lists others all x a (subst (IsInAll all) p.2.1 p.2.0)))
    (λ x p. (p.0.0, p.0.1, (from_lists others all (printed p.0.0) a (subst (IsTextOnAll others) (sym p.0.2) p.1), p.0.2)))
    (subst (λ (w : List Line). Grows (OfSome (IsCommonText all) w) [] common) (take_past i first h) g)

-- the text of one line more
pub common_step : (all these : List (List (List ℕ))) (l : Line) (text : List ℕ) (old new : List (List ℕ)) → these ≡ all → text ≡ printed l → Grows (λ member. IsInAll these text × (text ≡ member)) old new → Grows (IsCommonText all l) old new
common_step all these l text old new e f g = subst (λ (p : List (List (List ℕ)) × List ℕ). Grows (λ member. IsInAll p.0 p.1 × (p.1 ≡ member)) old new) (λ i. (e i, f i)) g

-- ---- which lines are added

-- those for the list of one platform more
pub added_next : (common : List (List ℕ)) (lists : List (List Line)) (platforms : List Platform) (i : ℕ) (lines : List Line) (p : Platform) (old mid new : List Line) → length lists ≡ length platforms → i < length lists → lines ≡ get_or lists i lines → p ≡ get_or platforms i p
    → Grows (IsAddedFromSome common (take i (zip lists platforms))) old mid → Grows (IsAddedFrom common (Some p) lines) mid new → Grows (IsAddedFromSome common (take (i + 1) (zip lists platforms))) old new
added_next common lists platforms i lines p old mid new same h is at f g =
    let inner : i < length platforms = omega arith in
    grows_next (λ (pair : List Line × Platform). IsAddedFrom common (Some pair.1) pair.0) (zip lists platforms) i (lines, p) old mid new (omega (arith, length-zip lists platforms)) ((λ j. (is j, at j)) ∙ sym (get_or-zip lists platforms i (lines, p) h inner)) f g

pub added_all : (common : List (List ℕ)) (lists : List (List Line)) (platforms : List Platform) (i : ℕ) (old new : List Line) → length lists ≤ i → Grows (IsAddedFromSome common (take i (zip lists platforms))) old new → Grows (IsAddedFromSome common (zip lists platforms)) old new
added_all common lists platforms i old new h g = subst (λ (w : List (List Line × Platform)). Grows (IsAddedFromSome common w) old new) (take_past i (zip lists platforms) (omega (arith, length-zip lists platforms))) g

-- ---- the whole

some_platform : (first : List Line) (others : List (List Line)) (platforms : List Platform) → length (first ∷ others) ≡ length platforms → (p : Platform) × Has (zip (first ∷ others) platforms) (first, p)
some_platform first others [] e = absurd (omega arith)
some_platform first others (p ∷ platforms) e = (p, inl refl)

module _ (first : List Line) (others : List (List Line)) (platforms : List Platform) (common : List (List ℕ)) (shared own result : List Line) (same : length (first ∷ others) ≡ length platforms) (plain : Each (Each HasNoContext) (first ∷ others)) (texts : Grows (λ text. HasText first text × IsTextOnAll others text) [] common) (g : Grows (IsAddedFrom common None first) [] shared) (h : Grows (IsAddedFromSome common (zip (first ∷ others) platforms)) shared own) (listed : IsListing (Has own) result) where
  in_all : (text : List ℕ) → Has common text → HasText first text × IsTextOnAll others text
  in_all text k = elim (texts.sound text k) [ inl n ↦ absurd n | inr p ↦ p ]

  plain_first : (m : Line) → Has first m → in_context None m ≡ m
  plain_first m k = itself m None (each_has HasNoContext first m plain.0 k)

  plain_one : (lines : List Line) (p : Platform) (m : Line) → Has (zip (first ∷ others) platforms) (lines, p) → Has lines m → in_context None m ≡ m
  plain_one lines p m z k = itself m None (each_has HasNoContext lines m (each_has (Each HasNoContext) (first ∷ others) lines plain (zip_has (first ∷ others) platforms lines p z)) k)

  own_is : (l : Line) → IsAddedFromSome common (zip (first ∷ others) platforms) l → IsMerged (first ∷ others) platforms l
  own_is l w =
      let e = plain_one w.0.0 w.0.1 w.2.0 w.1 w.2.1 in
      subst (IsMerged (first ∷ others) platforms) w.2.2.1 (
        (w.0.0, w.1, subst (Has w.0.0) (sym e) w.2.1),
        (λ all. w.2.2.0 (texts.complete (printed w.2.0) (subst (λ (m : Line). HasText first (printed m) × IsTextOnAll others (printed m)) e all))),
      )

  shared_is : (l : Line) → IsAddedFrom common None first l → IsMerged (first ∷ others) platforms l
  shared_is l w =
      let e = plain_first w.0 w.1 in
      let p = some_platform first others platforms same in
      subst (IsMerged (first ∷ others) platforms) w.2.1 (
        (p.0, (first, p.1, subst (Has first) (sym e) w.1)),
        subst (λ (m : Line). IsOnAll (first ∷ others) m) (sym e) (in_all (printed w.0) w.2.0),
      )

  sound : (l : Line) → Has result l → IsMerged (first ∷ others) platforms l
  sound l k = elim (h.sound l (listed.sound l k)) [ inl i ↦ elim (g.sound l i) [ inl n ↦ absurd n | inr p ↦ shared_is l p ] | inr p ↦ own_is l p ]

  complete_in : (l : Line) (context : Option Platform) → l.context ≡ context → IsMergedIn (first ∷ others) platforms context l → HasText result (printed l)
  complete_in l None e k =
      let m = k.1.0 in
      let a : Has common (printed l) = texts.complete (printed l) k.1 in
      let n : Has own (in_context None m.0) = h.kept (in_context None m.0) (g.complete (in_context None m.0) (m.0, m.1, (subst (Has common) (sym m.2) a, refl))) in
      subst (HasText result) (ap printed (plain_first m.0 m.1) ∙ m.2) (listed.complete (in_context None m.0) n)
  complete_in l (Some p) e k =
      listed.complete l (h.complete l ((k.0.0, p), k.0.1, (in_context None l, k.0.2, ((λ c. k.1 (in_all (printed (in_context None l)) c)), itself l (Some p) e))))

  pub all_added : IsListing (IsMerged (first ∷ others) platforms) result
  all_added = record { sound = sound; complete = λ l k. complete_in l l.context refl k; ordered = listed.ordered }

-- a list is its first item and the others
pub headed_slice : {A : Type 0} (xs : List A) (x : A) → 0 < length xs → x ≡ get_or xs 0 x → xs ≡ x ∷ take (length xs - 1) (drop 1 xs)
headed_slice [] x h is = absurd (omega arith)
headed_slice (y ∷ xs) x h is = ap (λ z. z ∷ xs) (sym is) ∙ ap (λ w. x ∷ w) (sym (take_past (length xs) xs (omega arith)) ∙ ap (λ n. take n xs) (let e : length xs ≡ suc (length xs) - 1 = omega arith in e))

pub merged_of : (lists : List (List Line)) (first : List Line) (platforms : List Platform) (common : List (List ℕ)) (start shared own result : List Line) → 0 < length lists → first ≡ get_or lists 0 first → length lists ≡ length platforms → Each (Each HasNoContext) lists → start ≡ []
    → Grows (λ text. HasText first text × IsTextOnAll (take (length lists - 1) (drop 1 lists)) text) [] common → Grows (IsAddedFrom common None first) start shared → Grows (IsAddedFromSome common (zip lists platforms)) shared own → IsListing (Has own) result → IsListing (IsMerged lists platforms) result
merged_of lists first platforms common start shared own result some is same plain none texts g h listed =
    let e : lists ≡ first ∷ take (length lists - 1) (drop 1 lists) = headed_slice lists first some is in
    subst (λ (w : List (List Line)). IsListing (IsMerged w platforms) result) (sym e)
    (all_added first (take (length lists - 1) (drop 1 lists)) platforms common shared own result (subst (λ (w : List (List Line)). length w ≡ length platforms) e same) (subst (Each (Each HasNoContext)) e plain) texts (subst (λ (w : List Line). Grows (IsAddedFrom common None first) w shared) none g) (subst (λ (w : List (List Line)). Grows (IsAddedFromSome common (zip w platforms)) shared own) e h) listed)

-- the texts that all have, where the first list's were taken from a listing
pub common_once : (first once : List Line) (others : List (List Line)) (common : List (List ℕ)) → IsListing (Has first) once → Grows (λ text. HasText once text × IsTextOnAll others text) [] common → Grows (λ text. HasText first text × IsTextOnAll others text) [] common
common_once first once others common listed g =
    grows_as (λ text. HasText once text × IsTextOnAll others text) (λ text. HasText first text × IsTextOnAll others text) [] common
    (λ x p. ((p.0.0, listed.sound p.0.0 p.0.1, p.0.2), p.1))
    (λ x p. (subst (HasText once) p.0.2 (listed.complete p.0.0 p.0.1), p.1))
    g
