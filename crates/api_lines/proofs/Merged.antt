-- Lines that are merged, from those that all lists have and those of each.
use Rattle.std.proofs.Common.{◌≡◌, ℕ, ◌+◌, ◌<◌, List, [], ◌∷◌, ◌++◌, length, drop, get_or, refl, sym, ap, ◌∙◌, subst, inl, inr, arith, Option, Some, None}
use Rattle.std.specs.List.{remove, zip}
use Rattle.go_base.specs.Lists.{Has, Each}
use Rattle.go_base.specs.Growing.{Grows}
use Rattle.go_base.proofs.Members.{each_has}
use Rattle.go_model.specs.declared.files.platform.Platform.{Platform}
use Rattle.api_lines.specs.declared.line.Line.{Line}
use Rattle.api_lines.specs.Lines.{printed, in_context, AreInOrder, HasText, IsListing}
use Rattle.api_lines.specs.Merging.{HasNoContext, IsMerged, IsMergedIn, IsOnAll}
use Rattle.api_lines.specs.inner.MergedLines.{AreExactly, IsOwn, IsOwnOfSome, IsTextOnAll}
use Rattle.api_lines.proofs.Growing.{grows_back}
use Rattle.api_lines.proofs.Parts.{IsOfAll}

-- ---- lists with their platforms

zip_back : {A B : Type 0} (xs : List A) (ys : List B) (x : A) (y : B) → length xs < length ys → y ≡ get_or ys (length xs) y → zip (xs ++ x ∷ []) ys ≡ zip xs ys ++ (x, y) ∷ []
zip_back [] [] x y h is = absurd (omega arith)
zip_back [] (z ∷ ys) x y h is = ap (λ w. (x, w) ∷ []) (sym is)
zip_back (w ∷ xs) [] x y h is = absurd (omega arith)
zip_back (w ∷ xs) (z ∷ ys) x y h is = ap (λ ps. (w, z) ∷ ps) (zip_back xs ys x y (omega arith) is)

pub zip_has : {A B : Type 0} (xs : List A) (ys : List B) (x : A) (y : B) → Has (zip xs ys) (x, y) → Has xs x
zip_has [] ys x y h = absurd h
zip_has (z ∷ xs) [] x y h = absurd h
zip_has (z ∷ xs) (w ∷ ys) x y (inl e) = inl (ap (λ p. p.0) e)
zip_has (z ∷ xs) (w ∷ ys) x y (inr h) = inr (zip_has xs ys x y h)

pub length_back : {A : Type 0} (xs : List A) (x : A) → length (xs ++ x ∷ []) ≡ length xs + 1
length_back [] x = refl
length_back (y ∷ xs) x = omega (arith, length_back xs x)

length_front : {A : Type 0} (xs : List A) (x : A) (ys : List A) → length xs < length (xs ++ x ∷ ys)
length_front [] x ys = omega arith
length_front (y ∷ xs) x ys = omega (arith, length_front xs x ys)

-- those for the list of one platform more
pub owns_next : (common : List Line) (lists done : List (List Line)) (lines : List Line) (back : List (List Line)) (platforms : List Platform) (i : ℕ) (p : Platform) (old mid new : List Line) → length lists ≡ length platforms → lists ≡ done ++ lines ∷ back → i ≡ length done → p ≡ get_or platforms i p
    → Grows (IsOwnOfSome common (zip done platforms)) old mid → Grows (IsOwn (HasText common) p lines) mid new → Grows (IsOwnOfSome common (zip (done ++ lines ∷ []) platforms)) old new
owns_next common lists done lines back platforms i p old mid new same here at is f g =
    let within : length done < length platforms = omega (arith, same, ap length here, length_front done lines back) in
    subst (λ (w : List (List Line × Platform)). Grows (IsOwnOfSome common w) old new) (sym (zip_back done platforms lines p within (subst (λ (n : ℕ). p ≡ get_or platforms n p) at is)))
    (grows_back (λ (pair : List Line × Platform). IsOwn (HasText common) pair.1 pair.0) (zip done platforms) (lines, p) old mid new f g)

-- a list is its first item and the others
pub headed : {A : Type 0} (xs : List A) (x : A) → 0 < length xs → x ≡ get_or xs 0 x → x ∷ drop 1 xs ≡ xs
headed [] x h is = absurd (omega arith)
headed (y ∷ xs) x h is = ap (λ z. z ∷ xs) is

pub headed_by : {A : Type 0} (xs items others : List A) (x : A) → items ≡ xs → 0 < length xs → x ≡ get_or items 0 x → others ≡ remove items 0 → x ∷ others ≡ xs
headed_by xs items others x e h is r = ap (λ w. x ∷ w) r ∙ headed items x (subst (λ w. 0 < length w) (sym e) h) is ∙ e

-- ---- the whole

-- a line in its own context
pub itself : (l : Line) (context : Option Platform) → l.context ≡ context → in_context context l ≡ l
itself l context e = ap (λ c. in_context c l) (sym e)

-- a single list is merged as it stands
module _ (first : List Line) (p : Platform) (plain : Each HasNoContext first) (order : AreInOrder first) where
  one_sound : (l : Line) → Has first l → IsMerged (first ∷ []) (p ∷ []) l
  one_sound l h =
      let e : in_context None l ≡ l = itself l None (each_has HasNoContext first l plain h) in
      subst (IsMerged (first ∷ []) (p ∷ [])) e ((p, (first, inl refl, subst (Has first) (sym e) h)), (subst (λ (m : Line). HasText first (printed m)) (sym e) (l, h, refl), tt))

  one_complete : (l : Line) (context : Option Platform) → l.context ≡ context → IsMergedIn (first ∷ []) (p ∷ []) context l → HasText first (printed l)
  one_complete l None e k = k.1.0
  one_complete l (Some q) e k = elim k.0.1 [ inl s ↦ absurd (k.1 ((in_context None l, subst (λ (w : List Line). Has w (in_context None l)) (sym (ap (λ z. z.0) s)) k.0.2, refl), tt)) | inr n ↦ absurd n ]

  pub one_merged : IsListing (IsMerged (first ∷ []) (p ∷ [])) first
  one_merged = record { sound = one_sound; complete = λ l k. one_complete l l.context refl k; ordered = order }

pub merged_alone : (lists items others : List (List Line)) (first : List Line) (platforms : List Platform) → items ≡ lists → 0 < length lists → first ≡ get_or items 0 first → others ≡ remove items 0 → length others ≡ 0 → length lists ≡ length platforms
    → Each (Each HasNoContext) lists → Each AreInOrder lists → IsListing (IsMerged lists platforms) first
merged_alone lists items others first platforms e h is r none same plain order =
    let all : first ∷ others ≡ lists = headed_by lists items others first e h is r in
    subst (λ (w : List (List Line)). IsListing (IsMerged w platforms) first) all
    (by others platforms none (omega (arith, ap length all, same)) (subst (Each (Each HasNoContext)) (sym all) plain) (subst (Each AreInOrder) (sym all) order))
  where
    by : (others : List (List Line)) (platforms : List Platform) → length others ≡ 0 → length (first ∷ others) ≡ length platforms → Each (Each HasNoContext) (first ∷ others) → Each AreInOrder (first ∷ others) → IsListing (IsMerged (first ∷ others) platforms) first
    by [] [] none same plain order = absurd (omega arith)
    by [] (p ∷ []) none same plain order = one_merged first p plain.0 order.0
    by [] (p ∷ q ∷ platforms) none same plain order = absurd (omega arith)
    by (lines ∷ others) platforms none same plain order = absurd (omega arith)

module _ (first : List Line) (others : List (List Line)) (p : Platform) (platforms : List Platform) (common own owns all result : List Line) (plain : Each (Each HasNoContext) (first ∷ others)) (c : AreExactly (IsOfAll first others) common)
    (f : Grows (IsOwn (IsTextOnAll others) p first) [] own) (g : Grows (IsOwnOfSome common (zip others platforms)) own owns) (h : Grows (Has common) owns all) (listed : IsListing (Has all) result) where
  abbrev IsWanted : Line → Type 0
  IsWanted = IsMerged (first ∷ others) (p ∷ platforms)

  plain_one : (lines : List Line) (m : Line) (q : Platform) → Has (zip (first ∷ others) (p ∷ platforms)) (lines, q) → Has lines m → in_context None m ≡ m
  plain_one lines m q z k = itself m None (each_has HasNoContext lines m (each_has (Each HasNoContext) (first ∷ others) lines plain (zip_has (first ∷ others) (p ∷ platforms) lines q z)) k)

  -- a line of the first list with a text that all have
  shared_text : (t : List ℕ) → IsTextOnAll (first ∷ others) t → HasText common t
  shared_text t k = let m = k.0 in (m.0, c.complete m.0 (m.1, subst (IsTextOnAll others) (sym m.2) k.1), m.2)

  text_shared : (t : List ℕ) → HasText common t → IsTextOnAll (first ∷ others) t
  text_shared t k = let s = c.sound k.0 k.1 in ((k.0, s.0, k.2), subst (IsTextOnAll others) k.2 s.1)

  shared_is : (l : Line) → Has common l → IsWanted l
  shared_is l k =
      let s = c.sound l k in
      let e = plain_one first l p (inl refl) s.0 in
      subst IsWanted e ((p, (first, inl refl, subst (Has first) (sym e) s.0)), subst (λ (m : Line). IsOnAll (first ∷ others) m) (sym e) ((l, s.0, refl), s.1))

  own_is : (lines : List Line) (q : Platform) (m l : Line) → Has (zip (first ∷ others) (p ∷ platforms)) (lines, q) → Has lines m → (IsTextOnAll (first ∷ others) (printed m) → ⊥) → in_context (Some q) m ≡ l → IsWanted l
  own_is lines q m l z k n e =
      let plainly = plain_one lines m q z k in
      subst IsWanted e ((lines, z, subst (Has lines) (sym plainly) k), (λ a. n (subst (λ (w : Line). IsOnAll (first ∷ others) w) plainly a)))

  sound : (l : Line) → Has result l → IsWanted l
  sound l k = elim (h.sound l (listed.sound l k)) [
    | inl a ↦ elim (g.sound l a) [
      | inl b ↦ elim (f.sound l b) [ inl n ↦ absurd n | inr w ↦ own_is first p w.0 l (inl refl) w.1 (λ t. w.2.0 t.1) w.2.1 ]
      | inr w ↦ own_is w.0.0 w.0.1 w.2.0 l (inr w.1) w.2.1 (λ t. w.2.2.0 (shared_text (printed w.2.0) t)) w.2.2.1
    ]
    | inr s ↦ shared_is l s
  ]

  complete_own : (l : Line) (q : Platform) → l.context ≡ Some q → (lines : List Line) → Has (zip (first ∷ others) (p ∷ platforms)) (lines, q) → Has lines (in_context None l) → (IsOnAll (first ∷ others) (in_context None l) → ⊥) → Has owns l
  complete_own l q e lines (inl s) k n =
      let here : Has first (in_context None l) = subst (λ (w : List Line). Has w (in_context None l)) (sym (ap (λ z. z.0) s)) k in
      g.kept l (f.complete l (in_context None l, here, ((λ t. n ((in_context None l, here, refl), t)), itself l (Some p) (e ∙ ap Some (sym (ap (λ z. z.1) s))))))
  complete_own l q e lines (inr z) k n = g.complete l ((lines, q), z, (in_context None l, k, ((λ t. n (text_shared (printed (in_context None l)) t)), itself l (Some q) e)))

  complete_in : (l : Line) (context : Option Platform) → l.context ≡ context → IsMergedIn (first ∷ others) (p ∷ platforms) context l → HasText result (printed l)
  complete_in l None e k = let m = shared_text (printed l) k.1 in subst (HasText result) m.2 (listed.complete m.0 (h.complete m.0 m.1))
  complete_in l (Some q) e k = listed.complete l (h.kept l (complete_own l q e k.0.0 k.0.1 k.0.2 k.1))

  pub all_merged : IsListing IsWanted result
  all_merged = record { sound = sound; complete = λ l k. complete_in l l.context refl k; ordered = listed.ordered }

pub merged_by : (first : List Line) (others these : List (List Line)) (p : Platform) (platforms : List Platform) (common shown start own owns all result : List Line) → these ≡ others → shown ≡ common → start ≡ [] → Each (Each HasNoContext) (first ∷ others)
    → AreExactly (IsOfAll first these) common → Grows (IsOwn (IsTextOnAll these) p first) start own → Grows (IsOwnOfSome shown (zip others platforms)) own owns → Grows (Has common) owns all → IsListing (Has all) result
    → IsListing (IsMerged (first ∷ others) (p ∷ platforms)) result
merged_by first others these p platforms common shown start own owns all result a b e plain c f g h listed =
    all_merged first others p platforms common own owns all result plain
    (subst (λ (w : List (List Line)). AreExactly (IsOfAll first w) common) a c)
    (subst (λ (w : List (List Line) × List Line). Grows (IsOwn (IsTextOnAll w.0) p first) w.1 own) (λ i. (a i, e i)) f)
    (subst (λ (w : List Line). Grows (IsOwnOfSome w (zip others platforms)) own owns) b g)
    h listed
