-- Lists that share lines are merged from those lines and the others.
use Rattle.std.proofs.Common.{◌≡◌, ◌<◌, List, [], ◌∷◌, length, map, refl, sym, ap, ◌∙◌, subst, inl, inr, arith, Option, Some, None, Result, Ok, Err, IfOk}
use Rattle.std.specs.List.{zip}
use Rattle.go_base.specs.Lists.{Has, Each}
use Rattle.go_base.proofs.Members.{each_has}
use Rattle.go_model.specs.declared.files.platform.Platform.{Platform}
use Rattle.go_base.specs.declared.memory.NoMemory.{NoMemory}
use Rattle.api_lines.specs.declared.line.Line.{Line}
use Rattle.api_lines.specs.Lines.{printed, in_context, AreInOrder, HasText, IsListing, IsOfEither}
use Rattle.api_lines.specs.Merging.{HasNoContext, IsMerged, IsMergedIn, IsOn, IsOnAll}
use Rattle.api_lines.specs.inner.Shares.{AreShared, IsRest, whole}
use Rattle.api_lines.proofs.Growing.{each_of}
use Rattle.api_lines.proofs.Merged.{itself, zip_has}
use Rattle.api_lines.proofs.Shares.{has_whole, whole_has}

abbrev HasNoContexts : List Line → Type 0
HasNoContexts lines = Each HasNoContext lines

module _ (common : List Line) where
  pub length_wholes : (owns : List (List Line)) → length (map (whole common) owns) ≡ length owns
  length_wholes [] = refl
  length_wholes (own ∷ owns) = omega (arith, length_wholes owns)

  pub plain_owns : (owns : List (List Line)) → Each (Each HasNoContext) (map (whole common) owns) → Each (Each HasNoContext) owns
  plain_owns [] h = tt
  plain_owns (own ∷ owns) h = (each_of HasNoContext own (λ l k. each_has HasNoContext (whole common own) l h.0 (has_whole common own l (inr k))), plain_owns owns h.1)

  pub order_owns : (owns : List (List Line)) → Each (IsRest common) owns → Each AreInOrder owns
  order_owns [] h = tt
  order_owns (own ∷ owns) h = (h.0.0, order_owns owns h.1)

  zip_wholes : (owns : List (List Line)) (ps : List Platform) (own : List Line) (p : Platform) → Has (zip owns ps) (own, p) → Has (zip (map (whole common) owns) ps) (whole common own, p)
  zip_wholes [] ps own p h = absurd h
  zip_wholes (o ∷ owns) [] own p h = absurd h
  zip_wholes (o ∷ owns) (q ∷ ps) own p (inl e) = inl (ap (λ (z : List Line × Platform). (whole common z.0, z.1)) e)
  zip_wholes (o ∷ owns) (q ∷ ps) own p (inr h) = inr (zip_wholes owns ps own p h)

  wholes_zip : (owns : List (List Line)) (ps : List Platform) (lines : List Line) (p : Platform) → Has (zip (map (whole common) owns) ps) (lines, p) → (own : List Line) × Has (zip owns ps) (own, p) × (whole common own ≡ lines)
  wholes_zip [] ps lines p h = absurd h
  wholes_zip (o ∷ owns) [] lines p h = absurd h
  wholes_zip (o ∷ owns) (q ∷ ps) lines p (inl e) = (o, inl (ap (λ (z : List Line × Platform). (o, z.1)) e), ap (λ (z : List Line × Platform). z.0) e)
  wholes_zip (o ∷ owns) (q ∷ ps) lines p (inr h) = let k = wholes_zip owns ps lines p h in (k.0, inr k.1, k.2)

  some_pair : (owns : List (List Line)) (ps : List Platform) → 0 < length owns → length owns ≡ length ps → (own : List Line) × (p : Platform) × Has (zip owns ps) (own, p)
  some_pair [] ps h e = absurd (omega (arith, h))
  some_pair (own ∷ owns) [] h e = absurd (omega (arith, e))
  some_pair (own ∷ owns) (p ∷ ps) h e = (own, p, inl refl)

  common_on_all : (owns : List (List Line)) (l : Line) → HasText common (printed l) → IsOnAll (map (whole common) owns) l
  common_on_all [] l h = tt
  common_on_all (own ∷ owns) l h = ((h.0, has_whole common own h.0 (inl h.1), h.2), common_on_all owns l h)

  own_on_all : (owns : List (List Line)) (l : Line) → IsOnAll owns l → IsOnAll (map (whole common) owns) l
  own_on_all [] l h = tt
  own_on_all (own ∷ owns) l h = ((h.0.0, has_whole common own h.0.0 (inr h.0.1), h.0.2), own_on_all owns l h.1)

  on_all_own : (owns : List (List Line)) (l : Line) → (HasText common (printed l) → ⊥) → IsOnAll (map (whole common) owns) l → IsOnAll owns l
  on_all_own [] l n h = tt
  on_all_own (own ∷ owns) l n h = (elim (whole_has common own h.0.0 h.0.1) [ inl a ↦ absurd (n (h.0.0, a, h.0.2)) | inr b ↦ (h.0.0, b, h.0.2) ], on_all_own owns l n h.1)

module _ (common apart result : List Line) (owns : List (List Line)) (ps : List Platform) (shared : AreShared common owns) (some : 0 < length owns) (same : length owns ≡ length ps) (plain : Each (Each HasNoContext) (map (whole common) owns))
    (a : IsListing (IsMerged owns ps) apart) (j : IsListing (IsOfEither common apart) result) where
  abbrev wholes : List (List Line)
  wholes = map (whole common) owns

  -- an own line's text isn't common
  not_common : (own : List Line) (p : Platform) (l : Line) → Has (zip owns ps) (own, p) → Has own l → HasText common (printed l) → ⊥
  not_common own p l z h k = (each_has (IsRest common) owns own shared.1 (zip_has owns ps own p z)).1 k.0 l k.1 h k.2

  own_on : (p : Platform) (l : Line) → IsOn owns ps p l → IsOn wholes ps p l
  own_on p l k = (whole common k.0, zip_wholes common owns ps k.0 p k.1, has_whole common k.0 l (inr k.2))

  common_is : (l : Line) → Has common l → IsMerged wholes ps l
  common_is l h =
      let z = some_pair common owns ps some same in
      let w = zip_wholes common owns ps z.0 z.1 z.2 in
      let there = has_whole common z.0 l (inl h) in
      let e : in_context None l ≡ l = itself l None (each_has HasNoContext (whole common z.0) l (each_has (Each HasNoContext) wholes (whole common z.0) plain (zip_has wholes ps (whole common z.0) z.1 w)) there) in
      subst (IsMerged wholes ps) e ((z.1, (whole common z.0, w, subst (Has (whole common z.0)) (sym e) there)), subst (IsOnAll wholes) (sym e) (common_on_all common owns l (l, h, refl)))

  own_is : (l : Line) (context : Option Platform) → IsMergedIn owns ps context l → IsMergedIn wholes ps context l
  own_is l None k = ((k.0.0, own_on k.0.0 l k.0.1), own_on_all common owns l k.1)
  own_is l (Some p) k = (own_on p (in_context None l) k.0, (λ t. k.1 (on_all_own common owns (in_context None l) (not_common k.0.0 p (in_context None l) k.0.1 k.0.2) t)))

  from_common : (l : Line) → HasText common (printed l) → HasText result (printed l)
  from_common l h = subst (HasText result) h.2 (j.complete h.0 (inl h.1))

  from_own : (l : Line) → IsMerged owns ps l → HasText result (printed l)
  from_own l k = let t = a.complete l k in subst (HasText result) t.2 (j.complete t.0 (inr t.1))

  complete : (l : Line) (context : Option Platform) → l.context ≡ context → IsMergedIn wholes ps context l → HasText result (printed l)
  complete l None e k =
      let z = wholes_zip common owns ps k.0.1.0 k.0.0 k.0.1.1 in
      elim (whole_has common z.0 l (subst (λ (w : List Line). Has w l) (sym z.2) k.0.1.2)) [
        | inl c ↦ from_common l (l, c, refl)
        | inr o ↦ from_own l (subst (λ (w : Option Platform). IsMergedIn owns ps w l) (sym e) ((k.0.0, (z.0, z.1, o)), on_all_own common owns l (not_common z.0 k.0.0 l z.1 o) k.1))
      ]
  complete l (Some p) e k =
      let z = wholes_zip common owns ps k.0.0 p k.0.1 in
      elim (whole_has common z.0 (in_context None l) (subst (λ (w : List Line). Has w (in_context None l)) (sym z.2) k.0.2)) [
        | inl c ↦ absurd (k.1 (common_on_all common owns (in_context None l) (in_context None l, c, refl)))
        | inr o ↦ from_own l (subst (λ (w : Option Platform). IsMergedIn owns ps w l) (sym e) ((z.0, z.1, o), (λ t. k.1 (own_on_all common owns (in_context None l) t))))
      ]

  pub shares_merged : IsListing (IsMerged wholes ps) result
  shares_merged = record {
    sound = λ l h. elim (j.sound l h) [ inl c ↦ common_is l c | inr o ↦ own_is l l.context (a.sound l o) ];
    complete = λ l k. complete l l.context refl k;
    ordered = j.ordered;
  }

-- the same of an answer
pub listed_wholes : (common apart : List Line) (owns lists : List (List Line)) (ps : List Platform) (r : Result (List Line) NoMemory) → map (whole common) owns ≡ lists → AreShared common owns → 0 < length lists → length lists ≡ length ps → Each (Each HasNoContext) lists
    → IsListing (IsMerged owns ps) apart → IfOk r (IsListing (IsOfEither common apart)) → IfOk r (IsListing (IsMerged lists ps))
listed_wholes common apart owns lists ps (Ok result) view shared some same plain a j =
    let many : length owns ≡ length lists = sym (length_wholes common owns) ∙ ap length view in
    subst (λ (w : List (List Line)). IsListing (IsMerged w ps) result) view
    (shares_merged common apart result owns ps shared (omega (arith, some, many)) (many ∙ same) (subst (Each (Each HasNoContext)) (sym view) plain) a j)
listed_wholes common apart owns lists ps (Err e) view shared some same plain a j = tt
