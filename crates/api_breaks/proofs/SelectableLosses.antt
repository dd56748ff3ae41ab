-- What structs lose of the fields that are found below the top level.
use Rattle.std.proofs.Common.{◌≡◌, ◌≤◌, ℕ, Bool, true, false, Option, None, Some, List, [], ◌∷◌, ◌++◌, refl, sym, ap, ◌∙◌, subst, arith}
use mathlib.Core.Bool.{true≢false}
use Rattle.go_model.specs.types.Tables.{Table}
use Rattle.go_model.specs.types.Selectors.{Finds}
use Rattle.go_model.specs.worlds.Worlds.{Packages}
use Rattle.go_model.specs.declared.types.names.Sel.{Sel}
use Rattle.go_model.specs.declared.types.found.Found.{Found}
use Rattle.go_model.specs.declared.types.found.Found.TheVariants.{FieldAt}
use Rattle.go_model.specs.declared.types.found.FieldFound.{FieldFound}
use Rattle.go_model.specs.declared.types.term.Term.{Term}
use Rattle.go_selectors.proofs.UniqueFind.{found_once}
use Rattle.go_type_images.specs.declared.pair.TypePair.{TypePair}
use Rattle.api_correspond.specs.Publics.{types_of, IsExported}
use Rattle.api_correspond.specs.Rules.{KeepsSelectable, have_structs}
use Rattle.api_correspond.specs.inner.Leading.{HoldDeepFields}
use Rattle.api_breaks.specs.declared.broken.Lost.{Lost}
use Rattle.api_breaks.specs.declared.broken.Lost.TheVariants as lost
use Rattle.api_breaks.specs.inner.Selecting.{ThroughOf, IsThrough, FieldThrough, KeepsPointer, KeepsSel, IsSelLoss, AreSelLosses, KeepsSels, IsSelectableLoss}
use Rattle.api_breaks.specs.inner.Telling.{Tells, KeptBy}
use Rattle.api_breaks.proofs.Telling.{told_kept, told_lost, told_as}

same_field : (f g : FieldFound) → ◌≡◌ {A = Found} (FieldAt f) (FieldAt g) → f ≡ g
same_field f g e = cc

-- whether a selector finds a field so deep, and through a pointer
module _ (T : Table) (s : Sel) (t : Term) where
  pub field_once : (f g : FieldFound) → Finds T s t (FieldAt f) → Finds T s t (FieldAt g) → f ≡ g
  field_once f g a b = same_field f g (found_once T s t (FieldAt f) (FieldAt g) a b)

  pub through_none : (found : Found) (least : ℕ) → Finds T s t found → ThroughOf found least None → (f : FieldFound) → Finds T s t (FieldAt f) → least ≤ f.depth → ⊥
  through_none found least h n f k l = by found h n (found_once T s t found (FieldAt f) h k)
    where
      by : (r : Found) → Finds T s t r → ThroughOf r least None → r ≡ FieldAt f → ⊥
      by (FieldAt g) i m e = (let k : g ≡ f = same_field g f e in let d = ap (λ (x : FieldFound). x.depth) k in let z : ⊥ = absurd (omega (arith, m, l, d)) in z)
      by r i m e = absurd (cc)

  pub through_some : (found : Found) (least : ℕ) (b : Bool) → Finds T s t found → ThroughOf found least (Some b) → IsThrough T s t least b
  through_some (FieldAt f) least b h m = (f, h, m.0, m.1)
  through_some r least b h m = absurd m

  pub through_told : (found : Found) (least : ℕ) (o : Option Bool) → Finds T s t found → ThroughOf found least o → FieldThrough T s t least o
  through_told found least None h m = λ b k. through_none found least h m k.0 k.1 k.2
  through_told found least (Some b) h m = through_some found least b h m

-- what is kept of a field that is found
module _ (new : Packages) (p : TypePair) (s : Sel) (f : FieldFound) where
  pub pointer_kept : (b : Bool) (o : Option Bool) → f.through_pointer ≡ b → FieldThrough (types_of new) s p.new 0 o → KeepsPointer b o → KeepsSelectable new p s f
  pointer_kept b None e h k = absurd k
  pointer_kept b (Some c) e h k = (h.0, h.1, λ i. h.3 ∙ k (sym e ∙ i))

  pub pointer_lost : (b : Bool) (o : Option Bool) → f.through_pointer ≡ b → FieldThrough (types_of new) s p.new 0 o → (KeepsPointer b o → ⊥) → KeepsSelectable new p s f → ⊥
  pointer_lost b None e h n k = h k.0.through_pointer (k.0, k.1, omega arith, refl)
  pointer_lost b (Some c) e h n k = let same = field_once (types_of new) s p.new h.0 k.0 h.1 k.1 in n (λ i. sym h.3 ∙ ap (λ (x : FieldFound). x.through_pointer) same ∙ k.2 (e ∙ i))

-- one selector
module _ (old new : Packages) (p : TypePair) (s : Sel) (ls : List Lost) where
  pub sel_hidden : (IsExported s → ⊥) → Tells (KeepsSel old new p s) (IsSelLoss old new p s) ls ls
  sel_hidden n = told_kept ls (λ x. absurd (n x)) (λ l h. n h.0)

  pub sel_shallow : (o : Option Bool) → o ≡ None → FieldThrough (types_of old) s p.old 1 o → Tells (KeepsSel old new p s) (IsSelLoss old new p s) ls ls
  sel_shallow o e h =
      let n : FieldThrough (types_of old) s p.old 1 None = subst (FieldThrough (types_of old) s p.old 1) e h in
      told_kept ls (λ x f k d. absurd (n f.through_pointer (f, k, d, refl))) (λ l k. n k.1.0.through_pointer (k.1.0, k.1.1, k.1.2, refl))

  pub sel_kept : (o : Option Bool) (b : Bool) (q : Option Bool) → o ≡ Some b → FieldThrough (types_of old) s p.old 1 o → FieldThrough (types_of new) s p.new 0 q → KeepsPointer b q → Tells (KeepsSel old new p s) (IsSelLoss old new p s) ls ls
  sel_kept o b q e h i k =
      let m : IsThrough (types_of old) s p.old 1 b = subst (FieldThrough (types_of old) s p.old 1) e h in
      let kept : (f : FieldFound) → Finds (types_of old) s p.old (FieldAt f) → KeepsSelectable new p s f = (λ f w. pointer_kept new p s f b q (ap (λ (x : FieldFound). x.through_pointer) (field_once (types_of old) s p.old f m.0 w m.1) ∙ m.3) i k) in
      told_kept ls (λ x f w d. kept f w) (λ l w. w.1.3 (kept w.1.0 w.1.1))

  pub sel_lost : (grown : List Lost) (o : Option Bool) (b : Bool) (q : Option Bool) → IsExported s → o ≡ Some b → FieldThrough (types_of old) s p.old 1 o → FieldThrough (types_of new) s p.new 0 q → (KeepsPointer b q → ⊥) → grown ≡ ls ++ lost.Selectable s.name ∷ [] → Tells (KeepsSel old new p s) (IsSelLoss old new p s) ls grown
  sel_lost grown o b q x e h i n g =
      let m : IsThrough (types_of old) s p.old 1 b = subst (FieldThrough (types_of old) s p.old 1) e h in
      told_lost ls grown (lost.Selectable s.name) g (x, (m.0, m.1, m.2, pointer_lost new p s m.0 b q m.3 i n, refl)) (λ l w. w.1.4)

-- two structs
module _ (old new : Packages) (p : TypePair) where
  pub sels_foreign : (ls : List Lost) → have_structs old new p ≡ false → Tells (KeepsSels old new p) (IsSelectableLoss old new p) ls ls
  sels_foreign ls e = told_kept ls (λ s f x. absurd (true≢false (sym x.structs ∙ e))) (λ l h. true≢false (sym h.0 ∙ e))

  pub sels_lost : (sels : List Sel) (xs ys : List Lost) → have_structs old new p ≡ true → HoldDeepFields (types_of old) p.old sels → Tells (KeptBy (KeepsSel old new p) sels) (AreSelLosses old new p sels) xs ys → Tells (KeepsSels old new p) (IsSelectableLoss old new p) xs ys
  sels_lost sels xs ys e h t = told_as xs ys
      (λ k s f x. k s (h s f x.exported x.found x.deep) x.exported f x.found x.deep)
      (λ l k. (e, (k.0, k.2)))
      (λ l k. (k.1.0, h k.1.0 k.1.1.1.0 k.1.1.0 k.1.1.1.1 k.1.1.1.2, k.1.1))
      t
