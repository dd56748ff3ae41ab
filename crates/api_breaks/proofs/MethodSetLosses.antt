-- What method sets lose, method by method.
use Rattle.std.proofs.Common.{◌≡◌, inl, inr, Bool, true, false, Option, Some, None, List, [], ◌∷◌, ◌++◌, refl, sym, ap, ◌∙◌, subst}
use mathlib.Core.Bool.{true≢false}
use Rattle.std.specs.Prelude.{◌↔◌, IsTrue}
use Rattle.go_base.specs.Lists.{Has}
use Rattle.go_model.specs.types.MethodSets.{InSet, IsMethodSet, method_sel}
use Rattle.go_model.specs.types.Terms.{pointer_to}
use Rattle.go_model.specs.worlds.Worlds.{Packages}
use Rattle.go_model.specs.declared.types.names.Sel.{Sel}
use Rattle.go_model.specs.declared.types.term.Term.{Term}
use Rattle.go_model.specs.declared.types.term.Method.{Method, out-Method, roll-Method, out-roll-Method}
use Rattle.go_model.specs.declared.types.term.Signature.{Signature}
use Rattle.go_selectors.specs.Answers.{Decides}
use Rattle.go_selectors.specs.Candidates.{Candidates, called_at, HoldMethodSet}
use Rattle.go_type_images.specs.declared.pair.TypePair.{TypePair}
use Rattle.api_correspond.specs.Publics.{types_of}
use Rattle.api_correspond.specs.Rules.{is_std_sel, Counts, KeepsInSet, have_method_sets}
use Rattle.api_breaks.specs.declared.broken.Lost.{Lost}
use Rattle.api_breaks.specs.inner.MethodSets.{KeptIn, lost_of, KeepsCalled, IsLostIn, AreLostIn, KeepsMethodSet, IsLostMethod, KeepsSets, IsMethodSetLoss}
use Rattle.api_breaks.specs.inner.Telling.{Tells, KeptBy}
use Rattle.api_breaks.proofs.Telling.{told_kept, told_lost, told_as, told_both}

called_same : (g : Signature) (o : Option Signature) (h : Signature) → Some g ≡ o → o ≡ Some h → g ≡ h
called_same g o h e f = cc

not_called : (o : Option Signature) (h : Signature) → None ≡ o → o ≡ Some h → ⊥
not_called o h e f = cc

-- one method
module _ (w : Packages) (callable : Candidates) (m : Method) where
  pub kept_nowhere : None ≡ called_at callable (method_sel m) → KeptIn w callable m → ⊥
  kept_nowhere e k = not_called (called_at callable (method_sel m)) k.0 e k.1

  pub kept_anyhow : (h : Signature) (b : Bool) → Some h ≡ called_at callable (method_sel m) → b ≡ is_std_sel w (method_sel m) → b ≡ false → KeptIn w callable m
  kept_anyhow h b e i f = (h, sym e, λ k. absurd (true≢false (sym k ∙ sym i ∙ f)))

  pub kept_alike : (h : Signature) (b r : Bool) → Some h ≡ called_at callable (method_sel m) → b ≡ is_std_sel w (method_sel m) → b ≡ true → IsTrue r ↔ (h ≡ (out-Method m).signature) → Decides r (KeptIn w callable m)
  kept_alike h b true e i f d = (h, sym e, λ k. d.0 refl)
  kept_alike h b false e i f d = λ k. true≢false (sym (d.1 (called_same h (called_at callable (method_sel m)) k.0 e k.1 ∙ k.2 (sym i ∙ f))))

module _ (w : Packages) (callable : Candidates) (m : Method) (ls : List Lost) where
  pub method_uncounted : (Counts w (method_sel m) → ⊥) → Tells (KeepsCalled w callable m) (IsLostIn w callable m) ls ls
  method_uncounted n = told_kept ls (λ c. absurd (n c)) (λ l h. n h.0)

  pub method_kept : KeptIn w callable m → Tells (KeepsCalled w callable m) (IsLostIn w callable m) ls ls
  method_kept k = told_kept ls (λ c. k) (λ l h. h.1 k)

  pub method_lost : (grown : List Lost) (s : Sel) → Counts w (method_sel m) → (KeptIn w callable m → ⊥) → s ≡ method_sel m → grown ≡ ls ++ lost_of s ∷ [] → Tells (KeepsCalled w callable m) (IsLostIn w callable m) ls grown
  method_lost grown s c n e g = told_lost ls grown (lost_of (method_sel m)) (g ∙ ap (λ (x : Sel). ls ++ lost_of x ∷ []) e) (c, n, refl) (λ l h. h.2)

-- the methods of a set
module _ (old new : Packages) (t u : Term) where
  pub set_empty : (ms items : List Method) (xs : List Lost) → IsMethodSet (types_of old) t ms → items ≡ ms → items ≡ [] → Tells (KeepsMethodSet old new t u) (IsLostMethod old new t u) xs xs
  set_empty ms items xs m e n = told_kept xs (λ s g c i. absurd (none s g i)) (λ l k. none k.0 k.1 k.3)
    where
      none : (s : Sel) (g : Signature) → InSet (types_of old) t s g → ⊥
      none s g i =
          let it = roll-Method (record { sel = s; signature = g }) in
          let same = sym (out-roll-Method (record { sel = s; signature = g })) in
          let there = subst (λ x. InSet (types_of old) t x.sel x.signature) same i in
          subst (λ (w : List Method). Has w it) (sym e ∙ n) (m.complete it there)

  pub set_lost : (ms items : List Method) (callable : Candidates) (xs ys : List Lost) → IsMethodSet (types_of old) t ms → HoldMethodSet (types_of new) u callable → items ≡ ms → Tells (KeptBy (KeepsCalled old callable) items) (AreLostIn old callable items) xs ys → Tells (KeepsMethodSet old new t u) (IsLostMethod old new t u) xs ys
  set_lost ms items callable xs ys m h e g = told_as xs ys kept to back (subst (λ (x : List Method). Tells (KeptBy (KeepsCalled old callable) x) (AreLostIn old callable x) xs ys) e g)
    where
      -- a method by its selector and its signature
      made : Sel → Signature → Method
      made s g = roll-Method (record { sel = s; signature = g })

      at_sel : (s : Sel) (g : Signature) → s ≡ method_sel (made s g)
      at_sel s g = ap (λ x. x.sel) (sym (out-roll-Method (record { sel = s; signature = g })))

      at_type : (s : Sel) (g : Signature) → g ≡ (out-Method (made s g)).signature
      at_type s g = ap (λ x. x.signature) (sym (out-roll-Method (record { sel = s; signature = g })))

      in_set : (s : Sel) (g : Signature) → InSet (types_of old) t s g → InSet (types_of old) t (method_sel (made s g)) (out-Method (made s g)).signature
      in_set s g i = subst (λ (x : Sel). InSet (types_of old) t x (out-Method (made s g)).signature) (at_sel s g) (subst (λ (x : Signature). InSet (types_of old) t s x) (at_type s g) i)

      -- the same of the selector and the signature themselves
      kept_in : (s : Sel) (g : Signature) → KeptIn old callable (made s g) → KeepsInSet old new u s g
      kept_in s g k = (k.0, subst (λ (x : Sel). InSet (types_of new) u x k.0) (sym (at_sel s g)) ((h (method_sel (made s g)) k.0).0 k.1), (λ i. k.2 (subst (λ (x : Sel). is_std_sel old x ≡ true) (at_sel s g) i) ∙ sym (at_type s g)))

      kept : KeptBy (KeepsCalled old callable) ms → KeepsMethodSet old new t u
      kept k s g c i = kept_in s g (k (made s g) (m.complete (made s g) (in_set s g i)) (subst (Counts old) (at_sel s g) c))

      to : (l : Lost) → AreLostIn old callable ms l → IsLostMethod old new t u l
      to l k = (method_sel k.0, (out-Method k.0).signature, k.2.0, m.sound k.0 k.1, (λ s. k.2.1 (s.0, (h (method_sel k.0) s.0).1 s.1, s.2)), k.2.2)

      back : (l : Lost) → IsLostMethod old new t u l → AreLostIn old callable ms l
      back l k = (made k.0 k.1, m.complete (made k.0 k.1) (in_set k.0 k.1 k.3), (subst (Counts old) (at_sel k.0 k.1) k.2, (λ s. k.4 (kept_in k.0 k.1 s)), ap lost_of (sym (at_sel k.0 k.1)) ∙ k.5))

pub set_over : (old new : Packages) (t u v w : Term) (xs ys : List Lost) → t ≡ v → u ≡ w → Tells (KeepsMethodSet old new t u) (IsLostMethod old new t u) xs ys → Tells (KeepsMethodSet old new v w) (IsLostMethod old new v w) xs ys
set_over old new t u v w xs ys e f g = subst (λ (x : Term). Tells (KeepsMethodSet old new x w) (IsLostMethod old new x w) xs ys) e (subst (λ (y : Term). Tells (KeepsMethodSet old new t y) (IsLostMethod old new t y) xs ys) f g)

-- two types
module _ (old new : Packages) (p : TypePair) where
  pub sets_apart : (ls : List Lost) → have_method_sets old new p ≡ false → Tells (KeepsSets old new p) (IsMethodSetLoss old new p) ls ls
  sets_apart ls e = told_kept ls (λ h. absurd (true≢false (sym h ∙ e))) (λ l h. true≢false (sym h.0 ∙ e))

  pub sets_lost : (a b c : List Lost) → have_method_sets old new p ≡ true → Tells (KeepsMethodSet old new p.old p.new) (IsLostMethod old new p.old p.new) a b → Tells (KeepsMethodSet old new (pointer_to p.old) (pointer_to p.new)) (IsLostMethod old new (pointer_to p.old) (pointer_to p.new)) b c → Tells (KeepsSets old new p) (IsMethodSetLoss old new p) a c
  sets_lost a b c e f g = told_both a b c (λ k l h. (k, l)) (λ x h. (e, inl h)) (λ x h. (e, inr h)) (λ x h. h.1) f g
