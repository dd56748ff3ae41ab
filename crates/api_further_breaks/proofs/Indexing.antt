-- The pairs of sealed interfaces, and the table of their places.
use Rattle.std.proofs.Common.{◌≡◌, ◌≤◌, ◌<◌, ◌+◌, inl, inr, ℕ, Bool, true, false, List, [], ◌∷◌, ◌++◌, length, take, refl, sym, ap, ◌∙◌, subst, arith}
use Rattle.std.proofs.lemmas.Bool.{cases_lt}
use mathlib.Core.Bool.{true≢false}
use Rattle.std.specs.Prelude.{if◌then◌else◌}
use Rattle.go_base.specs.Lists.{Has}
use Rattle.go_base.proofs.Lists.{take_past}
use Rattle.go_model.specs.types.MethodSets.{method_sel}
use Rattle.go_model.specs.types.Terms.{Layer, same_sel}
use Rattle.go_model.specs.types.Underlying.{under, methods_of}
use Rattle.go_model.specs.worlds.Worlds.{Packages}
use Rattle.go_model.specs.declared.types.names.Sel.{Sel}
use Rattle.go_model.specs.declared.types.term.Method.{Method}
use Rattle.go_selectors.proofs.Lists.{has-left, has-last, has-back}
use Rattle.go_selectors.proofs.Noting.{sel_self}
use Rattle.go_type_images.specs.declared.pair.TypePair.{TypePair}
use Rattle.go_type_images.specs.Levels.{interface_layer}
use Rattle.api_correspond.specs.Publics.{types_of}
use Rattle.api_correspond.specs.Rules.{is_sealing}
use Rattle.api_correspond.specs.inner.BySel.{places_at, AddsPlace}
use Rattle.api_correspond.specs.inner.Tables.{At}
use Rattle.api_correspond.proofs.Places.{at_same, at_within, at_left, at_last, at_back}
use Rattle.api_further_breaks.specs.declared.sealed.SealedPair.{SealedPair}
use Rattle.api_further_breaks.specs.declared.sealed.SealedPairs.{SealedPairs}
use Rattle.api_further_breaks.specs.inner.Sealed.{AreSealed, SealsBy, IsSealedPair, AddsSealed, IsPlaced, HoldSealedBelow, HoldSealed}

-- no method is one among those that were looked at
abbrev pub NoneOf : Packages → List Method → Type 0
NoneOf w ms = (m : Method) → Has ms m → is_sealing w (method_sel m) ≡ true → ⊥

pub none_more : (w : Packages) (ms ns : List Method) (m : Method) (b : Bool) → ns ≡ ms ++ m ∷ [] → b ≡ is_sealing w (method_sel m) → b ≡ false → NoneOf w ms → NoneOf w ns
none_more w ms ns m b e i f n x h k = elim (has-back ms m x (subst (λ (w : List Method). Has w x) e h)) [
  | inl y ↦ n x y k
  | inr y ↦ true≢false (sym (subst (λ (z : Method). is_sealing w (method_sel z) ≡ true) (sym y) k) ∙ sym i ∙ f)
]

pub none_all : (w : Packages) (ms : List Method) (n : ℕ) → length ms ≤ n → NoneOf w (take n ms) → NoneOf w ms
none_all w ms n l k = subst (NoneOf w) (take_past n ms l) k

pub one_seals : (w : Packages) (m : Method) (b : Bool) → b ≡ is_sealing w (method_sel m) → b ≡ true → is_sealing w (method_sel m) ≡ true
one_seals w m b i e = sym i ∙ e

module _ (old new : Packages) (i : TypePair) where
  pub sealed_not : (a : SealedPairs) → (AreSealed old new i → ⊥) → AddsSealed old new i a a
  sealed_not a n = inl (n, refl)

  pub no_interface : (l : Layer) (b : Bool) → l ≡ under (types_of new) i.new → b ≡ interface_layer l → b ≡ false → AreSealed old new i → ⊥
  no_interface l b e f n s = true≢false (sym s.1 ∙ ap interface_layer (sym e) ∙ sym f ∙ n)

  pub none_seals : (ms : List Method) (l : Layer) → l ≡ under (types_of old) i.old → ms ≡ methods_of l → NoneOf old ms → AreSealed old new i → ⊥
  none_seals ms l e f n s = n s.0.0 (subst (λ (w : List Method). Has w s.0.0) (sym (f ∙ ap methods_of e)) s.0.1) s.0.2

  pub one_added : (a b : SealedPairs) (r : SealedPair) (m : Method) (k l : Layer) (t : Bool) → k ≡ under (types_of old) i.old → r.old.now ≡ methods_of k → l ≡ under (types_of new) i.new → r.new.now ≡ methods_of l → t ≡ interface_layer l → t ≡ true → Has r.old.now m → is_sealing old (method_sel m) ≡ true → r.pair.now ≡ i → AddsPlace a.places b.places (method_sel m) (length a.pairs.items) → b.pairs.items ≡ a.pairs.items ++ r ∷ [] → AddsSealed old new i a b
  one_added a b r m k l t e f g h u v has seals same places grown = inr (method_sel m, r, (both, subst (λ (z : TypePair). r.old.now ≡ methods_of (under (types_of old) z.old)) (sym same) olds, subst (λ (z : TypePair). r.new.now ≡ methods_of (under (types_of new) z.new)) (sym same) news), same, (m, subst (λ (w : List Method). Has w m) olds has, refl), places, grown)
    where
      olds : r.old.now ≡ methods_of (under (types_of old) i.old)
      olds = f ∙ ap methods_of e

      news : r.new.now ≡ methods_of (under (types_of new) i.new)
      news = h ∙ ap methods_of g

      both : AreSealed old new r.pair.now
      both = subst (AreSealed old new) (sym same) ((m, subst (λ (w : List Method). Has w m) olds has, seals), ap interface_layer (sym g) ∙ sym u ∙ v)

module _ (old new : Packages) (pairs : List TypePair) where
  pub sealed_none : (a : SealedPairs) → a.pairs.items ≡ [] → HoldSealedBelow old new pairs 0 a
  sealed_none a e = record { sound = λ j r h. absurd (subst (λ (w : List SealedPair). At w j r) e h); complete = λ k i l h s. absurd (omega arith) }

  pub sealed_more : (n : ℕ) (p : TypePair) (a b : SealedPairs) → At pairs n p → HoldSealedBelow old new pairs n a → AddsSealed old new p a b → HoldSealedBelow old new pairs (n + 1) b
  sealed_more n p a b at x (inl h) = subst (HoldSealedBelow old new pairs (n + 1)) (sym h.1) (record { sound = x.sound; complete = complete })
    where
      complete : (k : ℕ) (i : TypePair) → k < n + 1 → At pairs k i → AreSealed old new i → IsPlaced old a i
      complete k i l c s = elim (cases_lt k n) [
        | inl y ↦ x.complete k i y c s
        | inr y ↦ (let e : k ≡ n = omega arith in let f : i ≡ p = at_same pairs n i p (subst (λ (z : ℕ). At pairs z i) e c) at in absurd (h.0 (subst (AreSealed old new) f s)))
      ]
  sealed_more n p a b at x (inr h) = record { sound = sound; complete = complete }
    where
      sel : Sel
      sel = h.0

      it : SealedPair
      it = h.1

      last : ℕ
      last = length a.pairs.items

      sound : (j : ℕ) (r : SealedPair) → At b.pairs.items j r → ((k : ℕ) × At pairs k r.pair.now) × IsSealedPair old new r
      sound j r w = elim (at_back a.pairs.items it r j (subst (λ (z : List SealedPair). At z j r) h.6 w)) [
        | inl y ↦ x.sound j r y
        | inr y ↦ subst (λ (z : SealedPair). ((k : ℕ) × At pairs k z.pair.now) × IsSealedPair old new z) y.1 ((n, subst (At pairs n) (sym h.3) at), h.2)
      ]

      kept : (s : Sel) (j : ℕ) (t : Bool) → Has (places_at a.places s) j → Has (if t then places_at a.places s ++ last ∷ [] else places_at a.places s) j
      kept s j true w = has-left (places_at a.places s) (last ∷ []) j w
      kept s j false w = w

      there : Has (places_at b.places sel) last
      there = subst (λ (z : List ℕ). Has z last) (sym (h.5 sel)) (subst (λ (t : Bool). Has (if t then places_at a.places sel ++ last ∷ [] else places_at a.places sel) last) (sym (sel_self sel)) (has-last (places_at a.places sel) last))

      complete : (k : ℕ) (i : TypePair) → k < n + 1 → At pairs k i → AreSealed old new i → IsPlaced old b i
      complete k i l c s = elim (cases_lt k n) [
        | inl y ↦ (
            let d = x.complete k i y c s in
            (d.0, d.1, d.2, d.3, subst (λ (z : List ℕ). Has z d.1) (sym (h.5 d.0)) (kept d.0 d.1 (same_sel sel d.0) d.4), subst (λ (z : List SealedPair). At z d.1 d.2) (sym h.6) (at_left a.pairs.items (it ∷ []) d.1 d.2 d.5), d.6)
            )
        | inr y ↦ (
            let e : n ≡ k = omega arith in
            let f : p ≡ i = at_same pairs n p i at (subst (λ (z : ℕ). At pairs z i) (sym e) c) in
            (sel, last, it, subst (λ (z : TypePair). SealsBy old z sel) f h.4, there, subst (λ (z : List SealedPair). At z last it) (sym h.6) (at_last a.pairs.items it), h.3 ∙ f)
            )
      ]

  pub sealed_all : (n : ℕ) (a : SealedPairs) → length pairs ≤ n → HoldSealedBelow old new pairs n a → HoldSealed old new pairs a
  sealed_all n a l x = record { sound = x.sound; complete = λ k i c s. (let j = at_within pairs k i c in x.complete k i (omega (arith, j, l)) c s) }
