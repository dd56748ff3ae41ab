-- Types that implement interfaces, by the table of these.
use Rattle.std.proofs.Common.{◌≡◌, ◌≤◌, ◌<◌, inl, inr, ℕ, true, List, [], ◌∷◌, ◌++◌, length, take, get_or, refl, sym, ap, ◌∙◌, subst, arith}
use Rattle.go_base.specs.Lists.{Has}
use Rattle.go_base.proofs.Lists.{take_past}
use Rattle.go_model.specs.types.MethodSets.{HasMethods, Implements, IsMethodSet, method_sel}
use Rattle.go_model.specs.types.Terms.{Layer, pointer_to}
use Rattle.go_model.specs.types.Underlying.{under, methods_of}
use Rattle.go_model.specs.types.Tables.{Table}
use Rattle.go_model.specs.worlds.Worlds.{Packages}
use Rattle.go_model.specs.declared.types.names.Sel.{Sel}
use Rattle.go_model.specs.declared.types.term.Term.{Term, Term-F}
use Rattle.go_model.specs.declared.types.term.Method.{Method, out-Method}
use Rattle.go_selectors.specs.Candidates.{Candidates, HoldMethodSet, AreCandidates}
use Rattle.go_selectors.proofs.Lists.{has-back}
use Rattle.go_type_images.specs.declared.pair.TypePair.{TypePair}
use Rattle.go_type_images.specs.Levels.{interface_layer}
use Rattle.api_correspond.specs.Publics.{types_of}
use Rattle.api_correspond.specs.inner.BySel.{PlaceTable, places_at}
use Rattle.api_correspond.specs.inner.Tables.{At}
use Rattle.api_correspond.proofs.Places.{at_within, at_get, at_same}
use Rattle.api_breaks.specs.declared.broken.Lost.{Lost}
use Rattle.api_breaks.specs.declared.broken.Lost.TheVariants as lost
use Rattle.api_breaks.specs.inner.Telling.{Tells, KeptBy}
use Rattle.api_breaks.proofs.Telling.{told_kept, told_lost, told_as, told_both}
use Rattle.api_further_breaks.specs.declared.sealed.SealedPair.{SealedPair}
use Rattle.api_further_breaks.specs.declared.sealed.SealedPairs.{SealedPairs}
use Rattle.api_further_breaks.specs.inner.Sealed.{AreSealed, AreNowhere, HoldSealed, IsSealedPair}
use Rattle.api_further_breaks.specs.inner.Implementing.{KeepsAt, IsLostAt, KeepsOf, IsLostBySome, KeepsInterfaces, IsLostInterface, KeepsBoth, IsImplementingLoss}

module _ (sealed : List SealedPair) (callable called : Candidates) (at : ℕ) (ls : List Lost) where
  pub place_empty : length sealed ≤ at → Tells (KeepsAt sealed callable called at) (IsLostAt sealed callable called at) ls ls
  place_empty l =
      let none : (r : SealedPair) → At sealed at r → ⊥ = (λ r h. let k = at_within sealed at r h in let z : ⊥ = absurd (omega (arith, k, l)) in z) in
      told_kept ls (λ r h. absurd (none r h)) (λ x h. none h.0 h.1)

  module _ (r : SealedPair) (l : at < length sealed) (e : r ≡ get_or sealed at r) where
    here : At sealed at r
    here = at_get sealed at r l e

    pub place_lacks : (AreCandidates callable r.old.now → ⊥) → Tells (KeepsAt sealed callable called at) (IsLostAt sealed callable called at) ls ls
    place_lacks n =
        let none : (q : SealedPair) → At sealed at q → AreCandidates callable q.old.now → ⊥ = (λ q b h. n (subst (λ (z : SealedPair). AreCandidates callable z.old.now) (at_same sealed at q r b here) h)) in
        told_kept ls (λ q b h. absurd (none q b h)) (λ x h. none h.0 h.1 h.2)

    pub place_kept : AreCandidates called r.new.now → Tells (KeepsAt sealed callable called at) (IsLostAt sealed callable called at) ls ls
    place_kept k =
        let all : (q : SealedPair) → At sealed at q → AreCandidates called q.new.now = (λ q b. subst (λ (z : SealedPair). AreCandidates called z.new.now) (at_same sealed at r q here b) k) in
        told_kept ls (λ q b h. all q b) (λ x h. h.3 (all h.0 h.1))

    pub place_lost : (grown : List Lost) (t : Term) → AreCandidates callable r.old.now → (AreCandidates called r.new.now → ⊥) → t ≡ r.pair.now.old → grown ≡ ls ++ lost.Implements t ∷ [] → Tells (KeepsAt sealed callable called at) (IsLostAt sealed callable called at) ls grown
    place_lost grown t k n s x =
        told_lost ls grown (lost.Implements r.pair.now.old) (x ∙ ap (λ (y : Term). ls ++ lost.Implements y ∷ []) s) (r, here, k, n, refl)
        (λ y h. ap (λ (q : SealedPair). lost.Implements q.pair.now.old) (at_same sealed at r h.0 here h.1) ∙ h.4)

-- no pair stands at the methods that were looked at
pub nowhere_more : (places : PlaceTable) (ms ns : List Method) (m : Method) → ns ≡ ms ++ m ∷ [] → places_at places (method_sel m) ≡ [] → AreNowhere places ms → AreNowhere places ns
nowhere_more places ms ns m e f n x h = elim (has-back ms m x (subst (λ (w : List Method). Has w x) e h)) [
  | inl y ↦ n x y
  | inr y ↦ subst (λ (z : Method). places_at places (method_sel z) ≡ []) y f
]

pub nowhere_all : (places : PlaceTable) (ms : List Method) (n : ℕ) → length ms ≤ n → AreNowhere places (take n ms) → AreNowhere places ms
nowhere_all places ms n l k = subst (AreNowhere places) (take_past n ms l) k

-- what can be called of a type, and what it implements
module _ (T : Table) (t i : Term) (callable : Candidates) (h : HoldMethodSet T t callable) where
  layer_is : (l : Layer) → interface_layer l ≡ true → l ≡ Term-F.Interface (methods_of l)
  layer_is (Term-F.Interface ms) e = refl
  layer_is l e = absurd (cc)

  pub implements_called : Implements T t i → AreCandidates callable (methods_of (under T i))
  implements_called k m w = (h (out-Method m).sel (out-Method m).signature).1 (k.2 m (subst (λ (l : Layer). Has (methods_of l) m) k.1 w))

  pub called_implements : interface_layer (under T i) ≡ true → AreCandidates callable (methods_of (under T i)) → Implements T t i
  called_implements e k = (methods_of (under T i), layer_is (under T i) e, λ m w. (h (out-Method m).sel (out-Method m).signature).0 (k m w))

has_interface : (l : Layer) (m : Method) → Has (methods_of l) m → interface_layer l ≡ true
has_interface (Term-F.Interface ms) m h = refl
has_interface (Term-F.Plain b) m h = absurd h
has_interface (Term-F.Named n) m h = absurd h
has_interface (Term-F.Pointer e) m h = absurd h
has_interface (Term-F.Slice e) m h = absurd h
has_interface (Term-F.Array n e) m h = absurd h
has_interface (Term-F.Map k e) m h = absurd h
has_interface (Term-F.Chan d e) m h = absurd h
has_interface (Term-F.Func g) m h = absurd h
has_interface (Term-F.Struct fs) m h = absurd h

-- the table finds each interface that the old type implements
module _ (old new : Packages) (pairs : List TypePair) (sealed : SealedPairs) (x : HoldSealed old new pairs sealed) where
  abbrev rows : List SealedPair
  rows = sealed.pairs.items

  -- where the old type implements the interface, a method of its set stands at its place
  abbrev IsFound : List Method → TypePair → Type 0
  IsFound ms i = (m : Method) × Has ms m × (j : ℕ) × (r : SealedPair) × Has (places_at sealed.places (method_sel m)) j × At rows j r × (r.pair.now ≡ i)

  found : (t : Term) (ms : List Method) → IsMethodSet (types_of old) t ms → (k : ℕ) (i : TypePair) → At pairs k i → AreSealed old new i → Implements (types_of old) t i.old → IsFound ms i
  found t ms s k i p w f =
      let c = x.complete k i p w in
      let m = c.3.0 in
      let g : HasMethods (types_of old) t (methods_of (under (types_of old) i.old)) = (λ n y. f.2 n (subst (λ (l : Layer). Has (methods_of l) n) f.1 y)) in
      (m, s.complete m (g m c.3.1), c.1, c.2, subst (λ (z : Sel). Has (places_at sealed.places z) c.1) (sym c.3.2) c.4, c.5, c.6)

  pub set_nowhere : (t u : Term) (ms items : List Method) (a : List Lost) → IsMethodSet (types_of old) t ms → items ≡ ms → AreNowhere sealed.places items → Tells (KeepsInterfaces old new pairs t u) (IsLostInterface old new pairs t u) a a
  set_nowhere t u ms items a s e n = told_kept a (λ k i p w f. absurd (none k i p w f)) (λ l h. none h.0 h.1 h.2 h.3 h.4)
    where
      none : (k : ℕ) (i : TypePair) → At pairs k i → AreSealed old new i → Implements (types_of old) t i.old → ⊥
      none k i p w f = let m = found t ms s k i p w f in subst (λ (z : List ℕ). Has z m.2) (n m.0 (subst (λ (w : List Method). Has w m.0) (sym e) m.1)) m.4

  pub set_exact : (t u : Term) (ms items : List Method) (callable called : Candidates) (a b : List Lost) → IsMethodSet (types_of old) t ms → items ≡ ms → HoldMethodSet (types_of old) t callable → HoldMethodSet (types_of new) u called → Tells (KeptBy (KeepsOf rows sealed.places callable called) items) (IsLostBySome rows sealed.places callable called items) a b → Tells (KeepsInterfaces old new pairs t u) (IsLostInterface old new pairs t u) a b
  set_exact t u ms items callable called a b s e h k v = told_as a b kept to back (subst (λ (w : List Method). Tells (KeptBy (KeepsOf rows sealed.places callable called) w) (IsLostBySome rows sealed.places callable called w) a b) e v)
    where
      before : (r : SealedPair) → IsSealedPair old new r → Implements (types_of old) t r.pair.now.old → AreCandidates callable r.old.now
      before r w f = subst (AreCandidates callable) (sym w.1) (implements_called (types_of old) t r.pair.now.old callable h f)

      before_back : (r : SealedPair) → IsSealedPair old new r → AreCandidates callable r.old.now → Implements (types_of old) t r.pair.now.old
      before_back r w f = called_implements (types_of old) t r.pair.now.old callable h (has_interface (under (types_of old) r.pair.now.old) w.0.0.0 w.0.0.1) (subst (AreCandidates callable) w.1 f)

      after : (r : SealedPair) → IsSealedPair old new r → AreCandidates called r.new.now → Implements (types_of new) u r.pair.now.new
      after r w f = called_implements (types_of new) u r.pair.now.new called k w.0.1 (subst (AreCandidates called) w.2 f)

      after_back : (r : SealedPair) → IsSealedPair old new r → Implements (types_of new) u r.pair.now.new → AreCandidates called r.new.now
      after_back r w f = subst (AreCandidates called) (sym w.2) (implements_called (types_of new) u r.pair.now.new called k f)

      kept : KeptBy (KeepsOf rows sealed.places callable called) ms → KeepsInterfaces old new pairs t u
      kept f n i p w g =
          let m = found t ms s n i p w g in
          let r = m.3 in
          let is = x.sound m.2 r m.5 in
          subst (λ (z : TypePair). Implements (types_of new) u z.new) m.6 (after r is.1 (f m.0 m.1 m.2 m.4 r m.5 (before r is.1 (subst (λ (z : TypePair). Implements (types_of old) t z.old) (sym m.6) g))))

      to : (l : Lost) → IsLostBySome rows sealed.places callable called ms l → IsLostInterface old new pairs t u l
      to l f =
          let r = f.2.2.0 in
          let is = x.sound f.2.0 r f.2.2.1 in
          (is.0.0, r.pair.now, is.0.1, is.1.0, before_back r is.1 f.2.2.2, (λ g. f.2.2.3 (after_back r is.1 g)), f.2.2.4)

      back : (l : Lost) → IsLostInterface old new pairs t u l → IsLostBySome rows sealed.places callable called ms l
      back l f =
          let m = found t ms s f.0 f.1 f.2 f.3 f.4 in
          let r = m.3 in
          let is = x.sound m.2 r m.5 in
          (m.0, m.1, (m.2, m.4, (r, m.5, before r is.1 (subst (λ (z : TypePair). Implements (types_of old) t z.old) (sym m.6) f.4), (λ g. f.5 (subst (λ (z : TypePair). Implements (types_of new) u z.new) m.6 (after r is.1 g))), ap (λ (z : TypePair). lost.Implements z.old) m.6 ∙ f.6)))

  pub set_over : (t u v w : Term) (a b : List Lost) → t ≡ v → u ≡ w → Tells (KeepsInterfaces old new pairs t u) (IsLostInterface old new pairs t u) a b → Tells (KeepsInterfaces old new pairs v w) (IsLostInterface old new pairs v w) a b
  set_over t u v w a b e f k = subst (λ (y : Term). Tells (KeepsInterfaces old new pairs y w) (IsLostInterface old new pairs y w) a b) e (subst (λ (y : Term). Tells (KeepsInterfaces old new pairs t y) (IsLostInterface old new pairs t y) a b) f k)

  pub none_sealed : (p : TypePair) (ls : List Lost) → sealed.pairs.items ≡ [] → Tells (KeepsBoth old new pairs p) (IsImplementingLoss old new pairs p) ls ls
  none_sealed p ls e = told_kept ls ((λ j i a s. absurd (none j i a s)), (λ j i a s. absurd (none j i a s))) (λ l h. elim h [ inl k ↦ none k.0 k.1 k.2 k.3 | inr k ↦ none k.0 k.1 k.2 k.3 ])
    where
      none : (j : ℕ) (i : TypePair) → At pairs j i → AreSealed old new i → ⊥
      none j i a s = let c = x.complete j i a s in subst (λ (w : List SealedPair). At w c.1 c.2) e c.5

  pub both_exact : (p : TypePair) (a b c : List Lost) → Tells (KeepsInterfaces old new pairs p.old p.new) (IsLostInterface old new pairs p.old p.new) a b → Tells (KeepsInterfaces old new pairs (pointer_to p.old) (pointer_to p.new)) (IsLostInterface old new pairs (pointer_to p.old) (pointer_to p.new)) b c → Tells (KeepsBoth old new pairs p) (IsImplementingLoss old new pairs p) a c
  both_exact p a b c s t = told_both a b c (λ k l. (k, l)) (λ l h. inl h) (λ l h. inr h) (λ l h. h) s t
