-- The own names of old types, pair by pair.
use Rattle.std.proofs.Common.{◌≡◌, ℕ, zero, suc, Option, Some, None, List, [], ◌∷◌, ◌++◌, ◌≤◌, length, take, refl, sym, ◌∙◌, subst}
use Rattle.go_base.proofs.Lists.{take_past}
use Rattle.go_model.specs.worlds.Worlds.{Packages}
use Rattle.go_model.specs.declared.types.term.Term.{Term}
use Rattle.go_type_images.specs.declared.pair.TypePair.{TypePair}
use Rattle.api_correspond.specs.Publics.{qualified}
use Rattle.api_correspond.specs.inner.Tables.{At, KeepsTexts}
use Rattle.api_forced.specs.inner.Graphs.{OwnName, OwnNames}
use Rattle.api_correspond.proofs.Tabling.{keeps_place}

module _ (w : Packages) where
  pub own_on : (texts more : List (List ℕ)) (t : Term) (o : Option ℕ) → KeepsTexts texts more → OwnName w texts t o → OwnName w more t o
  own_on texts more t None k h = h
  own_on texts more t (Some i) k h = (h.0, h.1, h.2, keeps_place texts more i (qualified h.0.path h.0.name) k h.3)

  pub names_on : (texts more : List (List ℕ)) (ps : List TypePair) (os : List (Option ℕ)) → KeepsTexts texts more → OwnNames w texts ps os → OwnNames w more ps os
  names_on texts more [] [] k h = tt
  names_on texts more [] (o ∷ os) k h = h
  names_on texts more (p ∷ ps) [] k h = h
  names_on texts more (p ∷ ps) (o ∷ os) k h = (own_on texts more p.old o k h.0, names_on texts more ps os k h.1)

  names_last : (texts : List (List ℕ)) (ps : List TypePair) (os : List (Option ℕ)) (p : TypePair) (o : Option ℕ) → OwnNames w texts ps os → OwnName w texts p.old o → OwnNames w texts (ps ++ p ∷ []) (os ++ o ∷ [])
  names_last texts [] [] p o h n = (n, tt)
  names_last texts [] (x ∷ os) p o h n = absurd h
  names_last texts (q ∷ ps) [] p o h n = absurd h
  names_last texts (q ∷ ps) (x ∷ os) p o h n = (h.0, names_last texts ps os p o h.1 n)

  pub names_more : (texts more : List (List ℕ)) (ps qs : List TypePair) (os longer : List (Option ℕ)) (p : TypePair) (o : Option ℕ) → qs ≡ ps ++ p ∷ [] → longer ≡ os ++ o ∷ [] → KeepsTexts texts more → OwnNames w texts ps os → OwnName w more p.old o → OwnNames w more qs longer
  names_more texts more ps qs os longer p o e f k h n = subst (λ (x : List TypePair). OwnNames w more x longer) (sym e) (subst (λ (x : List (Option ℕ)). OwnNames w more (ps ++ p ∷ []) x) (sym f) (names_last more ps os p o (names_on texts more ps os k h) n))

  pub names_begun : (texts : List (List ℕ)) (os : List (Option ℕ)) → os ≡ [] → OwnNames w texts [] os
  names_begun texts os e = subst (OwnNames w texts []) (sym e) tt

  pub names_all : (texts : List (List ℕ)) (ps items : List TypePair) (os : List (Option ℕ)) (n : ℕ) → items ≡ ps → length items ≤ n → OwnNames w texts (take n items) os → OwnNames w texts ps os
  names_all texts ps items os n e h = subst (λ (x : List TypePair). OwnNames w texts x os) (take_past n items h ∙ e)

  pub own_at : (texts : List (List ℕ)) (ps : List TypePair) (os : List (Option ℕ)) (i : ℕ) (p : TypePair) → OwnNames w texts ps os → At ps i p → (o : Option ℕ) × At os i o × OwnName w texts p.old o
  own_at texts [] os i p h a = absurd a
  own_at texts (q ∷ ps) [] i p h a = absurd h
  own_at texts (q ∷ ps) (o ∷ os) zero p h a = (o, refl, subst (λ (z : TypePair). OwnName w texts z.old o) a h.0)
  own_at texts (q ∷ ps) (o ∷ os) (suc i) p h a = own_at texts ps os i p h.1 a
