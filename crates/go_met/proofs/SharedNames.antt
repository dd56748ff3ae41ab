-- The names that stand twice, name by name.
use Rattle.std.proofs.Common.{◌≡◌, ◌↔◌, ◌⊎◌, ◌<◌, ◌+◌, ◌∙◌, ℕ, Bool, true, false, List, [], ◌∷◌, ◌++◌, get_or, length, take, sym, subst, inl, inr}
use mathlib.Core.Bool.{true≢false}
use Rattle.std.specs.BTreeMap.{is_at}
use Rattle.std.specs.List.{list_any}
use Rattle.go_base.specs.Growing.{Grows}
use Rattle.go_base.specs.Lists.{Has}
use Rattle.go_declared.specs.MethodTables.{method_name}
use Rattle.go_declared.specs.declared.methods.MethodRow.{MethodRow}
use Rattle.go_imports.proofs.GrowingSets.{order}
use Rattle.go_imports.proofs.TextKeys.{has_key, key_has}
use Rattle.go_selectors.specs.Answers.{Decides}
use Rattle.go_typings.specs.Declarations.{Declaration}
use Rattle.go_met.proofs.Fronts.{has_last, has_left, has_right, names_more}
use Rattle.go_met.specs.inner.SharedNames.{row_names, StandsTwice}

-- a set tells whether it has a name
pub has_decided : (ks : List (List ℕ)) (k : List ℕ) (b : Bool) → b ≡ list_any (is_at (order k)) ks → Decides b (Has ks k)
has_decided ks k true e = key_has ks k (sym e)
has_decided ks k false e = λ h. true≢false (sym (has_key ks k h) ∙ sym e)

-- ---- one name more

twice_left : (ns : List (List ℕ)) (n k : List ℕ) → StandsTwice ns k → StandsTwice (ns ++ n ∷ []) k
twice_left [] n k h = absurd h
twice_left (m ∷ ns) n k (inl h) = inl (h.0, has_left ns (n ∷ []) k h.1)
twice_left (m ∷ ns) n k (inr h) = inr (twice_left ns n k h)

twice_last : (ns : List (List ℕ)) (n k : List ℕ) → n ≡ k → Has ns k → StandsTwice (ns ++ n ∷ []) k
twice_last [] n k e h = absurd h
twice_last (m ∷ ns) n k e (inl f) = inl (f, has_right ns (n ∷ []) k (inl e))
twice_last (m ∷ ns) n k e (inr h) = inr (twice_last ns n k e h)

twice_split : (ns : List (List ℕ)) (n k : List ℕ) → StandsTwice (ns ++ n ∷ []) k → StandsTwice ns k ⊎ ((n ≡ k) × Has ns k)
twice_split [] n k (inl h) = absurd h.1
twice_split [] n k (inr h) = absurd h
twice_split (m ∷ ns) n k (inl h) = elim (has_last ns n k h.1) [ inl f ↦ inl (inl (h.0, f)) | inr e ↦ inr (e, inl h.0) ]
twice_split (m ∷ ns) n k (inr h) = elim (twice_split ns n k h) [ inl f ↦ inl (inr f) | inr f ↦ inr (f.0, inr f.1) ]

-- ---- sets of names

-- the sets have the names that stand in the list, and those that stand twice
pub record AreNoted (ns seen shared : List (List ℕ)) : Type 0 where
  pub all : (k : List ℕ) → Has seen k ↔ Has ns k
  pub twice : (k : List ℕ) → Has shared k ↔ StandsTwice ns k

pub noted_more : (ns seen shared after then' : List (List ℕ)) (n : List ℕ) → AreNoted ns seen shared → Grows (λ k. n ≡ k) seen after → Grows (λ k. (n ≡ k) × Has seen k) shared then' → AreNoted (ns ++ n ∷ []) after then'
noted_more ns seen shared after then' n is a b = record {
  all = λ k. ((λ h. seen_of k h), (λ h. elim (has_last ns n k h) [ inl f ↦ a.kept k ((is.all k).1 f) | inr e ↦ a.complete k e ]));
  twice = λ k. ((λ h. shared_of k h), (λ h. elim (twice_split ns n k h) [ inl f ↦ b.kept k ((is.twice k).1 f) | inr f ↦ b.complete k (f.0, (is.all k).1 f.1) ]));
}
  where
    seen_of : (k : List ℕ) → Has after k → Has (ns ++ n ∷ []) k
    seen_of k h = elim (a.sound k h) [ inl f ↦ has_left ns (n ∷ []) k ((is.all k).0 f) | inr e ↦ has_right ns (n ∷ []) k (inl e) ]

    shared_of : (k : List ℕ) → Has then' k → StandsTwice (ns ++ n ∷ []) k
    shared_of k h = elim (b.sound k h) [ inl f ↦ twice_left ns n k ((is.twice k).0 f) | inr f ↦ twice_last ns n k f.0 ((is.all k).0 f.1) ]

pub noted_next : (ds : List Declaration) (rows : List MethodRow) (i : ℕ) (r : MethodRow) (n : List ℕ) (seen shared after then' : List (List ℕ)) → i < length rows → n ≡ method_name ds (get_or rows i r).number
    → AreNoted (row_names ds (take i rows)) seen shared → Grows (λ k. n ≡ k) seen after → Grows (λ k. (n ≡ k) × Has seen k) shared then' → AreNoted (row_names ds (take (i + 1) rows)) after then'
noted_next ds rows i r n seen shared after then' h e a f g =
    subst (λ (ns : List (List ℕ)). AreNoted ns after then') (sym (names_more ds rows i r h))
    (subst (λ (m : List ℕ). AreNoted (row_names ds (take i rows) ++ m ∷ []) after then') e (noted_more (row_names ds (take i rows)) seen shared after then' n a f g))
