-- Ordered sets of texts that get one more.
use Rattle.std.proofs.Common.{◌≡◌, ℕ, Bool, true, false, not, List, [], ◌∷◌, refl, sym, ap, ◌∙◌, subst, inl, inr, ◌||◌}
use mathlib.Core.Bool.{true≢false}
use Rattle.std.specs.List.{list_any}
use Rattle.std.specs.BTreeMap.{is_at}
use Rattle.std.specs.BTreeSet.{insert_key}
use Rattle.std.specs.Ordering.{is_eq, nat_cmp, match_ordering}
use Rattle.std.specs.declared.cmp.Ordering.{Ordering}
use Rattle.std.specs.declared.cmp.Ordering.TheVariants.{Less, Equal, Greater}
use Rattle.std.specs.Cmp.Lexicographic.{slice_cmp}
use Rattle.std.specs.FinMap.{IsAntisymmetric, slice_cmp-IsAntisymmetric, nat_cmp-IsAntisymmetric}
use Rattle.std.proofs.lemmas.Cmp.{nat_list_cmp_total, tied_itself}
use Rattle.go_base.specs.Lists.{Has}
use Rattle.go_base.specs.Growing.{Adds, Grows}

-- the order of texts
abbrev order : List ℕ → List ℕ → Ordering
order = slice_cmp nat_cmp

texts_tie : IsAntisymmetric order
texts_tie = slice_cmp-IsAntisymmetric nat_cmp-IsAntisymmetric

module _ {K : Type 0} (R : K → K → Ordering) (same : IsAntisymmetric R) where
  inserted_by : (y : K) (ys : List K) (k : K) (o : Ordering) → R k y ≡ o → Grows (λ x. k ≡ x) ys (insert_key R ys k) → Grows (λ x. k ≡ x) (y ∷ ys) (match_ordering o (k ∷ y ∷ ys) (y ∷ ys) (y ∷ insert_key R ys k))
  inserted_by y ys k Less e g = record { sound = λ x h. elim h [ inl s ↦ inr s | inr r ↦ inl r ]; kept = λ x h. inr h; complete = λ x h. inl h }
  inserted_by y ys k Equal e g = record { sound = λ x h. inl h; kept = λ x h. h; complete = λ x h. inl (sym (same k y e) ∙ h) }
  inserted_by y ys k Greater e g = record {
    sound = λ x h. elim h [ inl s ↦ inl (inl s) | inr r ↦ elim (g.sound x r) [ inl a ↦ inl (inr a) | inr b ↦ inr b ] ];
    kept = λ x h. elim h [ inl s ↦ inl s | inr r ↦ inr (g.kept x r) ];
    complete = λ x h. inr (g.complete x h);
  }

  inserted : (ks : List K) (k : K) → Grows (λ x. k ≡ x) ks (insert_key R ks k)
  inserted [] k = record { sound = λ x h. elim h [ inl s ↦ inr s | inr r ↦ absurd r ]; kept = λ x h. absurd h; complete = λ x h. inl h }
  inserted (y ∷ ys) k = inserted_by y ys k (R k y) refl (inserted ys k)

  grows_inserted : (old new : List K) (k : K) → new ≡ insert_key R old k → Grows (λ x. k ≡ x) old new
  grows_inserted old new k e = subst (Grows (λ x. k ≡ x) old) (sym e) (inserted old k)

-- a text was put among others
pub texts_grow : (old new : List (List ℕ)) (text : List ℕ) → new ≡ insert_key order old text → Grows (λ x. text ≡ x) old new
texts_grow = grows_inserted order texts_tie

key_by : (text k : List ℕ) (ks : List (List ℕ)) (o : Ordering) → order text k ≡ o → (is_eq o || list_any (is_at (order text)) ks) ≡ true → (list_any (is_at (order text)) ks ≡ true → Has ks text) → Has (k ∷ ks) text
key_by text k ks Less e h rest = inr (rest h)
key_by text k ks Equal e h rest = inl (sym (texts_tie text k e))
key_by text k ks Greater e h rest = inr (rest h)

key_has : (ks : List (List ℕ)) (text : List ℕ) → list_any (is_at (order text)) ks ≡ true → Has ks text
key_has [] text h = true≢false (sym h)
key_has (k ∷ ks) text h = key_by text k ks (order text k) refl h (key_has ks text)

or_right : (a b : Bool) → b ≡ true → (a || b) ≡ true
or_right true b e = refl
or_right false b e = e

has_key : (ks : List (List ℕ)) (text : List ℕ) → Has ks text → list_any (is_at (order text)) ks ≡ true
has_key [] text h = absurd h
has_key (k ∷ ks) text (inl e) = ap (λ o. is_eq o || list_any (is_at (order text)) ks) (ap (order text) e ∙ tied_itself nat_list_cmp_total text)
has_key (k ∷ ks) text (inr h) = or_right (is_at (order text) k) (list_any (is_at (order text)) ks) (has_key ks text h)

negated : (b : Bool) → not b ≡ false → b ≡ true
negated true h = refl
negated false h = absurd (true≢false h)

-- a text was put among others, and the answer says whether it is new
pub adds : (old new : List (List ℕ)) (text : List ℕ) (is_new : Bool) → new ≡ insert_key order old text → is_new ≡ not (list_any (is_at (order text)) old) → Adds old text new is_new
adds old new text is_new e told = record {
  grows = texts_grow old new text e;
  fresh = λ t h. true≢false (sym t ∙ told ∙ ap not (has_key old text h));
  there = λ f. key_has old text (negated (list_any (is_at (order text)) old) (sym told ∙ f));
}
