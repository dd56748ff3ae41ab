-- Names that are looked at one after another, beside the set of those that were seen, are distinct or not.
use Rattle.std.proofs.Common.{◌≡◌, ◌<◌, ◌≤◌, ◌+◌, length, get_or, drop, Bool, true, false, ℕ, List, [], ◌∷◌, refl, sym, ◌∙◌, subst, inl, inr}
use Rattle.std.specs.Cmp.Lexicographic.{bytes_decides}
use mathlib.Core.Bool.{true≢false}
use denote.Ref.{Bor}
use Rattle.go_base.specs.Growing.{Adds}
use Rattle.go_base.specs.Lists.{Has, Once}
use Rattle.go_model.specs.types.Terms.{blank}
use Rattle.go_rules.specs.Asks.{AreDistinctNames}
use Rattle.go_rules.specs.Expressions.{is_blank}
use Rattle.go_selectors.proofs.Lists.{drop_all, drop_next}
use Rattle.go_nodes.specs.Trees.{texts_of}
use Rattle.go_nodes.specs.inner.Notes.{Notes}

blank_name : (n : List ℕ) → is_blank n ≡ true → n ≡ blank
blank_name n e = (bytes_decides n blank).0 e

other_name : (n : List ℕ) → is_blank n ≡ false → n ≡ blank → ⊥
other_name n e s = true≢false (sym ((bytes_decides n blank).1 s) ∙ e)

-- no name is among those that were seen
abbrev pub Apart : List (List ℕ) → List (List ℕ) → Type 0
Apart seen names = (n : List ℕ) → Has names n → Has seen n → ⊥

none_apart : (seen : List (List ℕ)) → Apart seen []
none_apart seen n i h = absurd i

-- ---- names but the blank one

-- all names are distinct exactly where those that follow are, and are apart from those that were seen
pub record DistinctFrom (seen rest all : List (List ℕ)) : Type 0 where
  pub unnamed : Has seen blank → ⊥
  pub enough : AreDistinctNames rest → Apart seen rest → AreDistinctNames all
  pub rest_distinct : AreDistinctNames all → AreDistinctNames rest
  pub rest_apart : AreDistinctNames all → Apart seen rest

none_seen : (all : List (List ℕ)) → DistinctFrom [] all all
none_seen all = record { unnamed = λ h. h; enough = λ d a. d; rest_distinct = λ d. d; rest_apart = λ d n i h. h }

pub distinct_begins : (seen all : List (List ℕ)) → seen ≡ [] → DistinctFrom seen all all
distinct_begins seen all e = subst (λ (s : List (List ℕ)). DistinctFrom s all all) (sym e) (none_seen all)

module _ (seen all : List (List ℕ)) (x : List ℕ) (xs : List (List ℕ)) (w : DistinctFrom seen (x ∷ xs) all) where
  blank_skipped : x ≡ blank → DistinctFrom seen xs all
  blank_skipped e = record {
    unnamed = w.unnamed;
    enough = λ d a. w.enough ((λ other i s. e), d) (λ n i h. elim i [ inl s ↦ w.unnamed (subst (Has seen) (sym s ∙ e) h) | inr j ↦ a n j h ]);
    rest_distinct = λ d. (w.rest_distinct d).1;
    rest_apart = λ d n i h. w.rest_apart d n (inr i) h;
  }

  name_added : (new : List (List ℕ)) → (x ≡ blank → ⊥) → Adds seen x new true → DistinctFrom new xs all
  name_added new named a = record {
    unnamed = λ h. elim (a.grows.sound blank h) [ inl s ↦ w.unnamed s | inr e ↦ named e ];
    enough = λ d p.
        w.enough ((λ other i e. absurd (p other i (subst (Has new) (sym e) (a.grows.complete x refl)))), d)
        (λ n i h. elim i [ inl s ↦ a.fresh refl (subst (Has seen) (sym s) h) | inr j ↦ p n j (a.grows.kept n h) ]);
    rest_distinct = λ d. (w.rest_distinct d).1;
    rest_apart = λ d n i h. elim (a.grows.sound n h) [ inl s ↦ w.rest_apart d n (inr i) s | inr e ↦ named ((w.rest_distinct d).0 n i (sym e)) ];
  }

  name_there : (new : List (List ℕ)) → Adds seen x new false → AreDistinctNames all → ⊥
  name_there new a d = w.rest_apart d x (inl refl) (a.there refl)

  name_noted : (new : List (List ℕ)) → Notes seen x new true → (b : Bool) → is_blank x ≡ b → DistinctFrom new xs all
  name_noted new a true e = subst (λ (s : List (List ℕ)). DistinctFrom s xs all) (sym (a.blank_same e)) (blank_skipped (blank_name x e))
  name_noted new a false e = name_added new (other_name x e) (a.adds e)

  name_known : (new : List (List ℕ)) → Notes seen x new false → (b : Bool) → is_blank x ≡ b → AreDistinctNames all → ⊥
  name_known new a true e = absurd (true≢false (sym (a.blank_first e)))
  name_known new a false e = name_there new (a.adds e)

module _ (seen : List (List ℕ)) (ns : List (Bor (List ℕ))) (i : ℕ) (w : DistinctFrom seen (texts_of (drop i ns)) (texts_of ns)) where
  pub distinct_done : length ns ≤ i → AreDistinctNames (texts_of ns)
  distinct_done h =
      let z = subst (λ (ms : List (Bor (List ℕ))). DistinctFrom seen (texts_of ms) (texts_of ns)) (drop_all i ns h) w in
      z.enough tt (none_apart seen)

  module _ (n : Bor (List ℕ)) (h : i < length ns) (e : n ≡ get_or ns i n) where
    here : DistinctFrom seen (n.now ∷ texts_of (drop (i + 1) ns)) (texts_of ns)
    here = subst (λ (ms : List (Bor (List ℕ))). DistinctFrom seen (texts_of ms) (texts_of ns)) (drop_next i ns n h e) w

    -- the name was noted
    pub distinct_next : (new : List (List ℕ)) (c : Bool) → c ≡ true → Notes seen n.now new c → DistinctFrom new (texts_of (drop (i + 1) ns)) (texts_of ns)
    distinct_next new c t a = name_noted seen (texts_of ns) n.now (texts_of (drop (i + 1) ns)) here new (subst (Notes seen n.now new) t a) (is_blank n.now) refl

    -- the name was there
    pub distinct_not : (new : List (List ℕ)) (c : Bool) → c ≡ false → Notes seen n.now new c → AreDistinctNames (texts_of ns) → ⊥
    distinct_not new c f a = name_known seen (texts_of ns) n.now (texts_of (drop (i + 1) ns)) here new (subst (Notes seen n.now new) f a) (is_blank n.now) refl

-- ---- a name is noted

pub notes_blank : (old : List (List ℕ)) (n : List ℕ) (b : Bool) → b ≡ true → b ≡ is_blank n → Notes old n old true
notes_blank old n b t s = record { blank_same = λ e. refl; blank_first = λ e. refl; adds = λ f. absurd (true≢false (sym t ∙ s ∙ f)) }

pub notes_other : (old : List (List ℕ)) (n : List ℕ) (new : List (List ℕ)) (b c : Bool) → b ≡ false → b ≡ is_blank n → Adds old n new c → Notes old n new c
notes_other old n new b c f s a = record {
  blank_same = λ t. absurd (true≢false (sym t ∙ sym s ∙ f));
  blank_first = λ t. absurd (true≢false (sym t ∙ sym s ∙ f));
  adds = λ e. a;
}

-- ---- all names

-- no name stands twice exactly where none of those that follow does, and they are apart from those that were seen
pub record OnceFrom (seen rest all : List (List ℕ)) : Type 0 where
  pub enough : Once rest → Apart seen rest → Once all
  pub rest_once : Once all → Once rest
  pub rest_apart : Once all → Apart seen rest

once_unseen : (all : List (List ℕ)) → OnceFrom [] all all
once_unseen all = record { enough = λ d a. d; rest_once = λ d. d; rest_apart = λ d n i h. h }

pub once_begins : (seen all : List (List ℕ)) → seen ≡ [] → OnceFrom seen all all
once_begins seen all e = subst (λ (s : List (List ℕ)). OnceFrom s all all) (sym e) (once_unseen all)

module _ (seen all : List (List ℕ)) (x : List ℕ) (xs : List (List ℕ)) (w : OnceFrom seen (x ∷ xs) all) where
  once_added : (new : List (List ℕ)) → Adds seen x new true → OnceFrom new xs all
  once_added new a = record {
    enough = λ d p.
        w.enough ((λ i. p x i (a.grows.complete x refl)), d)
        (λ n i h. elim i [ inl s ↦ a.fresh refl (subst (Has seen) (sym s) h) | inr j ↦ p n j (a.grows.kept n h) ]);
    rest_once = λ d. (w.rest_once d).1;
    rest_apart = λ d n i h. elim (a.grows.sound n h) [ inl s ↦ w.rest_apart d n (inr i) s | inr e ↦ (w.rest_once d).0 (subst (Has xs) (sym e) i) ];
  }

  once_there : (new : List (List ℕ)) → Adds seen x new false → Once all → ⊥
  once_there new a d = w.rest_apart d x (inl refl) (a.there refl)

module _ (seen : List (List ℕ)) (ns : List (Bor (List ℕ))) (i : ℕ) (w : OnceFrom seen (texts_of (drop i ns)) (texts_of ns)) where
  pub once_done : length ns ≤ i → Once (texts_of ns)
  once_done h =
      let z = subst (λ (ms : List (Bor (List ℕ))). OnceFrom seen (texts_of ms) (texts_of ns)) (drop_all i ns h) w in
      z.enough tt (none_apart seen)

  module _ (n : Bor (List ℕ)) (h : i < length ns) (e : n ≡ get_or ns i n) where
    once_here : OnceFrom seen (n.now ∷ texts_of (drop (i + 1) ns)) (texts_of ns)
    once_here = subst (λ (ms : List (Bor (List ℕ))). OnceFrom seen (texts_of ms) (texts_of ns)) (drop_next i ns n h e) w

    pub once_next : (new : List (List ℕ)) (c : Bool) → c ≡ true → Adds seen n.now new c → OnceFrom new (texts_of (drop (i + 1) ns)) (texts_of ns)
    once_next new c t a = once_added seen (texts_of ns) n.now (texts_of (drop (i + 1) ns)) once_here new (subst (Adds seen n.now new) t a)

    pub once_not : (new : List (List ℕ)) (c : Bool) → c ≡ false → Adds seen n.now new c → Once (texts_of ns) → ⊥
    once_not new c f a = once_there seen (texts_of ns) n.now (texts_of (drop (i + 1) ns)) once_here new (subst (Adds seen n.now new) f a)
