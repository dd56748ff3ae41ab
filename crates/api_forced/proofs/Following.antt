-- Pairs are followed one after another, until all are.
use Rattle.std.proofs.Common.{◌≡◌, ◌≤◌, ◌+◌, inl, inr, ℕ, Some, List, [], ◌∷◌, ◌++◌, length, refl, sym, ap, ◌∙◌, subst, arith, length-append, append_assoc, append-nil}
use Rattle.go_base.specs.Lists.{Has}
use Rattle.go_selectors.proofs.Lists.{has-split}
use Rattle.go_model.specs.worlds.Worlds.{Packages}
use Rattle.go_type_images.specs.declared.pair.TypePair.{TypePair}
use Rattle.api_correspond.specs.inner.Tables.{At, AddsPairs}
use Rattle.api_forced.specs.inner.Graphs.{LeadsTo, Followed, IsClosed, FollowedBy, Extends, Reached, at_start, led_on}
use Rattle.api_correspond.proofs.Tabling.{Adding, adding_none, adding_all}
use Rattle.api_correspond.proofs.Places.{at_left, at_back, at_within, at_has}

pub extends_none : {A : Type 0} (xs : List A) → Extends xs xs
extends_none xs = ([], sym (append-nil xs))

pub extends_more : {A : Type 0} (a b c : List A) → Extends a b → Extends b c → Extends a c
extends_more a b c p q = (p.0 ++ q.0, q.1 ∙ ap (λ w. w ++ q.0) p.1 ∙ append_assoc a p.0 q.0)

pub extends_place : {A : Type 0} (a b : List A) (i : ℕ) (x : A) → Extends a b → At a i x → At b i x
extends_place a b i x e h = subst (λ (w : List _). At w i x) (sym e.1) (at_left a e.0 i x h)

pub adding_begun : (whole old : List TypePair) (numbers : List ℕ) → numbers ≡ [] → Adding whole whole old old numbers
adding_begun whole old numbers e = subst (Adding whole whole old old) (sym e) (adding_none whole old)

pub adding_done : (whole rest old new : List TypePair) (numbers : List ℕ) → rest ≡ [] → Adding whole rest old new numbers → AddsPairs old new whole numbers
adding_done whole rest old new numbers e a = adding_all whole old new numbers (subst (λ (w : List TypePair). Adding whole w old new numbers) e a)

module _ (old new : Packages) where
  leads_on : (pairs more : List TypePair) (p : TypePair) (numbers : List ℕ) → Extends pairs more → LeadsTo old new pairs p numbers → LeadsTo old new more p numbers
  leads_on pairs more p numbers e l = record {
    sound = λ j h. let k = l.sound j h in (k.0, extends_place pairs more j k.0 e k.1, k.2);
    complete = λ q h. let k = l.complete q h in (k.0, k.1, extends_place pairs more k.0 q e k.2);
  }

  -- the first pairs are followed
  pub record Following (start : List TypePair) (at : ℕ) (pairs : List TypePair) (next : List (List ℕ)) : Type 0 where
    pub extends : Extends start pairs
    pub followed : Followed old new pairs next
    pub done : length next ≡ at
    pub within : at ≤ length pairs
    pub reached : (p : TypePair) → Has pairs p → Reached old new start p

  pub following_none : (start : List TypePair) → Following start 0 start []
  following_none start = record { extends = extends_none start; followed = record { each = λ i numbers h. absurd h }; done = refl; within = omega arith; reached = λ p h. at_start h }

  pub following_begun : (start : List TypePair) (next : List (List ℕ)) → next ≡ [] → Following start 0 start next
  following_begun start next e = subst (Following start 0 start) (sym e) (following_none start)

  pub following_more : (start : List TypePair) (at : ℕ) (pairs grown : List TypePair) (next longer : List (List ℕ)) (qs : List TypePair) (numbers : List ℕ) → Following start at pairs next → FollowedBy old new pairs at (Some qs) → AddsPairs pairs grown qs numbers → longer ≡ next ++ numbers ∷ [] → Following start (at + 1) grown longer
  following_more start at pairs grown next longer qs numbers f b a e =
      let p = b.0 in
      let more : Extends pairs grown = (a.more, a.grown) in
      record {
        extends = extends_more start pairs grown f.extends more;
        followed = record {
          each = λ i ns h. elim (at_back next numbers ns i (subst (λ (w : List (List ℕ)). At w i ns) e h)) [
            | inl x ↦ (let k = f.followed.each i ns x in (k.0, extends_place pairs grown i k.0 more k.1, leads_on pairs grown k.0 ns more k.2))
            | inr y ↦ (
              p,
              extends_place pairs grown i p more (subst (λ (n : ℕ). At pairs n p) (sym (y.0 ∙ f.done)) b.1),
              subst (LeadsTo old new grown p) y.1 (record {
                sound = λ j m. let k = a.sound j m in (k.0, k.2, (b.2 k.0).0 k.1);
                complete = λ q l. a.complete q ((b.2 q).1 l);
              }),
            )
          ];
        };
        done = ap length e ∙ length-append next (numbers ∷ []) ∙ ap (λ n. n + 1) f.done;
        within = (let w = at_within pairs at p b.1 in let g = ap length a.grown in let l = length-append pairs a.more in omega (arith, w, g, l));
        reached = λ q h. elim (has-split pairs a.more q (subst (λ (w : List TypePair). Has w q) a.grown h)) [
          | inl x ↦ f.reached q x
          | inr y ↦ led_on (f.reached p (at_has pairs at p b.1)) ((b.2 q).0 (a.only q y))
        ];
      }

  pub following_all : (start : List TypePair) (at : ℕ) (pairs : List TypePair) (next : List (List ℕ)) → Following start at pairs next → length pairs ≤ at → IsClosed old new pairs next
  following_all start at pairs next f h = (f.followed, (let w = f.within in let d = f.done in omega (arith, w, d)))
