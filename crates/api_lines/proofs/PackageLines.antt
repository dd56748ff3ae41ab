-- The lines of a package, in parts that grow one by one.
use Rattle.std.proofs.Common.{◌≡◌, List, ◌++◌, refl, subst, inl, inr}
use Rattle.std.specs.List.Sorted.{IsPermutation}
use Rattle.std.proofs.lemmas.List.Sorted.{Contains-permutation, IsPermutation-sym}
use Rattle.go_base.specs.Lists.{Has}
use Rattle.go_base.specs.Growing.{Grows}
use Rattle.go_base.proofs.Members.{has_split}
use Rattle.api_lines.specs.declared.line.Line.{Line}
use Rattle.api_lines.specs.Lines.{AreInOrder, IsListing}
use Rattle.api_lines.proofs.Growing.{has_left, has_right}
use Rattle.api_lines.proofs.OrderedTexts.{contains_has, has_contains}

-- a part in front of others grows
pub grows_front : (P : Line → Type 0) (old new back : List Line) → Grows P old new → Grows P (old ++ back) (new ++ back)
grows_front P old new back g = record {
  sound = λ x h. elim (has_split new back x h) [ inl n ↦ elim (g.sound x n) [ inl o ↦ inl (has_left old back x o) | inr p ↦ inr p ] | inr b ↦ inl (has_right old back x b) ];
  kept = λ x h. elim (has_split old back x h) [ inl o ↦ has_left new back x (g.kept x o) | inr b ↦ has_right new back x b ];
  complete = λ x p. has_left new back x (g.complete x p);
}

-- a part behind another grows
pub grows_behind : (P : Line → Type 0) (front old new : List Line) → Grows P old new → Grows P (front ++ old) (front ++ new)
grows_behind P front old new g = record {
  sound = λ x h. elim (has_split front new x h) [ inl f ↦ inl (has_left front old x f) | inr n ↦ elim (g.sound x n) [ inl o ↦ inl (has_right front old x o) | inr p ↦ inr p ] ];
  kept = λ x h. elim (has_split front old x h) [ inl f ↦ has_left front new x f | inr o ↦ has_right front new x (g.kept x o) ];
  complete = λ x p. has_right front new x (g.complete x p);
}

-- lines that were moved are the same
pub moved_grows : (old new : List Line) → IsPermutation old new → Grows (λ l. ⊥) old new
moved_grows old new moved = record {
  sound = λ x h. inl (contains_has old x (Contains-permutation new old x (IsPermutation-sym old new moved) (has_contains new x h)));
  kept = λ x h. contains_has new x (Contains-permutation old new x moved (has_contains old x h));
  complete = λ x p. absurd p;
}

-- lines in order are their own listing
pub own_listing : (lines : List Line) → AreInOrder lines → IsListing (Has lines) lines
own_listing lines o = record { sound = λ l h. h; complete = λ l h. (l, h, refl); ordered = o }

-- one part of a package's lines grows
module _ (P : Line → Type 0) (a b c d e f x all : List Line) (is : a ++ b ++ c ++ d ++ e ++ f ≡ all) where
  pub constants_grow : Grows P a x → Grows P all (x ++ b ++ c ++ d ++ e ++ f)
  constants_grow g = subst (λ (w : List Line). Grows P w (x ++ b ++ c ++ d ++ e ++ f)) is (grows_front P (a ++ b ++ c ++ d ++ e) (x ++ b ++ c ++ d ++ e) f (grows_front P (a ++ b ++ c ++ d) (x ++ b ++ c ++ d) e (grows_front P (a ++ b ++ c) (x ++ b ++ c) d (grows_front P (a ++ b) (x ++ b) c (grows_front P (a) (x) b (g))))))

  pub functions_grow : Grows P b x → Grows P all (a ++ x ++ c ++ d ++ e ++ f)
  functions_grow g = subst (λ (w : List Line). Grows P w (a ++ x ++ c ++ d ++ e ++ f)) is (grows_front P (a ++ b ++ c ++ d ++ e) (a ++ x ++ c ++ d ++ e) f (grows_front P (a ++ b ++ c ++ d) (a ++ x ++ c ++ d) e (grows_front P (a ++ b ++ c) (a ++ x ++ c) d (grows_front P (a ++ b) (a ++ x) c (grows_behind P (a) b x g)))))

  pub pointers_grow : Grows P c x → Grows P all (a ++ b ++ x ++ d ++ e ++ f)
  pointers_grow g = subst (λ (w : List Line). Grows P w (a ++ b ++ x ++ d ++ e ++ f)) is (grows_front P (a ++ b ++ c ++ d ++ e) (a ++ b ++ x ++ d ++ e) f (grows_front P (a ++ b ++ c ++ d) (a ++ b ++ x ++ d) e (grows_front P (a ++ b ++ c) (a ++ b ++ x) d (grows_behind P (a ++ b) c x g))))

  pub methods_grow : Grows P d x → Grows P all (a ++ b ++ c ++ x ++ e ++ f)
  methods_grow g = subst (λ (w : List Line). Grows P w (a ++ b ++ c ++ x ++ e ++ f)) is (grows_front P (a ++ b ++ c ++ d ++ e) (a ++ b ++ c ++ x ++ e) f (grows_front P (a ++ b ++ c ++ d) (a ++ b ++ c ++ x) e (grows_behind P (a ++ b ++ c) d x g)))

  pub types_grow : Grows P e x → Grows P all (a ++ b ++ c ++ d ++ x ++ f)
  types_grow g = subst (λ (w : List Line). Grows P w (a ++ b ++ c ++ d ++ x ++ f)) is (grows_front P (a ++ b ++ c ++ d ++ e) (a ++ b ++ c ++ d ++ x) f (grows_behind P (a ++ b ++ c ++ d) e x g))

  pub variables_grow : Grows P f x → Grows P all (a ++ b ++ c ++ d ++ e ++ x)
  variables_grow g = subst (λ (w : List Line). Grows P w (a ++ b ++ c ++ d ++ e ++ x)) is (grows_behind P (a ++ b ++ c ++ d ++ e) f x g)
