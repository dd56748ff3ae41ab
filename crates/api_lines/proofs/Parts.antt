-- The lines of a list in two parts: those with a common text, and the others.
use Rattle.std.proofs.Common.{◌≡◌, ℕ, ◌+◌, ◌<◌, Bool, true, false, length, take, get_or, List, [], ◌∷◌, ◌++◌, refl, sym, ap, ◌∙◌, subst, inl, inr, ◌⊎◌, Some}
use mathlib.Core.Bool.{true≢false}
use Rattle.std.specs.Prelude.{bytes_eq, Decides}
use Rattle.std.specs.Cmp.Lexicographic.{bytes_decides}
use Rattle.go_base.specs.Lists.{Has}
use Rattle.go_base.specs.Growing.{Grows}
use Rattle.go_base.proofs.Members.{each_has}
use Rattle.go_model.specs.declared.files.platform.Platform.{Platform}
use Rattle.api_lines.specs.declared.line.Line.{Line}
use Rattle.api_lines.specs.Lines.{printed, in_context, AreInOrder, HasText, IsListing}
use Rattle.api_lines.specs.inner.MergedLines.{AreExactly, IsOwn, IsPlaced, IsTextOnAll}
use Rattle.api_lines.proofs.Growing.{each_back, each_front, each_of, grows_as, grows_back, grows_nothing, has_back, has_last, has_left, taken}
use Rattle.api_lines.proofs.LineOrder.{before_line, none_in_order, pushed_in_order}
use Rattle.std.specs.declared.cmp.Ordering.TheVariants.{Less}
use Rattle.api_lines.proofs.TextSets.{order}

-- ---- one line more

-- the lines of a list that have a property
abbrev pub IsKept : (Line → Type 0) → List Line → Line → Type 0
IsKept Q lines l = Has lines l × Q l

pub kept_none : (Q : Line → Type 0) → AreExactly (IsKept Q []) []
kept_none Q = record { sound = λ l h. absurd h; complete = λ l k. k.0; ordered = none_in_order }

module _ (Q : Line → Type 0) (lines : List Line) (l : Line) (back kept : List Line) (h : AreInOrder (lines ++ l ∷ back)) (is : AreExactly (IsKept Q lines) kept) where
  pub kept_found : Q l → (new : List Line) → new ≡ kept ++ l ∷ [] → AreExactly (IsKept Q (lines ++ l ∷ [])) new
  kept_found t new e = subst (AreExactly (IsKept Q (lines ++ l ∷ []))) (sym e) (record {
    sound = λ m k. elim (has_back kept l m k) [
      | inl a ↦ (let s = is.sound m a in (has_left lines (l ∷ []) m s.0, s.1))
      | inr s ↦ subst (IsKept Q (lines ++ l ∷ [])) s (has_last lines l, t)
    ];
    complete = λ m k. elim (has_back lines l m k.0) [ inl a ↦ has_left kept (l ∷ []) m (is.complete m (a, k.1)) | inr s ↦ subst (Has (kept ++ l ∷ [])) s (has_last kept l) ];
    ordered = pushed_in_order kept l is.ordered (each_of (λ m. order (printed m) (printed l) ≡ Less) kept (λ m k. each_has (λ n. order (printed n) (printed l) ≡ Less) lines m (before_line lines l back h) (is.sound m k).0));
  })

  pub kept_other : (Q l → ⊥) → AreExactly (IsKept Q (lines ++ l ∷ [])) kept
  kept_other n = record {
    sound = λ m k. let s = is.sound m k in (has_left lines (l ∷ []) m s.0, s.1);
    complete = λ m k. elim (has_back lines l m k.0) [ inl a ↦ is.complete m (a, k.1) | inr s ↦ absurd (n (subst Q (sym s) k.1)) ];
    ordered = is.ordered;
  }

-- exactly these lines in order are a listing of them
pub exactly_listed : (P : Line → Type 0) (kept : List Line) → AreExactly P kept → IsListing P kept
exactly_listed P kept e = record { sound = e.sound; complete = λ l p. (l, e.complete l p, refl); ordered = e.ordered }

-- those that the others lack
abbrev pub Lacks : List Line → Line → Type 0
Lacks others l = Has others l → ⊥

-- those whose text the others have
abbrev pub HasThat : List Line → Line → Type 0
HasThat others l = HasText others (printed l)

abbrev pub IsShared : List Line → List Line → Line → Type 0
IsShared others = IsKept (HasThat others)

module _ (IsCommon : List ℕ → Type 0) (p : Platform) (lines : List Line) (l : Line) (old mid : List Line) (g : Grows (IsOwn IsCommon p lines) old mid) where
  pub own_found : IsCommon (printed l) → Grows (IsOwn IsCommon p (lines ++ l ∷ [])) old mid
  own_found c = grows_back (IsPlaced IsCommon p) lines l old mid mid g (grows_nothing (IsPlaced IsCommon p l) mid (λ x k. k.0 c))

  pub own_other : (new : List Line) → (IsCommon (printed l) → ⊥) → Grows (λ x. in_context (Some p) l ≡ x) mid new → Grows (IsOwn IsCommon p (lines ++ l ∷ [])) old new
  own_other new n f = grows_back (IsPlaced IsCommon p) lines l old mid new g (grows_as (λ x. in_context (Some p) l ≡ x) (IsPlaced IsCommon p l) mid new (λ x e. (n, e)) (λ x k. k.1) f)

pub not_of : (found : Bool) (P : Type 0) → Decides found P → found ≡ false → P → ⊥
not_of found P d e p = true≢false (sym (d.1 p) ∙ e)

-- ---- whether lists have a text

text_or : (lines : List Line) (t : List ℕ) → HasText lines t ⊎ (HasText lines t → ⊥)
text_or [] t = inr (λ k. k.1)
text_or (l ∷ lines) t = by (bytes_eq (printed l) t) refl (text_or lines t)
  where
    by : (b : Bool) → bytes_eq (printed l) t ≡ b → HasText lines t ⊎ (HasText lines t → ⊥) → HasText (l ∷ lines) t ⊎ (HasText (l ∷ lines) t → ⊥)
    by true e r = inl (l, inl refl, (bytes_decides (printed l) t).0 e)
    by false e (inl k) = inl (k.0, inr k.1, k.2)
    by false e (inr n) = inr (λ k. elim k.1 [ inl s ↦ true≢false (sym ((bytes_decides (printed l) t).1 (ap printed s ∙ k.2)) ∙ e) | inr h ↦ n (k.0, h, k.2) ])

all_or : (lists : List (List Line)) (t : List ℕ) → IsTextOnAll lists t ⊎ (IsTextOnAll lists t → ⊥)
all_or [] t = inl tt
all_or (lines ∷ lists) t = elim (text_or lines t) [
  | inl a ↦ elim (all_or lists t) [ inl b ↦ inl (a, b) | inr n ↦ inr (λ k. n k.1) ]
  | inr n ↦ inr (λ k. n k.0)
]

-- ---- one list more

abbrev pub IsOfAll : List Line → List (List Line) → Line → Type 0
IsOfAll first lists l = Has first l × IsTextOnAll lists (printed l)

pub all_none : (first : List Line) → AreInOrder first → AreExactly (IsOfAll first []) first
all_none first h = record { sound = λ l k. (k, tt); complete = λ l k. k.0; ordered = h }

-- no line of the first list is on its platform alone yet
pub own_none : (p : Platform) (first old : List Line) → Grows (IsOwn (IsTextOnAll []) p first) old old
own_none p first old = grows_nothing (IsOwn (IsTextOnAll []) p first) old (λ x w. w.2.0 tt)

abbrev HasThis : List ℕ → List Line → Type 0
HasThis t lines = HasText lines t

module _ (p : Platform) (first : List Line) (lists : List (List Line)) (lines common next : List Line) (c : AreExactly (IsOfAll first lists) common) where
  pub common_next : AreExactly (IsShared lines common) next → AreExactly (IsOfAll first (lists ++ lines ∷ [])) next
  common_next g = record {
    sound = λ l h. let k = g.sound l h in let f = c.sound l k.0 in (f.0, each_back (HasThis (printed l)) lists lines f.1 k.1);
    complete = λ l k. let s = each_front (HasThis (printed l)) lists lines k.1 in g.complete l (c.complete l (k.0, s.0), s.1);
    ordered = g.ordered;
  }

  pub own_next : (old mid new : List Line) → Grows (IsOwn (IsTextOnAll lists) p first) old mid → Grows (IsOwn (HasText lines) p common) mid new → Grows (IsOwn (IsTextOnAll (lists ++ lines ∷ [])) p first) old new
  own_next old mid new f g = record {
    sound = λ x h. elim (g.sound x h) [
      | inl m ↦ elim (f.sound x m) [ inl o ↦ inl o | inr w ↦ inr (w.0, w.1, ((λ k. w.2.0 (each_front (HasThis (printed w.0)) lists lines k).0), w.2.1)) ]
      | inr w ↦ inr (w.0, (c.sound w.0 w.1).0, ((λ k. w.2.0 (each_front (HasThis (printed w.0)) lists lines k).1), w.2.1))
    ];
    kept = λ x o. g.kept x (f.kept x o);
    complete = λ x w. elim (all_or lists (printed w.0)) [
      | inl a ↦ g.complete x (w.0, c.complete w.0 (w.1, a), ((λ t. w.2.0 (each_back (HasThis (printed w.0)) lists lines a t)), w.2.1))
      | inr n ↦ g.kept x (f.complete x (w.0, w.1, (n, w.2.1)))
    ];
  }

pub all_next : (p : Platform) (first : List Line) (others : List (List Line)) (i : ℕ) (lines these common next old mid new : List Line) → i < length others → lines ≡ get_or others i lines → these ≡ lines
    → AreExactly (IsOfAll first (take i others)) common × Grows (IsOwn (IsTextOnAll (take i others)) p first) old mid → AreExactly (IsShared these common) next → Grows (IsOwn (HasText these) p common) mid new
    → AreExactly (IsOfAll first (take (i + 1) others)) next × Grows (IsOwn (IsTextOnAll (take (i + 1) others)) p first) old new
all_next p first others i lines these common next old mid new h is e before c g =
    subst (λ (w : List (List Line)). AreExactly (IsOfAll first w) next × Grows (IsOwn (IsTextOnAll w) p first) old new) (sym (taken others i lines h is))
    (subst (λ (w : List Line). AreExactly (IsOfAll first (take i others ++ w ∷ [])) next × Grows (IsOwn (IsTextOnAll (take i others ++ w ∷ [])) p first) old new) e
    (common_next p first (take i others) these common next before.0 c, own_next p first (take i others) these common next before.0 old mid new before.1 g))
