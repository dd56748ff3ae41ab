-- Members of lists, and of sets that grow.
use Rattle.std.proofs.Common.{◌≡◌, ℕ, zero, suc, ◌+◌, ◌<◌, List, [], ◌∷◌, ◌++◌, length, take, get_or, refl, sym, ap, ◌∙◌, subst, ◌⊎◌, inl, inr, arith, Bool, true, false, ◌||◌}
use mathlib.Core.Bool.{true≢false}
use Rattle.std.specs.List.{list_any, AllByRecursion}
use Rattle.std.specs.List.Sorted.{IsStrictlySortedBy}
use Rattle.std.specs.BTreeMap.{is_at}
use Rattle.std.proofs.lemmas.Cmp.{nat_list_cmp_total, tied_itself}
use Rattle.std.proofs.lemmas.List.{take_more}
use Rattle.std.specs.Ordering.{nat_cmp, match_ordering, is_eq, is_lt}
use Rattle.std.specs.declared.cmp.Ordering.{Ordering}
use Rattle.std.specs.declared.cmp.Ordering.TheVariants.{Less, Equal, Greater}
use Rattle.std.specs.Cmp.Lexicographic.{slice_cmp}
use Rattle.std.specs.FinMap.{slice_cmp-IsAntisymmetric, nat_cmp-IsAntisymmetric}
use Rattle.go_base.specs.Lists.{Has, Each, Before, Ascending}
use Rattle.go_outside.specs.Paths.{Path}
use Rattle.go_outside.specs.declared.files.Entry.{Entry}
use Rattle.go_load.specs.inner.Steps.{IsAny}
use Rattle.go_base.specs.Growing.{Grows}

module _ {A : Type 0} where
  pub has-left : (xs ys : List A) (x : A) → Has xs x → Has (xs ++ ys) x
  has-left [] ys x h = absurd h
  has-left (y ∷ xs) ys x (inl e) = inl e
  has-left (y ∷ xs) ys x (inr h) = inr (has-left xs ys x h)

  pub has-last : (xs : List A) (x : A) → Has (xs ++ x ∷ []) x
  has-last [] x = inl refl
  has-last (y ∷ xs) x = inr (has-last xs x)

  pub has-back : (xs : List A) (y x : A) → Has (xs ++ y ∷ []) x → Has xs x ⊎ (y ≡ x)
  has-back [] y x (inl e) = inr e
  has-back [] y x (inr h) = absurd h
  has-back (z ∷ xs) y x (inl e) = inl (inl e)
  has-back (z ∷ xs) y x (inr h) = elim (has-back xs y x h) [ inl k ↦ inl (inr k) | inr e ↦ inr e ]

  pub next_taken : (xs : List A) (i : ℕ) (x : A) → i < length xs → x ≡ get_or xs i x → take (i + 1) xs ≡ take i xs ++ x ∷ []
  next_taken xs i x h e = take_more xs i x h ∙ ap (λ y. take i xs ++ y ∷ []) (sym e)

  has_at : (xs : List A) (i : ℕ) (d : A) → i < length xs → Has xs (get_or xs i d)
  has_at [] i d h = absurd (omega arith)
  has_at (x ∷ xs) zero d h = inl refl
  has_at (x ∷ xs) (suc i) d h = inr (has_at xs i d (omega arith))

  pub has_item : (xs : List A) (i : ℕ) (x y : A) → i < length xs → x ≡ get_or xs i x → x ≡ y → Has xs y
  has_item xs i x y h e s = subst (Has xs) (sym e ∙ s) (has_at xs i x h)

  pub has_no_more : (xs : List A) (i : ℕ) (x y : A) → i < length xs → x ≡ get_or xs i x → (Has (take i xs) y → ⊥) → (x ≡ y → ⊥) → Has (take (i + 1) xs) y → ⊥
  has_no_more xs i x y h e before here k = elim (has-back (take i xs) x y (subst (λ (ys : List A). Has ys y) (next_taken xs i x h e) k)) [ inl a ↦ before a | inr s ↦ here s ]

-- the keys of a set
key_by : (name k : Path) (ks : List Path) (o : Ordering) → slice_cmp nat_cmp name k ≡ o → (is_eq o || list_any (is_at (slice_cmp nat_cmp name)) ks) ≡ true → (list_any (is_at (slice_cmp nat_cmp name)) ks ≡ true → Has ks name) → Has (k ∷ ks) name
key_by name k ks Less e h rest = inr (rest h)
key_by name k ks Equal e h rest = inl (sym (slice_cmp-IsAntisymmetric nat_cmp-IsAntisymmetric name k e))
key_by name k ks Greater e h rest = inr (rest h)

pub has_key : (ks : List Path) (name : Path) → list_any (is_at (slice_cmp nat_cmp name)) ks ≡ true → Has ks name
has_key [] name h = true≢false (sym h)
has_key (k ∷ ks) name h = key_by name k ks (slice_cmp nat_cmp name k) refl h (has_key ks name)

or_right : (a b : Bool) → b ≡ true → (a || b) ≡ true
or_right true b e = refl
or_right false b e = e

pub key_has : (ks : List Path) (name : Path) → Has ks name → list_any (is_at (slice_cmp nat_cmp name)) ks ≡ true
key_has [] name h = absurd h
key_has (k ∷ ks) name (inl e) = ap (λ o. is_eq o || list_any (is_at (slice_cmp nat_cmp name)) ks) (ap (slice_cmp nat_cmp name) e ∙ tied_itself nat_list_cmp_total name)
key_has (k ∷ ks) name (inr h) = or_right (is_at (slice_cmp nat_cmp name) k) (list_any (is_at (slice_cmp nat_cmp name)) ks) (key_has ks name h)

before_each : (x : Path) (ys : List Path) → AllByRecursion (λ y. slice_cmp nat_cmp x y ≡ Less) ys → Each (Before x) ys
before_each x [] h = tt
before_each x (y ∷ ys) h = (ap is_lt h.0, before_each x ys h.1)

pub ascending_of : (ks : List Path) → IsStrictlySortedBy (slice_cmp nat_cmp) ks → Ascending ks
unfolding IsStrictlySortedBy
ascending_of [] h = tt
ascending_of (k ∷ ks) h = (before_each k ks h.0, ascending_of ks h.1)

-- one entry more
pub grows_next : (P : Entry → Path → Type 0) (entries : List Entry) (i : ℕ) (e : Entry) (old mid new : List Path) → i < length entries → e ≡ get_or entries i e → Grows (IsAny P (take i entries)) old mid → Grows (P e) mid new → Grows (IsAny P (take (i + 1) entries)) old new
grows_next P entries i e old mid new h is g k =
    let step = next_taken entries i e h is in
    record {
      sound = λ x n. elim (k.sound x n) [
        | inl a ↦ elim (g.sound x a) [ inl o ↦ inl o | inr p ↦ inr (p.0, subst (λ (es : List Entry). Has es p.0) (sym step) (has-left (take i entries) (e ∷ []) p.0 p.1), p.2) ]
        | inr p ↦ inr (e, subst (λ (es : List Entry). Has es e) (sym step) (has-last (take i entries) e), p)
      ];
      kept = λ x o. k.kept x (g.kept x o);
      complete = λ x p. elim (has-back (take i entries) e p.0 (subst (λ (es : List Entry). Has es p.0) step p.1)) [ inl a ↦ k.kept x (g.complete x (p.0, a, p.2)) | inr s ↦ k.complete x (subst (λ (w : Entry). P w x) (sym s) p.2) ];
    }

pub grows_as : {P Q : Path → Type 0} {old new : List Path} → ((x : Path) → P x → Q x) → ((x : Path) → Q x → P x) → Grows P old new → Grows Q old new
grows_as f b g = record { sound = λ x h. elim (g.sound x h) [ inl a ↦ inl a | inr p ↦ inr (f x p) ]; kept = g.kept; complete = λ x q. g.complete x (b x q) }
