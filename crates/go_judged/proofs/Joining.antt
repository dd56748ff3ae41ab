-- What is found in parts is found in all of them.
use Rattle.std.proofs.Common.{inl, inr, ◌≡◌, ◌⊎◌, ℕ, Bool, true, false, ◌&&◌, List, [], ◌∷◌, ◌++◌, sym, subst, ◌<◌, ◌≤◌, ◌+◌, take, length, get_or}
use Rattle.std.proofs.lemmas.List.{take_all}
use Rattle.go_base.specs.Lists.{Each}
use Rattle.go_judged.specs.Judging.{Among, Judges, JudgesTo, both, tested, with_test}
use Rattle.go_judged.specs.declared.judged.Judged.{Judged}
use Rattle.go_local_scopes.specs.States.{Reaches}
use Rattle.go_rules.specs.Environments.{Env}
use Rattle.go_rules.proofs.LocalParts.{each_both, each_left, each_right}
use Rattle.go_selectors.specs.Answers.{Decides}
use Rattle.go_selectors.proofs.Lists.{has-back, has-last, has-left, taken_next}
use Rattle.go_local_scopes.specs.go_statement_rules.Functions.{Run}
use Rattle.go_local_scopes.specs.go_statement_rules.Scopes.{Scopes}
use Rattle.go_syntax.specs.declared.statement.LiteralBlock.{LiteralBlock}
use Rattle.go_untyped_places.proofs.Surveying.{survey_as, survey_both, survey_none}

-- ---- tests

pub no_typed : true ≡ false → ⊥
no_typed e = absurd (cc)

module _ (T U : Type 0) where
  pub both_decided : (a b : Bool) → Decides a T → Decides b U → Decides (a && b) (T × U)
  both_decided true true x y = (x, y)
  both_decided true false x y = λ h. y h.1
  both_decided false true x y = λ h. x h.0
  both_decided false false x y = λ h. x h.0

  pub so_decided : (a : Bool) → (T → U) → (U → T) → Decides a T → Decides a U
  so_decided true to from x = to x
  so_decided false to from x = λ u. x (from u)

  -- behind a part that doesn't hold nothing does
  pub none_decided : (a : Bool) → a ≡ false → (U → T) → Decides a T → Decides a U
  none_decided true e from x = absurd (no_typed e)
  none_decided false e from x = λ u. x (from u)

pub so_true : (T : Type 0) (a : Bool) → a ≡ true → Decides a T → T
so_true T true e x = x
so_true T false e x = absurd (no_typed (sym e))

pub so_false : (T : Type 0) (a : Bool) → a ≡ false → Decides a T → T → ⊥
so_false T true e x = absurd (no_typed e)
so_false T false e x = x

module _ (T U : Scopes → Type 0) (t : Scopes) where
  pub so_reached : (a : Bool) → (T t → U t) → ((u : Scopes) → U u → T u) → Reaches a T t → Reaches a U t
  so_reached true to from x = to x
  so_reached false to from x = λ u h. x u (from u h)

-- a fact that leaves these scopes, where it holds at all
pub reaches_by : (T : Type 0) (U : Scopes → Type 0) (t : Scopes) (a : Bool) → (T → U t) → ((u : Scopes) → U u → T) → Decides a T → Reaches a U t
reaches_by T U t true to from x = to x
reaches_by T U t false to from x = λ u h. x (from u h)

-- ---- parts

module _ (E : Env) (blocks : List LiteralBlock) where
  module _ (T U : Type 0) (P Q : Run → Type 0) where
    abbrev pub Either : Run → Type 0
    Either v = P v ⊎ Q v

    pub judged_both : (a b : Judged) → Judges E blocks T P a → Judges E blocks U Q b → Judges E blocks (T × U) Either (both a b)
    judged_both a b j k = (both_decided T U a.typed b.typed j.0 k.0, survey_both E blocks P Q a.place b.place j.1 k.1)

    pub judged_as : (a : Judged) → (T → U) → (U → T) → ((v : Run) → P v → Q v) → ((v : Run) → Q v → P v) → Judges E blocks T P a → Judges E blocks U Q a
    judged_as a to from p q j = (so_decided T U a.typed to from j.0, survey_as E blocks P Q a.place p q j.1)

  -- the same of an equal one
  pub judged_same : (T : Type 0) (P : Run → Type 0) (a b : Judged) → b ≡ a → Judges E blocks T P a → Judges E blocks T P b
  judged_same T P a b e j = subst (Judges E blocks T P) (sym e) j

  pub judged_to_same : (T : Scopes → Type 0) (t : Scopes) (P : Run → Type 0) (a b : Judged) → b ≡ a → JudgesTo E blocks T t P a → JudgesTo E blocks T t P b
  judged_to_same T t P a b e j = subst (JudgesTo E blocks T t P) (sym e) j

  pub judged_to_there : (T : Scopes → Type 0) (t u : Scopes) (P : Run → Type 0) (a : Judged) → u ≡ t → JudgesTo E blocks T t P a → JudgesTo E blocks T u P a
  judged_to_there T t u P a e j = subst (λ (z : Scopes). JudgesTo E blocks T z P a) (sym e) j

  -- what else is asked
  pub judged_test : (T U : Type 0) (P : Run → Type 0) (a : Judged) (b : Bool) → Judges E blocks T P a → Decides b U → Judges E blocks (T × U) P (with_test a b)
  judged_test T U P a b j d = (both_decided T U a.typed b j.0 d, j.1)

  pub judged_alone : (T : Type 0) (P : Run → Type 0) (b : Bool) → Decides b T → ((v : Run) → P v → ⊥) → Judges E blocks T P (tested b)
  judged_alone T P b d none = (d, survey_none E blocks P none)

  -- ---- items one by one

  module _ {A : Type 0} (T : A → Type 0) (P : A → Run → Type 0) where
    pub judged_none : Judges E blocks (Each T []) (Among P []) (tested true)
    judged_none = (tt, λ v k. absurd k.1)

    one_more : (xs : List A) (x : A) (v : Run) → Among P xs v ⊎ P x v → Among P (xs ++ x ∷ []) v
    one_more xs x v (inl k) = (k.0, has-left xs (x ∷ []) k.0 k.1, k.2)
    one_more xs x v (inr p) = (x, has-last xs x, p)

    one_less : (xs : List A) (x : A) (v : Run) → Among P (xs ++ x ∷ []) v → Among P xs v ⊎ P x v
    one_less xs x v k = elim (has-back xs x k.0 k.1) [ inl i ↦ inl (k.0, i, k.2) | inr e ↦ inr (subst (λ (y : A). P y v) (sym e) k.2) ]

    judged_last : (xs : List A) (x : A) (a b : Judged) → Judges E blocks (Each T xs) (Among P xs) a → Judges E blocks (T x) (P x) b → Judges E blocks (Each T (xs ++ x ∷ [])) (Among P (xs ++ x ∷ [])) (both a b)
    judged_last xs x a b j k =
        judged_as (Each T xs × T x) (Each T (xs ++ x ∷ [])) (Either (Each T xs) (T x) (Among P xs) (P x)) (Among P (xs ++ x ∷ [])) (both a b)
        (λ h. each_both T xs (x ∷ []) h.0 (h.1, tt)) (λ h. (each_left T xs (x ∷ []) h, (each_right T xs (x ∷ []) h).0)) (one_more xs x) (one_less xs x)
        (judged_both (Each T xs) (T x) (Among P xs) (P x) a b j k)

    -- the items up to a place, and the one there
    pub judged_next : (xs : List A) (i : ℕ) (x : A) (a b : Judged) → i < length xs → x ≡ get_or xs i x → Judges E blocks (Each T (take i xs)) (Among P (take i xs)) a → Judges E blocks (T x) (P x) b
        → Judges E blocks (Each T (take (i + 1) xs)) (Among P (take (i + 1) xs)) (both a b)
    judged_next xs i x a b h e j k = subst (λ (ys : List A). Judges E blocks (Each T ys) (Among P ys) (both a b)) (sym (taken_next xs i x h e)) (judged_last (take i xs) x a b j k)

    -- all items
    pub judged_all : (xs : List A) (i : ℕ) (a : Judged) → length xs ≤ i → Judges E blocks (Each T (take i xs)) (Among P (take i xs)) a → Judges E blocks (Each T xs) (Among P xs) a
    judged_all xs i a h j = subst (λ (ys : List A). Judges E blocks (Each T ys) (Among P ys) a) (take_all i xs h) j
