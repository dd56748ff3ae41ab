-- Cells of an assignment, and its cuts.
use Rattle.std.proofs.Common.{◌≡◌, ℕ, ◌<◌, Bool, true, false, ◌||◌, Option, Some, None, refl, sym, ap, ◌∙◌, ◌⊎◌, inl, inr, arith}
use Rattle.std.specs.Prelude.{nat_lt, if◌then◌else◌}
use Rattle.std.proofs.lemmas.Bool.Decides.{nat_tests}
use Rattle.go_typings.specs.Assignments.{Assignment, before, Within}

pub either : (b : Bool) → (b ≡ true) ⊎ (b ≡ false)
either true = inl refl
either false = inr refl

pub if_true : {A : Type 0} (b : Bool) (x y : A) → b ≡ true → (if b then x else y) ≡ x
if_true true x y e = refl
if_true false x y e = let g : false ≡ true = e in absurd (cc)

pub if_false : {A : Type 0} (b : Bool) (x y : A) → b ≡ false → (if b then x else y) ≡ y
if_false true x y e = let g : true ≡ false = e in absurd (cc)
if_false false x y e = refl

pub some_once : {A : Type 0} (x y : A) → ◌≡◌ {A = Option A} (Some x) (Some y) → x ≡ y
some_once x y e = cc

pub none_some : {A B : Type 0} (c : Option A) (x : A) → c ≡ None → c ≡ Some x → B
none_some {A = A} c x e f = let g : ◌≡◌ {A = Option A} None (Some x) = sym e ∙ f in absurd (cc)

pub maybe : {A : Type 0} (c : Option A) → ((x : A) × (c ≡ Some x)) ⊎ (c ≡ None)
maybe None = inr refl
maybe (Some x) = inl (x, refl)

pub or_false : (b c : Bool) → (b || c) ≡ false → (b ≡ false) × (c ≡ false)
or_false true c e = let g : true ≡ false = e in absurd (cc)
or_false false c e = (refl, e)

module _ {Entry : Type 0} where
  pub before_has : (order : ℕ → ℕ) (k : ℕ) (a : Assignment Entry) (n : ℕ) (x : Entry) → before order k a n ≡ Some x → (order n < k) × (a n ≡ Some x)
  before_has order k a n x e = elim (either (nat_lt (order n) k)) [
    | inl f ↦ (grind (arith, nat_tests, f), sym (if_true (nat_lt (order n) k) (a n) None f) ∙ e)
    | inr f ↦ none_some (before order k a n) x (if_false (nat_lt (order n) k) (a n) None f) e
  ]

  pub before_within : (order : ℕ → ℕ) (k : ℕ) (a : Assignment Entry) → Within (before order k a) a
  before_within order k a n x e = (before_has order k a n x e).1

  -- the first assignment, and where it has nothing the second
  pub first : Option Entry → Option Entry → Option Entry
  first (Some x) c = Some x
  first None c = c

  abbrev pub over : Assignment Entry → Assignment Entry → Assignment Entry
  over a b n = first (a n) (b n)

  pub over_left : (a b : Assignment Entry) → Within a (over a b)
  unfolding first
  over_left a b n x e = rw e refl

  pub over_right : (a b : Assignment Entry) → ((n : ℕ) (x y : Entry) → a n ≡ Some x → b n ≡ Some y → x ≡ y) → Within b (over a b)
  unfolding first
  over_right a b h n y e = elim (maybe (a n)) [ inl p ↦ (let q = h n p.0 y p.1 e in rw p.1 (ap Some q)) | inr q ↦ rw q e ]
