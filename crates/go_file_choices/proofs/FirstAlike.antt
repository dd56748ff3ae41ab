-- The first platforms that are alike, by the questions of files.
use Rattle.std.proofs.Common.{◌≡◌, ◌≤◌, ◌<◌, ◌+◌, ◌==◌, ℕ, zero, suc, Bool, true, false, List, [], ◌∷◌, ◌++◌, length, get_or, refl, sym, ap, ◌∙◌, subst, ◌⊎◌, inl, inr, eq-eqb, arith, length-append, Option, Some, None}
use mathlib.Core.Bool.{true≢false}
use Rattle.std.specs.List.{list_all}
use Rattle.go_file_choices.proofs.AlikeAnswers.{alike_by, by_alike, is_both, is_same_as}
use Rattle.go_file_choices.specs.AlikePlatforms.{AreAlike, AreFirsts, platform_at}
use Rattle.go_file_choices.specs.declared.questions.Question.{Question}
use Rattle.go_file_choices.specs.inner.Questions.{AreFirstsBy, AreQuestions, IsFirstBy, are_alike_by, is_answered_alike, is_chosen_alike, is_same}
use Rattle.go_model.specs.declared.files.build.Constraint.{Constraint}
use Rattle.go_model.specs.declared.files.platform.Platform.{Platform}
use Rattle.go_model.specs.declared.files.tree.TreeFile.{TreeFile}
use Rattle.go_model.specs.files.BuildValues.{is_chosen}
use Rattle.go_model.specs.files.Platforms.{bits_of}

-- ---- a platform answers like itself

same_self : (a : Bool) → is_same a a ≡ true
same_self a = is_same_as a a refl

chosen_self : (p : Platform) (name : List ℕ) (c : Option Constraint) → is_chosen_alike p p name c ≡ true
chosen_self p name None = refl
chosen_self p name (Some c) = same_self (is_chosen p name (Some c))

answered_self : (p : Platform) (xs : List Question) → list_all (is_answered_alike p p) xs ≡ true
answered_self p [] = refl
answered_self p (x ∷ xs) =
    is_both (is_answered_alike p p x) (list_all (is_answered_alike p p) xs)
    (is_both (is_same (is_chosen p x.file.now.name None) (is_chosen p x.file.now.name None)) (is_chosen_alike p p x.file.now.name x.constraint) (same_self (is_chosen p x.file.now.name None)) (chosen_self p x.file.now.name x.constraint))
    (answered_self p xs)

alike_self : (xs : List Question) (p : Platform) → are_alike_by xs p p ≡ true
alike_self xs p = is_both (bits_of p == bits_of p) (list_all (is_answered_alike p p) xs) (eq-eqb (bits_of p) (bits_of p) refl) (answered_self p xs)

-- ---- the search for the first one

abbrev pub NoneBefore : List Question → List Platform → ℕ → ℕ → Type 0
NoneBefore xs ps i n = (m : ℕ) → m < n → are_alike_by xs (platform_at ps m) (platform_at ps i) ≡ false

module _ (xs : List Question) (ps : List Platform) (i : ℕ) where
  pub none_yet : NoneBefore xs ps i 0
  none_yet m h = absurd (omega (arith, h))

  pub none_here : (n : ℕ) → are_alike_by xs (platform_at ps n) (platform_at ps i) ≡ false → NoneBefore xs ps i n → NoneBefore xs ps i (n + 1)
  none_here n e f m h = elim (less_or n m h) [ inl less ↦ f m less | inr same ↦ subst (λ (k : ℕ). are_alike_by xs (platform_at ps k) (platform_at ps i) ≡ false) (sym same) e ]
    where
      less_or : (n m : ℕ) → m < n + 1 → (m < n) ⊎ (m ≡ n)
      less_or zero zero h = inr refl
      less_or zero (suc m) h = absurd (omega (arith, h))
      less_or (suc n) zero h = inl (omega arith)
      less_or (suc n) (suc m) h = elim (less_or n m (omega (arith, h))) [ inl less ↦ inl (omega (arith, less)) | inr same ↦ inr (ap suc same) ]

  pub found_first : (n : ℕ) → n < i → are_alike_by xs (platform_at ps n) (platform_at ps i) ≡ true → NoneBefore xs ps i n → IsFirstBy xs ps i n
  found_first n h e f = record { within = omega (arith, h); alike = e; first = f }

  pub itself : (n : ℕ) → i ≤ n → NoneBefore xs ps i n → IsFirstBy xs ps i i
  itself n h f = record { within = omega arith; alike = alike_self xs (platform_at ps i); first = λ m k. f m (omega (arith, h, k)) }

-- ---- all of them

pub record FirstsTo (xs : List Question) (ps : List Platform) (i : ℕ) (ns : List ℕ) : Type 0 where
  pub many : length ns ≡ i
  pub each : (k : ℕ) → k < i → IsFirstBy xs ps k (get_or ns k 0)

module _ (xs : List Question) (ps : List Platform) where
  pub firsts_none : (ns : List ℕ) → ns ≡ [] → FirstsTo xs ps 0 ns
  firsts_none ns e = record { many = ap length e; each = λ k h. absurd (omega (arith, h)) }

  item_at : (ns : List ℕ) (n k : ℕ) → k < length ns + 1 → ((k < length ns) × (get_or (ns ++ n ∷ []) k 0 ≡ get_or ns k 0)) ⊎ ((k ≡ length ns) × (get_or (ns ++ n ∷ []) k 0 ≡ n))
  item_at [] n zero h = inr (refl, refl)
  item_at [] n (suc k) h = absurd (omega (arith, h))
  item_at (x ∷ ns) n zero h = inl (omega arith, refl)
  item_at (x ∷ ns) n (suc k) h = elim (item_at ns n k (omega (arith, h))) [ inl f ↦ inl (omega (arith, f.0), f.1) | inr f ↦ inr (ap suc f.0, f.1) ]

  pub firsts_next : (i n : ℕ) (ns new : List ℕ) → IsFirstBy xs ps i n → new ≡ ns ++ n ∷ [] → FirstsTo xs ps i ns → FirstsTo xs ps (i + 1) new
  firsts_next i n ns new h e f = subst (FirstsTo xs ps (i + 1)) (sym e) (record {
    many = omega (arith, length-append ns (n ∷ []), f.many);
    each = λ k l. elim (item_at ns n k (omega (arith, l, f.many))) [
      | inl a ↦ subst (IsFirstBy xs ps k) (sym a.1) (f.each k (omega (arith, a.0, f.many)))
      | inr a ↦ let here : i ≡ k = omega (arith, a.0, f.many) in subst (IsFirstBy xs ps k) (sym a.1) (subst (λ (j : ℕ). IsFirstBy xs ps j n) here h)
    ];
  })

  pub firsts_all : (i : ℕ) (ns : List ℕ) → i ≡ length ps → FirstsTo xs ps i ns → AreFirstsBy xs ps ns
  firsts_all i ns e f = record { many = f.many ∙ e; each = λ k h. f.each k (omega (arith, h, e)) }

-- ---- what they are on files

not_true : (b : Bool) → b ≡ false → b ≡ true → ⊥
not_true b e h = true≢false (sym h ∙ e)

module _ (files : List TreeFile) (ps : List Platform) (ns : List ℕ) where
  pub by_questions : (xs : List Question) → AreQuestions files xs → AreFirstsBy xs ps ns → AreFirsts files ps ns
  by_questions xs q f = record {
    many = f.many;
    each = λ i h. let k = f.each i h in record {
      within = k.within;
      alike = alike_by (platform_at ps (get_or ns i 0)) (platform_at ps i) files xs q k.alike;
      first = λ m l a. not_true (are_alike_by xs (platform_at ps m) (platform_at ps i)) (k.first m l) (by_alike (platform_at ps m) (platform_at ps i) files xs q a);
    };
  }

  -- one platform alone is alike itself
  pub alone : (xs : List Question) → length ps < 2 → AreFirstsBy xs ps ns → AreFirsts files ps ns
  alone xs few f = record {
    many = f.many;
    each = λ i h.
        let k = f.each i h in
        let here : i ≡ get_or ns i 0 = omega (arith, few, h, k.within) in
        record {
          within = k.within;
          alike = subst (λ (n : ℕ). AreAlike files (platform_at ps n) (platform_at ps i)) here (record { bits = refl; chosen = λ file m. record { named = refl; headed = λ header l. refl } });
          first = λ m l a. omega (arith, few, h, k.within, l);
        };
  }
