-- Platforms that answer the questions of files alike are alike on the files, and the other way round.
use Rattle.std.proofs.Common.{◌≡◌, ◌&&◌, ◌==◌, ℕ, Bool, true, false, Option, Some, None, List, [], ◌∷◌, map, refl, sym, subst, inl, inr, eq-eqb, eqb-true}
use mathlib.Core.Bool.{true≢false}
use Rattle.std.specs.List.{list_all}
use Rattle.go_base.specs.Lists.{Each}
use Rattle.go_file_choices.specs.AlikePlatforms.{AllChosenAlike, AreAlike, ChooseAlike}
use Rattle.go_file_choices.specs.declared.questions.Question.{Question}
use Rattle.go_file_choices.specs.inner.Questions.{AreQuestions, IsAsked, are_alike_by, file_of, is_answered_alike, is_chosen_alike, is_same}
use Rattle.go_model.specs.declared.files.build.Constraint.{Constraint}
use Rattle.go_model.specs.declared.files.platform.Platform.{Platform}
use Rattle.go_model.specs.declared.files.tree.TreeFile.{TreeFile}
use Rattle.go_model.specs.files.BuildValues.{is_chosen}
use Rattle.go_model.specs.files.Platforms.{bits_of}

-- ---- truth values

same_of : (a b : Bool) → is_same a b ≡ true → a ≡ b
same_of true true e = refl
same_of true false e = absurd (true≢false (sym e))
same_of false true e = absurd (true≢false (sym e))
same_of false false e = refl

pub is_same_as : (a b : Bool) → a ≡ b → is_same a b ≡ true
is_same_as true true e = refl
is_same_as true false e = absurd (true≢false e)
is_same_as false true e = absurd (true≢false (sym e))
is_same_as false false e = refl

both_of : (a b : Bool) → (a && b) ≡ true → (a ≡ true) × (b ≡ true)
both_of true b e = (refl, e)
both_of false b e = absurd (true≢false (sym e))

pub is_both : (a b : Bool) → a ≡ true → b ≡ true → (a && b) ≡ true
is_both true b e f = f
is_both false b e f = absurd (true≢false (sym e))

module _ (p q : Platform) where
  -- ---- a question

  by_constraint : (name : List ℕ) (c : Option Constraint) → is_chosen p name None ≡ is_chosen q name None → is_chosen_alike p q name c ≡ true → is_chosen p name c ≡ is_chosen q name c
  by_constraint name None e f = e
  by_constraint name (Some c) e f = same_of (is_chosen p name (Some c)) (is_chosen q name (Some c)) f

  alike_of : (x : Question) → IsAsked x → is_answered_alike p q x ≡ true → ChooseAlike p q (file_of x)
  alike_of x a e =
      let name = x.file.now.name in
      let both = both_of (is_same (is_chosen p name None) (is_chosen q name None)) (is_chosen_alike p q name x.constraint) e in
      let named : is_chosen p name None ≡ is_chosen q name None = same_of (is_chosen p name None) (is_chosen q name None) both.0 in
      record {
        named = named;
        headed = λ header h. subst (λ (c : Option Constraint). is_chosen p name c ≡ is_chosen q name c) (sym (a.only header h)) (by_constraint name x.constraint named both.1);
      }

  chosen_alike : (x : Question) → IsAsked x → ChooseAlike p q (file_of x) → (c : Option Constraint) → x.constraint ≡ c → is_chosen_alike p q x.file.now.name c ≡ true
  chosen_alike x a k None e = refl
  chosen_alike x a k (Some c) e =
      let t = a.there c e in
      is_same_as (is_chosen p x.file.now.name (Some c)) (is_chosen q x.file.now.name (Some c))
      (subst (λ (d : Option Constraint). is_chosen p x.file.now.name d ≡ is_chosen q x.file.now.name d) t.2 (k.headed t.0 t.1))

  is_answered : (x : Question) → IsAsked x → ChooseAlike p q (file_of x) → is_answered_alike p q x ≡ true
  is_answered x a k =
      let name = x.file.now.name in
      is_both (is_same (is_chosen p name None) (is_chosen q name None)) (is_chosen_alike p q name x.constraint)
      (is_same_as (is_chosen p name None) (is_chosen q name None) k.named) (chosen_alike x a k x.constraint refl)

  -- ---- questions

  abbrev are_answered : List Question → Bool
  are_answered xs = list_all (is_answered_alike p q) xs

  all_alike : (xs : List Question) → Each IsAsked xs → are_answered xs ≡ true → AllChosenAlike (map file_of xs) p q
  all_alike [] a e file h = absurd h
  all_alike (x ∷ xs) a e file (inl s) = subst (ChooseAlike p q) s (alike_of x a.0 (both_of (is_answered_alike p q x) (are_answered xs) e).0)
  all_alike (x ∷ xs) a e file (inr h) = all_alike xs a.1 (both_of (is_answered_alike p q x) (are_answered xs) e).1 file h

  all_answered : (xs : List Question) → Each IsAsked xs → AllChosenAlike (map file_of xs) p q → are_answered xs ≡ true
  all_answered [] a k = refl
  all_answered (x ∷ xs) a k = is_both (is_answered_alike p q x) (are_answered xs) (is_answered x a.0 (k (file_of x) (inl refl))) (all_answered xs a.1 (λ file h. k file (inr h)))

  module _ (files : List TreeFile) (xs : List Question) (qs : AreQuestions files xs) where
    pub alike_by : are_alike_by xs p q ≡ true → AreAlike files p q
    alike_by e =
        let both = both_of (bits_of p == bits_of q) (are_answered xs) e in
        record { bits = eqb-true (bits_of p) (bits_of q) both.0; chosen = subst (λ (fs : List TreeFile). AllChosenAlike fs p q) qs.same (all_alike xs qs.asked both.1) }

    pub by_alike : AreAlike files p q → are_alike_by xs p q ≡ true
    by_alike a = is_both (bits_of p == bits_of q) (are_answered xs) (eq-eqb (bits_of p) (bits_of q) a.bits) (all_answered xs qs.asked (subst (λ (fs : List TreeFile). AllChosenAlike fs p q) (sym qs.same) a.chosen))
