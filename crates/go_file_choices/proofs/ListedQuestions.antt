-- Questions that are listed file by file.
use Rattle.std.proofs.Common.{◌≡◌, ◌≤◌, ◌<◌, ◌+◌, ℕ, List, [], ◌∷◌, ◌++◌, length, get_or, take, refl, sym, ap, ◌∙◌, subst, append_assoc, append-nil}
use Rattle.std.proofs.lemmas.List.{map-append, take_more}
use Rattle.go_base.proofs.Lists.{take_past}
use Rattle.go_base.specs.Lists.{Each}
use Rattle.go_file_choices.specs.declared.questions.Question.{Question}
use Rattle.go_file_choices.specs.inner.Questions.{AreQuestions, AsksAlso, IsAsked, IsConstraintOf, file_of}
use Rattle.go_model.specs.declared.files.tree.TreeFile.{TreeFile}

each_snoc : {A : Type 0} (P : A → Type 0) (xs : List A) (x : A) → Each P xs → P x → Each P (xs ++ x ∷ [])
each_snoc P [] x h p = (p, tt)
each_snoc P (y ∷ xs) x h p = (h.0, each_snoc P xs x h.1 p)

pub no_questions : AreQuestions [] []
no_questions = record { same = refl; asked = tt }

asked_next : (files : List TreeFile) (xs : List Question) (x : Question) → IsAsked x → AreQuestions files xs → AreQuestions (files ++ file_of x ∷ []) (xs ++ x ∷ [])
asked_next files xs x a q = record {
  same = map-append file_of xs (x ∷ []) ∙ ap (λ (fs : List TreeFile). fs ++ file_of x ∷ []) q.same;
  asked = each_snoc IsAsked xs x q.asked a;
}

module _ (files : List TreeFile) where
  pub asks_none : (xs : List Question) → AsksAlso (take 0 files) xs xs
  asks_none xs before q = subst (λ (fs : List TreeFile). AreQuestions fs xs) (sym (append-nil before)) q

  pub asks_next : (i : ℕ) (x : Question) (bytes : List ℕ) (old xs new : List Question) → i < length files → file_of x ≡ get_or files i (file_of x) → bytes ≡ x.file.now.bytes → IsConstraintOf bytes x.constraint → new ≡ xs ++ x ∷ [] → AsksAlso (take i files) old xs
      → AsksAlso (take (i + 1) files) old new
  asks_next i x bytes old xs new h is read a e f before q =
      let asked : IsAsked x = subst (λ (bs : List ℕ). IsConstraintOf bs x.constraint) read a in
      let next : AreQuestions ((before ++ take i files) ++ file_of x ∷ []) (xs ++ x ∷ []) = asked_next (before ++ take i files) xs x asked (f before q) in
      let more : take (i + 1) files ≡ take i files ++ file_of x ∷ [] = take_more files i (file_of x) h ∙ ap (λ (w : TreeFile). take i files ++ w ∷ []) (sym is) in
      subst (AreQuestions (before ++ take (i + 1) files)) (sym e)
      (subst (λ (fs : List TreeFile). AreQuestions fs (xs ++ x ∷ [])) (append_assoc before (take i files) (file_of x ∷ []) ∙ ap (λ (w : List TreeFile). before ++ w) (sym more)) next)

  pub asks_all : (i : ℕ) (old xs : List Question) → length files ≤ i → AsksAlso (take i files) old xs → AsksAlso files old xs
  asks_all i old xs h f = subst (λ (fs : List TreeFile). AsksAlso fs old xs) (take_past i files h) f

-- the questions of three trees
pub three_trees : (a b c own std : List TreeFile) (none xs ys zs : List Question) → none ≡ [] → AsksAlso a none xs → AsksAlso b xs ys → AsksAlso c ys zs → b ≡ own → c ≡ std → AreQuestions (a ++ (own ++ std)) zs
three_trees a b c own std none xs ys zs e f g h is are =
    let all : AreQuestions (a ++ (b ++ c)) zs = subst (λ (fs : List TreeFile). AreQuestions fs zs) (append_assoc a b c) (h (a ++ b) (g a (f [] (subst (AreQuestions []) (sym e) no_questions)))) in
    subst (λ (fs : List TreeFile). AreQuestions (a ++ (own ++ fs)) zs) are (subst (λ (fs : List TreeFile). AreQuestions (a ++ (fs ++ c)) zs) is all)
