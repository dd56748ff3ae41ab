use Rattle.std.proofs.Common.{◌≡◌, ℕ, List, [], ◌∷◌, ◌++◌, refl, sym, ap, ◌∙◌, subst, inl, inr}
use Rattle.go_base.specs.Lists.{Has}
use Rattle.units.proofs.answer.bar.Goals as goal

has_last : (xs : List (List ℕ)) (x : List ℕ) → Has (xs ++ x ∷ []) x
has_last [] x = inl refl
has_last (y ∷ xs) x = inr (has_last xs x)

pub returns : goal.returns
returns c =
    subst (λ (texts : List (List ℕ)). Has texts c.args.path.now) (sym (c.in_ok-push.ensures.ok ∙ ap (λ (text : List ℕ). c.args.barred.now ++ text ∷ []) c.in_ok-text.ensures)) (has_last c.args.barred.now c.args.path.now)
