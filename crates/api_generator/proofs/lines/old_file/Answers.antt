use Rattle.std.proofs.Common.{◌≡◌, ◌∙◌, ap, subst, ◌++◌, ℕ, List}
use Rattle.std.specs.Result.{IfOk}
use Rattle.api_generator.specs.MadeTrees.{old_file, method_line}
use Rattle.api_generator.proofs.lines.old_file.Goals as goal

pub returns : goal.returns
unfolding old_file
returns c = subst (λ (w : List ℕ). IfOk c.from_vec.result (λ text. text ≡ w))
    (c.in_ok-push_method.ensures ∙ ap (λ (w : List ℕ). w ++ method_line c.args.seed c.args.number) c.in_ok-lines.ensures)
    c.from_vec.ensures
