use Rattle.std.proofs.Common.{◌≡◌, ◌∙◌, ap, subst, ◌++◌, ◌%◌, ℕ, List}
use Rattle.std.specs.Result.{IfOk}
use Rattle.api_generator.specs.MadeTrees.{draw, last_lines, new_file}
use Rattle.api_generator.proofs.lines.new_file.Goals as goal

pub returns : goal.returns
unfolding new_file
returns c = subst (λ (w : List ℕ). IfOk c.from_vec.result (λ text. text ≡ w))
    (c.in_ok-push_last.ensures
    ∙ ap (λ (n : ℕ). c.in_ok-lines.lines.items ++ last_lines c.args.seed c.args.number (n % 4)) c.draw.ensures
    ∙ ap (λ (w : List ℕ). w ++ last_lines c.args.seed c.args.number (draw c.args.seed c.args.number 2 % 4)) c.in_ok-lines.ensures)
    c.from_vec.ensures
