use Rattle.std.proofs.Common.{◌∙◌, [], ap, ◌++◌, ℕ, List}
use Rattle.api_generator.specs.MadeTrees.{first_lines, head_lines, type_lines}
use Rattle.api_generator.proofs.Pieces.{one_more}
use Rattle.api_generator.proofs.lines.first_lines.Goals as goal

pub returns : goal.returns
unfolding first_lines
returns c = one_more [] (head_lines c.args.seed c.args.number) (type_lines c.args.seed c.args.number) _ _
    (c.in_ok-push_head.ensures ∙ ap (λ (w : List ℕ). w ++ head_lines c.args.seed c.args.number) c.new-lines.ensures.items) c.in_ok-push_type.ensures
