use Rattle.std.proofs.Common.{ap, sym, ◌∙◌, ◌++◌, List, ℕ}
use Rattle.api_worlds.proofs.KeptPackages.{lines_more}
use Rattle.api_worlds.proofs.left_out.joined.Goals as goal

pub loop-package-preserved : goal.loop-package-preserved
loop-package-preserved c =
    c.in_ok-add_lines.ensures ∙ ap (λ (w : List (List ℕ)). w ++ c.in-Some.«package».lines) c.loop-package.invariant ∙ sym (lines_more c.loop-package.yielded c.in-Some.«package»)
