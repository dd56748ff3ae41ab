use Rattle.std.proofs.Common.{◌∙◌, ◌++◌, ◌∷◌, [], List, ℕ, ap}
use Rattle.api_frozen.proofs.ReadLines.{adds_skipped, adds_line}
use Rattle.api_frozen.proofs.file.add_line.Goals as goal

pub returns-in-Skipped : goal.returns-in-Skipped
returns-in-Skipped c = adds_skipped c.args.line.now c.args.texts.now c.in-Skipped.ensures

pub returns-in_ok-push-in-Feature : goal.returns-in_ok-push-in-Feature
returns-in_ok-push-in-Feature c =
    adds_line c.args.line.now c.in-Feature.text.now c.args.texts.now c.push.new.self c.in-Feature.ensures.0 c.in-Feature.ensures.1 c.in-Feature.ensures.2
    (c.in_ok-push-in-Feature.ensures.ok ∙ ap (λ (w : List ℕ). c.args.texts.now ++ w ∷ []) c.in_ok-of-in-Feature.ensures)
