use Rattle.go_base.specs.Lists.{Each}
use Rattle.api_lines.specs.Merging.{HasNoContext}
use Rattle.questions.proofs.frozen.merge_answer.Given as goal

abbrev pub invariant-loop-part : goal.invariant-loop-part
invariant-loop-part l = Each (Each HasNoContext) l.lists.items
