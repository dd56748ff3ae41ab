use Rattle.std.proofs.Common.{◌∙◌, ℕ, List, ap, subst}
use Rattle.go_base.specs.Lists.{Once}
use Rattle.go_nodes.specs.Trees.{texts_of}
use Rattle.go_selectors.specs.Answers.{Decides}
use Rattle.go_type_switches.proofs.ListedOnce.{once_decided}
use Rattle.go_type_switches.proofs.clauses.are_once_listed.Goals as goal

pub returns : goal.returns
returns c =
    once_decided c.args.listed.now c.in_ok-once.once
    (subst (λ (ts : List (List ℕ)). Decides c.in_ok-once.once (Once ts)) (ap texts_of c.items-2.ensures ∙ c.in_ok-names.ensures ∙ c.items.ensures ∙ c.in_ok-codes.ensures) c.in_ok-once.ensures)
