use Rattle.std.proofs.Common.{◌∙◌, Option, subst, sym}
use Rattle.go_bodies.specs.Reading.{Progress}
use Rattle.go_bodies.specs.Reads.{HasRead}
use Rattle.go_file_blocks.proofs.FileOutcomes.{not_standing, standing}
use Rattle.go_file_blocks.proofs.blocks.blocks_of.Goals as goal
use Rattle.go_syntax.specs.grammar.Terminals.{terminals}

pub returns-then-not-branch : goal.returns-then-not-branch
returns-then-not-branch c = not_standing c.args.most c.args.places.now (terminals c.args.tokens.now) (sym c.in_ok-all_stand.ensures ∙ c.if-not-branch.true)

pub returns : goal.returns
returns c =
    subst (λ (found : Option Progress). HasRead found c.blocks_in.result)
    (sym (standing c.args.most c.args.places.now (terminals c.args.tokens.now) (sym c.in_ok-all_stand.ensures ∙ c.if-not-branch.false)))
    c.blocks_in.ensures
