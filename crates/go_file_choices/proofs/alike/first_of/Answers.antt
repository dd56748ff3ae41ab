use Rattle.std.proofs.Common.{sym, ◌∙◌}
use Rattle.go_file_choices.proofs.FirstAlike.{itself, none_here}
use Rattle.go_file_choices.proofs.alike.first_of.Goals as goal

pub loop-earlier-preserved : goal.loop-earlier-preserved
loop-earlier-preserved c = none_here c.args.questions.now c.args.platforms.now c.args.number c.loop-earlier.earlier (sym c.are_alike.ensures ∙ c.if-are_alike.false) c.loop-earlier.invariant

pub returns : goal.returns
returns c = itself c.args.questions.now c.args.platforms.now c.args.number c.loop-earlier.earlier c.loop-earlier-test.false c.loop-earlier.invariant
