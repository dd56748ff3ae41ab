use Rattle.std.proofs.Common.{ap, get_or, subst, ◌∙◌}
use Rattle.go_model.specs.declared.types.term.Term.{Term}
use Rattle.api_correspond.proofs.Places.{at_get}
use Rattle.api_further_breaks.specs.inner.Partners.{NotesSide, side_of}
use Rattle.api_further_breaks.proofs.SharedNames.{below_none, below_more, below_all}
use Rattle.api_further_breaks.proofs.partners.shared.Goals as goal

pub loop-at-init : goal.loop-at-init
loop-at-init c = below_none c.args.is_old c.args.pairs.now c.new-once.result.keys c.new-twice.result.keys c.new-once.ensures.empty c.new-twice.ensures.empty

pub loop-at-preserved : goal.loop-at-preserved
loop-at-preserved c = below_more c.args.is_old c.args.pairs.now c.loop-at.at (get_or c.args.pairs.now c.loop-at.at c.index-pairs-at.result) c.loop-at.once.keys c.loop-at.twice.keys c.note_type.new.once.keys c.note_type.new.twice.keys (at_get c.args.pairs.now c.loop-at.at (get_or c.args.pairs.now c.loop-at.at c.index-pairs-at.result) c.loop-at-test.true (ap (get_or c.args.pairs.now c.loop-at.at) c.index-pairs-at.is)) c.loop-at.invariant (subst (λ (t : Term). NotesSide c.loop-at.once.keys c.loop-at.twice.keys c.note_type.new.once.keys c.note_type.new.twice.keys t) (c.side_of.ensures ∙ ap (side_of c.args.is_old) c.index-pairs-at.is) c.in_ok-note_type.ensures)

pub returns : goal.returns
returns c = below_all c.args.is_old c.args.pairs.now c.loop-at.at c.loop-at.once.keys c.loop-at.twice.keys c.loop-at-test.false c.loop-at.invariant
