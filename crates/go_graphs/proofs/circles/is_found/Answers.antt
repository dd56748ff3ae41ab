use Rattle.std.proofs.Common.{ap, ◌∙◌, sym}
use Rattle.go_graphs.specs.Flags.{is_flagged}
use Rattle.go_graphs.proofs.Flagging.{apart}
use Rattle.go_graphs.proofs.circles.is_found.Goals as goal

pub leading-requires : goal.leading-requires
leading-requires c = (c.requires.to, tt)

pub returns-clause-yes : goal.returns-clause-yes
returns-clause-yes c e = c.in_ok-flags.ensures.sound c.args.from (ap (λ bs. is_flagged bs c.args.from) (sym c.deref.ensures.value) ∙ sym c.flag.ensures ∙ e)

pub returns-clause-no : goal.returns-clause-no
returns-clause-no c e w = apart (sym (c.in_ok-flags.ensures.complete c.args.from c.requires.from w) ∙ ap (λ bs. is_flagged bs c.args.from) (sym c.deref.ensures.value) ∙ sym c.flag.ensures ∙ e)
