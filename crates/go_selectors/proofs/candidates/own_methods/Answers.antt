use Rattle.go_selectors.proofs.OwnMethods.{own_held}
use Rattle.go_selectors.proofs.candidates.own_methods.Goals as goal

pub returns : goal.returns
returns c = own_held c.args.through c.args.members.now.fields.now c.args.members.now.declared.now c.args.members.now.methods.now c.new-candidates.result c.note_declared.new.candidates c.note_methods.new.candidates c.hide_fields.new.candidates c.new-candidates.ensures.empty c.in_ok-note_declared.ensures c.in_ok-note_methods.ensures c.hide_fields.ensures
