use Rattle.go_type_terms.proofs.Gathering.{none_taken, taking_clash, taking_end, taking_next}
use Rattle.go_type_terms.proofs.gathered.note_all.Goals as goal

pub returns-then-not-branch : goal.returns-then-not-branch
returns-then-not-branch c = taking_clash c.args.methods.now c.loop-method.method-index c.method-item.result c.args.noted.now.entries c.loop-method.noted.entries c.note.new.noted.entries c.in_ok-note.field-0 c.loop-method-test.true c.method-item.is c.loop-method.invariant c.in_ok-note.ensures c.if-not-branch.true

pub loop-method-init : goal.loop-method-init
loop-method-init c = none_taken c.args.methods.now c.args.noted.now.entries c.requires

pub loop-method-preserved : goal.loop-method-preserved
loop-method-preserved c = taking_next c.args.methods.now c.loop-method.method-index c.method-item.result c.args.noted.now.entries c.loop-method.noted.entries c.note.new.noted.entries c.in_ok-note.field-0 c.loop-method-test.true c.method-item.is c.loop-method.invariant c.in_ok-note.ensures c.if-not-branch.false

pub returns : goal.returns
returns c = taking_end c.args.methods.now c.loop-method.method-index c.args.noted.now.entries c.loop-method.noted.entries c.loop-method-test.false c.loop-method.invariant
