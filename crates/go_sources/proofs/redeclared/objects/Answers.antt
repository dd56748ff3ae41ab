use Rattle.std.proofs.Common.{None, subst, arith}
use Rattle.go_typings.specs.Redeclarations.{name_site}
use Rattle.go_sources.specs.inner.KnownNames.{keys_of, Steps}
use Rattle.go_sources.proofs.Visiting.{step_next, step_stops, step_whole}
use Rattle.go_sources.proofs.redeclared.objects.Goals as goal

pub returns-in-Some : goal.returns-in-Some
returns-in-Some c =
    step_stops (name_site c.args.file) c.args.names.now c.loop-name.name-index c.name-item.result (keys_of c.args.known.now) (keys_of c.loop-name.known) (keys_of c.object.new.known) c.in-Some.place c.loop-name-test.true c.name-item.is c.loop-name.invariant
    (subst (Steps (name_site c.args.file c.name-item.result) (keys_of c.loop-name.known) (keys_of c.object.new.known)) c.in-Some.is c.in_ok-found.ensures)

pub loop-name-preserved : goal.loop-name-preserved
loop-name-preserved c =
    step_next (name_site c.args.file) c.args.names.now c.loop-name.name-index c.name-item.result (keys_of c.args.known.now) (keys_of c.loop-name.known) (keys_of c.object.new.known) None c.loop-name-test.true c.name-item.is c.loop-name.invariant
    (subst (Steps (name_site c.args.file c.name-item.result) (keys_of c.loop-name.known) (keys_of c.object.new.known)) c.in-None.is c.in_ok-found.ensures)

pub returns : goal.returns
returns c = step_whole (name_site c.args.file) c.args.names.now c.loop-name.name-index (keys_of c.args.known.now) (keys_of c.loop-name.known) (let h = c.loop-name-test.false in omega (arith, h)) c.loop-name.invariant
