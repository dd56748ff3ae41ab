use Rattle.std.proofs.Common.{None, subst, arith}
use Rattle.go_sources.specs.inner.DeclarationSites.{type_sites}
use Rattle.go_sources.specs.inner.KnownNames.{keys_of, Steps}
use Rattle.go_sources.proofs.Visiting.{step_next, step_stops, step_whole}
use Rattle.go_sources.proofs.redeclared.types.Goals as goal

pub returns-in-Some : goal.returns-in-Some
returns-in-Some c =
    step_stops (type_sites c.args.file) c.args.specs.now c.loop-spec.spec-index c.spec-item.result (keys_of c.args.known.now) (keys_of c.loop-spec.known) (keys_of c.object.new.known) c.in-Some.place c.loop-spec-test.true c.spec-item.is c.loop-spec.invariant
    (subst (Steps (type_sites c.args.file c.spec-item.result) (keys_of c.loop-spec.known) (keys_of c.object.new.known)) c.in-Some.is c.in_ok-found.ensures)

pub loop-spec-preserved : goal.loop-spec-preserved
loop-spec-preserved c =
    step_next (type_sites c.args.file) c.args.specs.now c.loop-spec.spec-index c.spec-item.result (keys_of c.args.known.now) (keys_of c.loop-spec.known) (keys_of c.object.new.known) None c.loop-spec-test.true c.spec-item.is c.loop-spec.invariant
    (subst (Steps (type_sites c.args.file c.spec-item.result) (keys_of c.loop-spec.known) (keys_of c.object.new.known)) c.in-None.is c.in_ok-found.ensures)

pub returns : goal.returns
returns c = step_whole (type_sites c.args.file) c.args.specs.now c.loop-spec.spec-index (keys_of c.args.known.now) (keys_of c.loop-spec.known) (let h = c.loop-spec-test.false in omega (arith, h)) c.loop-spec.invariant
