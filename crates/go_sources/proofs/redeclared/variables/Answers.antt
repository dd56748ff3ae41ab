use Rattle.std.proofs.Common.{None, List, subst, arith}
use Rattle.go_base.specs.Gathered.{gather}
use Rattle.go_typings.specs.Redeclarations.{name_site}
use Rattle.go_sources.specs.inner.DeclarationSites.{var_sites}
use Rattle.go_syntax.specs.declared.name.Name.{Name}
use Rattle.go_sources.specs.inner.KnownNames.{keys_of, Steps}
use Rattle.go_sources.proofs.Visiting.{step_next, step_stops, step_whole}
use Rattle.go_sources.proofs.redeclared.variables.Goals as goal

pub returns-in-Some : goal.returns-in-Some
returns-in-Some c =
    step_stops (var_sites c.args.file) c.args.specs.now c.loop-spec.spec-index c.spec-item.result (keys_of c.args.known.now) (keys_of c.loop-spec.known) (keys_of c.objects.new.known) c.in-Some.place c.loop-spec-test.true c.spec-item.is c.loop-spec.invariant
    (subst (Steps (var_sites c.args.file c.spec-item.result) (keys_of c.loop-spec.known) (keys_of c.objects.new.known)) c.in-Some.is (subst (λ (ns : List Name). Steps (gather (name_site c.args.file) ns) (keys_of c.loop-spec.known) (keys_of c.objects.new.known) c.in_ok-found.found) c.items.ensures c.in_ok-found.ensures))

pub loop-spec-preserved : goal.loop-spec-preserved
loop-spec-preserved c =
    step_next (var_sites c.args.file) c.args.specs.now c.loop-spec.spec-index c.spec-item.result (keys_of c.args.known.now) (keys_of c.loop-spec.known) (keys_of c.objects.new.known) None c.loop-spec-test.true c.spec-item.is c.loop-spec.invariant
    (subst (Steps (var_sites c.args.file c.spec-item.result) (keys_of c.loop-spec.known) (keys_of c.objects.new.known)) c.in-None.is (subst (λ (ns : List Name). Steps (gather (name_site c.args.file) ns) (keys_of c.loop-spec.known) (keys_of c.objects.new.known) c.in_ok-found.found) c.items.ensures c.in_ok-found.ensures))

pub returns : goal.returns
returns c = step_whole (var_sites c.args.file) c.args.specs.now c.loop-spec.spec-index (keys_of c.args.known.now) (keys_of c.loop-spec.known) (let h = c.loop-spec-test.false in omega (arith, h)) c.loop-spec.invariant
