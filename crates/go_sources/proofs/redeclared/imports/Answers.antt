use Rattle.std.proofs.Common.{None, subst, arith}
use Rattle.go_typings.specs.Redeclarations.{import_site}
use Rattle.go_units.specs.declared.unit.UsedImport.{UsedImport}
use Rattle.go_sources.specs.UnitSources.{import_of}
use Rattle.go_sources.specs.inner.KnownNames.{keys_of, Steps}
use Rattle.go_sources.proofs.Visiting.{step_next, step_stops, step_whole}
use Rattle.go_sources.proofs.redeclared.imports.Goals as goal

pub returns-in-Some : goal.returns-in-Some
returns-in-Some c =
    step_stops (λ (i : UsedImport). import_site c.args.file (import_of i)) c.args.imports.now c.loop-used.used-index c.used-item.result (keys_of c.args.known.now) (keys_of c.loop-used.known) (keys_of c.import.new.known) c.in-Some.place c.loop-used-test.true c.used-item.is c.loop-used.invariant
    (subst (Steps ((λ (i : UsedImport). import_site c.args.file (import_of i)) c.used-item.result) (keys_of c.loop-used.known) (keys_of c.import.new.known)) c.in-Some.is c.in_ok-found.ensures)

pub loop-used-preserved : goal.loop-used-preserved
loop-used-preserved c =
    step_next (λ (i : UsedImport). import_site c.args.file (import_of i)) c.args.imports.now c.loop-used.used-index c.used-item.result (keys_of c.args.known.now) (keys_of c.loop-used.known) (keys_of c.import.new.known) None c.loop-used-test.true c.used-item.is c.loop-used.invariant
    (subst (Steps ((λ (i : UsedImport). import_site c.args.file (import_of i)) c.used-item.result) (keys_of c.loop-used.known) (keys_of c.import.new.known)) c.in-None.is c.in_ok-found.ensures)

pub returns : goal.returns
returns c = step_whole (λ (i : UsedImport). import_site c.args.file (import_of i)) c.args.imports.now c.loop-used.used-index (keys_of c.args.known.now) (keys_of c.loop-used.known) (let h = c.loop-used-test.false in omega (arith, h)) c.loop-used.invariant
