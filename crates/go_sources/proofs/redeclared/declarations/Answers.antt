use Rattle.std.proofs.Common.{None, subst, arith}
use Rattle.go_sources.specs.inner.DeclarationSites.{decl_sites}
use Rattle.go_sources.specs.inner.KnownNames.{keys_of, Steps}
use Rattle.go_sources.proofs.Visiting.{step_next, step_stops, step_whole}
use Rattle.go_sources.proofs.redeclared.declarations.Goals as goal

pub returns-in-Some : goal.returns-in-Some
returns-in-Some c =
    step_stops (decl_sites c.args.file) c.args.decls.now c.loop-decl.decl-index c.decl-item.result (keys_of c.args.known.now) (keys_of c.loop-decl.known) (keys_of c.declaration.new.known) c.in-Some.place c.loop-decl-test.true c.decl-item.is c.loop-decl.invariant
    (subst (Steps (decl_sites c.args.file c.decl-item.result) (keys_of c.loop-decl.known) (keys_of c.declaration.new.known)) c.in-Some.is c.in_ok-found.ensures)

pub loop-decl-preserved : goal.loop-decl-preserved
loop-decl-preserved c =
    step_next (decl_sites c.args.file) c.args.decls.now c.loop-decl.decl-index c.decl-item.result (keys_of c.args.known.now) (keys_of c.loop-decl.known) (keys_of c.declaration.new.known) None c.loop-decl-test.true c.decl-item.is c.loop-decl.invariant
    (subst (Steps (decl_sites c.args.file c.decl-item.result) (keys_of c.loop-decl.known) (keys_of c.declaration.new.known)) c.in-None.is c.in_ok-found.ensures)

pub returns : goal.returns
returns c = step_whole (decl_sites c.args.file) c.args.decls.now c.loop-decl.decl-index (keys_of c.args.known.now) (keys_of c.loop-decl.known) (let h = c.loop-decl-test.false in omega (arith, h)) c.loop-decl.invariant
