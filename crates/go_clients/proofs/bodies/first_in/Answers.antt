use Rattle.std.proofs.Common.{arith, subst, sym}
use Rattle.go_clients.proofs.LookedThrough.{Looking, looking_first, looking_last, looking_next}
use Rattle.go_clients.specs.inner.Told.{lists_of}
use Rattle.go_clients.proofs.bodies.first_in.Goals as goal

pub loop-declaration-init : goal.loop-declaration-init
loop-declaration-init c = looking_first c.args.env (lists_of c.args.all.now) c.requires

pub loop-declaration-preserved : goal.loop-declaration-preserved
loop-declaration-preserved c =
    subst (Looking c.args.env (lists_of c.args.all.now) _ c.untyped_in.new.env) (sym c.lesser-found.ensures)
    (looking_next c.args.env (lists_of c.args.all.now) c.args.declarations.now c.loop-declaration.declaration-index c.declaration-item.result c.loop-declaration.env c.untyped_in.new.env c.loop-declaration.found c.in_ok-next.next c.loop-declaration-test.true c.declaration-item.is c.untyped_in.ensures.moved
    c.in_ok-next.ensures.told c.loop-declaration.invariant)

pub returns : goal.returns
returns c = looking_last c.args.env (lists_of c.args.all.now) c.args.declarations.now c.loop-declaration.declaration-index c.loop-declaration.env c.loop-declaration.found (omega arith) c.loop-declaration.invariant
