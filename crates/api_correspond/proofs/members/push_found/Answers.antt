use Rattle.std.proofs.Common.{subst}
use Rattle.go_selectors.proofs.UniqueFind.{found_once}
use Rattle.api_correspond.specs.Publics.{types_of}
use Rattle.api_correspond.specs.inner.Leading.{FieldOf}
use Rattle.api_correspond.proofs.Leading.{found_none, found_pushed}
use Rattle.api_correspond.proofs.members.push_found.Goals as goal

pub returns-in-None : goal.returns-in-None
returns-in-None c = found_none (types_of c.args.new.now) c.args.after.now c.args.sel.now c.args.before c.args.pairs.now.items (subst (FieldOf (types_of c.args.new.now) c.args.sel.now c.args.after.now 0) c.in-None.is c.in_ok-found.ensures)

pub returns-in_ok-push-in-Some : goal.returns-in_ok-push-in-Some
returns-in_ok-push-in-Some c = found_pushed (types_of c.args.new.now) c.args.after.now c.args.sel.now c.args.before c.in-Some.found c.args.pairs.now.items c.push.new.self.items (found_once (types_of c.args.new.now) c.args.sel.now c.args.after.now) (subst (FieldOf (types_of c.args.new.now) c.args.sel.now c.args.after.now 0) c.in-Some.is c.in_ok-found.ensures) c.into_value-old.result c.into_value-new.result c.into_value-old.ensures c.into_value-new.ensures c.in_ok-push-in-Some.ensures.items
