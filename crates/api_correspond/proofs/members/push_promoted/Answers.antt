use Rattle.std.proofs.Common.{subst}
use Rattle.go_selectors.specs.Answers.{Decides}
use Rattle.go_selectors.proofs.UniqueFind.{found_once}
use Rattle.api_correspond.specs.Publics.{types_of, IsExported}
use Rattle.api_correspond.specs.inner.Leading.{FieldOf}
use Rattle.api_correspond.proofs.Leading.{promoted_none, promoted_some}
use Rattle.api_correspond.proofs.members.push_promoted.Goals as goal

pub returns-in-None : goal.returns-in-None
returns-in-None c = promoted_none (types_of c.args.old.now) (types_of c.args.new.now) c.args.pair.now c.args.sel.now c.args.pairs.now.items (subst (FieldOf (types_of c.args.old.now) c.args.sel.now c.args.pair.now.old 1) c.in-None.is c.in_ok-found.ensures)

pub returns-in_ok-push_found-in-Some : goal.returns-in_ok-push_found-in-Some
returns-in_ok-push_found-in-Some c = promoted_some (types_of c.args.old.now) (types_of c.args.new.now) c.args.pair.now c.args.sel.now c.in-Some.before c.args.pairs.now.items c.push_found.new.pairs.items (found_once (types_of c.args.old.now) c.args.sel.now c.args.pair.now.old) (subst (λ b. Decides b (IsExported c.args.sel.now)) c.if-not-is_exported.false c.is_exported.ensures) (subst (FieldOf (types_of c.args.old.now) c.args.sel.now c.args.pair.now.old 1) c.in-Some.is c.in_ok-found.ensures) c.in_ok-push_found-in-Some.ensures
