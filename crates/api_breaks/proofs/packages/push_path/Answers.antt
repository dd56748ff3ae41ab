use Rattle.std.proofs.Common.{sym, subst}
use Rattle.go_selectors.specs.Answers.{Decides}
use Rattle.api_correspond.specs.Publics.{IsPublic}
use Rattle.api_breaks.proofs.PackageBreaks.{path_gone}
use Rattle.api_breaks.proofs.packages.push_path.Goals as goal

pub returns-then-not-is_public : goal.returns-then-not-is_public
returns-then-not-is_public c = path_gone c.args.old.now c.args.new.now c.args.path.now c.args.breaks.now.items c.push.new.breaks.items (λ s. subst (λ b. Decides b (IsPublic c.args.new.now c.bytes.result.now)) c.if-not-is_public.true c.is_public.ensures (subst (IsPublic c.args.new.now) (sym c.bytes.ensures) s)) c.in_ok-push.ensures
