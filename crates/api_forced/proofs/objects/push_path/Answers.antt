use Rattle.std.proofs.Common.{sym, subst}
use Rattle.go_selectors.specs.Answers.{Decides}
use Rattle.api_correspond.specs.Publics.{IsPublic}
use Rattle.api_forced.proofs.FromObjects.{path_hidden}
use Rattle.api_forced.proofs.objects.push_path.Goals as goal

pub returns-then-not-is_public : goal.returns-then-not-is_public
returns-then-not-is_public c = path_hidden c.args.old.now c.args.new.now c.args.path.now c.args.all.now.items (λ s. subst (λ b. Decides b (IsPublic c.args.new.now c.bytes.result.now)) c.if-not-is_public.true c.is_public.ensures (subst (IsPublic c.args.new.now) (sym c.bytes.ensures) s))
