use Rattle.std.proofs.Common.{◌≡◌, ◌++◌, List, subst}
use Rattle.std.proofs.lemmas.Result.{on_ok_weaker}
use Rattle.go_base.specs.Growing.{Grows}
use Rattle.api_lines.specs.declared.line.Line.{Line}
use Rattle.api_lines.proofs.PackageLines.{grows_front}
use Rattle.api_lines.proofs.lines.Lines.add.Goals as goal

pub returns : goal.returns
returns c =
    on_ok_weaker c.push.result
    (λ (g : Grows (λ l. c.args.line ≡ l) c.self.inside.all.items c.push.new.all.items). subst (λ (w : List Line). Grows (λ l. c.args.line ≡ l) w (c.push.new.all.items ++ c.self.inside.latest)) c.self.view_is (grows_front (λ l. c.args.line ≡ l) c.self.inside.all.items c.push.new.all.items c.self.inside.latest g)) c.push.ensures
