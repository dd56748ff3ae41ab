use Rattle.std.proofs.Common.{◌≡◌, ◌++◌, List, subst}
use Rattle.std.proofs.lemmas.Result.{on_ok_weaker}
use Rattle.go_base.specs.Growing.{Grows}
use Rattle.api_lines.specs.declared.line.Line.{Line}
use Rattle.api_lines.proofs.PackageLines.{grows_behind}
use Rattle.api_lines.proofs.lines.Lines.add_to_package.Goals as goal

pub returns : goal.returns
returns c =
    on_ok_weaker c.add.result
    (λ (g : Grows (λ l. c.args.line ≡ l) c.self.inside.latest c.add.new.self). subst (λ (w : List Line). Grows (λ l. c.args.line ≡ l) w (c.self.inside.all.items ++ c.add.new.self)) c.self.view_is (grows_behind (λ l. c.args.line ≡ l) c.self.inside.all.items c.self.inside.latest c.add.new.self g)) c.add.ensures
