use Rattle.std.proofs.Common.{◌++◌, List, subst}
use Rattle.go_base.specs.Growing.{Grows}
use Rattle.api_lines.specs.declared.line.Line.{Line}
use Rattle.api_lines.proofs.PackageLines.{grows_behind}
use Rattle.api_lines.proofs.lines.Lines.end_type.Goals as goal

pub returns : goal.returns
returns c =
    subst (λ (w : List Line). Grows (λ l. ⊥) w (c.self.inside.all.items ++ c.end_type.new.self)) c.self.view_is (grows_behind (λ l. ⊥) c.self.inside.all.items c.self.inside.latest c.end_type.new.self c.end_type.ensures)
