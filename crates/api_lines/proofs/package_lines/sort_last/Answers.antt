use Rattle.std.proofs.Common.{List, sym, subst}
use Rattle.std.specs.List.Sorted.{IsPermutation}
use Rattle.go_base.specs.Growing.{Grows}
use Rattle.api_lines.specs.declared.line.Line.{Line}
use Rattle.api_lines.proofs.OrderedLines.{moved_whole}
use Rattle.api_lines.proofs.PackageLines.{moved_grows}
use Rattle.api_lines.proofs.package_lines.sort_last.Goals as goal

pub returns : goal.returns
returns c =
    let moved = subst (λ (w : List Line). IsPermutation w c.sort_from.new.lines) c.deref_mut.ensures.value c.sort_from.ensures in
    let whole = moved_whole c.args.lines.now.items c.sort_from.new.lines c.args.lines.now.len moved c.args.lines.now.ok.0 in
    subst (Grows (λ l. ⊥) c.args.lines.now.items) (sym whole) (moved_grows c.args.lines.now.items c.sort_from.new.lines moved)
