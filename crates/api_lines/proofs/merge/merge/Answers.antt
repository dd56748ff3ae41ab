use Rattle.std.proofs.Common.{◌≡◌, ◌-◌, [], ℕ, List, get_or, take, drop, length, sym, subst}
use Rattle.go_base.specs.Growing.{Grows}
use Rattle.api_lines.specs.declared.line.Line.{Line}
use Rattle.api_lines.specs.Lines.{HasText}
use Rattle.api_lines.specs.inner.MergedLines.{IsTextOnAll}
use Rattle.api_lines.proofs.AddedLines.{common_once, merged_of}
use Rattle.api_lines.proofs.merge.merge.Goals as goal

pub returns : goal.returns
returns c =
    let others : List (List Line) = take (length c.args.lists.now - 1) (drop 1 c.args.lists.now) in
    merged_of c.args.lists.now c.items-first.result.now c.args.platforms.now c.in_ok-common.common c.new-merged.result c.add_lines.new.merged c.add_own_of_each.new.merged c.in_ok-merged.merged c.requires.some
    (subst (λ (w : List Line). w ≡ get_or c.args.lists.now 0 w) (sym c.items-first.ensures) c.index-lists-0.is)
    c.requires.same c.requires.plain c.new-merged.ensures
    (common_once c.items-first.result.now c.in_ok-once.once others c.in_ok-common.common c.in_ok-once.ensures (subst (λ (w : List Line). Grows (λ (text : List ℕ). HasText w text × IsTextOnAll others text) [] c.in_ok-common.common) c.items.ensures c.in_ok-common.ensures))
    c.in_ok-add_lines.ensures c.in_ok-add_own_of_each.ensures c.in_ok-merged.ensures
