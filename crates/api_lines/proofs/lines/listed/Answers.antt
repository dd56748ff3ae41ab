use Rattle.std.proofs.Common.{List, ◌∙◌, sym, subst}
use Rattle.go_base.specs.Lists.{Has}
use Rattle.api_lines.specs.declared.line.Line.{Line}
use Rattle.api_lines.specs.Lines.{AreInOrder, IsListing}
use Rattle.api_lines.proofs.OrderedLines.{arranged_listing, listed_moved, moved_in_order}
use Rattle.api_lines.proofs.PackageLines.{own_listing}
use Rattle.api_lines.proofs.lines.listed.Goals as goal

pub returns-then-are_in_order : goal.returns-then-are_in_order
returns-then-are_in_order c =
    subst (IsListing (Has c.args.all.items)) (sym c.from_vec.ensures) (own_listing c.args.all.items (subst AreInOrder c.deref.ensures.value (c.are_in_order.ensures c.if-are_in_order.true)))

pub returns-then-are_in_order-2 : goal.returns-then-are_in_order-2
returns-then-are_in_order-2 c =
    subst (IsListing (Has c.args.all.items)) (sym c.from_vec-then-are_in_order-2.ensures)
    (moved_in_order c.args.all.items c.sort.new.lines.items c.in_ok-sort.ensures (subst AreInOrder c.deref-2.ensures.value (c.are_in_order-2.ensures c.if-are_in_order-2.true)))

pub returns : goal.returns
returns c = listed_moved c.args.all.items c.sort.new.lines.items c.in_ok-sort.ensures c.in_ok-lines.lines (arranged_listing _ c.in_ok-lines.lines c.in_ok-lines.ensures)
