use Rattle.std.proofs.Common.{sym, ◌∙◌}
use borrow.Author.Tests.{eqb-true}
use Rattle.api_lines.proofs.Merged.{merged_alone}
use Rattle.api_lines.proofs.ordered.merge_ordered.Goals as goal

pub returns-then-is_empty : goal.returns-then-is_empty
returns-then-is_empty c =
    merged_alone c.args.lists c.into_vec-others.result.items c.remove-first.new.self.items c.remove-first.result c.args.platforms.now c.into_vec-others.ensures c.requires.some c.remove-first.ensures.value c.remove-first.ensures.items
    (sym c.remove-first.new.self.ok.0 ∙ eqb-true c.remove-first.new.self.len 0 (sym c.is_empty.ensures ∙ c.if-is_empty.true))
    c.requires.same c.requires.plain c.requires.order
