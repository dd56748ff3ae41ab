use Rattle.std.proofs.Common.{sym, ◌∙◌, subst}
use Rattle.api_lines.specs.inner.Splits.{IsSplitFirst}
use Rattle.api_lines.proofs.Joins.{empty_of, none_left}
use Rattle.api_lines.proofs.Splits.{split_both, split_equal, split_greater, split_less, split_only, split_second}
use Rattle.api_lines.proofs.split.take_first.Goals as goal

pub returns-in-Less : goal.returns-in-Less
returns-in-Less c =
    subst (IsSplitFirst c.args.first.now.items c.args.second.now.items c.pop_front-in-Less.new.self.items c.args.second.now.items) (sym c.of_first-in-Less.ensures) (split_less c.args.first.now.items c.args.second.now.items c.pop_front-in-Less.new.self.items c.args.second.now.items c.index-head.result.now c.index-other.result.now c.args.first.now.len c.args.second.now.len c.is_empty.result c.is_empty-2.result c.args.first.now.ok.0 c.args.second.now.ok.0
    c.is_empty.ensures c.is_empty-2.ensures c.if-is_empty.false c.if-is_empty-2.false c.index-head.ensures c.index-other.ensures c.requires.first c.requires.second c.pop_front-in-Less.result c.pop_front-in-Less.ensures.items c.pop_front-in-Less.ensures.variant (sym c.in_ok-order.ensures ∙ c.in-Less.is))

pub returns-in-Equal : goal.returns-in-Equal
returns-in-Equal c =
    subst (IsSplitFirst c.args.first.now.items c.args.second.now.items c.pop_front-in-Equal.new.self.items c.args.second.now.items) (sym c.of_first-in-Equal.ensures) (split_equal c.args.first.now.items c.args.second.now.items c.pop_front-in-Equal.new.self.items c.args.second.now.items c.index-head.result.now c.index-other.result.now c.args.first.now.len c.args.second.now.len c.is_empty.result c.is_empty-2.result c.args.first.now.ok.0 c.args.second.now.ok.0
    c.is_empty.ensures c.is_empty-2.ensures c.if-is_empty.false c.if-is_empty-2.false c.index-head.ensures c.index-other.ensures c.requires.first c.requires.second c.pop_front-in-Equal.result c.pop_front-in-Equal.ensures.items c.pop_front-in-Equal.ensures.variant c.is_same.result c.is_same.ensures c.if-is_same.false (sym c.in_ok-order.ensures ∙ c.in-Equal.is))

pub returns-in-Greater : goal.returns-in-Greater
returns-in-Greater c =
    subst (IsSplitFirst c.args.first.now.items c.args.second.now.items c.args.first.now.items c.pop_front-in-Greater.new.self.items) (sym c.of_second-in-Greater.ensures) (split_greater c.args.first.now.items c.args.second.now.items c.args.first.now.items c.pop_front-in-Greater.new.self.items c.index-head.result.now c.index-other.result.now c.args.first.now.len c.args.second.now.len c.is_empty.result c.is_empty-2.result c.args.first.now.ok.0 c.args.second.now.ok.0
    c.is_empty.ensures c.is_empty-2.ensures c.if-is_empty.false c.if-is_empty-2.false c.index-head.ensures c.index-other.ensures c.requires.first c.requires.second c.pop_front-in-Greater.result c.pop_front-in-Greater.ensures.items c.pop_front-in-Greater.ensures.variant (sym c.in_ok-order.ensures ∙ c.in-Greater.is))

pub returns-then-is_same : goal.returns-then-is_same
returns-then-is_same c =
    subst (IsSplitFirst c.args.first.now.items c.args.second.now.items c.pop_front-then-is_same.new.self.items c.pop_front-same.new.self.items) (sym c.of_both.ensures) (split_both c.args.first.now.items c.args.second.now.items c.pop_front-then-is_same.new.self.items c.pop_front-same.new.self.items c.index-head.result.now c.index-other.result.now c.args.first.now.len c.args.second.now.len c.is_empty.result c.is_empty-2.result c.args.first.now.ok.0 c.args.second.now.ok.0
    c.is_empty.ensures c.is_empty-2.ensures c.if-is_empty.false c.if-is_empty-2.false c.index-head.ensures c.index-other.ensures c.requires.first c.requires.second c.pop_front-then-is_same.result c.pop_front-then-is_same.ensures.items c.pop_front-then-is_same.ensures.variant c.pop_front-same.result c.pop_front-same.ensures.items c.pop_front-same.ensures.variant (c.is_same.ensures.0 c.if-is_same.true))

pub returns-then-is_empty : goal.returns-then-is_empty
returns-then-is_empty c =
    subst (IsSplitFirst c.args.first.now.items c.args.second.now.items c.args.first.now.items c.pop_front.new.self.items) (sym c.of_second.ensures) (split_second c.args.first.now.items c.args.second.now.items c.pop_front.new.self.items c.pop_front.result (empty_of c.args.first.now.items c.args.first.now.len c.is_empty.result c.args.first.now.ok.0 c.is_empty.ensures c.if-is_empty.true) c.pop_front.ensures.items
    (none_left c.args.second.now.items c.pop_front.new.self.items c.args.second.now.len c.pop_front.result c.args.second.now.ok.0 c.pop_front.ensures.items c.pop_front.ensures.variant))

pub returns-then-is_empty-2 : goal.returns-then-is_empty-2
returns-then-is_empty-2 c =
    subst (IsSplitFirst c.args.first.now.items c.args.second.now.items c.pop_front-then-is_empty-2.new.self.items c.args.second.now.items) (sym c.of_first.ensures) (split_only c.args.first.now.items c.args.second.now.items c.pop_front-then-is_empty-2.new.self.items c.pop_front-then-is_empty-2.result (empty_of c.args.second.now.items c.args.second.now.len c.is_empty-2.result c.args.second.now.ok.0 c.is_empty-2.ensures c.if-is_empty-2.true) c.pop_front-then-is_empty-2.ensures.items
    (none_left c.args.first.now.items c.pop_front-then-is_empty-2.new.self.items c.args.first.now.len c.pop_front-then-is_empty-2.result c.args.first.now.ok.0 c.pop_front-then-is_empty-2.ensures.items c.pop_front-then-is_empty-2.ensures.variant))
