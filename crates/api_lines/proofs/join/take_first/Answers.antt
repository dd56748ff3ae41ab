use Rattle.std.proofs.Common.{sym, ◌∙◌}
use Rattle.api_lines.proofs.Joins.{both_taken, empty_of, first_taken, none_left, second_taken, take_only, take_second}
use Rattle.api_lines.proofs.join.take_first.Goals as goal

pub returns-then-is_empty : goal.returns-then-is_empty
returns-then-is_empty c =
    take_second c.args.first.now.items c.args.second.now.items c.pop_front.new.self.items c.pop_front.result (empty_of c.args.first.now.items c.args.first.now.len c.is_empty.result c.args.first.now.ok.0 c.is_empty.ensures c.if-is_empty.true) c.pop_front.ensures.items
    (none_left c.args.second.now.items c.pop_front.new.self.items c.args.second.now.len c.pop_front.result c.args.second.now.ok.0 c.pop_front.ensures.items c.pop_front.ensures.variant) c.requires.second

pub returns-then-is_empty-2 : goal.returns-then-is_empty-2
returns-then-is_empty-2 c =
    take_only c.args.first.now.items c.args.second.now.items c.pop_front-then-is_empty-2.new.self.items c.pop_front-then-is_empty-2.result (empty_of c.args.second.now.items c.args.second.now.len c.is_empty-2.result c.args.second.now.ok.0 c.is_empty-2.ensures c.if-is_empty-2.true) c.pop_front-then-is_empty-2.ensures.items
    (none_left c.args.first.now.items c.pop_front-then-is_empty-2.new.self.items c.args.first.now.len c.pop_front-then-is_empty-2.result c.args.first.now.ok.0 c.pop_front-then-is_empty-2.ensures.items c.pop_front-then-is_empty-2.ensures.variant) c.requires.first

pub returns-in-Less : goal.returns-in-Less
returns-in-Less c =
    first_taken c.args.first.now.items c.args.second.now.items c.pop_front-in-Less.new.self.items c.args.second.now.items c.index.result.now c.index-2.result.now c.args.first.now.len c.args.second.now.len c.is_empty.result c.is_empty-2.result c.args.first.now.ok.0 c.args.second.now.ok.0
    c.is_empty.ensures c.is_empty-2.ensures c.if-is_empty.false c.if-is_empty-2.false c.index.ensures c.index-2.ensures c.requires.first c.requires.second c.pop_front-in-Less.result c.pop_front-in-Less.ensures.items c.pop_front-in-Less.ensures.variant (sym c.in_ok-order.ensures ∙ c.in-Less.is)

pub returns-in-Equal : goal.returns-in-Equal
returns-in-Equal c =
    both_taken c.args.first.now.items c.args.second.now.items c.pop_front-in-Equal.new.self.items c.pop_front-same.new.self.items c.index.result.now c.index-2.result.now c.args.first.now.len c.args.second.now.len c.is_empty.result c.is_empty-2.result c.args.first.now.ok.0 c.args.second.now.ok.0
    c.is_empty.ensures c.is_empty-2.ensures c.if-is_empty.false c.if-is_empty-2.false c.index.ensures c.index-2.ensures c.requires.first c.requires.second c.pop_front-in-Equal.result c.pop_front-in-Equal.ensures.items c.pop_front-in-Equal.ensures.variant c.pop_front-same.result c.pop_front-same.ensures.items c.pop_front-same.ensures.variant (sym c.in_ok-order.ensures ∙ c.in-Equal.is)

pub returns-in-Greater : goal.returns-in-Greater
returns-in-Greater c =
    second_taken c.args.first.now.items c.args.second.now.items c.args.first.now.items c.pop_front-in-Greater.new.self.items c.index.result.now c.index-2.result.now c.args.first.now.len c.args.second.now.len c.is_empty.result c.is_empty-2.result c.args.first.now.ok.0 c.args.second.now.ok.0
    c.is_empty.ensures c.is_empty-2.ensures c.if-is_empty.false c.if-is_empty-2.false c.index.ensures c.index-2.ensures c.requires.first c.requires.second c.pop_front-in-Greater.result c.pop_front-in-Greater.ensures.items c.pop_front-in-Greater.ensures.variant (sym c.in_ok-order.ensures ∙ c.in-Greater.is)
