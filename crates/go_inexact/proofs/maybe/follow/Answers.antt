use Rattle.std.proofs.Common.{refl, sym, ◌∙◌}
use Rattle.std.proofs.lemmas.Result.{IfOk-weaker}
use Rattle.go_inexact.proofs.Answered.{is_not}
use Rattle.go_inexact.proofs.Following.{follows_converted, follows_itself, follows_operated}
use Rattle.go_inexact.specs.Maybe.{Follows}
use Rattle.go_inexact.specs.inner.Added.{AddsConverted}
use Rattle.go_inexact.specs.inner.Constants.{IsConstant}
use Rattle.go_nodes.specs.Trees.{nodes_in}
use Rattle.go_type_terms.specs.Answers.{env_in}
use Rattle.go_inexact.proofs.maybe.follow.Goals as goal

pub returns-then-constant : goal.returns-then-constant
returns-then-constant c =
    let E = env_in c.args.context.now in
    follows_itself E c.args.expr.now (nodes_in c.args.trees.now) (nodes_in c.args.trees.now) c.in_ok-constant.constant c.if-constant.true c.in_ok-constant.ensures refl

pub returns-then-is_operated : goal.returns-then-is_operated
returns-then-is_operated c =
    let E = env_in c.args.context.now in
    follows_operated E c.args.expr.now (nodes_in c.args.trees.now) (nodes_in c.push_parts.new.self) (is_not (IsConstant E c.args.expr.now) c.in_ok-constant.constant c.if-constant.false c.in_ok-constant.ensures)
    (sym c.is_operated.ensures ∙ c.if-is_operated.true) c.in_ok-push_parts.ensures

pub returns : goal.returns
returns c =
    let E = env_in c.args.context.now in
    let e = c.args.expr.now in
    let old = nodes_in c.args.trees.now in
    let new = nodes_in c.add_converted.new.trees in
    IfOk-weaker c.add_converted.result (AddsConverted E e old new) (Follows E e old new)
    (follows_converted E e old new (is_not (IsConstant E e) c.in_ok-constant.constant c.if-constant.false c.in_ok-constant.ensures) (sym c.is_operated.ensures ∙ c.if-is_operated.false))
    c.add_converted.ensures
