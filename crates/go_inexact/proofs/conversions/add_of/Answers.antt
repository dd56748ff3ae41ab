use Rattle.std.proofs.Common.{length, refl, sym, take, ◌-◌, ◌∙◌}
use Rattle.go_inexact.proofs.Adding.{adds_no_argument, adds_none, adds_not_basic, adds_this, last_number}
use Rattle.go_nodes.specs.Trees.{nodes_in}
use Rattle.go_type_terms.specs.Answers.{env_in}
use Rattle.go_inexact.proofs.conversions.add_of.Goals as goal

pub returns-then-is_empty : goal.returns-then-is_empty
returns-then-is_empty c = adds_none (env_in c.args.context.now) c.args.operand.now c.args.posts.now (nodes_in c.args.trees.now) (nodes_in c.args.trees.now) (sym c.is_empty.ensures ∙ c.if-is_empty.true)

pub returns-in-None : goal.returns-in-None
returns-in-None c =
    let ps = c.args.posts.now in
    let old = nodes_in c.args.trees.now in
    adds_no_argument (env_in c.args.context.now) c.args.operand.now ps (length ps - 1) c.index-posts-last.result (last_number ps (sym c.is_empty.ensures ∙ c.if-is_empty.false)) c.index-posts-last.is old old c.in-None.ensures

pub returns-then-not-basic : goal.returns-then-not-basic
returns-then-not-basic c =
    let ps = c.args.posts.now in
    let old = nodes_in c.args.trees.now in
    adds_not_basic (env_in c.args.context.now) c.args.operand.now ps (length ps - 1) c.index-posts-last.result (last_number ps (sym c.is_empty.ensures ∙ c.if-is_empty.false)) c.index-posts-last.is old old (take (length ps - 1) ps) c.in_ok-basic-in-Some.basic refl c.if-not-basic.true
    c.in_ok-basic-in-Some.ensures

pub returns-in_ok-push-in-Some : goal.returns-in_ok-push-in-Some
returns-in_ok-push-in-Some c =
    let ps = c.args.posts.now in
    adds_this (env_in c.args.context.now) c.args.operand.now ps (length ps - 1) c.index-posts-last.result (last_number ps (sym c.is_empty.ensures ∙ c.if-is_empty.false)) c.index-posts-last.is (nodes_in c.args.trees.now) (nodes_in c.push.new.self) (take (length ps - 1) ps) c.in-Some.argument.now
    c.in_ok-basic-in-Some.basic refl c.if-not-basic.false c.in_ok-basic-in-Some.ensures c.in-Some.ensures c.in_ok-push-in-Some.ensures
