use Rattle.std.proofs.Common.{◌≡◌, ◌++◌, map, drop}
use Rattle.go_nodes.specs.Trees.{nodes_in}
use Rattle.go_rules.specs.Nodes.{post}
use Rattle.go_nodes.proofs.trees.Trees.push_posts.Given as goal

abbrev pub invariant-loop-post : goal.invariant-loop-post
invariant-loop-post l = nodes_in l.self ++ map post (drop l.post-index l.posts) ≡ nodes_in l.initial.self ++ map post l.posts
