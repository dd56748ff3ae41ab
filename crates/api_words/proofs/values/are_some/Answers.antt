use Rattle.std.proofs.Common.{◌≢◌, [], List, ℕ, subst}
use Rattle.go_base.specs.Lists.{Each}
use Rattle.go_base.proofs.Lists.{take_past}
use Rattle.api_words.proofs.Names.{not_some, now_of}
use Rattle.api_words.proofs.Searches.{each_map, no, yes}
use Rattle.api_words.proofs.values.are_some.Goals as goal

pub returns-then-is_empty : goal.returns-then-is_empty
returns-then-is_empty c = no (not_some c.args.names.now c.loop-name.name-index _ c.loop-name-test.true c.is_empty.result c.is_empty.ensures c.if-is_empty.true)

pub returns : goal.returns
returns c = yes (each_map now_of (λ (name : List ℕ). name ≢ []) c.args.names.now (subst (Each (λ name. now_of name ≢ [])) (take_past c.loop-name.name-index c.args.names.now c.loop-name-test.false) c.loop-name.invariant))
