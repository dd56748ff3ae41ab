use Rattle.go_rules.specs.Scopes.{env_of}
use Rattle.go_elements.proofs.Indexing.{index_string, index_element, index_no_type}
use Rattle.go_elements.proofs.elements.index.Goals as goal

pub returns-in-Some : goal.returns-in-Some
returns-in-Some c = index_string (env_of c.args.context.now.env.now) c.args.operand.now c.args.index.now _ c.byte_of-byte.result c.in-Some.ensures c.byte_of-byte.ensures

pub returns-in_ok-answer-in-Some-type_of : goal.returns-in_ok-answer-in-Some-type_of
returns-in_ok-answer-in-Some-type_of c = index_element (env_of c.args.context.now.env.now) c.args.operand.now c.args.index.now _ _ c.in_ok-answer-in-Some-type_of.answer c.in-Some-type_of.ensures c.under-under.ensures c.in_default.ensures c.in_ok-answer-in-Some-type_of.ensures

pub returns-in-None : goal.returns-in-None
returns-in-None c = index_no_type (env_of c.args.context.now.env.now) c.args.operand.now c.args.index.now c.in-None.ensures c.in_default.ensures
