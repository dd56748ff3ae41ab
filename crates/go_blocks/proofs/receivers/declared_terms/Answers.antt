use Rattle.std.proofs.Common.{◌∙◌, ap}
use Rattle.go_blocks.proofs.Named.{receiver_given, receiver_none}
use Rattle.go_model.specs.declared.types.term.Term.{Term}
use Rattle.go_operators.proofs.Answers.{found_none, found_some}
use Rattle.go_rules.specs.Expressions.{OfType, for_names}
use Rattle.go_rules.specs.Scopes.{env_of}
use Rattle.go_syntax.specs.declared.types.ParameterDecl.{out-ParameterDecl}
use Rattle.go_blocks.proofs.receivers.declared_terms.Goals as goal

pub returns-in-None : goal.returns-in-None
returns-in-None c =
    let E = env_of c.args.env.now in
    let d = c.args.decl.now in
    receiver_none E d (found_none (λ (t : Term). OfType E (out-ParameterDecl d).type_ t) c.in_ok-given.given c.in-None.is c.in_ok-given.ensures)

pub returns : goal.returns
returns c =
    let E = env_of c.args.env.now in
    let d = c.args.decl.now in
    let t = c.in-Some.term in
    receiver_given E d t c.in_ok-terms.terms (c.in_ok-terms.ensures ∙ ap (λ ns. for_names ns t) c.items.ensures) (found_some (λ (t : Term). OfType E (out-ParameterDecl d).type_ t) c.in_ok-given.given t c.in-Some.is c.in_ok-given.ensures)
