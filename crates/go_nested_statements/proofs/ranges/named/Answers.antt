use Rattle.go_judged.specs.Judging.{Judges}
use Rattle.go_local_scopes.proofs.Standing.{closed_same, kept_opened, opened_some, opened_told}
use Rattle.go_nested_statements.specs.Ranging.{IsTypedNamed, NamedRun}
use Rattle.go_statement_rules.specs.Scopes.{opened}
use Rattle.go_flat_statements.specs.go_walks.Below.{blocks_of, enclosing_of}
use Rattle.go_nested_statements.proofs.ranges.named.Goals as goal

pub named_within-judged-requires-clause-opened : goal.named_within-judged-requires-clause-opened
named_within-judged-requires-clause-opened g c = opened_some c.args.env.now c.open_scope.new.self c.in_ok-open_scope.ensures.ok

pub close_scope-requires : goal.close_scope-requires
close_scope-requires g c = kept_opened c.open_scope.new.self c.named_within-judged.new.env c.named_within-judged.ensures.kept

pub returns-clause-same : goal.returns-clause-same
returns-clause-same g c = closed_same c.args.env.now c.open_scope.new.self c.named_within-judged.new.env c.close_scope.new.self c.in_ok-open_scope.ensures.ok c.named_within-judged.ensures.kept c.close_scope.ensures

pub returns-clause-judged : goal.returns-clause-judged
returns-clause-judged g c =
    let f = c.args.walk.now.frame.now in
    opened_told c.args.env.now c.open_scope.new.self c.in_ok-open_scope.ensures.ok c.named_within-judged.result (λ E s j. Judges E (blocks_of f) (IsTypedNamed E (blocks_of f) (enclosing_of f) (opened s) c.args.names.now c.args.terms.now c.args.body.now) (NamedRun (enclosing_of f) (opened s) c.args.names.now c.args.terms.now c.args.body.now) j) c.named_within-judged.ensures.judged
