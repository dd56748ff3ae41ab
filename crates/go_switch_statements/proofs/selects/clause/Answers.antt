use Rattle.go_judged.specs.Judging.{Judges}
use Rattle.go_local_scopes.proofs.Standing.{closed_same, kept_opened, opened_some, opened_told}
use Rattle.go_switch_statements.specs.Selecting.{InSelectCase, IsTypedSelectCase}
use Rattle.go_walks.specs.Below.{blocks_of, enclosing_of}
use Rattle.go_switch_statements.proofs.selects.clause.Goals as goal

pub clause_within-judged-requires-clause-opened : goal.clause_within-judged-requires-clause-opened
clause_within-judged-requires-clause-opened g c = opened_some c.args.env.now c.open_scope.new.self c.in_ok-open_scope.ensures.ok

pub close_scope-requires : goal.close_scope-requires
close_scope-requires g c = kept_opened c.open_scope.new.self c.clause_within-judged.new.env c.clause_within-judged.ensures.kept

pub returns-clause-same : goal.returns-clause-same
returns-clause-same g c = closed_same c.args.env.now c.open_scope.new.self c.clause_within-judged.new.env c.close_scope.new.self c.in_ok-open_scope.ensures.ok c.clause_within-judged.ensures.kept c.close_scope.ensures

pub returns-clause-judged : goal.returns-clause-judged
returns-clause-judged g c =
    let f = c.args.walk.now.frame.now in
    opened_told c.args.env.now c.open_scope.new.self c.in_ok-open_scope.ensures.ok c.clause_within-judged.result (λ E s j. Judges E (blocks_of f) (IsTypedSelectCase E (blocks_of f) (enclosing_of f) s c.args.case.now) (InSelectCase E (blocks_of f) (enclosing_of f) s c.args.case.now) j) c.clause_within-judged.ensures.judged
