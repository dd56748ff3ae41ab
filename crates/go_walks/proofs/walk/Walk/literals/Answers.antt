use Rattle.go_base.specs.Lists.{Each}
use Rattle.go_judged.specs.Judging.{Among, Judges}
use Rattle.go_judged.specs.declared.judged.Judged.{Judged}
use Rattle.go_literal_blocks.specs.Literals.{AreLiteralsOf, forms_in}
use Rattle.go_literal_blocks.specs.declared.literals.Literal.{Literal}
use Rattle.go_local_scopes.specs.States.{IsAt}
use Rattle.go_literal_blocks.specs.go_nodes.Trees.{nodes_in}
use Rattle.go_rules.specs.Environments.{Env}
use Rattle.go_statement_rules.specs.Scopes.{Scopes}
use Rattle.go_untyped_places.specs.LiteralRuns.{IsLiteralRun}
use Rattle.go_walks.proofs.Gathered.{literals_judged}
use Rattle.go_walks.specs.Below.{blocks_of, enclosing_of}
use Rattle.go_walks.specs.Literals.{EntersLiteral, IsTypedLiteral, LiteralsTyped}
use Rattle.std.proofs.Common.{List, subst, sym}
use Rattle.std.proofs.lemmas.Result.{IfOk-weaker}
use Rattle.go_walks.proofs.walk.Walk.literals.Goals as goal

pub returns-clause-judged : goal.returns-clause-judged
returns-clause-judged g c =
    let w = c.args.self.now.frame.now in
    let B = blocks_of w in
    let r = enclosing_of w in
    let e = c.args.env.now in
    let ns = nodes_in c.args.trees in
    let ls = c.items.result.now in
    IfOk-weaker c.each_literal.result (λ (j : Judged). (E : Env) (s : Scopes) → IsAt E s e → Judges E B (Each (IsTypedLiteral E B r s) ls) (Among (EntersLiteral E B r s) ls) j)
    (λ (j : Judged). (E : Env) (s : Scopes) → IsAt E s e → Judges E B (LiteralsTyped E B r s ns) (IsLiteralRun E B r s ns) j)
    (λ j k E s at. literals_judged E B r s ns ls (subst (λ (xs : List Literal). AreLiteralsOf ns (forms_in xs)) (sym c.items.ensures) c.in_ok-found.ensures) j (k E s at))
    c.each_literal.ensures.judged
