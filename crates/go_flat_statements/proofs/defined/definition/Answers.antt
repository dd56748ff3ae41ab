use Rattle.go_assignments.specs.Definitions.{Defines}
use Rattle.go_flat_statements.proofs.Defining.{defined_judged, err_same, undefined_judged}
use Rattle.go_judged.proofs.Joining.{judged_to_same}
use Rattle.go_judged.specs.Judging.{with_test}
use Rattle.go_local_scopes.proofs.Standing.{defines_at, kept_none, kept_same, same_at}
use Rattle.go_local_scopes.specs.States.{Kept}
use Rattle.go_nodes.specs.Trees.{nodes_in}
use Rattle.go_rules.specs.Nodes.{expression}
use Rattle.go_rules.specs.Scopes.{Scopes as Known}
use Rattle.go_syntax.specs.declared.statement.StmtKind.{StmtKind-F}
use Rattle.go_statement_rules.specs.Scopes.{Scopes}
use Rattle.go_statement_rules.specs.Statements.{Leaves}
use Rattle.go_untyped_places.specs.Parts.{IsPart}
use Rattle.go_walks.proofs.Gathered.{literals_as}
use Rattle.go_walks.specs.Below.{blocks_of, enclosing_of}
use Rattle.std.proofs.Common.{false, ap, map, subst, sym, ◌∙◌}
use Rattle.go_flat_statements.proofs.defined.definition.Goals as goal

pub returns-in_err-trees-clause-kept : goal.returns-in_err-trees-clause-kept
returns-in_err-trees-clause-kept g c = kept_none c.args.env.now c.requires.opened

pub returns-in_err-literals-clause-kept : goal.returns-in_err-literals-clause-kept
returns-in_err-literals-clause-kept g c = kept_same c.args.env.now c.args.env.now c.literals.new.env c.in_err-literals.ensures.same (kept_none c.args.env.now c.requires.opened)

pub define-requires-clause-opened : goal.define-requires-clause-opened
define-requires-clause-opened g c = λ e. c.requires.opened (sym (ap (λ (k : Known). k.opened) c.in_ok-literals.ensures.same) ∙ e)

pub returns-in-Ok-clause-kept : goal.returns-in-Ok-clause-kept
returns-in-Ok-clause-kept g c = subst (λ (k : Known). Kept k c.define.new.env) c.in_ok-literals.ensures.same c.in-Ok.ensures.kept

pub returns-in-Ok-clause-judged : goal.returns-in-Ok-clause-judged
returns-in-Ok-clause-judged g c = λ E s at.
    let f = c.args.walk.now.frame.now in
    let there = same_at E s c.args.env.now c.literals.new.env c.in_ok-literals.ensures.same at in
    let j = c.in_ok-literals.literals in
    let t = c.define.new.env.opened in
    defined_judged E (blocks_of f) (enclosing_of f) c.args.names.now c.args.exprs.now s j
    (literals_as E (blocks_of f) (enclosing_of f) s (nodes_in c.in_ok-trees.trees) (map expression c.args.exprs.now) c.in_ok-trees.ensures j (c.in_ok-literals.ensures.judged E s at)) t
    (defines_at E s c.literals.new.env there (λ F o. Defines F o c.args.names.now c.args.exprs.now t) c.in-Ok.ensures.ok)

pub returns-in-Err-Untyped-clause-kept : goal.returns-in-Err-Untyped-clause-kept
returns-in-Err-Untyped-clause-kept g c = subst (λ (k : Known). Kept k c.define.new.env) c.in_ok-literals.ensures.same c.in-Err-Untyped.ensures.kept

pub returns-in-Err-NoMemory-clause-kept : goal.returns-in-Err-NoMemory-clause-kept
returns-in-Err-NoMemory-clause-kept g c = subst (λ (k : Known). Kept k c.define.new.env) c.in_ok-literals.ensures.same c.in-Err-NoMemory.ensures.kept

pub returns-in-Err-Untyped-clause-judged : goal.returns-in-Err-Untyped-clause-judged
returns-in-Err-Untyped-clause-judged g c = λ E s at.
    let f = c.args.walk.now.frame.now in
    let B = blocks_of f in
    let r = enclosing_of f in
    let ns = c.args.names.now in
    let xs = c.args.exprs.now in
    let there = same_at E s c.args.env.now c.literals.new.env c.in_ok-literals.ensures.same at in
    let j = c.in_ok-literals.literals in
    let t = c.define.new.env.opened in
    judged_to_same E B (Leaves E B r s (StmtKind-F.Define ns xs)) t (IsPart E B r s (StmtKind-F.Define ns xs)) (with_test j false) c.with_test.result c.with_test.ensures
    (undefined_judged E B r ns xs s j (literals_as E B r s (nodes_in c.in_ok-trees.trees) (map expression xs) c.in_ok-trees.ensures j (c.in_ok-literals.ensures.judged E s at))
    (defines_at E s c.literals.new.env there (λ F o. (u : Scopes) → Defines F o ns xs u → ⊥) (c.in-Err-Untyped.ensures.untyped (err_same c.in-Err-Untyped.field-0-is))) t)
