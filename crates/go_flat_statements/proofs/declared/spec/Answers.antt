use Rattle.go_declarations.specs.Forms.{form_of}
use Rattle.go_flat_statements.proofs.Declaring.{gives_at, gives_none_at, spec_judged, spec_nothing}
use Rattle.go_judged.proofs.Joining.{judged_to_same}
use Rattle.go_judged.specs.Judging.{with_test}
use Rattle.go_local_scopes.proofs.Standing.{kept_none, kept_same, reaches_at, same_at}
use Rattle.go_local_scopes.specs.States.{Kept, Reaches}
use Rattle.go_local_specs.specs.LocalForms.{objects_in}
use Rattle.go_model.specs.declared.types.package.Entity.{Entity}
use Rattle.go_nodes.specs.Trees.{nodes_in}
use Rattle.go_rules.specs.Scopes.{Scopes as Known}
use Rattle.go_statement_rules.specs.Scopes.{Declares, local_of}
use Rattle.go_statement_rules.specs.Statements.{AreDeclared, some_names}
use Rattle.go_typings.specs.DeclarationNodes.{nodes}
use Rattle.go_typings.specs.Declarations.{names_of}
use Rattle.go_untyped_places.specs.LiteralRuns.{IsLiteralRun}
use Rattle.go_walks.proofs.Gathered.{literals_as}
use Rattle.go_walks.specs.Below.{blocks_of, enclosing_of}
use Rattle.std.proofs.Common.{[], ◌∷◌, ◌∙◌, List, ap, map, subst, sym, false}
use Rattle.go_flat_statements.proofs.declared.spec.Goals as goal

pub returns-in_err-trees-clause-kept : goal.returns-in_err-trees-clause-kept
returns-in_err-trees-clause-kept g c = kept_none c.args.env.now c.requires.opened

pub returns-in_err-literals-clause-kept : goal.returns-in_err-literals-clause-kept
returns-in_err-literals-clause-kept g c = kept_same c.args.env.now c.args.env.now c.literals.new.env c.in_err-literals.ensures.same (kept_none c.args.env.now c.requires.opened)

pub returns-in_err-given-clause-kept : goal.returns-in_err-given-clause-kept
returns-in_err-given-clause-kept g c = kept_same c.args.env.now c.args.env.now c.entities_of.new.env (c.in_err-given.ensures.same ∙ c.in_ok-literals.ensures.same) (kept_none c.args.env.now c.requires.opened)

pub returns-in-None-clause-kept : goal.returns-in-None-clause-kept
returns-in-None-clause-kept g c = kept_same c.args.env.now c.args.env.now c.entities_of.new.env (c.in_ok-given.ensures.same ∙ c.in_ok-literals.ensures.same) (kept_none c.args.env.now c.requires.opened)

pub returns-in-None-clause-judged : goal.returns-in-None-clause-judged
returns-in-None-clause-judged g c = λ l E s at.
    let w = c.args.walk.now.frame.now in
    let B = blocks_of w in
    let r = enclosing_of w in
    let f = form_of c.args.form in
    let j = c.in_ok-literals.literals in
    let x = c.literals.new.env in
    let there = same_at E s c.args.env.now x c.in_ok-literals.ensures.same at in
    judged_to_same E B (AreDeclared E B r s (f ∷ [])) c.entities_of.new.env.opened (IsLiteralRun E B r s (nodes f)) (with_test j false) c.with_test-untyped.result c.with_test-untyped.ensures
    (spec_nothing E B r s f j (literals_as E B r s (nodes_in c.in_ok-trees.trees) (nodes f) c.in_ok-trees.ensures j (c.in_ok-literals.ensures.judged E s at))
    (gives_none_at E s x there f c.in_ok-given.given c.in-None.is (c.in_ok-given.ensures.given l)) c.entities_of.new.env.opened)

pub declare-requires : goal.declare-requires
declare-requires g c = λ e. c.requires.opened (sym (ap (λ (k : Known). k.opened) (c.in_ok-given.ensures.same ∙ c.in_ok-literals.ensures.same)) ∙ e)

pub returns-in_err-declared-clause-kept : goal.returns-in_err-declared-clause-kept
returns-in_err-declared-clause-kept g c = subst (λ (k : Known). Kept k c.declare.new.env) (c.in_ok-given.ensures.same ∙ c.in_ok-literals.ensures.same) c.in_err-declared.ensures.kept

pub returns-clause-kept : goal.returns-clause-kept
returns-clause-kept g c = subst (λ (k : Known). Kept k c.declare.new.env) (c.in_ok-given.ensures.same ∙ c.in_ok-literals.ensures.same) c.in_ok-declared.ensures.kept

pub returns-clause-judged : goal.returns-clause-judged
returns-clause-judged g c = λ l E s at.
    let w = c.args.walk.now.frame.now in
    let B = blocks_of w in
    let r = enclosing_of w in
    let f = form_of c.args.form in
    let j = c.in_ok-literals.literals in
    let x = c.literals.new.env in
    let y = c.entities_of.new.env in
    let there = same_at E s c.args.env.now x c.in_ok-literals.ensures.same at in
    let then = same_at E s x y c.in_ok-given.ensures.same there in
    let t = c.declare.new.env.opened in
    let xs = objects_in c.in-Some.entry in
    let b = c.in_ok-declared.declared in
    judged_to_same E B (AreDeclared E B r s (f ∷ [])) t (IsLiteralRun E B r s (nodes f)) (with_test j b) c.with_test-judged.result c.with_test-judged.ensures
    (spec_judged E B r s f j (literals_as E B r s (nodes_in c.in_ok-trees.trees) (nodes f) c.in_ok-trees.ensures j (c.in_ok-literals.ensures.judged E s at)) xs
    (gives_at E s x there f c.in_ok-given.given c.in-Some.entry c.in-Some.is (c.in_ok-given.ensures.given l)) t b
    (reaches_at E s y then b (λ o. Declares o (some_names (names_of f)) (map local_of xs)) t
    (subst (λ (es : List Entity). Reaches b (Declares y.opened (some_names (names_of f)) (map local_of es)) t) c.objects.ensures (c.in_ok-declared.ensures.declared l))))
