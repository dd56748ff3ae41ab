use Rattle.std.proofs.Common.{ℕ, List, ap, ◌∙◌, subst}
use Rattle.go_base.specs.Lists.{Each}
use Rattle.go_nodes.specs.Trees.{texts_of}
use Rattle.go_rules.specs.Asks.{AreDistinctNames, FieldMeets, fields_names}
use Rattle.go_selectors.specs.Answers.{Decides}
use Rattle.go_syntax.specs.declared.types.FieldDecl.{FieldDecl, out-FieldDecl}
use Rattle.go_type_terms.specs.Answers.{env_in}
use Rattle.go_asks.proofs.Both.{first_fails, second_decides}
use Rattle.go_asks.proofs.members.structure_meets.Goals as goal

pub returns-then-not-branch : goal.returns-then-not-branch
returns-then-not-branch c =
    first_fails (AreDistinctNames (fields_names c.args.decls.now)) (Each (λ (x : FieldDecl). FieldMeets (env_in c.args.context.now) (out-FieldDecl x)) c.args.decls.now) c.in_ok-are_distinct.field-0 c.if-not-branch.true
    (subst (λ (ns : List (List ℕ)). Decides c.in_ok-are_distinct.field-0 (AreDistinctNames ns)) (ap texts_of c.items.ensures ∙ c.in_ok-names.ensures) c.in_ok-are_distinct.ensures)

pub returns : goal.returns
returns c =
    second_decides (AreDistinctNames (fields_names c.args.decls.now)) (Each (λ (x : FieldDecl). FieldMeets (env_in c.args.context.now) (out-FieldDecl x)) c.args.decls.now) c.in_ok-are_distinct.field-0 c.if-not-branch.false
    (subst (λ (ns : List (List ℕ)). Decides c.in_ok-are_distinct.field-0 (AreDistinctNames ns)) (ap texts_of c.items.ensures ∙ c.in_ok-names.ensures) c.in_ok-are_distinct.ensures) c.in_ok-each.each c.in_ok-each.ensures
