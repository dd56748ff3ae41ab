use Rattle.std.proofs.Common.{Some, ap, ◌∙◌, sym}
use Rattle.go_rules.specs.Meanings.{seen_of}
use Rattle.go_type_terms.specs.Answers.{env_in}
use Rattle.go_clauses.proofs.Guarding.{means_decided}
use Rattle.go_clauses.proofs.guards.means_nil.Goals as goal

pub returns-in-Some-Universe : goal.returns-in-Some-Universe
returns-in-Some-Universe c =
    means_decided (env_in c.args.context.now) c.args.name.now c.in-Some-Universe.predeclared c.is_nil_itself.result (sym c.in-Some-Universe.ensures ∙ ap (λ m. Some (seen_of m)) c.in-Some-Universe.field-0-is) c.is_nil_itself.ensures
