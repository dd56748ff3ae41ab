use Rattle.std.proofs.Common.{List, Option, Some, refl, sym, ap, subst, ◌∙◌}
use Rattle.go_syntax.specs.declared.statement.TypeCase.{out-TypeCase}
use Rattle.go_syntax.specs.declared.types.«Type».{«Type» as Typ}
use Rattle.go_type_terms.specs.Answers.{env_in}
use Rattle.go_type_switches.specs.inner.Listing.{PushesListed}
use Rattle.go_type_switches.proofs.Listing.{pushes_none}
use Rattle.go_type_switches.proofs.clauses.push_clause.Goals as goal

pub returns-in-Some : goal.returns-in-Some
returns-in-Some c =
    subst (λ (ts : Option (List Typ)). PushesListed (env_in c.args.context.now) c.args.interface.now ts c.args.all.now c.push_forms.new.all c.push_forms.result) (ap Some c.items.ensures ∙ sym c.in-Some.is) c.push_forms.ensures

pub returns-in-None : goal.returns-in-None
returns-in-None c = pushes_none (env_in c.args.context.now) c.args.interface.now (out-TypeCase c.args.clause.now).types c.args.all.now c.args.all.now c.in-None.is refl
