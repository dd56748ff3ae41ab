use Rattle.std.proofs.Common.{List, [], ◌∷◌, ◌++◌, subst, sym}
use Rattle.go_model.specs.declared.types.term.Term.{Term}
use Rattle.go_syntax.specs.declared.types.FuncResult.{FuncResult-F}
use Rattle.go_rules.specs.Expressions.{OfResult, result_type}
use Rattle.go_type_terms.specs.Answers.{env_in}
use Rattle.go_type_terms.proofs.typing.Typing.result_type.Goals as goal

pub returns : goal.returns
returns g c =
    let E = env_in c.args.self.now.context.now in
    let form = FuncResult-F.«FuncResult::Type» c.args.form.now in
    let t = c.in_ok-term.term in (
      subst (λ (ts : List Term). OfResult E form ts) (sym c.in_ok-push.ensures.ok) (subst (λ (ts : List Term). OfResult E form (ts ++ t ∷ [])) (sym c.new-terms.ensures) (result_type c.in_ok-term.ensures.0)),
      c.in_ok-term.ensures.1,
    )
