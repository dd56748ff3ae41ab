use Rattle.std.proofs.Common.{[], ◌∷◌}
use Rattle.go_rules.specs.Expressions.{OfForm, OfType, of_paren}
use Rattle.go_rules.specs.Nodes.{type as type_node}
use Rattle.go_syntax.specs.declared.types.«Type».{«Type-F» as Typ-F}
use Rattle.go_type_terms.specs.Answers.{env_in}
use Rattle.go_type_terms.proofs.Forms.{in_paren}
use Rattle.go_type_terms.proofs.Handed.{handed}
use Rattle.go_type_terms.proofs.typing.Typing.parenthesized.Goals as goal

pub returns-in_err-term : goal.returns-in_err-term
returns-in_err-term g c =
    let E = env_in c.args.self.now.context.now in
    handed E (OfType E c.args.inner.now) (OfForm E (Typ-F.«Type::Paren» c.args.inner.now)) (type_node c.args.inner.now ∷ []) (type_node c.args.inner.now ∷ []) c.in_err-term.field-0.0 c.from_residual.result c.from_residual.ensures.1 c.in_err-term.ensures (λ u h. (u, in_paren h))

pub returns : goal.returns
returns g c = (of_paren c.in_ok-term.ensures.0, c.in_ok-term.ensures.1)
