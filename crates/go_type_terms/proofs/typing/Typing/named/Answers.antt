use Rattle.std.proofs.Common.{[]}
use Rattle.go_rules.specs.Expressions.{IsTypeName, OfForm, of_name}
use Rattle.go_syntax.specs.declared.types.«Type».{«Type-F» as Typ-F}
use Rattle.go_type_terms.specs.Answers.{env_in}
use Rattle.go_type_terms.proofs.Forms.{in_name}
use Rattle.go_type_terms.proofs.Handed.{handed_told}
use Rattle.go_type_terms.proofs.LoudTrees.{none_loud}
use Rattle.go_type_terms.proofs.typing.Typing.named.Goals as goal

pub returns-in_err-term : goal.returns-in_err-term
returns-in_err-term g c =
    let E = env_in c.args.self.now.context.now in
    handed_told E (IsTypeName E c.args.name.now) (OfForm E (Typ-F.«Type::Named» c.args.name.now)) [] c.in_err-term.field-0.0 c.from_residual.result c.from_residual.ensures.1 c.in_err-term.ensures (λ u h. (u, in_name h))

pub returns : goal.returns
returns g c = (of_name c.in_ok-term.ensures, none_loud (env_in c.args.self.now.context.now))
