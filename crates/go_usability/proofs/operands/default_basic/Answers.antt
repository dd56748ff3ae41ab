use Rattle.std.proofs.Common.{ap, ◌∙◌}
use Rattle.go_model.specs.declared.constants.value.Basic.TheVariants as basic
use Rattle.go_model.specs.declared.types.term.Term.{Term-F, out-Term, out-roll-Term}
use Rattle.go_rules.specs.Operands.{default_type}
use Rattle.go_usability.proofs.operands.default_basic.Goals as goal

pub returns-in-IntKind : goal.returns-in-IntKind
returns-in-IntKind c = ap (λ k. out-Term (default_type k)) c.in-IntKind.is ∙ out-roll-Term (Term-F.Plain basic.Int)

pub returns-in-RuneKind : goal.returns-in-RuneKind
returns-in-RuneKind c = ap (λ k. out-Term (default_type k)) c.in-RuneKind.is ∙ out-roll-Term (Term-F.Plain basic.Int32)

pub returns-in-StrKind : goal.returns-in-StrKind
returns-in-StrKind c = ap (λ k. out-Term (default_type k)) c.in-StrKind.is ∙ out-roll-Term (Term-F.Plain basic.Str)

pub returns-in-BoolKind : goal.returns-in-BoolKind
returns-in-BoolKind c = ap (λ k. out-Term (default_type k)) c.in-BoolKind.is ∙ out-roll-Term (Term-F.Plain basic.Bool)
