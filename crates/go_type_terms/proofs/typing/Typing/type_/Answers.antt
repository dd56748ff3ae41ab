use Rattle.std.proofs.Common.{[], ◌∷◌}
use Rattle.go_rules.specs.Expressions.{OfForm, OfType, of_type}
use Rattle.go_rules.specs.Nodes.{type as type_node, type_parts}
use Rattle.go_syntax.specs.declared.types.«Type».{«out-Type» as out-Typ}
use Rattle.go_type_terms.specs.Answers.{env_in}
use Rattle.go_type_terms.proofs.Forms.{beyond, in_type}
use Rattle.go_type_terms.proofs.Handed.{handed}
use Rattle.go_type_terms.proofs.LoudTrees.{parts_loud}
use Rattle.go_type_terms.proofs.typing.Typing.type_.Goals as goal

pub returns-in_err-term : goal.returns-in_err-term
returns-in_err-term g c =
    let E = env_in c.args.self.now.context.now in
    let t = c.args.form.now in
    handed E (OfForm E (out-Typ t)) (OfType E t) (type_parts (out-Typ t)) (type_node t ∷ []) c.in_err-term.field-0.0 c.from_residual.result c.from_residual.ensures.1 c.in_err-term.ensures (λ u h. (u, (in_type h).0))

pub returns-then-not-is_within_bounds : goal.returns-then-not-is_within_bounds
returns-then-not-is_within_bounds g c = beyond c.args.form.now c.in_ok-term.term c.is_within_bounds.result c.in_ok-term.ensures.0 c.is_within_bounds.ensures c.if-not-is_within_bounds.true

pub returns : goal.returns
returns g c = (
  of_type c.in_ok-term.ensures.0 (c.is_within_bounds.ensures.0 c.if-not-is_within_bounds.false),
  parts_loud (env_in c.args.self.now.context.now) (type_node c.args.form.now) (λ x e. absurd (cc)) c.in_ok-term.loud c.in_ok-term.ensures.1,
)
