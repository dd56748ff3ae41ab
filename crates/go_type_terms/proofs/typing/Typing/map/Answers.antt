use Rattle.std.proofs.Common.{[], ◌∷◌, Bool, subst, sym}
use Rattle.go_rules.specs.Expressions.{OfForm, OfType}
use Rattle.go_rules.specs.Nodes.{type as type_node}
use Rattle.go_syntax.specs.declared.types.«Type».{«Type-F» as Typ-F}
use Rattle.go_type_terms.specs.Answers.{env_in}
use Rattle.go_type_terms.specs.Loudness.{AreLoud}
use Rattle.go_type_terms.proofs.Forms.{in_element, to_map}
use Rattle.go_type_terms.proofs.Handed.{handed}
use Rattle.go_type_terms.proofs.LoudTrees.{join_loud}
use Rattle.go_type_terms.proofs.typing.Typing.map.Goals as goal

pub returns-in_err-element : goal.returns-in_err-element
returns-in_err-element g c =
    let E = env_in c.args.self.now.context.now in
    handed E (OfType E c.args.element.now) (OfForm E (Typ-F.Map c.args.key.now c.args.element.now)) (type_node c.args.element.now ∷ []) (type_node c.args.key.now ∷ type_node c.args.element.now ∷ []) c.in_err-element.field-0.0 c.from_residual-in_err-element.result c.from_residual-in_err-element.ensures.1 c.in_err-element.ensures (λ u h. in_element h)

pub returns : goal.returns
returns g c =
    let E = env_in c.args.self.now.context.now in (
      to_map c.in_ok-key.key c.in_ok-element.element c.in_ok-key.ensures.0 c.in_ok-element.ensures.0,
      subst (λ (b : Bool). AreLoud E (type_node c.args.key.now ∷ type_node c.args.element.now ∷ []) b) (sym c.either.ensures)
          (join_loud E (type_node c.args.key.now ∷ []) (type_node c.args.element.now ∷ []) _ _ c.in_ok-key.ensures.1 c.in_ok-element.ensures.1),
    )
