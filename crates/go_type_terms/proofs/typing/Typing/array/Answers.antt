use Rattle.std.proofs.Common.{◌≡◌, ℕ, [], ◌∷◌, Bool, true, subst, sym}
use Rattle.std.specs.Prelude.{pos}
use Rattle.go_model.specs.constants.Constants.{is_representable}
use Rattle.go_model.specs.declared.constants.value.Basic.TheVariants as basic
use Rattle.go_model.specs.declared.constants.value.Value.TheVariants as value
use Rattle.go_rules.specs.Expressions.{Has}
use Rattle.go_rules.specs.Nodes.{expression, type as type_node}
use Rattle.go_rules.specs.declared.operand.Operand.{Operand}
use Rattle.go_rules.proofs.OneOperand.{has_once}
use Rattle.go_type_terms.specs.Answers.{env_in}
use Rattle.go_type_terms.specs.Loudness.{AreLoud}
use Rattle.go_type_terms.proofs.Forms.{in_length, to_array}
use Rattle.go_type_terms.proofs.LoudTrees.{join_loud}
use Rattle.go_type_terms.proofs.typing.Typing.array.Goals as goal

pub returns-in-None : goal.returns-in-None
returns-in-None g c = λ u h.
    let E = env_in c.args.self.now.context.now in
    let l = in_length h in
    c.in-None.ensures l.1 (l.0, has_once E c.in_ok-operand.ensures.0 l.2, subst (λ (b : ℕ). is_representable (value.Int (pos l.1)) basic.Int b ≡ true) (sym c.bits.ensures.bits) l.3)

pub returns : goal.returns
returns g c =
    let E = env_in c.args.self.now.context.now in
    let l = c.in-Some.ensures in (
      to_array l.0 c.in-Some.length c.in_ok-element.element (subst (λ (o : Operand). Has E c.args.length.now o) l.1 c.in_ok-operand.ensures.0) (subst (λ (b : ℕ). is_representable (value.Int (pos c.in-Some.length)) basic.Int b ≡ true) c.bits.ensures.bits l.2) c.in_ok-element.ensures.0,
      subst (λ (b : Bool). AreLoud E (expression c.args.length.now ∷ type_node c.args.element.now ∷ []) b) (sym c.either.ensures)
          (join_loud E (expression c.args.length.now ∷ []) (type_node c.args.element.now ∷ []) _ _ c.in_ok-operand.ensures.1 c.in_ok-element.ensures.1),
    )
