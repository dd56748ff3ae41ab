use Rattle.std.proofs.Common.{Bool, sym, subst}
use Rattle.go_operations.specs.go_type_terms.Answers.{env_in}
use Rattle.go_operations.specs.go_type_terms.Loudness.{AreLoud}
use Rattle.go_literals.specs.Elements.{parts_of}
use Rattle.go_literals.proofs.Parts.{element_loud}
use Rattle.go_literals.proofs.values.Literals.indexed_fits.Goals as goal

pub returns : goal.returns
returns g c =
    let E = env_in c.args.self.now.operations.typing.context.now in
    ((c.in_ok-place.ensures.0, c.in_ok-louder.ensures.0), subst (λ (b : Bool). AreLoud E (parts_of c.args.element.now) b) (sym c.either.ensures) (element_loud E c.args.element.now c.in_ok-place.loud c.in_ok-louder.louder c.in_ok-place.ensures.1 c.in_ok-louder.ensures.1))
