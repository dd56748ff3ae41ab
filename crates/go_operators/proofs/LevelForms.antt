-- The parts of the forms of types.
use Rattle.std.proofs.Common.{◌≡◌, sym, ap, ◌∙◌}
use Rattle.go_model.specs.declared.constants.value.Basic.{Basic}
use Rattle.go_model.specs.declared.types.term.Direction.{Direction}
use Rattle.go_model.specs.declared.types.term.Term.{Term, Term-F, roll-Term, roll-out-Term}
use Rattle.go_model.specs.declared.types.term.Term.TheVariants as term
use Rattle.go_model.specs.declared.types.term.Term.TheVariants.{outs-Plain}
use Rattle.go_model.specs.types.Terms.{Layer}
use Rattle.go_rules.specs.Operands.{basic_term}

pub same_direction : {d f : Direction} {e u : Term} → ◌≡◌ {A = Layer} (Term-F.Chan d e) (Term-F.Chan f u) → d ≡ f
same_direction e = cc

pub same_basic : {b c : Basic} → ◌≡◌ {A = Layer} (Term-F.Plain b) (Term-F.Plain c) → b ≡ c
same_basic e = cc

-- a basic type, as code makes it
pub plain_is : (b : Basic) → term.Plain b ≡ basic_term b
plain_is b = sym (roll-out-Term (term.Plain b)) ∙ ap roll-Term (outs-Plain b)
