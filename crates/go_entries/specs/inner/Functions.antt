-- Signatures of functions and methods.
use Rattle.std.specs.Prelude.{◌≡◌, List, [], ◌∷◌}
use Rattle.go_model.specs.declared.types.package.Entity.{Entity}
use Rattle.go_model.specs.declared.types.package.Entity.TheVariants as entity
use Rattle.go_model.specs.declared.types.term.Signature.{Signature}
use Rattle.go_model.specs.types.Bounds.{IsWithinBounds}
use Rattle.go_rules.specs.Environments.{Env}
use Rattle.go_rules.specs.Expressions.{OfSignature}
use Rattle.go_rules.specs.Operands.{function_of}
use Rattle.go_syntax.specs.declared.types.Signature.{Signature as Sig, out-Signature as out-Sig}

-- the same signature, whose function type is within bounds
abbrev pub IsWithin : Signature → Signature → Type 0
IsWithin g h = (h ≡ g) × IsWithinBounds (function_of h)

-- the signature, within bounds
abbrev pub IsSignatureOf : Env → Sig → Signature → Type 0
IsSignatureOf E s g = OfSignature E (out-Sig s).parameters (out-Sig s).result g × IsWithinBounds (function_of g)

-- what the name of a function denotes
abbrev pub IsFunctionOf : Env → Sig → List Entity → Type 0
IsFunctionOf E s xs = (g : Signature) × IsSignatureOf E s g × (xs ≡ entity.Function g ∷ [])
