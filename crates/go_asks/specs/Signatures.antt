-- A signature together with what is asked in it.
-- Public source: Go specification, "Function types".
use Rattle.go_model.specs.declared.types.term.Signature.{Signature}
use Rattle.go_rules.specs.Asks.{Meets}
use Rattle.go_rules.specs.Environments.{Env}
use Rattle.go_rules.specs.Expressions.{OfSignature}
use Rattle.go_rules.specs.Nodes.{signature}
use Rattle.go_syntax.specs.declared.types.Signature.{Signature as Sig, out-Signature as out-Sig}

-- parameters and a result have this signature, and all that is asked in them is met
pub record IsSignature (E : Env) (g : Sig) (h : Signature) : Type 0 where
  pub of : OfSignature E (out-Sig g).parameters (out-Sig g).result h
  pub meets : Meets E (signature g)
