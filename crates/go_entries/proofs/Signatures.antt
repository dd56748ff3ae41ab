-- Signatures within bounds.
use Rattle.go_model.specs.declared.types.term.Signature.{Signature}
use Rattle.go_rules.specs.Environments.{Env}
use Rattle.go_rules.specs.Expressions.{OfSignature}
use Rattle.go_rules.proofs.OneOperand.{signature_once}
use Rattle.go_syntax.specs.declared.types.Signature.{Signature as Sig, out-Signature as out-Sig}
use Rattle.go_entries.specs.inner.Functions.{IsSignatureOf, IsWithin}

-- the signature is the one that was had
pub in_signature_of : (E : Env) (s : Sig) (g : Signature) → OfSignature E (out-Sig s).parameters (out-Sig s).result g → (h : Signature) → IsSignatureOf E s h → IsWithin g h
in_signature_of E s g of h w = (signature_once E w.0 of, w.1)
