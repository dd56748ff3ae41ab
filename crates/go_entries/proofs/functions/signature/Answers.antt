use Rattle.go_type_terms.specs.Answers.{env_in}
use Rattle.go_entries.proofs.Signatures.{in_signature_of}
use Rattle.go_entries.proofs.functions.signature.Goals as goal

pub returns-in-None : goal.returns-in-None
returns-in-None c = λ g h. c.in-None.ensures g (in_signature_of (env_in c.args.context.now) c.args.written.now c.in_ok-signed.signed c.in_ok-signed.ensures g h)
