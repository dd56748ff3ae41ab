use Rattle.std.proofs.Common.{subst}
use Rattle.go_rules.specs.Asks.{HasOperand, IsType, Meets}
use Rattle.go_rules.specs.Expressions.{OfSignature}
use Rattle.go_rules.specs.Regions.{cut}
use Rattle.go_rules.proofs.GrowAsks.{meets_more, operand_more, whole_type_more}
use Rattle.go_rules.proofs.GrowOperand.{signature_more}
use Rattle.go_rules.proofs.GrowTypes.{joined_is}
use Rattle.go_rules.proofs.LocalAsks.{grows_whole, meets_local, operand_local, whole_signature_local, whole_type_local}
use Rattle.go_syntax.specs.declared.types.Signature.{out-Signature as out-Sig}
use Rattle.go_rules.proofs.laws.closed_region.Goals as goal

pub returns-clause-cut : goal.returns-clause-cut
returns-clause-cut c = λ E R e o w h a. (operand_local E R w h a).0

pub returns-clause-operand : goal.returns-clause-operand
returns-clause-operand c = λ E R e o w h a. (operand_local E R w h a).1

pub returns-clause-expression : goal.returns-clause-expression
returns-clause-expression c = λ E F R e o w m h a. subst (λ G. HasOperand G e o) (joined_is (cut R E) F m) (operand_more (cut R E) F m (operand_local E R w h a).0)

pub returns-clause-of_type : goal.returns-clause-of_type
returns-clause-of_type c = λ E F R t u w m h a. subst (λ G. IsType G t u) (joined_is (cut R E) F m) (whole_type_more (cut R E) F m (whole_type_local E R w h a).0)

pub returns-clause-term : goal.returns-clause-term
returns-clause-term c = λ E R t u w h a. (whole_type_local E R w h a).1

pub returns-clause-signature : goal.returns-clause-signature
returns-clause-signature c = λ E F R g k w m h a. subst (λ G. OfSignature G (out-Sig g).parameters (out-Sig g).result k) (joined_is (cut R E) F m) (signature_more (cut R E) F m (whole_signature_local E R w g h a).0)

pub returns-clause-signature_in : goal.returns-clause-signature_in
returns-clause-signature_in c = λ E R g k w h a. (whole_signature_local E R w g h a).1

pub returns-clause-meets : goal.returns-clause-meets
returns-clause-meets c = λ E F R at w m h a. subst (λ G. Meets G at) (joined_is (cut R E) F m) (meets_more (cut R E) F m (meets_local E R w at h a))

pub returns-clause-whole : goal.returns-clause-whole
returns-clause-whole c = grows_whole
