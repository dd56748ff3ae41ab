use Rattle.std.proofs.Common.{subst}
use Rattle.go_rules.specs.Asks.{HasOperand, IsType, Meets}
use Rattle.go_rules.specs.Expressions.{Has, HasBuiltin, HasElements, HasPosts, OfSignature, OfType}
use Rattle.go_rules.proofs.GrowAsks.{meets_more, operand_more, whole_type_more}
use Rattle.go_rules.proofs.GrowOperand.{all_posts, builtin_more, elements_more, has_more, signature_more, type_more}
use Rattle.go_rules.proofs.GrowTypes.{joined_is}
use Rattle.go_rules.proofs.laws.grow.Goals as goal

pub returns-clause-whole : goal.returns-clause-whole
returns-clause-whole c = λ E F e o m a. subst (λ G. HasOperand G e o) (joined_is E F m) (operand_more E F m a)

pub returns-clause-expression : goal.returns-clause-expression
returns-clause-expression c = λ E F e o m a. subst (λ G. Has G e o) (joined_is E F m) (has_more E F m a)

pub returns-clause-posts : goal.returns-clause-posts
returns-clause-posts c = λ E F o r xs m a. subst (λ G. HasPosts G o xs r) (joined_is E F m) (all_posts E F m a)

pub returns-clause-builtin : goal.returns-clause-builtin
returns-clause-builtin c = λ E F f es dots r m a. subst (λ G. HasBuiltin G f es dots r) (joined_is E F m) (builtin_more E F m a)

pub returns-clause-elements : goal.returns-clause-elements
returns-clause-elements c = λ E F t xs m a. subst (λ G. HasElements G t xs) (joined_is E F m) (elements_more E F m a)

pub returns-clause-whole_type : goal.returns-clause-whole_type
returns-clause-whole_type c = λ E F t u m a. subst (λ G. IsType G t u) (joined_is E F m) (whole_type_more E F m a)

pub returns-clause-of_type : goal.returns-clause-of_type
returns-clause-of_type c = λ E F t u m a. subst (λ G. OfType G t u) (joined_is E F m) (type_more E F m a)

pub returns-clause-signature : goal.returns-clause-signature
returns-clause-signature c = λ E F ds r g m a. subst (λ G. OfSignature G ds r g) (joined_is E F m) (signature_more E F m a)

pub returns-clause-meets : goal.returns-clause-meets
returns-clause-meets c = λ E F at m a. subst (λ G. Meets G at) (joined_is E F m) (meets_more E F m a)
