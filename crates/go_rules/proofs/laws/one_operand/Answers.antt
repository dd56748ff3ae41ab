use Rattle.std.proofs.Common.{refl}
use Rattle.go_rules.proofs.OneOperand.{has_once, form_once, logical_once, comparisons_once, sum_once, product_once, posts_once, post_once, builtin_once, quiet_or_loud}
use Rattle.go_rules.proofs.laws.one_operand.Goals as goal

pub returns-clause-whole : goal.returns-clause-whole
returns-clause-whole c = λ E e o p a b. has_once E a.is b.is

pub returns-clause-expression : goal.returns-clause-expression
returns-clause-expression c = λ E e o p a b. has_once E a b

pub returns-clause-form : goal.returns-clause-form
returns-clause-form c = λ E l o p a b. form_once E a b

pub returns-clause-logical : goal.returns-clause-logical
returns-clause-logical c = λ E op o es r s a b. logical_once E a refl b

pub returns-clause-comparisons : goal.returns-clause-comparisons
returns-clause-comparisons c = λ E o ops es r s a b. comparisons_once E a refl b

pub returns-clause-sums : goal.returns-clause-sums
returns-clause-sums c = λ E o ops es r s a b. sum_once E a refl b

pub returns-clause-products : goal.returns-clause-products
returns-clause-products c = λ E o ops es r s a b. product_once E a refl b

pub returns-clause-posts : goal.returns-clause-posts
returns-clause-posts c = λ E o xs r s a b. posts_once E a refl b

pub returns-clause-post : goal.returns-clause-post
returns-clause-post c = λ E o l r s a b. post_once E a refl b

pub returns-clause-builtin : goal.returns-clause-builtin
returns-clause-builtin c = λ E f es dots r s a b. builtin_once E a b

pub returns-clause-quiet : goal.returns-clause-quiet
returns-clause-quiet c = λ E e a b. quiet_or_loud E a b
