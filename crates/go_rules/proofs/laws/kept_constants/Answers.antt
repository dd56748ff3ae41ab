use Rattle.go_rules.proofs.KeptOperands.{has_kept, posts_kept}
use Rattle.go_rules.proofs.laws.kept_constants.Goals as goal

pub returns-clause-expression : goal.returns-clause-expression
returns-clause-expression c = λ E e d v w a. has_kept E w a

pub returns-clause-shape : goal.returns-clause-shape
returns-clause-shape c = λ E e o w a. has_kept E w a

pub returns-clause-posts : goal.returns-clause-posts
returns-clause-posts c = λ E o r xs w h a. posts_kept E w a h
