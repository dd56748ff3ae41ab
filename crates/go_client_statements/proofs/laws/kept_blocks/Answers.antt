use Rattle.go_client_statements.proofs.Bodies.{body_kept, outside_kept}
use Rattle.go_client_statements.proofs.Statements.{typed_kept}
use Rattle.go_client_statements.proofs.laws.kept_blocks.Goals as goal

pub returns-clause-statements : goal.returns-clause-statements
returns-clause-statements c = λ E F r pairs std is_open K blocks f s t ss h i x. typed_kept E F r pairs std is_open K blocks h i x

pub returns-clause-bodies : goal.returns-clause-bodies
returns-clause-bodies c = λ E F r pairs std is_open K blocks f m n x. body_kept E F r pairs std is_open K blocks f m n x

pub returns-clause-outside : goal.returns-clause-outside
returns-clause-outside c = λ E F r pairs std is_open K blocks at m x. outside_kept E F r pairs std is_open K blocks at m x
