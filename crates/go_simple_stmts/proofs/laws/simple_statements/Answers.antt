use Rattle.go_cursor.specs.Skipping.{skipped_body}
use Rattle.go_descent.specs.Levels.{levels}
use Rattle.go_descent.proofs.Bodies.{skips_known, skips_read, skips_sound}
use Rattle.go_descent.proofs.CompleteLevels.{complete_parts}
use Rattle.go_descent.proofs.CompleteOperators.{expr_read}
use Rattle.go_descent.proofs.SoundLevels.{parts_sound}
use Rattle.go_descent.proofs.SoundOperators.{expr_sound}
use Rattle.go_syntax.specs.grammar.SourceFiles.{Skips}
use Rattle.go_simple_stmts.proofs.CompleteSimple.{simple_read}
use Rattle.go_simple_stmts.proofs.SoundSimple.{simple_sound}
use Rattle.go_simple_stmts.proofs.laws.simple_statements.Goals as goal

pub returns-clause-sound : goal.returns-clause-sound
returns-clause-sound c b h ts k rest e = simple_sound Skips b h (levels h) (expr_sound Skips (levels h) h (parts_sound Skips (λ _. skipped_body) skips_sound h) b) ts k rest e

pub returns-clause-complete : goal.returns-clause-complete
returns-clause-complete c b h ts k rest d o =
    simple_read skips_known b h (levels h) (λ us x rest d o. expr_read skips_known (complete_parts skips_known (λ _. skipped_body) skips_read h) d o) d o
