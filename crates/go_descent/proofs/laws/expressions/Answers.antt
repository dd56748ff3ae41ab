use Rattle.std.proofs.Common.{refl}
use Rattle.go_cursor.specs.Skipping.{skipped_body}
use Rattle.go_syntax.specs.grammar.SourceFiles.{Skips}
use Rattle.go_descent.specs.Levels.{levels}
use Rattle.go_descent.specs.Rules.{parts}
use Rattle.go_descent.proofs.Bodies.{skips_known, skips_sound, skips_read}
use Rattle.go_descent.proofs.CompleteLevels.{complete_parts}
use Rattle.go_descent.proofs.CompleteOperators.{expr_read}
use Rattle.go_descent.proofs.SoundLevels.{parts_sound}
use Rattle.go_descent.proofs.SoundOperators.{expr_sound}
use Rattle.go_descent.proofs.laws.expressions.Goals as goal

pub returns-clause-sound : goal.returns-clause-sound
returns-clause-sound c b h ts x rest e = expr_sound Skips (levels h) h (parts_sound Skips (λ _. skipped_body) skips_sound h) b ts x rest e

pub returns-clause-complete : goal.returns-clause-complete
returns-clause-complete c b h ts x rest d over = expr_read skips_known (complete_parts skips_known (λ _. skipped_body) skips_read h) d over

pub returns-clause-lower : goal.returns-clause-lower
unfolding parts
returns-clause-lower c h ts = refl
