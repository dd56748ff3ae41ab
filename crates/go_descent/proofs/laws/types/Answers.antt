use Rattle.std.proofs.Common.{suc}
use Rattle.go_cursor.specs.Skipping.{skipped_body}
use Rattle.go_syntax.specs.grammar.SourceFiles.{Skips}
use Rattle.go_descent.proofs.Bodies.{skips_known, skips_sound, skips_read}
use Rattle.go_descent.proofs.CompleteLevels.{complete_parts}
use Rattle.go_descent.proofs.SoundLevels.{parts_sound}
use Rattle.go_descent.proofs.laws.types.Goals as goal

pub returns-clause-sound : goal.returns-clause-sound
returns-clause-sound c h ts t rest e = (parts_sound Skips (λ _. skipped_body) skips_sound (suc h)).typ ts t rest e

pub returns-clause-complete : goal.returns-clause-complete
returns-clause-complete c h ts t rest d = (complete_parts skips_known (λ _. skipped_body) skips_read (suc h)).reads_typ ts t rest d
