use Rattle.std.proofs.Common.{Err, ap, ◌∙◌}
use Rattle.go_client_files.proofs.parsed.blocks_of.Goals as goal

pub returns-in-Err-Syntax-clause-cause : goal.returns-in-Err-Syntax-clause-cause
returns-in-Err-Syntax-clause-cause c = λ blocks h. c.file_blocks.ensures.syntax (c.in-Err-Syntax.is ∙ ap Err c.in-Err-Syntax.field-0-is) blocks h
