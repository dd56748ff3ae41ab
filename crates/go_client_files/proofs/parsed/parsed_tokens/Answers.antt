use Rattle.go_client_files.proofs.ParsedFiles.{no_blocks}
use Rattle.go_client_files.proofs.parsed.parsed_tokens.Goals as goal

pub returns-in-Err-blocks_of-clause-cause : goal.returns-in-Err-blocks_of-clause-cause
returns-in-Err-blocks_of-clause-cause c = no_blocks c.one_tree.ensures.same c.args.tokens.now c.in-Ok.outline c.in-Ok.ensures.ok c.in-Err-blocks_of.error c.in-Err-blocks_of.ensures.cause
