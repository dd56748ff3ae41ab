use Rattle.go_local_scopes.proofs.Standing.{kept_none}
use Rattle.go_blocks.proofs.levels.+below.Goals as goal

pub returns-then-height-eq0-clause-kept : goal.returns-then-height-eq0-clause-kept
returns-then-height-eq0-clause-kept t c = kept_none c.args.env.now c.requires
