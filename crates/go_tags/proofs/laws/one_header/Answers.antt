use Rattle.go_tags.proofs.OneHeader.{header_once, cause_once, cause_or_header}
use Rattle.go_tags.proofs.laws.one_header.Goals as goal

pub returns-clause-header : goal.returns-clause-header
returns-clause-header c = header_once

pub returns-clause-cause : goal.returns-clause-cause
returns-clause-cause c = cause_once

pub returns-clause-either : goal.returns-clause-either
returns-clause-either c = cause_or_header
