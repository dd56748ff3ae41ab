use Rattle.go_nodes.proofs.MeetsParts.{meets_here, meets_parts, meets_whole}
use Rattle.go_nodes.proofs.laws.asked_by_parts.Goals as goal

pub returns-clause-here : goal.returns-clause-here
returns-clause-here c = meets_here

pub returns-clause-apart : goal.returns-clause-apart
returns-clause-apart c = meets_parts

pub returns-clause-together : goal.returns-clause-together
returns-clause-together c = meets_whole
