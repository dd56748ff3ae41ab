use Rattle.go_type_terms.proofs.Gathering.{notes_known}
use Rattle.go_type_terms.proofs.gathered.note.Goals as goal

pub returns-in-Some : goal.returns-in-Some
returns-in-Some c = notes_known c.args.noted.now.entries c.args.method.now c.in-Some.other.now c.same_signature.result c.requires c.in-Some.ensures c.same_signature.ensures
