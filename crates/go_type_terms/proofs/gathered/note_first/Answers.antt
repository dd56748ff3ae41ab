use Rattle.go_type_terms.proofs.Gathering.{notes_new}
use Rattle.go_type_terms.proofs.gathered.note_first.Goals as goal

pub returns : goal.returns
returns c = notes_new c.in_ok-sel.sel c.in_ok-copy.copy c.args.method.now c.args.noted.now.entries c.insert.new.self.entries c.in_ok-sel.ensures c.in_ok-copy.ensures c.requires.keyed c.requires.none c.in_ok-insert.ensures.entries
