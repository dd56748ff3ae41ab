use Rattle.std.proofs.Common.{◌<◌, List, Option, None, ap, ◌∙◌, length, nat_eq, subst, sym}
use Rattle.std.specs.Prelude.{if◌then◌else◌}
use Rattle.go_entries.specs.declared.entry.Entry.{Entry as Had}
use Rattle.go_entries.specs.HadEntries.{entries_at}
use Rattle.go_entries.proofs.RemovedEntries.{removed_entry}
use Rattle.go_entries.proofs.had.HadEntries.remove.Goals as goal

pub returns-clause-removed : goal.returns-clause-removed
returns-clause-removed c = λ m.
    let xs = c.self.inside.entries.items in
    removed_entry xs c.args.number (subst (λ (ys : List (Option Had)). c.args.number < length ys) (sym c.self.view_is) c.requires) m
    ∙ ap (λ ys. if nat_eq m c.args.number then None else entries_at ys m) c.self.view_is
