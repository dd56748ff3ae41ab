use Rattle.std.proofs.Common.{◌<◌, List, Option, ap, ◌∙◌, length, subst, sym}
use Rattle.go_entries.specs.Entries.{entry_of}
use Rattle.go_entries.specs.declared.entry.Entry.{Entry as Had}
use Rattle.go_entries.specs.HadEntries.{entries_at}
use Rattle.go_package_scopes.specs.KeptScopes.{with_entry}
use Rattle.go_entries.proofs.PutEntries.{put_entry}
use Rattle.go_entries.proofs.had.HadEntries.put.Goals as goal

pub returns-clause-put : goal.returns-clause-put
returns-clause-put c =
    let xs = c.self.inside.entries.items in
    put_entry xs c.args.number c.args.entry (subst (λ (ys : List (Option Had)). c.args.number < length ys) (sym c.self.view_is) c.requires)
    ∙ ap (λ ys. with_entry (entries_at ys) c.args.number (entry_of c.args.entry)) c.self.view_is
