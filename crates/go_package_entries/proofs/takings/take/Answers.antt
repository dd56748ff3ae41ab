use Rattle.std.proofs.Common.{sym, subst}
use Rattle.std.proofs.lemmas.Result.{on_ok_weaker}
use Rattle.go_declarations.specs.Listings.{declaration_of}
use Rattle.go_package_scopes.specs.KeptScopes.{Keeps}
use Rattle.go_package_entries.proofs.TakenForms.{taken_kept}
use Rattle.go_package_entries.specs.inner.TakenEntries.{entries_of}
use Rattle.go_package_entries.proofs.takings.take.Goals as goal

pub returns-clause-kept : goal.returns-clause-kept
returns-clause-kept c =
    on_ok_weaker c.take_entry.result (λ taken s u listed methods namesakes keeps fresh at fits.
    subst (Keeps s u (entries_of c.args.grown)) (sym taken)
    (taken_kept s u c.args.env.now c.args.tables.now c.args.grown (declaration_of c.args.declaration.now) listed c.requires.names methods namesakes keeps fresh at fits)) c.take_entry.ensures.ok
