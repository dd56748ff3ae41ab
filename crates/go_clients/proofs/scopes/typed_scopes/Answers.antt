use Rattle.go_check.proofs.SameSettings.{all_given, kept_given, same_setting}
use Rattle.go_client_typings.specs.Clients.{setting}
use Rattle.go_clients.proofs.FoundBodies.{keeps_typing}
use Rattle.go_blocks.specs.go_entries.HadEntries.{entries_at}
use Rattle.go_check.specs.go_package_entries.PackageStates.{had_in, scopes_in}
use Rattle.go_check.specs.go_package_entries.Settings.{setting_of}
use Rattle.go_sources.specs.UnitSources.{source_of}
use Rattle.go_clients.proofs.scopes.typed_scopes.Goals as goal

pub returns-clause-keeps : goal.returns-clause-keeps
returns-clause-keeps c =
    let s = setting c.args.imports.now c.args.bits c.args.profile in
    let u = source_of c.args.«unit».now in
    let t = setting_of c.in_ok-env.env in
    let had = c.into_parts-env.result.1 in
    let p = c.in_ok-settled.settled in
    let same = same_setting s u _ c.in_ok-env.env c.in_ok-env.ensures in
    let keeps = kept_given s t u (had_in p) had same c.into_parts-env.ensures.had (scopes_in p) c.into_parts-env.result.0 c.into_parts-env.ensures.scopes c.in_ok-settled.ensures.kept in
    keeps_typing s u (c.sieve_of_typing.ensures.all s u) (c.entries_of_all.ensures.one s u) (entries_at had) (all_given s t u (had_in p) had same c.into_parts-env.ensures.had c.in_ok-settled.ensures.all) c.into_parts-env.result.0
    (c.kept_scopes.ensures s u (entries_at had) c.into_parts-env.result.0 keeps)

pub returns-clause-opened : goal.returns-clause-opened
returns-clause-opened c =
    let s = setting c.args.imports.now c.args.bits c.args.profile in
    let u = source_of c.args.«unit».now in
    let t = setting_of c.in_ok-env.env in
    let had = c.into_parts-env.result.1 in
    let p = c.in_ok-settled.settled in
    let same = same_setting s u _ c.in_ok-env.env c.in_ok-env.ensures in
    let keeps = kept_given s t u (had_in p) had same c.into_parts-env.ensures.had (scopes_in p) c.into_parts-env.result.0 c.into_parts-env.ensures.scopes c.in_ok-settled.ensures.kept in
    (c.kept_scopes.ensures s u (entries_at had) c.into_parts-env.result.0 keeps).opened
