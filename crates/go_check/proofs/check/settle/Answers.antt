use Rattle.std.proofs.Common.{ap, length, ◌∙◌}
use Rattle.go_check.proofs.ListedDeclarations.{listed_length}
use Rattle.go_check.proofs.MovedScopes.{moved_scope}
use Rattle.go_check.proofs.SameSettings.{all_given, kept_given, same_setting}
use Rattle.go_check.specs.Answers.{setting}
use Rattle.go_packages.specs.go_entries.HadEntries.{entries_at}
use Rattle.go_package_entries.specs.PackageStates.{had_in, scopes_in}
use Rattle.go_package_entries.specs.Settings.{setting_of}
use Rattle.go_sources.specs.UnitSources.{source_of}
use Rattle.go_typings.specs.Declarations.{declarations}
use Rattle.go_check.proofs.check.settle.Goals as goal

pub returns : goal.returns
returns c =
    let s = setting c.args.imports.now c.args.bits c.args.profile in
    let u = source_of c.args.«unit».now in
    let t = setting_of c.in_ok-env.env in
    let had = c.into_parts-env.result.1 in
    let p = c.in_ok-settled.settled in
    let same = same_setting s u _ c.in_ok-env.env c.in_ok-env.ensures in
    let keeps = kept_given s t u (had_in p) had same c.into_parts-env.ensures.had (scopes_in p) c.into_parts-env.result.0 c.into_parts-env.ensures.scopes c.in_ok-settled.ensures.kept in
    let scope = c.kept_scopes.ensures s u (entries_at had) c.into_parts-env.result.0 keeps in
    let lost = c.in_ok-lost.ensures.lost s scope in
    record {
      count = ap length c.into_parts-env.ensures.had ∙ c.in_ok-settled.ensures.count ∙ listed_length c.args.tables.now.declarations.now (declarations u) c.requires.listed;
      flags = lost.0;
      scope = moved_scope s u (entries_at had) _ _ c.lost.ensures.moved scope;
      all = all_given s t u (had_in p) had same c.into_parts-env.ensures.had c.in_ok-settled.ensures.all;
      sifted = lost.1;
    }
