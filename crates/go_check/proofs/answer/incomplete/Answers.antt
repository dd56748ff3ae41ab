use Rattle.std.proofs.Common.{◌≡◌, subst, sym}
use Rattle.go_check.proofs.LeftEntries.{left_entries}
use Rattle.go_packages.specs.go_entries.HadEntries.{entries_at}
use Rattle.go_exposed.specs.KeptDeclarations.{entries_of, not_lost}
use Rattle.go_exposed.specs.OfferedPackages.{IsPackageOf}
use Rattle.go_graphs.specs.Flags.{is_flagged}
use Rattle.go_sources.specs.UnitSources.{source_of}
use Rattle.go_typings.specs.PackageEnvironments.{Entries}
use Rattle.go_typings.specs.Typings.{Typing}
use Rattle.go_check.proofs.answer.incomplete.Goals as goal

pub returns-clause-answers : goal.returns-clause-answers
returns-clause-answers c s apart all sifted leaves =
    let u = source_of c.args.«unit».now in
    let a = entries_at c.args.had in
    let l = is_flagged c.args.lost.now in
    let left = left_entries u c.args.lost.now c.args.had c.leave_only.new.had c.requires.count c.leave_only.ensures.count c.leave_only.ensures.kept in
    let typing = subst (Typing s u (not_lost u l)) (sym left) (c.sieve_of_kept.ensures.typing s u a l apart all sifted) in
    c.offered_or_refused.ensures.offered s u a l c.in_ok-package.«package» apart c.requires.once c.requires.found all sifted leaves
    (subst (λ (b : Entries). IsPackageOf u b c.in_ok-package.«package») left (c.in_ok-package.ensures s (not_lost u l) typing))

pub returns-clause-skipped : goal.returns-clause-skipped
returns-clause-skipped c s apart all sifted leaves rows told =
    let u = source_of c.args.«unit».now in
    let a = entries_at c.args.had in
    let l = is_flagged c.args.lost.now in
    record {
      within = not_lost u l;
      entries = entries_of (not_lost u l) a;
      kept = c.offered_or_refused.ensures.kept s u a l apart all sifted leaves;
      skipped = c.in_ok-skipped.ensures s u a (sym c.requires.listed) apart all sifted rows told;
    }
