use Rattle.std.proofs.Common.{List, subst, sym}
use Rattle.go_check.proofs.NothingLeftOut.{nothing_left_out}
use Rattle.go_packages.specs.go_entries.HadEntries.{entries_at}
use Rattle.go_exposed.specs.SkippedValues.{all_skipped}
use Rattle.go_exposed.specs.SkippedWorlds.{IsSkipped}
use Rattle.go_exposed.specs.declared.skipped.Skipped.{Skipped}
use Rattle.go_graphs.specs.Flags.{is_flagged}
use Rattle.go_sources.specs.UnitSources.{source_of}
use Rattle.go_typings.specs.Assignments.{all_of}
use Rattle.go_typings.specs.Declarations.{declarations}
use Rattle.go_check.proofs.answer.complete.Goals as goal

pub returns-in-Ok-clause-answers : goal.returns-in-Ok-clause-answers
returns-in-Ok-clause-answers c s apart all sifted =
    let u = source_of c.args.«unit».now in
    let a = entries_at c.args.had.now in
    let t = c.typed_or_first_unsound.ensures.typed s u a (is_flagged c.args.lost.now) all sifted (λ n h. c.requires.none n) in
    record {
      once = c.requires.once;
      found = c.requires.found;
      within = all_of (declarations u);
      entries = a;
      kept = c.whole_package.ensures.kept s u a t;
      «package» = c.in-Ok.ensures s (all_of (declarations u)) t;
    }

pub returns-in-Ok-clause-skipped : goal.returns-in-Ok-clause-skipped
returns-in-Ok-clause-skipped c s apart all sifted =
    let u = source_of c.args.«unit».now in
    let a = entries_at c.args.had.now in
    let t = c.typed_or_first_unsound.ensures.typed s u a (is_flagged c.args.lost.now) all sifted (λ n h. c.requires.none n) in
    subst (λ (xs : List Skipped). IsSkipped s u (all_skipped xs)) (sym c.new-skipped.ensures) (nothing_left_out s u a (c.whole_package.ensures.kept s u a t))
