use Rattle.std.proofs.Common.{Bool, List, ap, length, subst, sym, ◌∙◌}
use Rattle.go_check.specs.Answers.{setting}
use Rattle.go_packages.specs.go_entries.HadEntries.{entries_at}
use Rattle.go_graphs.specs.Flags.{is_flagged}
use Rattle.go_soundness.specs.Settled.{AreSifted}
use Rattle.go_sources.specs.UnitSources.{source_of}
use Rattle.go_check.proofs.check.offer_declarations.Goals as goal

pub answer-requires-clause-flags : goal.answer-requires-clause-flags
answer-requires-clause-flags c = ap length c.deref-2.ensures.value ∙ c.in_ok-settled.ensures.flags

pub returns-clause-answers : goal.returns-clause-answers
returns-clause-answers c =
    let s = setting c.args.imports.now c.args.bits c.args.profile in
    let u = source_of c.args.«unit».now in
    let r = c.in_ok-settled.ensures in
    c.answer.ensures.answers s (c.apart_from_world.ensures s u c.packages-packages.ensures.world c.requires.pathed c.requires.absent) r.scope r.all
    (subst (λ (xs : List Bool). AreSifted s u (entries_at c.in_ok-settled.settled.had) (is_flagged xs)) (sym c.deref-2.ensures.value) r.sifted)

pub returns-clause-skipped : goal.returns-clause-skipped
returns-clause-skipped c =
    let s = setting c.args.imports.now c.args.bits c.args.profile in
    let u = source_of c.args.«unit».now in
    let r = c.in_ok-settled.ensures in
    c.answer.ensures.skipped s (c.apart_from_world.ensures s u c.packages-packages.ensures.world c.requires.pathed c.requires.absent) r.scope r.all
    (subst (λ (xs : List Bool). AreSifted s u (entries_at c.in_ok-settled.settled.had) (is_flagged xs)) (sym c.deref-2.ensures.value) r.sifted)
