use Rattle.std.proofs.Common.{◌≡◌, ℕ, Bool, true, List, length, sym, ◌∙◌, subst}
use Rattle.go_met.proofs.MetFlags.{moved_on}
use Rattle.go_graphs.specs.Flags.{AreFlagsOf}
use Rattle.go_packages.specs.go_entries.HadEntries.{entries_at}
use Rattle.go_sifting.specs.Graphs.{Stands}
use Rattle.go_soundness.specs.LostDeclarations.{MeetsAsks}
use Rattle.go_soundness.specs.Settled.{is_had}
use Rattle.go_sources.specs.UnitSources.{source_of}
use Rattle.go_typings.specs.Declarations.{declarations}
use Rattle.go_check.proofs.ListedDeclarations.{listed_length}
use Rattle.go_check.proofs.MovedScopes.{moved_scope}
use Rattle.go_check.proofs.lost.lost.Goals as goal

pub returns-clause-lost : goal.returns-clause-lost
returns-clause-lost c s i =
    let u = source_of c.args.unit.now in
    let a = entries_at c.args.had.now in
    let count = length (declarations u) in
    let met = c.in_ok-met.ensures.met s u a (sym c.requires.listed) (sym c.bytes.ensures) c.requires.pathed i in
    let entered = subst (λ (n : ℕ). AreFlagsOf n (λ m. is_had a m ≡ true) c.in_ok-entered.entered.items) (c.requires.count ∙ listed_length c.args.tables.now.declarations.now (declarations u) c.requires.listed) c.in_ok-entered.ensures in
    let standing = c.in_ok-standing.ensures.stands s u a
    (subst (λ (xs : List Bool). AreFlagsOf count (λ n. is_had a n ≡ true) xs) (sym c.deref.ensures.value) entered)
    (subst (λ (xs : List Bool). AreFlagsOf count (MeetsAsks s u a) xs) (sym c.deref-2.ensures.value) met) in
    c.lost_of.ensures.lost s u a (sym c.requires.listed) c.requires.pathed (moved_scope s u a _ _ c.met.ensures.moved i)
    (subst (λ (xs : List Bool). AreFlagsOf count (Stands s u a) xs) (sym c.deref-3.ensures.value) standing)

pub returns-clause-moved : goal.returns-clause-moved
returns-clause-moved c = moved_on c.args.env.now c.met.new.env c.lost_of.new.env c.met.ensures.moved c.lost_of.ensures.moved
