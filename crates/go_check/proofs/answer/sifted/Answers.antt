use Rattle.std.proofs.Common.{◌≡◌, ◌<◌, ℕ, Bool, List, arith, length, subst, sym}
use Rattle.go_check.proofs.ListedDeclarations.{listed_at}
use Rattle.go_check.proofs.MovedScopes.{moved_scope}
use Rattle.go_check.proofs.WrongOnes.{may_leave_out, wrong_counts, wrong_lost}
use Rattle.go_declarations.specs.Listings.{declaration_of}
use Rattle.go_declarations.specs.declared.listing.Declaration.{Declaration}
use Rattle.go_packages.specs.go_entries.HadEntries.{entries_at}
use Rattle.go_exposed.specs.ExposedDeclarations.{IsExposed}
use Rattle.go_exposed.specs.ToldBeyond.{IsToldBeyond}
use Rattle.go_graphs.specs.Flags.{AreFlagsOf, is_flagged}
use Rattle.go_sifting.specs.Graphs.{AreRows}
use Rattle.go_soundness.specs.LostDeclarations.{Depends}
use Rattle.go_sources.specs.UnitSources.{source_of}
use Rattle.go_typings.specs.Declarations.{declarations}
use Rattle.go_typings.specs.Refusals.{place_of}
use Rattle.go_check.proofs.answer.sifted.Goals as goal

pub returns-in-Some-clause-answers : goal.returns-in-Some-clause-answers
returns-in-Some-clause-answers c s apart scope all sifted =
    let u = source_of c.args.«unit».now in
    let a = entries_at c.args.had in
    let lost = c.args.lost.now in
    let l = is_flagged lost in
    let count = length (declarations u) in
    let rows = subst (AreRows s u a (Depends s u a)) (sym c.items-depends.ensures) (c.in_ok-graph.ensures.graph s u a (sym c.requires.listed) c.requires.pathed scope).depends in
    let inexact = c.in_ok-inexact.ensures.flags s u a (sym c.requires.listed) c.requires.pathed (moved_scope s u a _ _ c.graph.ensures.moved scope) rows in
    let told = c.in_ok-told.ensures s a l rows inexact in
    let seen = subst (λ (xs : List Bool). AreFlagsOf count (IsExposed u) xs) (sym c.deref.ensures.value) (c.in_ok-seen.ensures s a rows) in
    let beyond = subst (λ (xs : List Bool). AreFlagsOf count (IsToldBeyond s u a l) xs) (sym c.deref-2.ensures.value) told.beyond in
    let tells = λ (m : ℕ). c.beyond_of_sieve.ensures.tells s u a l m apart all sifted in
    let back = λ (m : ℕ). c.beyond_of_sieve.ensures.told s u a l m apart all sifted in
    let n = c.in-Some.number in
    let first = c.in-Some.ensures.some in
    let within : n < count = subst (λ k. n < k) c.requires.flags first.0 in
    c.offered_or_refused.ensures.refused s u a l n c.place_of.result apart c.requires.once c.requires.found all sifted (wrong_lost lost c.deref.result.now c.deref-2.result.now n first.1)
    (wrong_counts s u a lost c.deref.result.now c.deref-2.result.now seen beyond tells back n within first.1)
    (λ m i f. may_leave_out s u a lost c.deref.result.now c.deref-2.result.now seen beyond tells back m (omega (arith, i, within)) (first.2 m i) f)
    (listed_at c.args.tables.now.declarations.now (declarations u) n c.index-tables-number.result (λ d. place_of d ≡ c.place_of.result) c.requires.listed within c.index-tables-number.is
    (subst (λ (d : Declaration). place_of (declaration_of d) ≡ c.place_of.result) (sym c.index-tables-number.is) (sym c.place_of.ensures)))

pub returns-in-Ok-clause-answers : goal.returns-in-Ok-clause-answers
returns-in-Ok-clause-answers c s apart scope all sifted =
    let u = source_of c.args.«unit».now in
    let a = entries_at c.args.had in
    let lost = c.args.lost.now in
    let l = is_flagged lost in
    let count = length (declarations u) in
    let rows = subst (AreRows s u a (Depends s u a)) (sym c.items-depends.ensures) (c.in_ok-graph.ensures.graph s u a (sym c.requires.listed) c.requires.pathed scope).depends in
    let inexact = c.in_ok-inexact.ensures.flags s u a (sym c.requires.listed) c.requires.pathed (moved_scope s u a _ _ c.graph.ensures.moved scope) rows in
    let told = c.in_ok-told.ensures s a l rows inexact in
    let seen = subst (λ (xs : List Bool). AreFlagsOf count (IsExposed u) xs) (sym c.deref.ensures.value) (c.in_ok-seen.ensures s a rows) in
    let beyond = subst (λ (xs : List Bool). AreFlagsOf count (IsToldBeyond s u a l) xs) (sym c.deref-2.ensures.value) told.beyond in
    let tells = λ (m : ℕ). c.beyond_of_sieve.ensures.tells s u a l m apart all sifted in
    let back = λ (m : ℕ). c.beyond_of_sieve.ensures.told s u a l m apart all sifted in
    c.in-Ok.ensures.answers s apart all sifted (λ m i f. may_leave_out s u a lost c.deref.result.now c.deref-2.result.now seen beyond tells back m i (c.in-None.ensures.none m (subst (λ k. m < k) (sym c.requires.flags) i)) f)

pub returns-in-Ok-clause-skipped : goal.returns-in-Ok-clause-skipped
returns-in-Ok-clause-skipped c s apart scope all sifted =
    let u = source_of c.args.«unit».now in
    let a = entries_at c.args.had in
    let lost = c.args.lost.now in
    let l = is_flagged lost in
    let count = length (declarations u) in
    let rows = subst (AreRows s u a (Depends s u a)) (sym c.items-depends.ensures) (c.in_ok-graph.ensures.graph s u a (sym c.requires.listed) c.requires.pathed scope).depends in
    let inexact = c.in_ok-inexact.ensures.flags s u a (sym c.requires.listed) c.requires.pathed (moved_scope s u a _ _ c.graph.ensures.moved scope) rows in
    let told = c.in_ok-told.ensures s a l rows inexact in
    let seen = subst (λ (xs : List Bool). AreFlagsOf count (IsExposed u) xs) (sym c.deref.ensures.value) (c.in_ok-seen.ensures s a rows) in
    let beyond = subst (λ (xs : List Bool). AreFlagsOf count (IsToldBeyond s u a l) xs) (sym c.deref-2.ensures.value) told.beyond in
    let tells = λ (m : ℕ). c.beyond_of_sieve.ensures.tells s u a l m apart all sifted in
    let back = λ (m : ℕ). c.beyond_of_sieve.ensures.told s u a l m apart all sifted in
    c.in-Ok.ensures.skipped s apart all sifted (λ m i f. may_leave_out s u a lost c.deref.result.now c.deref-2.result.now seen beyond tells back m i (c.in-None.ensures.none m (subst (λ k. m < k) (sym c.requires.flags) i)) f) rows told
