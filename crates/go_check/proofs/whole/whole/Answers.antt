use Rattle.std.proofs.Common.{◌≡◌, ◌<◌, subst, sym}
use Rattle.go_declarations.specs.Listings.{declaration_of}
use Rattle.go_declarations.specs.declared.listing.Declaration.{Declaration}
use Rattle.go_graphs.specs.Flags.{is_flagged}
use Rattle.go_packages.specs.go_entries.HadEntries.{entries_at}
use Rattle.go_exposed.proofs.WholePackages.{none_missing}
use Rattle.go_sources.specs.UnitSources.{source_of}
use Rattle.go_typings.proofs.FoundImports.{are_found}
use Rattle.go_typings.specs.Assignments.{all_of}
use Rattle.go_typings.specs.Declarations.{declarations}
use Rattle.go_typings.specs.Refusals.{place_of}
use Rattle.go_check.proofs.ListedDeclarations.{listed_at}
use Rattle.go_check.proofs.whole.whole.Goals as goal

pub returns-in-Some : goal.returns-in-Some
returns-in-Some c s apart all sifted =
    let u = source_of c.args.unit.now in
    let a = entries_at c.args.had.now in
    let n = c.in-Some.number in
    let first = c.in-Some.ensures.some in
    c.typed_or_refused.ensures.refused s u a (is_flagged c.args.lost.now) n c.place_of.result apart c.requires.once c.requires.found all sifted first.1 first.2
    (listed_at c.args.tables.now.declarations.now (declarations u) n c.index-tables-number.result (λ d. place_of d ≡ c.place_of.result) c.requires.listed (subst (λ k. n < k) c.requires.flags first.0) c.index-tables-number.is
    (subst (λ (d : Declaration). place_of (declaration_of d) ≡ c.place_of.result) (sym c.index-tables-number.is) (sym c.place_of.ensures)))

pub returns-in-Ok : goal.returns-in-Ok
returns-in-Ok c s apart all sifted =
    let u = source_of c.args.«unit».now in
    let a = entries_at c.args.had.now in
    let t = c.typed_or_first_unsound.ensures.typed s u a (is_flagged c.args.lost.now) all sifted (λ n h. c.in-None.ensures.none n) in
    c.whole_package.ensures.typed s u a c.in-Ok.«package» t c.requires.found (record {
      once = c.requires.once;
      found = none_missing u (are_found u c.requires.found);
      within = all_of (declarations u);
      entries = a;
      kept = c.whole_package.ensures.kept s u a t;
      «package» = c.in-Ok.ensures s (all_of (declarations u)) t;
    })
