use Rattle.std.proofs.Common.{◌≡◌, Bool, true, arith, ap, map, subst, ◌∙◌}
use Rattle.go_declarations.specs.Listings.{declaration_of}
use Rattle.go_exposed.specs.ImportUses.{SelectsFrom}
use Rattle.go_import_uses.proofs.SeenImports.{none_more, none_seen, seen_here}
use Rattle.go_selectors.specs.Answers.{Decides}
use Rattle.go_sources.specs.UnitSources.{import_of, source_of}
use Rattle.go_import_uses.proofs.needed.is_seen_in.Goals as goal

pub returns-then-found : goal.returns-then-found
returns-then-found c are =
    let u = source_of c.args.«unit».now in
    let i = import_of c.args.«import».now in
    let x = c.index-declarations-number.result in
    seen_here u c.args.declarations.now c.requires c.args.seen.now c.args.file i c.loop-number.number x c.loop-number-test.true c.index-declarations-number.is c.in_ok-found.found
    (subst (λ (b : Bool). Decides c.in_ok-found.found ((b ≡ true) × ((declaration_of x).file ≡ c.args.file) × SelectsFrom u (declaration_of x) i)) c.flag-is_seen.ensures (c.in_ok-found.ensures u (ap (map import_of) c.in_ok-imports.ensures ∙ c.imports_of.ensures))) c.if-found.true are

pub loop-number-preserved : goal.loop-number-preserved
loop-number-preserved c =
    let u = source_of c.args.«unit».now in
    let i = import_of c.args.«import».now in
    let x = c.index-declarations-number.result in
    none_more u c.args.declarations.now c.requires c.args.seen.now c.args.file i c.loop-number.number x c.loop-number-test.true c.index-declarations-number.is c.in_ok-found.found
    (subst (λ (b : Bool). Decides c.in_ok-found.found ((b ≡ true) × ((declaration_of x).file ≡ c.args.file) × SelectsFrom u (declaration_of x) i)) c.flag-is_seen.ensures (c.in_ok-found.ensures u (ap (map import_of) c.in_ok-imports.ensures ∙ c.imports_of.ensures))) c.if-found.false c.loop-number.invariant

pub returns : goal.returns
returns c are = none_seen (source_of c.args.«unit».now) c.args.declarations.now c.requires c.args.seen.now c.args.file (import_of c.args.«import».now) c.loop-number.number (let h = c.loop-number-test.false in omega (arith, h)) c.loop-number.invariant are
