use Rattle.std.proofs.Common.{ℕ, List, ◌+◌, arith, length, subst, sym}
use Rattle.go_beyond.proofs.DecidedFlags.{decided_next, listed_length}
use Rattle.go_declarations.specs.Listings.{declarations_of}
use Rattle.go_exposed.specs.BeyondProfile.{SelectsMissing}
use Rattle.go_graphs.specs.Flags.{AreFlagsOf}
use Rattle.go_sources.specs.UnitSources.{source_of}
use Rattle.go_typings.specs.Assignments.{At}
use Rattle.go_typings.specs.Declarations.{Declaration}
use Rattle.go_import_uses.proofs.missing.selecting_missing.Goals as goal

pub loop-number-preserved : goal.loop-number-preserved
loop-number-preserved c =
    let P : Declaration → Type 0 = λ d. SelectsMissing (source_of c.args.«unit».now) d in (
      subst (AreFlagsOf (c.loop-number.number + 1) (λ n. At (declarations_of c.args.declarations.now) n P)) (sym c.in_ok-push.ensures.items)
          (decided_next c.args.declarations.now c.loop-number.number c.index-declarations-number.result P c.loop-number-test.true c.index-declarations-number.is c.loop-number.flags.items c.in_ok-found.found c.loop-number.invariant.0 (c.in_ok-found.ensures (source_of c.args.«unit».now) c.in_ok-imports-2.ensures)),
      c.in_ok-imports-2.ensures,
    )

pub returns : goal.returns
returns c =
    let P : Declaration → Type 0 = λ d. SelectsMissing (source_of c.args.«unit».now) d in
    let h = c.loop-number-test.false in
    let k = c.loop-number.auto.number-end in
    let m = listed_length c.args.declarations.now in
    subst (λ (ds : List Declaration). AreFlagsOf (length ds) (λ n. At ds n P) c.loop-number.flags.items) c.requires
    (subst (λ (n : ℕ). AreFlagsOf n (λ n. At (declarations_of c.args.declarations.now) n P) c.loop-number.flags.items) (omega (arith, h, k, m)) c.loop-number.invariant.0)
