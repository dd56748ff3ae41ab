use Rattle.std.proofs.Common.{◌+◌, subst, sym}
use Rattle.go_beyond.specs.Numbers.{HasNumberAt}
use Rattle.go_beyond.proofs.DecidedFlags.{decided_next}
use Rattle.go_declarations.specs.Forms.{form_of}
use Rattle.go_declarations.specs.declared.listing.Declaration.{Declaration as Borrowed}
use Rattle.go_selectors.specs.Answers.{Decides}
use Rattle.go_declarations.specs.Listings.{declarations_of}
use Rattle.go_exposed.specs.BeyondProfile.{HasNumber}
use Rattle.go_graphs.specs.Flags.{AreFlagsOf}
use Rattle.go_typings.specs.Declarations.{Declaration}
use Rattle.go_beyond.proofs.numbers.having_numbers.Goals as goal

pub loop-number-preserved : goal.loop-number-preserved
loop-number-preserved c =
    subst (AreFlagsOf (c.loop-number.number + 1) (HasNumberAt (declarations_of c.args.declarations.now))) (sym c.in_ok-push.ensures.items)
    (decided_next c.args.declarations.now c.loop-number.number c.index-declarations-number.result (λ (d : Declaration). HasNumber d.form) c.loop-number-test.true c.index-declarations-number.is c.loop-number.flags.items c.in_ok-found.found c.loop-number.invariant
    (subst (λ (x : Borrowed). Decides c.in_ok-found.found (HasNumber (form_of x.form))) (sym c.index-declarations-number.is) c.in_ok-found.ensures))
