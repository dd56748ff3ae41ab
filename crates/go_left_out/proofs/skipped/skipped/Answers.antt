use Rattle.std.proofs.Common.{◌<◌, ◌≤◌, ◌+◌, List, ℕ, ap, arith, length, sym, subst, inl, inr}
use Rattle.go_import_uses.proofs.go_beyond_proofs.DecidedFlags.{listed_length}
use Rattle.go_declarations.specs.Listings.{declarations_of}
use Rattle.go_exposed.specs.SkippedValues.{cause_of}
use Rattle.go_exposed.specs.declared.skipped.Skipped.{Skipped}
use Rattle.go_graphs.specs.Flags.{is_flagged}
use Rattle.go_graphs.proofs.Flagging.{either}
use Rattle.go_left_out.proofs.SkippedSoFar.{SoFar, so_far_all, so_far_kept, so_far_more, so_far_none}
use Rattle.go_left_out.specs.inner.Shown.{IsShown}
use Rattle.go_typings.specs.Declarations.{Declaration, declarations}
use Rattle.go_left_out.proofs.skipped.skipped.Goals as goal

pub loop-number-init : goal.loop-number-init
loop-number-init c s u a same apart all sifted are told = subst (SoFar s u c.args.lost.now 0) (sym c.new-skipped.ensures) (so_far_none s u c.args.lost.now)

pub loop-number-preserved : goal.loop-number-preserved
loop-number-preserved c s u a same apart all sifted are told =
    let i = c.loop-number.number in
    let h = c.loop-number-test.true in
    let m = listed_length c.args.declarations.now in
    let e = ap length same in
    let l : i < length (declarations u) = omega (arith, h, m, e) in
    let w = c.loop-number.invariant s u a same apart all sifted are told in
    elim (either (is_flagged c.args.lost.now i)) [
      | inl f ↦ (let k = c.in_ok-push_at.ensures.more s u a same are told f in
          subst (SoFar s u c.args.lost.now (i + 1)) (sym k.1)
          (so_far_more s u c.args.lost.now i c.loop-number.skipped l w k.0 f (subst (λ (ds : List Declaration). IsShown ds i k.0) (sym same) k.2) (c.cause_of_sieve.ensures.tells s u a (is_flagged c.args.lost.now) i (cause_of k.0.cause) apart all sifted k.3)))
      | inr f ↦ subst (SoFar s u c.args.lost.now (i + 1)) (sym (c.in_ok-push_at.ensures.kept f)) (so_far_kept s u c.args.lost.now i c.loop-number.skipped l w f)
    ]

pub returns : goal.returns
returns c s u a same apart all sifted are told =
    let h = c.loop-number-test.false in
    let m = listed_length c.args.declarations.now in
    let e = ap length same in
    so_far_all s u c.args.lost.now c.loop-number.number c.loop-number.skipped (omega (arith, h, m, e)) (c.loop-number.invariant s u a same apart all sifted are told)
