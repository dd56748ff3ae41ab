use Rattle.std.proofs.Common.{List, ℕ, subst, refl, sym}
use Rattle.go_base.specs.Characters.{BeginsPassing}
use Rattle.go_base.specs.Alphabets.{has, BeginsWith}
use Rattle.std.proofs.lemmas.List.{take_rest}
use Rattle.go_base.proofs.Runs.{running_none, running_more, run_smaller, run_done}
use Rattle.go_base.proofs.characters.run_len.Goals as goal

pub loop-len-init : goal.loop-len-init
loop-len-init c = running_none (has c.args.alphabet) c.args.bytes.now

pub loop-len-preserved : goal.loop-len-preserved
loop-len-preserved c =
    running_more (has c.args.alphabet) c.args.bytes.now c.loop-len.at c.in-Some.len c.loop-len.invariant
    (subst (λ (w : List ℕ). BeginsWith (has c.args.alphabet) w c.in-Some.len) (take_rest c.args.bytes.now c.loop-len.at) c.in-Some.ensures.some)

pub loop-len-smaller : goal.loop-len-smaller
loop-len-smaller c =
    run_smaller (has c.args.alphabet) c.args.bytes.now c.loop-len.at c.in-Some.len c.loop-len.invariant
    (subst (λ (w : List ℕ). BeginsWith (has c.args.alphabet) w c.in-Some.len) (take_rest c.args.bytes.now c.loop-len.at) c.in-Some.ensures.some)

pub returns-clause-run : goal.returns-clause-run
returns-clause-run c =
    run_done (has c.args.alphabet) c.args.bytes.now c.loop-len.at c.loop-len.invariant
    (λ b. c.in_default.ensures.none refl (subst (BeginsPassing (has c.args.alphabet)) (sym (take_rest c.args.bytes.now c.loop-len.at)) b))
