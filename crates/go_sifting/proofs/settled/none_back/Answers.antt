use Rattle.std.proofs.Common.{◌≡◌, Bool, true, false, List, sym, ◌∙◌, subst, arith}
use Rattle.go_graphs.specs.Flags.{is_flagged}
use Rattle.go_graphs.proofs.Flagging.{apart, flagged_within}
use Rattle.go_sifting.proofs.settled.none_back.Goals as goal

pub returns-clause-yes : goal.returns-clause-yes
returns-clause-yes c e n l h =
    let f = subst (λ (bs : List Bool). is_flagged bs n ≡ false) c.deref.ensures.value (c.none_flagged.ensures.yes e n) in
    apart (sym (c.in_ok-back.ensures.complete n l h) ∙ f)

pub returns-clause-no : goal.returns-clause-no
returns-clause-no c e none =
    let f = c.none_flagged.ensures.no e in
    let g = subst (λ (bs : List Bool). is_flagged bs f.0 ≡ true) c.deref.ensures.value f.1 in
    let l = flagged_within c.in_ok-back.back.items f.0 g in
    let q = c.in_ok-back.ensures.size in
    none f.0 (omega (arith, l, q)) (c.in_ok-back.ensures.sound f.0 g)
