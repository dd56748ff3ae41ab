use Rattle.std.proofs.Common.{◌≡◌, ◌≤◌, ◌+◌, ◌∷◌, [], ◌++◌, ℕ, length, refl, sym, ap, ◌∙◌, arith, append_assoc, length-append}
use Rattle.std.specs.Vec.Iter.{into_iter_items}
use Rattle.go_work.proofs.LevelTurns.{turn_held, turn_joins, turn_long, turn_next, turns_done}
use Rattle.go_work.proofs.progress.settle_all.Goals as goal

pub loop-outcome-init : goal.loop-outcome-init
loop-outcome-init c = record { within = c.requires.reached; at = refl; parts = search }

pub bounds-numbers-at : goal.bounds-numbers-at
bounds-numbers-at c =
    let front = c.loop-outcome.yielded in
    let rest = into_iter_items c.next.new.self in
    let parts : front ++ c.in-Some.outcome ∷ rest ≡ c.args.found = ap (λ w. front ++ w) (sym c.in-Some.ensures.steps.0) ∙ c.loop-outcome.invariant.parts in
    turn_long c.args.plan.now c.requires.plan c.args.level c.args.progress.now c.requires.reached c.args.numbers.now c.requires.numbers c.args.found c.requires.found front rest c.in-Some.outcome parts c.loop-outcome.at c.loop-outcome.invariant.at

pub settle-requires-clause-held : goal.settle-requires-clause-held
settle-requires-clause-held c =
    let front = c.loop-outcome.yielded in
    let rest = into_iter_items c.next.new.self in
    let parts : front ++ c.in-Some.outcome ∷ rest ≡ c.args.found = ap (λ w. front ++ w) (sym c.in-Some.ensures.steps.0) ∙ c.loop-outcome.invariant.parts in
    turn_held c.args.plan.now c.requires.plan c.args.level c.args.progress.now c.requires.reached c.args.numbers.now c.requires.numbers c.args.found c.requires.found front rest c.in-Some.outcome parts c.loop-outcome.at c.loop-outcome.invariant.at
    c.loop-outcome.progress c.loop-outcome.invariant.within

pub settle-requires-clause-joins : goal.settle-requires-clause-joins
settle-requires-clause-joins c =
    let front = c.loop-outcome.yielded in
    let rest = into_iter_items c.next.new.self in
    let parts : front ++ c.in-Some.outcome ∷ rest ≡ c.args.found = ap (λ w. front ++ w) (sym c.in-Some.ensures.steps.0) ∙ c.loop-outcome.invariant.parts in
    turn_joins c.args.plan.now c.requires.plan c.args.level c.args.progress.now c.requires.reached c.args.numbers.now c.requires.numbers c.args.found c.requires.found front rest c.in-Some.outcome parts c.loop-outcome.at c.loop-outcome.invariant.at
    c.loop-outcome.progress c.loop-outcome.invariant.within c.packages-packages.ensures.world

pub loop-outcome-preserved : goal.loop-outcome-preserved
loop-outcome-preserved c =
    let front = c.loop-outcome.yielded in
    let rest = into_iter_items c.next.new.self in
    let parts : front ++ c.in-Some.outcome ∷ rest ≡ c.args.found = ap (λ w. front ++ w) (sym c.in-Some.ensures.steps.0) ∙ c.loop-outcome.invariant.parts in
    record {
      within =
          turn_next c.args.plan.now c.requires.plan c.args.level c.args.progress.now c.requires.reached c.args.numbers.now c.requires.numbers c.args.found c.requires.found front rest c.in-Some.outcome parts c.loop-outcome.at
          c.loop-outcome.invariant.at c.loop-outcome.progress c.loop-outcome.invariant.within c.settle.new.progress c.in_ok-settle.ensures;
      at = ap (λ (n : ℕ). n + 1) c.loop-outcome.invariant.at ∙ sym (length-append front (c.in-Some.outcome ∷ []));
      parts = append_assoc front (c.in-Some.outcome ∷ []) rest ∙ parts;
    }

pub returns : goal.returns
returns c =
    let long : length c.args.numbers.now ≤ c.loop-outcome.at = (
    let many = c.requires.found.many in
    let at = c.loop-outcome.invariant.at in
    let parts = ap length c.loop-outcome.invariant.parts in
    let all = length-append c.loop-outcome.yielded (into_iter_items c.loop-outcome.outcome-iterator) in
    let none = c.in-None.ensures.steps.0 in
    let rest = c.loop-outcome.outcome-iterator.rest.ok.0 in
    omega (arith, many, at, parts, all, none, rest)
    ) in
    turns_done c.args.plan.now c.args.level c.args.progress.now.end c.args.progress.now.world c.args.numbers.now c.loop-outcome.at c.loop-outcome.progress long c.loop-outcome.invariant.within c.requires.numbers
