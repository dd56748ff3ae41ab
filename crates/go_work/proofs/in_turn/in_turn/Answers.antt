use Rattle.std.proofs.Common.{◌≡◌, ◌+◌, [], ◌∷◌, ◌++◌, arith, sym, ap, ◌∙◌, subst, append_assoc, length-append}
use Rattle.std.specs.Vec.Iter.{into_iter_items}
use Rattle.go_base.specs.Lists.{Has}
use Rattle.go_work.proofs.NextUnits.{has_at, refused_next}
use Rattle.go_work.proofs.TakenUnits.{taken_kept, taken_next, taken_none, taken_world}
use Rattle.go_work.proofs.UnitPrefixes.{imports_typed, unit_absent}
use Rattle.go_work.proofs.in_turn.in_turn.Goals as goal

pub loop-unit-init : goal.loop-unit-init
loop-unit-init g c = record {
  taken = taken_none c.args.bits (record { world = c.empty-world.result; skipped = c.new-skipped.result }) c.empty-world.ensures c.new-skipped.ensures;
  typed = taken_world c.args.bits [] (record { world = c.empty-world.result; skipped = c.new-skipped.result }) (taken_none c.args.bits (record { world = c.empty-world.result; skipped = c.new-skipped.result }) c.empty-world.ensures c.new-skipped.ensures);
  kept = taken_kept c.args.bits [] (record { world = c.empty-world.result; skipped = c.new-skipped.result }) (taken_none c.args.bits (record { world = c.empty-world.result; skipped = c.new-skipped.result }) c.empty-world.ensures c.new-skipped.ensures);
  number = search;
  parts = search;
  steps = omega arith;
}

pub add_next-requires-clause-path : goal.add_next-requires-clause-path
add_next-requires-clause-path g c =
    let u = c.in-Some.«unit» in
    let front = c.loop-unit.yielded in
    let rest = into_iter_items c.next.new.self in
    let parts : c.args.units.packages ≡ front ++ u ∷ rest = sym c.loop-unit.invariant.parts ∙ ap (λ w. front ++ w) c.in-Some.ensures.steps.0 in
    c.requires.paths u (subst (λ us. Has us u) (sym parts) (has_at front rest u))

pub add_next-requires-clause-absent : goal.add_next-requires-clause-absent
add_next-requires-clause-absent g c =
    let u = c.in-Some.«unit» in
    let front = c.loop-unit.yielded in
    let rest = into_iter_items c.next.new.self in
    let parts : c.args.units.packages ≡ front ++ u ∷ rest = sym c.loop-unit.invariant.parts ∙ ap (λ w. front ++ w) c.in-Some.ensures.steps.0 in
    unit_absent c.args.bits c.args.units.packages c.args.units.ordered front rest u parts c.loop-unit.checked.world c.loop-unit.invariant.typed

pub returns-in-Err-clause-answers : goal.returns-in-Err-clause-answers
returns-in-Err-clause-answers g c =
    let u = c.in-Some.«unit» in
    let front = c.loop-unit.yielded in
    let rest = into_iter_items c.next.new.self in
    let parts : c.args.units.packages ≡ front ++ u ∷ rest = sym c.loop-unit.invariant.parts ∙ ap (λ w. front ++ w) c.in-Some.ensures.steps.0 in
    (refused_next c.args.bits front rest u c.loop-unit.checked.world c.loop-unit.invariant.typed
    (imports_typed c.args.bits c.args.units.packages c.args.units.ordered front rest u parts c.loop-unit.checked.world c.loop-unit.invariant.typed u.needed)
    c.args.units.packages c.loop-unit.number c.in-Err.error parts c.loop-unit.invariant.number c.in-Err.ensures.refused).0

pub returns-in-Err-clause-handed : goal.returns-in-Err-clause-handed
returns-in-Err-clause-handed g c =
    let u = c.in-Some.«unit» in
    let front = c.loop-unit.yielded in
    let rest = into_iter_items c.next.new.self in
    let parts : c.args.units.packages ≡ front ++ u ∷ rest = sym c.loop-unit.invariant.parts ∙ ap (λ w. front ++ w) c.in-Some.ensures.steps.0 in
    (refused_next c.args.bits front rest u c.loop-unit.checked.world c.loop-unit.invariant.typed
    (imports_typed c.args.bits c.args.units.packages c.args.units.ordered front rest u parts c.loop-unit.checked.world c.loop-unit.invariant.typed u.needed)
    c.args.units.packages c.loop-unit.number c.in-Err.error parts c.loop-unit.invariant.number c.in-Err.ensures.refused).1

pub loop-unit-preserved : goal.loop-unit-preserved
loop-unit-preserved g c =
    let u = c.in-Some.«unit» in
    let front = c.loop-unit.yielded in
    let rest = into_iter_items c.next.new.self in
    let parts : c.args.units.packages ≡ front ++ u ∷ rest = sym c.loop-unit.invariant.parts ∙ ap (λ w. front ++ w) c.in-Some.ensures.steps.0 in
    let taken =
    taken_next c.args.bits front u c.loop-unit.checked c.add_next.new.checked c.loop-unit.invariant.taken
    (imports_typed c.args.bits c.args.units.packages c.args.units.ordered front rest u parts c.loop-unit.checked.world c.loop-unit.invariant.typed u.needed)
    c.in-Ok.ensures.offered in
    record {
      taken = taken;
      typed = taken_world c.args.bits (front ++ u ∷ []) c.add_next.new.checked taken;
      kept = taken_kept c.args.bits (front ++ u ∷ []) c.add_next.new.checked taken;
      number = ap (λ n. n + 1) c.loop-unit.invariant.number ∙ sym (length-append front (u ∷ []));
      parts = append_assoc front (u ∷ []) rest ∙ sym parts;
      steps = omega (arith, c.loop-unit.invariant.steps, c.in-Ok.ensures.steps);
    }
