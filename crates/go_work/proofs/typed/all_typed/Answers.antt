use Rattle.std.proofs.Common.{◌≡◌, ◌+◌, [], ◌∷◌, ◌++◌, arith, sym, ap, ◌∙◌, subst, append_assoc, length-append}
use Rattle.std.specs.Vec.Iter.{into_iter_items}
use Rattle.go_base.specs.Lists.{Has}
use Rattle.go_work.specs.declared.typed.TypedUnits.{TypedUnits}
use Rattle.go_work.specs.inner.EarlierUnits.{AreTypedSoFar}
use Rattle.go_work.proofs.NextUnits.{has_at, refused_next}
use Rattle.go_work.proofs.TypedSoFar.{all_so_far, beside_one_more, beside_them, bits_next, error_of_them, none_typed, typed_next, units_next, world_of_them}
use Rattle.go_work.proofs.UnitPrefixes.{imports_typed, unit_absent}
use Rattle.go_work.proofs.typed.all_typed.Goals as goal

pub loop-unit-init : goal.loop-unit-init
loop-unit-init g c =
    let none = subst AreTypedSoFar (sym c.empty-typed.ensures) (none_typed c.args.bits c.requires.bits) in
    record {
      typed = none;
      whole = all_so_far c.empty-typed.result none;
      units = ap (λ (t : TypedUnits). t.units) c.empty-typed.ensures;
      bits = ap (λ (t : TypedUnits). t.bits) c.empty-typed.ensures;
      beside = c.requires.beside;
      number = search;
      parts = search;
      steps = omega arith;
    }

pub add_next-requires-clause-path : goal.add_next-requires-clause-path
add_next-requires-clause-path g c =
    let u = c.in-Some.«unit» in
    let front = c.loop-unit.yielded in
    let rest = into_iter_items c.next.new.self in
    let parts : c.args.units.packages ≡ front ++ u ∷ rest = sym c.loop-unit.invariant.parts ∙ ap (λ w. front ++ w) c.in-Some.ensures.steps.0 in
    c.requires.paths u (subst (λ us. Has us u) (sym parts) (has_at front rest u))

pub add_next-requires-clause-absent : goal.add_next-requires-clause-absent
add_next-requires-clause-absent g c =
    let u = c.in-Some.«unit» in
    let front = c.loop-unit.yielded in
    let rest = into_iter_items c.next.new.self in
    let parts : c.args.units.packages ≡ front ++ u ∷ rest = sym c.loop-unit.invariant.parts ∙ ap (λ w. front ++ w) c.in-Some.ensures.steps.0 in
    let i = c.loop-unit.invariant in
    unit_absent c.args.bits c.args.units.packages c.args.units.ordered front rest u parts c.loop-unit.typed.world (world_of_them c.loop-unit.typed c.args.bits front i.bits i.units i.typed)

pub add_next-requires-clause-beside : goal.add_next-requires-clause-beside
add_next-requires-clause-beside g c =
    let i = c.loop-unit.invariant in
    beside_them c.loop-unit.typed c.args.bits c.loop-unit.yielded i.bits i.units c.loop-unit.earlier i.beside

pub returns-in-Err-clause-refused : goal.returns-in-Err-clause-refused
returns-in-Err-clause-refused g c =
    let u = c.in-Some.«unit» in
    let front = c.loop-unit.yielded in
    let rest = into_iter_items c.next.new.self in
    let parts : c.args.units.packages ≡ front ++ u ∷ rest = sym c.loop-unit.invariant.parts ∙ ap (λ w. front ++ w) c.in-Some.ensures.steps.0 in
    let i = c.loop-unit.invariant in
    let world = world_of_them c.loop-unit.typed c.args.bits front i.bits i.units i.typed in
    (refused_next c.args.bits front rest u c.loop-unit.typed.world world
    (imports_typed c.args.bits c.args.units.packages c.args.units.ordered front rest u parts c.loop-unit.typed.world world u.needed)
    c.args.units.packages c.loop-unit.number c.in-Err.error parts i.number (error_of_them c.loop-unit.typed c.args.bits front i.bits i.units u c.loop-unit.number c.in-Err.error c.in-Err.ensures.refused)).0

pub returns-in-Err-clause-handed : goal.returns-in-Err-clause-handed
returns-in-Err-clause-handed g c =
    let u = c.in-Some.«unit» in
    let front = c.loop-unit.yielded in
    let rest = into_iter_items c.next.new.self in
    let parts : c.args.units.packages ≡ front ++ u ∷ rest = sym c.loop-unit.invariant.parts ∙ ap (λ w. front ++ w) c.in-Some.ensures.steps.0 in
    let i = c.loop-unit.invariant in
    let world = world_of_them c.loop-unit.typed c.args.bits front i.bits i.units i.typed in
    (refused_next c.args.bits front rest u c.loop-unit.typed.world world
    (imports_typed c.args.bits c.args.units.packages c.args.units.ordered front rest u parts c.loop-unit.typed.world world u.needed)
    c.args.units.packages c.loop-unit.number c.in-Err.error parts i.number (error_of_them c.loop-unit.typed c.args.bits front i.bits i.units u c.loop-unit.number c.in-Err.error c.in-Err.ensures.refused)).1

pub loop-unit-preserved : goal.loop-unit-preserved
loop-unit-preserved g c =
    let u = c.in-Some.«unit» in
    let front = c.loop-unit.yielded in
    let rest = into_iter_items c.next.new.self in
    let parts : c.args.units.packages ≡ front ++ u ∷ rest = sym c.loop-unit.invariant.parts ∙ ap (λ w. front ++ w) c.in-Some.ensures.steps.0 in
    let i = c.loop-unit.invariant in
    let world = world_of_them c.loop-unit.typed c.args.bits front i.bits i.units i.typed in
    let next = c.in-Ok.ensures.offered in
    let typed =
    typed_next c.loop-unit.typed i.typed u (c.requires.paths u (subst (λ us. Has us u) (sym parts) (has_at front rest u)))
    (unit_absent c.args.bits c.args.units.packages c.args.units.ordered front rest u parts c.loop-unit.typed.world world) c.add_next.new.typed
    (imports_typed c.args.bits c.args.units.packages c.args.units.ordered front rest u parts c.loop-unit.typed.world world u.needed)
    next in
    record {
      typed = typed;
      whole = all_so_far c.add_next.new.typed typed;
      units = units_next c.loop-unit.typed u c.add_next.new.typed next front i.units;
      bits = bits_next c.loop-unit.typed u c.add_next.new.typed next c.args.bits i.bits;
      beside = beside_one_more c.loop-unit.typed c.args.bits front i.bits i.units c.add_next.new.earlier u c.in-Ok.ensures.beside;
      number = ap (λ n. n + 1) i.number ∙ sym (length-append front (u ∷ []));
      parts = append_assoc front (u ∷ []) rest ∙ sym parts;
      steps = omega (arith, i.steps, c.in-Ok.ensures.steps);
    }
