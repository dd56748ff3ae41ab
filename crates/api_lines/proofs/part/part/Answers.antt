use Rattle.std.proofs.Common.{◌≡◌, [], ◌∷◌, ◌++◌, sym, ap, ◌∙◌, subst, append_assoc}
use Rattle.std.specs.Ordering.{nat_cmp}
use Rattle.std.specs.Cmp.Lexicographic.{slice_cmp}
use Rattle.std.specs.Vec.Iter.{into_iter_items}
use Rattle.std.specs.declared.cmp.Ordering.TheVariants.{Less}
use Rattle.go_base.specs.Growing.{Grows}
use Rattle.api_lines.specs.declared.line.Line.{Line}
use Rattle.api_lines.specs.Lines.{printed, AreInOrder, HasText}
use Rattle.api_lines.specs.inner.MergedLines.{AreExactly, IsPlaced}
use Rattle.api_lines.proofs.Growing.{each_front, grows_none}
use Rattle.api_lines.proofs.LineOrder.{before_line}
use Rattle.api_lines.proofs.Parts.{HasThat, IsShared, kept_found, kept_none, kept_other, not_of, own_found, own_other}
use Rattle.api_lines.proofs.part.part.Goals as goal

pub loop-line-init : goal.loop-line-init
loop-line-init c = (
  subst (AreExactly (IsShared c.args.others.now [])) (sym c.new-common.ensures) (kept_none (HasThat c.args.others.now)),
  grows_none (IsPlaced (HasText c.args.others.now) c.args.platform) c.args.merged.now,
  (λ text h. tt),
  c.into_iter-line-iterator.ensures.into_iter_gives.0 ∙ c.into_vec-line-items.ensures,
)

pub place_of-requires-clause-passed : goal.place_of-requires-clause-passed
place_of-requires-clause-passed c =
    let here : c.args.lines ≡ c.loop-line.yielded ++ c.in-Some.line ∷ into_iter_items c.next.new.self = sym c.loop-line.invariant.3 ∙ ap (λ w. c.loop-line.yielded ++ w) c.in-Some.ensures.steps.0 in
    c.loop-line.invariant.2 (printed c.in-Some.line) (before_line c.loop-line.yielded c.in-Some.line (into_iter_items c.next.new.self) (subst AreInOrder here c.requires.lines))

pub loop-line-preserved-in-Continue-branch-2 : goal.loop-line-preserved-in-Continue-branch-2
loop-line-preserved-in-Continue-branch-2 c =
    let here : c.args.lines ≡ c.loop-line.yielded ++ c.in-Some.line ∷ into_iter_items c.next.new.self = sym c.loop-line.invariant.3 ∙ ap (λ w. c.loop-line.yielded ++ w) c.in-Some.ensures.steps.0 in
    let has : HasText c.args.others.now (printed c.in-Some.line) = c.in_ok-place.ensures.found.0 c.if-place.true in (
      kept_found (HasThat c.args.others.now) c.loop-line.yielded c.in-Some.line (into_iter_items c.next.new.self) c.loop-line.common (subst AreInOrder here c.requires.lines) c.loop-line.invariant.0 has c.push.new.self c.in_ok-push.ensures.ok,
      own_found (HasText c.args.others.now) c.args.platform c.loop-line.yielded c.in-Some.line c.args.merged.now c.loop-line.merged c.loop-line.invariant.1 has,
      (λ text b. c.in_ok-place.ensures.passed text (each_front (λ l. slice_cmp nat_cmp (printed l) text ≡ Less) c.loop-line.yielded c.in-Some.line b).1),
      append_assoc c.loop-line.yielded (c.in-Some.line ∷ []) (into_iter_items c.next.new.self) ∙ sym here,
    )

pub loop-line-preserved : goal.loop-line-preserved
loop-line-preserved c =
    let here : c.args.lines ≡ c.loop-line.yielded ++ c.in-Some.line ∷ into_iter_items c.next.new.self = sym c.loop-line.invariant.3 ∙ ap (λ w. c.loop-line.yielded ++ w) c.in-Some.ensures.steps.0 in
    let none = not_of c.in_ok-place.place.found (HasText c.args.others.now (printed c.in-Some.line)) c.in_ok-place.ensures.found c.if-place.false in (
      kept_other (HasThat c.args.others.now) c.loop-line.yielded c.in-Some.line (into_iter_items c.next.new.self) c.loop-line.common (subst AreInOrder here c.requires.lines) c.loop-line.invariant.0 none,
      own_other (HasText c.args.others.now) c.args.platform c.loop-line.yielded c.in-Some.line c.args.merged.now c.loop-line.merged c.loop-line.invariant.1 c.add.new.self none
          (subst (λ (w : Line). Grows (λ x. w ≡ x) c.loop-line.merged c.add.new.self) c.on.ensures c.in_ok-add.ensures),
      (λ text b. c.in_ok-place.ensures.passed text (each_front (λ l. slice_cmp nat_cmp (printed l) text ≡ Less) c.loop-line.yielded c.in-Some.line b).1),
      append_assoc c.loop-line.yielded (c.in-Some.line ∷ []) (into_iter_items c.next.new.self) ∙ sym here,
    )
