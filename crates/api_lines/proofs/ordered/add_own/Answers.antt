use Rattle.std.proofs.Common.{◌≡◌, ◌+◌, [], ◌∷◌, ◌++◌, sym, ap, ◌∙◌, append_assoc}
use Rattle.std.specs.Vec.Iter.{into_iter_items}
use Rattle.api_lines.proofs.Merged.{length_back, owns_next}
use Rattle.api_lines.proofs.ordered.add_own.Goals as goal

pub loop-lines-preserved : goal.loop-lines-preserved
loop-lines-preserved c =
    let here : c.args.lists ≡ c.loop-lines.yielded ++ c.in-Some.lines ∷ into_iter_items c.next.new.self = sym c.loop-lines.invariant.2 ∙ ap (λ w. c.loop-lines.yielded ++ w) c.in-Some.ensures.steps.0 in (
      owns_next c.args.common.now c.args.lists c.loop-lines.yielded c.in-Some.lines (into_iter_items c.next.new.self) c.args.platforms.now c.loop-lines.i c.platform_at-platform.result c.args.merged.now c.loop-lines.merged c.part.new.merged
          c.requires.same here c.loop-lines.invariant.1 c.platform_at-platform.ensures c.loop-lines.invariant.0 c.in_ok-_common.ensures.own,
      ap (λ n. n + 1) c.loop-lines.invariant.1 ∙ sym (length_back c.loop-lines.yielded c.in-Some.lines),
      append_assoc c.loop-lines.yielded (c.in-Some.lines ∷ []) (into_iter_items c.next.new.self) ∙ sym here,
    )
