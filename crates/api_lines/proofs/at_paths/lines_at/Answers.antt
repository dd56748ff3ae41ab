use Rattle.std.proofs.Common.{◌≡◌, ℕ, List, [], ◌∷◌, ◌++◌, sym, ap, ◌∙◌, subst, append_assoc}
use Rattle.std.specs.Prelude.{Decides}
use Rattle.std.specs.Vec.Iter.{into_iter_items}
use Rattle.go_base.specs.Lists.{Has}
use Rattle.api_lines.specs.Lines.{AreInOrder, IsLineAt}
use Rattle.api_lines.specs.inner.MergedLines.{AreExactly}
use Rattle.api_lines.proofs.Parts.{kept_found, kept_none, kept_other, not_of}
use Rattle.api_lines.proofs.at_paths.lines_at.Goals as goal

pub loop-line-init : goal.loop-line-init
loop-line-init c = (
  subst (AreExactly (IsLineAt c.args.paths.now [])) (sym c.new-kept.ensures) (kept_none (λ l. Has c.args.paths.now l.path)),
  c.has-found.ensures,
  c.into_iter-line-iterator.ensures.into_iter_gives.0 ∙ c.into_vec-line-items.ensures,
)

pub loop-line-preserved-in-Continue-branch-2 : goal.loop-line-preserved-in-Continue-branch-2
loop-line-preserved-in-Continue-branch-2 c =
    let here : c.args.lines ≡ c.loop-line.yielded ++ c.in-Some.line ∷ into_iter_items c.next.new.self = sym c.loop-line.invariant.2 ∙ ap (λ w. c.loop-line.yielded ++ w) c.in-Some.ensures.steps.0 in (
      kept_found (λ l. Has c.args.paths.now l.path) c.loop-line.yielded c.in-Some.line (into_iter_items c.next.new.self) c.loop-line.kept (subst AreInOrder here c.requires) c.loop-line.invariant.0 (c.is_at-found.ensures.0 c.if-found.true) c.push.new.self c.in_ok-push.ensures.ok,
      subst (λ (path : List ℕ). Decides c.is_at-found.result (Has c.args.paths.now path)) (sym c.in_ok-last.ensures) c.is_at-found.ensures,
      append_assoc c.loop-line.yielded (c.in-Some.line ∷ []) (into_iter_items c.next.new.self) ∙ sym here,
    )

pub loop-line-preserved : goal.loop-line-preserved
loop-line-preserved c =
    let here : c.args.lines ≡ c.loop-line.yielded ++ c.in-Some.line ∷ into_iter_items c.next.new.self = sym c.loop-line.invariant.2 ∙ ap (λ w. c.loop-line.yielded ++ w) c.in-Some.ensures.steps.0 in (
      kept_other (λ l. Has c.args.paths.now l.path) c.loop-line.yielded c.in-Some.line (into_iter_items c.next.new.self) c.loop-line.kept (subst AreInOrder here c.requires) c.loop-line.invariant.0
          (not_of c.is_at-found.result (Has c.args.paths.now c.in-Some.line.path) c.is_at-found.ensures c.if-found.false),
      subst (λ (path : List ℕ). Decides c.is_at-found.result (Has c.args.paths.now path)) (sym c.in_ok-last.ensures) c.is_at-found.ensures,
      append_assoc c.loop-line.yielded (c.in-Some.line ∷ []) (into_iter_items c.next.new.self) ∙ sym here,
    )
