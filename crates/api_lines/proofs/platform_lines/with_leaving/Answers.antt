use Rattle.std.proofs.Common.{◌≡◌, sym, ◌∙◌, subst, List, [], ◌∷◌, ◌++◌, ap, refl, inl, append_assoc}
use Rattle.std.proofs.lemmas.List.{nil_from_length}
use borrow.Author.Tests.{eqb-true}
use Rattle.std.specs.Vec.Iter.{into_iter_items}
use Rattle.go_base.specs.Lists.{Has}
use Rattle.go_base.proofs.Members.{each_has}
use Rattle.api_lines.specs.declared.line.Line.{Line}
use Rattle.api_lines.specs.Lines.{AreInOrder}
use Rattle.api_lines.proofs.Growing.{has_right}
use Rattle.api_lines.specs.inner.Shares.{AreJoined}
use Rattle.api_lines.proofs.Shares.{joined_none, joined_next}
use Rattle.api_lines.proofs.platform_lines.with_leaving.Goals as goal

pub returns-then-is_empty : goal.returns-then-is_empty
returns-then-is_empty c = joined_none c.args.leaving.now c.args.own (nil_from_length c.args.leaving.now (eqb-true _ _ (sym c.is_empty.ensures ∙ c.if-is_empty.true))) c.requires.own

pub joined-requires-clause-first : goal.joined-requires-clause-first
joined-requires-clause-first c =
    let here : c.args.own ≡ c.loop-lines.yielded ++ c.in-Some.lines ∷ into_iter_items c.next.new.self = sym c.loop-lines.invariant.1 ∙ ap (λ w. c.loop-lines.yielded ++ w) c.in-Some.ensures.steps.0 in
    each_has AreInOrder c.args.own c.in-Some.lines c.requires.own (subst (λ (w : List (List Line)). Has w c.in-Some.lines) (sym here) (has_right c.loop-lines.yielded (c.in-Some.lines ∷ into_iter_items c.next.new.self) c.in-Some.lines (inl refl)))

pub joined-requires-clause-second : goal.joined-requires-clause-second
joined-requires-clause-second c = subst AreInOrder (sym c.in_ok-more.ensures) c.requires.leaving

pub loop-lines-preserved : goal.loop-lines-preserved
loop-lines-preserved c =
    let here : c.args.own ≡ c.loop-lines.yielded ++ c.in-Some.lines ∷ into_iter_items c.next.new.self = sym c.loop-lines.invariant.1 ∙ ap (λ w. c.loop-lines.yielded ++ w) c.in-Some.ensures.steps.0 in (
      subst (λ (w : List (List Line)). AreJoined c.args.leaving.now (c.loop-lines.yielded ++ c.in-Some.lines ∷ []) w) (sym c.in_ok-push.ensures.ok)
          (joined_next c.args.leaving.now c.loop-lines.yielded c.loop-lines.all c.in-Some.lines c.in_ok-joined.field-0 c.in_ok-more.more c.in_ok-more.ensures c.loop-lines.invariant.0 c.in_ok-joined.ensures),
      append_assoc c.loop-lines.yielded (c.in-Some.lines ∷ []) (into_iter_items c.next.new.self) ∙ sym here,
    )
