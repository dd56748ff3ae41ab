use Rattle.std.proofs.Common.{sym, ap, ◌∙◌, subst, List, ℕ}
use mathlib.Core.Bool.{true≢false}
use Rattle.std.specs.Ordering.{is_ne}
use Rattle.go_declared.specs.inner.Heads.{IsHead}
use Rattle.go_declared.proofs.Heads.{heads_decide}
use Rattle.go_declared.proofs.headed.Headed.order.Goals as goal

pub returns-then-is_ne : goal.returns-then-is_ne
returns-then-is_ne c =
    heads_decide c.args.self.now c.args.other.now c.self.inside.head c.other.inside.head c.cmp-heads.result
    (subst (λ (text : List ℕ). IsHead text c.self.inside.head) c.self.view_is c.self.invariant)
    (subst (λ (text : List ℕ). IsHead text c.other.inside.head) c.other.view_is c.other.invariant) (sym c.cmp-heads.ensures)
    (λ e. true≢false (sym c.if-is_ne.true ∙ c.is_ne.ensures ∙ ap is_ne e))
