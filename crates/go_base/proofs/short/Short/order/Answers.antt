use Rattle.std.proofs.Common.{◌∙◌, sym, ap, true≢false, nat_cmp}
use Rattle.std.specs.Ordering.{is_ne}
use Rattle.std.specs.Cmp.Lexicographic.{slice_cmp}
use Rattle.go_base.proofs.FilledUp.{filled_apart, filled_alike, equal_where}
use Rattle.go_base.proofs.short.Short.order.Goals as goal

pub returns-then-is_ne : goal.returns-then-is_ne
returns-then-is_ne c =
    filled_apart c.self.inside.len c.other.inside.len c.self.inside.bytes c.other.inside.bytes c.order-found.result c.self.invariant c.other.invariant c.order-found.ensures
    (λ e. true≢false (sym c.if-is_ne.true ∙ c.is_ne.ensures ∙ ap is_ne e))
    ∙ (λ i. slice_cmp nat_cmp (c.self.view_is i) (c.other.view_is i))

pub returns : goal.returns
returns c =
    filled_alike c.self.inside.len c.other.inside.len c.self.inside.bytes c.other.inside.bytes c.order-found.result c.cmp.result c.self.invariant c.other.invariant c.order-found.ensures
    (equal_where c.order-found.result (sym c.is_ne.ensures ∙ c.if-is_ne.false)) c.cmp.ensures
    ∙ (λ i. slice_cmp nat_cmp (c.self.view_is i) (c.other.view_is i))
