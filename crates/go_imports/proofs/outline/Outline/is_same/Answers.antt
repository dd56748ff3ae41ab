use Rattle.std.proofs.Common.{◌≡◌, ◌∙◌, sym, ap, subst, ℕ, List}
use Rattle.go_imports.specs.Outlines.{IsOutlineOf}
use Rattle.go_imports.proofs.outline.Outline.is_same.Goals as goal

pub returns : goal.returns
returns c = λ t.
    let bytes : c.self.inside.inner.bytes ≡ c.other.inside.inner.bytes = sym (c.bytes.ensures ∙ ap (λ o. o.bytes) c.value.ensures) ∙ c.are_same.ensures t ∙ (c.«bytes-2».ensures ∙ ap (λ o. o.bytes) c.«value-2».ensures) in
    sym c.self.view_is ∙ sym (c.self.invariant.one c.other.inside.inner.tree (subst (λ (b : List ℕ). IsOutlineOf b c.other.inside.inner.tree) (sym bytes) c.other.invariant.has)) ∙ c.other.view_is
