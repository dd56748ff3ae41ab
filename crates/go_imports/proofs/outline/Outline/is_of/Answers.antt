use Rattle.std.proofs.Common.{◌∙◌, sym, ap, subst, ℕ, List}
use Rattle.go_imports.specs.Outlines.{IsOutlineOf}
use Rattle.go_references.specs.go_syntax.declared.declaration.File.{File}
use Rattle.go_imports.proofs.outline.Outline.is_of.Goals as goal

pub returns : goal.returns
returns c = λ t.
    subst (λ (b : List ℕ). IsOutlineOf b c.args.self.now) (sym (c.bytes.ensures ∙ ap (λ o. o.bytes) c.value.ensures) ∙ c.are_same.ensures t)
    (subst (λ (f : File). IsOutlineOf c.self.inside.inner.bytes f) c.self.view_is c.self.invariant.has)
