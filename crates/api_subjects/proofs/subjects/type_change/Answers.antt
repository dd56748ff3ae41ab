use Rattle.std.proofs.Common.{ℕ, List, ◌++◌, ap, ◌∙◌}
use Rattle.api_subjects.specs.TypeTexts.{type_text}
use Rattle.api_subjects.specs.inner.Quoting.{quoted}
use Rattle.api_subjects.proofs.Changes.{type_changed}
use Rattle.api_subjects.proofs.subjects.type_change.Goals as goal

pub returns : goal.returns
returns c =
    type_changed c.args.before.now c.args.after.now c.push_type.new.out.items c.extend_from_slice.new.self.items c.in_ok-change.change
    (c.in_ok-push_type.ensures ∙ ap (λ (w : List ℕ). w ++ type_text quoted c.args.before.now) c.new-out.ensures.items) c.in_ok-extend_from_slice.ensures.items (c.in_ok-change.ensures ∙ c.in_ok-push_type-2.ensures)
