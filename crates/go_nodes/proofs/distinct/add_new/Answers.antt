use Rattle.std.proofs.Common.{ℕ, List, ◌∙◌, subst}
use Rattle.go_base.specs.Growing.{Adds}
use Rattle.go_model.proofs.TextSets.{adds}
use Rattle.go_nodes.proofs.distinct.add_new.Goals as goal

pub returns : goal.returns
returns c =
    subst (λ (t : List ℕ). Adds c.args.names.now.keys t c.insert.new.self.keys c.in_ok-is_new.is_new) c.in_ok-text.ensures
    (adds c.args.names.now.keys c.insert.new.self.keys c.in_ok-text.text c.in_ok-is_new.is_new c.in_ok-is_new.ensures.keys c.in_ok-is_new.ensures.added)
