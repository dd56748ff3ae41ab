use Rattle.std.proofs.Common.{ℕ, List, subst}
use Rattle.go_base.specs.Growing.{Adds}
use Rattle.go_imports.proofs.TextKeys.{adds}
use Rattle.go_imports.proofs.text_set.add_new.Goals as goal

pub returns : goal.returns
returns c =
    subst (λ (t : List ℕ). Adds c.args.set.now.keys t c.insert.new.self.keys c.in_ok-is_new.is_new) c.in_ok-text.ensures
    (adds c.args.set.now.keys c.insert.new.self.keys c.in_ok-text.text c.in_ok-is_new.is_new c.in_ok-is_new.ensures.keys c.in_ok-is_new.ensures.added)
