use Rattle.std.proofs.Common.{◌++◌, ◌∷◌, [], List, ap, ◌∙◌}
use Rattle.go_imports.specs.declared.order.Wait.{Wait}
use Rattle.go_imports.proofs.Members.{get_or_same}
use Rattle.go_imports.proofs.Waits.{waited_set}
use Rattle.go_imports.proofs.order.add_wait.Goals as goal

pub returns : goal.returns
returns c =
    waited_set c.args.waits.now.items c.args.on c.args.wait _ c.requires
    (c.in_ok-push.ensures.ok ∙ ap (λ (row : List Wait). row ++ c.args.wait ∷ []) (c.index_mut.ensures.value ∙ get_or_same c.args.waits.now.items c.args.on c.index_mut.result.now [] c.requires))
