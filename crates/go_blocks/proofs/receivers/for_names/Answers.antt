use Rattle.std.proofs.Common.{[], ◌∷◌, ◌++◌, ap, ◌∙◌}
use Rattle.std.specs.Prelude.{replicate}
use Rattle.go_type_terms.proofs.Parameters.{names_last}
use Rattle.go_blocks.proofs.receivers.for_names.Goals as goal

pub returns : goal.returns
returns c =
    let t = c.args.term in
    c.in_ok-push.ensures.ok ∙ ap (λ ts. ts ++ t ∷ []) (c.in_ok-terms.ensures ∙ ap (λ n. replicate n t) c.saturating_sub.ensures) ∙ names_last c.args.names.now t
