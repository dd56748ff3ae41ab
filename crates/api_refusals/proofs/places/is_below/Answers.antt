use Rattle.std.proofs.Common.{List, ℕ, sym, ap, ◌∙◌, ◌∷◌, length}
use Rattle.std.specs.Prelude.{bytes_eq}
use Rattle.go_base.proofs.Lists.{rest_from}
use Rattle.api_refusals.proofs.PathFronts.{other_front, same_front}
use Rattle.api_refusals.proofs.places.is_below.Goals as goal

pub returns-then-not-begins_with : goal.returns-then-not-begins_with
returns-then-not-begins_with c = other_front c.args.folder.now (47 ∷ c.args.name.now) c.args.path.now (sym c.begins_with.ensures.value ∙ c.if-not-begins_with.true)

pub returns : goal.returns
returns c =
    c.is_behind_slash.ensures ∙ ap (λ (w : List ℕ). bytes_eq (47 ∷ c.args.name.now) w) (rest_from (length c.args.folder.now) c.args.path.now)
    ∙ same_front c.args.folder.now (47 ∷ c.args.name.now) c.args.path.now (sym c.begins_with.ensures.value ∙ c.if-not-begins_with.false)
