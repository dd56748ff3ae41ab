use Rattle.std.proofs.Common.{◌≡◌, ap, ◌∙◌, inl, inr}
use Rattle.go_graphs.specs.inner.Components.{level_of}
use Rattle.go_graphs.proofs.Pushed.{has_pushed}
use Rattle.go_graphs.proofs.levels.add_of_level.Goals as goal

pub returns : goal.returns
returns c m h =
    let q : level_of c.args.levels.now c.args.number ≡ c.args.wanted = cc in
    elim (has_pushed c.args.inner.now c.push.new.self c.args.number c.in_ok-push.ensures.ok m h) [ inl k ↦ inl k | inr e ↦ inr (e, ap (level_of c.args.levels.now) e ∙ q) ]
