use Rattle.std.proofs.Common.{map, subst, sym, ap, ◌∙◌}
use Rattle.go_base.specs.Lists.{Once}
use Rattle.go_model.specs.files.Platforms.{name_of}
use Rattle.api_words.proofs.Searches.{map_once, refuted}
use Rattle.api_words.proofs.values.platforms_in.Goals as goal

pub returns-then-not-are_once : goal.returns-then-not-are_once
returns-then-not-are_once c = λ all k.
    refuted c.are_once.result c.are_once.ensures c.if-not-are_once.true
    (subst Once
    (sym (c.items.ensures ∙ map_once name_of c.one_platform.ensures c.in-Some.platforms all (sym (rw c.in-Some.is at c.in_ok-named_platforms.ensures) ∙ ap (map (λ part. part.now)) c.deref.ensures.value ∙ c.in_ok-parts.ensures ∙ k.0)))
    k.1)
