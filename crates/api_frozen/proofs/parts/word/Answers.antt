use Rattle.std.proofs.Common.{List, ℕ, sym, subst, take}
use Rattle.go_base.proofs.Lists.{rest_from}
use Rattle.api_frozen.specs.inner.Readings.{ends_of, IsSplit}
use Rattle.api_frozen.proofs.Words.{split_word}
use Rattle.api_frozen.proofs.parts.word.Goals as goal

pub returns-clause-some : goal.returns-clause-some
returns-clause-some c =
    subst (λ (w : List ℕ). IsSplit (ends_of c.args.end) c.args.bytes.now (take c.word_len-len.result c.args.bytes.now) w) (sym (rest_from c.word_len-len.result c.args.bytes.now))
    (split_word (ends_of c.args.end) c.args.bytes.now c.word_len-len.result c.word_len-len.ensures.len c.word_len-len.ensures.within c.if-len-eq0.false)
