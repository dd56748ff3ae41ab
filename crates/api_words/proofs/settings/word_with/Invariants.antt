use Rattle.std.proofs.Common.{◌≢◌, take, string_bytes}
use Rattle.go_base.specs.Lists.{Each}
use Rattle.api_words.proofs.settings.word_with.Given as goal

abbrev pub invariant-loop-word : goal.invariant-loop-word
invariant-loop-word l = Each (λ word. string_bytes word ≢ l.bytes) (take l.word-index l.words)
