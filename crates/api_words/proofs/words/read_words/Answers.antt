use Rattle.std.proofs.Common.{List, ℕ, map, take, drop, length, ◌-◌, string_bytes, ap, sym, ◌∙◌, ◌∷◌}
use Rattle.api_words.proofs.OneRequest.{first_word, request_told}
use Rattle.api_words.proofs.words.read_words.Goals as goal

pub returns-in-Some-2 : goal.returns-in-Some-2
returns-in-Some-2 c =
    request_told (map string_bytes c.args.words.now) (map string_bytes (take (length c.args.words.now - 1) (drop 1 c.args.words.now))) c.items.result.now c.in-Some-2.settings c.in-Some.mode c.request_of.result
    (first_word string_bytes c.args.words.now c.word-item.result c.in-len1-up.len_at_least c.word-item.is
    ∙ ap (λ (word : List ℕ). word ∷ map string_bytes (take (length c.args.words.now - 1) (drop 1 c.args.words.now))) (sym c.as_bytes.ensures.value ∙ c.in-Some.ensures))
    (rw c.in-Some-2.is at c.in_ok-settings_of.ensures) c.items.ensures c.request_of.ensures
