-- Words that are numbers.
use Rattle.std.proofs.Common.{◌≡◌, ◌<◌, ◌≤◌, ◌^◌, ℕ, List, Result, Ok, Err, Bool, false, sym, ap, ◌∙◌, arith, Decides}
use Rattle.std.specs.Fmt.{decimal}
use Rattle.std.specs.Str.Parse.{ParsesUnsigned}
use Rattle.std.proofs.lemmas.Fmt.{decimal_injective, parse-decimal}
use Rattle.api_words.proofs.Searches.{refuted}

-- what isn't read as a number below 2^64 is none
pub not_number : {E : Type 0} (word : List ℕ) (r : Result ℕ E) (e : E) → ParsesUnsigned 64 10 word r → r ≡ Err e → (n : ℕ) → word ≡ decimal n → n < 2 ^ 64 → ⊥
not_number word r e parses is n spelled held =
    let read : r ≡ Ok n = parse-decimal 64 n word r held held spelled parses in
    cc

one_value : {E : Type 0} (m n : ℕ) → ◌≡◌ {A = Result ℕ E} (Ok m) (Ok n) → m ≡ n
one_value m n e = cc

-- the number that is read is the only one that the word can be
pub other_text : {E : Type 0} (word : List ℕ) (r : Result ℕ E) (number : ℕ) (b : Bool) → ParsesUnsigned 64 10 word r → r ≡ Ok number → Decides b (word ≡ decimal number) → b ≡ false → (n : ℕ) → word ≡ decimal n → n < 2 ^ 64 → ⊥
other_text word r number b parses is decides not n spelled held =
    let same : n ≡ number = one_value n number (sym (parse-decimal 64 n word r held held spelled parses) ∙ is) in
    refuted b decides not (spelled ∙ ap decimal same)

-- a word is one number
pub other_count : (word : List ℕ) (number most : ℕ) → word ≡ decimal number → number < 2 ^ 64 → most < 2 ^ 32 → (1 ≤ number → number ≤ most → ⊥) → (n : ℕ) → word ≡ decimal n → 1 ≤ n → n ≤ most → ⊥
other_count word number most spelled held low out n told some few =
    let same : number ≡ n = decimal_injective number n held (omega arith) (sym spelled ∙ told) in
    out (omega arith) (omega arith)
