use Rattle.std.proofs.Common.{◌≡◌, ◌++◌, ℕ, List, Option, Some, None, IfSome, IsNone, length, drop, sym, ap, ◌∙◌, arith}
use Rattle.std.specs.Prelude.{IsUtf8, MatchOption}
use Rattle.std.specs.Char.{IsScalar, encode_utf8, len_utf8}
use Rattle.go_base.proofs.Runs.{known_char, known_scalar, front_of, no_char}
use Rattle.go_base.proofs.characters.any_first_char.Goals as goal

some_char : {S : Type 0} (r : Option ℕ) (bytes text rest : List ℕ) (Ends : Type 0) (left : S → List ℕ) (new : S) → (behind : List ℕ) → bytes ≡ text ++ behind → IsUtf8 text → rest ≡ text
    → MatchOption r Ends (λ c. rest ≡ encode_utf8 c ++ left new) → IfSome r (λ c. (bytes ≡ encode_utf8 c ++ drop (len_utf8 c) bytes) × IsScalar c)
some_char None bytes text rest Ends left new behind e u same m = tt
some_char (Some c) bytes text rest Ends left new behind e u same m = (known_char bytes text behind (left new) c e (sym same ∙ m), known_scalar text (left new) c u (sym same ∙ m))

pub returns-clause-some : goal.returns-clause-some
returns-clause-some c =
    let f = front_of (length c.valid_front.result.now) c.min.result c.valid_front.result.now c.args.bytes.now c.valid_front.ensures.front in
    some_char c.next.result c.args.bytes.now c.valid_front.result.now c.chars.result.rest.now _ (λ s. s.rest.now) c.next.new.self f.0 f.1 c.valid_front.utf8 c.chars.ensures.rest c.next.ensures.steps.0

empty_front : (r : Option ℕ) (text rest : List ℕ) (P : ℕ → Type 0) (Q : Type 0) → rest ≡ text → MatchOption r ((length rest ≡ 0) × Q) P → IsNone r → length text ≡ 0
empty_front None text rest P Q same m n = ap length (sym same) ∙ m.0
empty_front (Some x) text rest P Q same m n = absurd (cc)

pub returns-clause-none : goal.returns-clause-none
returns-clause-none c none =
    let empty : length c.valid_front.result.now ≡ 0 = empty_front c.next.result c.valid_front.result.now c.chars.result.rest.now _ _ c.chars.ensures.rest c.next.ensures.steps.0 none in
    no_char c.args.bytes.now c.min.result c.min.ensures (λ n some within u. c.valid_front.ensures.longest n (omega arith) within u)
