use Rattle.std.proofs.Common.{◌∙◌, sym, List, ℕ}
use Rattle.go_lex.proofs.TokenValues.{map_ok, string_text, string_long, raw_said, string_inner, string_said}
use Rattle.go_lex.proofs.emit.string_text.Goals as goal

pub between_quotes-inner-requires : goal.between_quotes-inner-requires
between_quotes-inner-requires c = string_long c.args.text.now (string_text c.args.text.now c.requires)

pub string_bytes-requires : goal.string_bytes-requires
string_bytes-requires c =
    string_inner c.args.text.now c.between_quotes-inner.result.now (string_text c.args.text.now c.requires) (sym c.begins_byte.ensures ∙ c.if-begins_byte.false) c.between_quotes-inner.ensures

pub returns-then-begins_byte : goal.returns-then-begins_byte
returns-then-begins_byte c =
    map_ok c.raw_bytes.result _ _
    (λ (out : List ℕ) is. raw_said c.args.text.now c.between_quotes-inner.result.now out (string_text c.args.text.now c.requires) (sym c.begins_byte.ensures ∙ c.if-begins_byte.true) c.between_quotes-inner.ensures is)
    c.raw_bytes.ensures

pub returns-else-begins_byte : goal.returns-else-begins_byte
returns-else-begins_byte c =
    map_ok c.string_bytes.result _ _
    (λ (out : List ℕ) is. string_said c.args.text.now c.between_quotes-inner.result.now out (string_text c.args.text.now c.requires) (sym c.begins_byte.ensures ∙ c.if-begins_byte.false) c.between_quotes-inner.ensures is)
    c.string_bytes.ensures
