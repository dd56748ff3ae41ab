use Rattle.std.proofs.Common.{sym, ◌∙◌, subst}
use Rattle.go_syntax.specs.declared.token.TokenKind.TheVariants as token
use Rattle.go_syntax.specs.declared.token.LexemeKind.TheVariants as lexeme
use Rattle.go_lex.specs.declared.longest.LongestLexeme.{LongestLexeme}
use Rattle.go_lex.specs.declared.number.Number.{Number}
use Rattle.go_lex.specs.inner.LongestLexemes.{IsLongestAt}
use Rattle.go_lex.proofs.EscapePrefixes.{map_some, map_none}
use Rattle.go_lex.proofs.LongestByClass.{front_as, blank_front, newline_front, comment_lexeme, no_comment, number_front, rune_front, no_rune, string_front, no_string, raw_front, no_raw, name_front, no_name, operator_front, no_operator}
use Rattle.go_lex.proofs.longest.longest_lexeme.Goals as goal

pub returns-in-Blank-clause-some : goal.returns-in-Blank-clause-some
returns-in-Blank-clause-some c = blank_front c.args.bytes.now c.requires.0 (sym c.start_of.ensures ∙ c.in-Blank.is)

pub returns-in-Newline-clause-some : goal.returns-in-Newline-clause-some
returns-in-Newline-clause-some c = newline_front c.args.bytes.now c.requires.0 (sym c.start_of.ensures ∙ c.in-Newline.is)

pub returns-in-Comment-clause-some : goal.returns-in-Comment-clause-some
returns-in-Comment-clause-some c = map_some c.comment_lexeme.result _ _ (λ (f : LongestLexeme). comment_lexeme c.args.bytes.now f) c.comment_lexeme.ensures.some

pub returns-in-Comment-clause-none : goal.returns-in-Comment-clause-none
returns-in-Comment-clause-none c = map_none c.comment_lexeme.result _ _ (no_comment c.args.bytes.now c.requires.0 (sym c.start_of.ensures ∙ c.in-Comment.is)) c.comment_lexeme.ensures.none

pub returns-in-Number-clause-some : goal.returns-in-Number-clause-some
returns-in-Number-clause-some c =
    front_as c.args.bytes.now c.token_lexeme.result (record { kind = lexeme.Token c.number_at-number.result.kind; len = c.number_at-number.result.len }) c.token_lexeme.ensures
    (subst (λ (n : Number). IsLongestAt c.args.bytes.now (lexeme.Token n.kind) n.len) (sym c.number_at-number.ensures) (number_front c.args.bytes.now c.requires.0 (sym c.start_of.ensures ∙ c.in-Number.is)))

pub returns-in-Some-clause-some : goal.returns-in-Some-clause-some
returns-in-Some-clause-some c =
    front_as c.args.bytes.now c.token_lexeme-in-Some.result (record { kind = lexeme.Token token.RuneLit; len = c.in-Some.len }) c.token_lexeme-in-Some.ensures
    (rune_front c.args.bytes.now c.past.result.now c.in-Some.len c.requires.0 (sym c.start_of.ensures ∙ c.in-Rune.is) c.past.ensures c.in-Some.ensures.some)

pub returns-in-None-clause-none : goal.returns-in-None-clause-none
returns-in-None-clause-none c = no_rune c.args.bytes.now c.past.result.now c.requires.0 (sym c.start_of.ensures ∙ c.in-Rune.is) c.past.ensures c.in-None.ensures.none

pub returns-in-Some-string_len-clause-some : goal.returns-in-Some-string_len-clause-some
returns-in-Some-string_len-clause-some c =
    front_as c.args.bytes.now c.token_lexeme-in-Some-string_len.result (record { kind = lexeme.Token token.StrLit; len = c.in-Some-string_len.len }) c.token_lexeme-in-Some-string_len.ensures
    (string_front c.args.bytes.now c.past-in-Quoted.result.now c.in-Some-string_len.len c.requires.0 (sym c.start_of.ensures ∙ c.in-Quoted.is) c.past-in-Quoted.ensures c.in-Some-string_len.ensures.some)

pub returns-in-None-string_len-clause-none : goal.returns-in-None-string_len-clause-none
returns-in-None-string_len-clause-none c = no_string c.args.bytes.now c.past-in-Quoted.result.now c.requires.0 (sym c.start_of.ensures ∙ c.in-Quoted.is) c.past-in-Quoted.ensures c.in-None-string_len.ensures.none

pub returns-in-Some-raw_len-clause-some : goal.returns-in-Some-raw_len-clause-some
returns-in-Some-raw_len-clause-some c =
    front_as c.args.bytes.now c.token_lexeme-in-Some-raw_len.result (record { kind = lexeme.Token token.StrLit; len = c.in-Some-raw_len.len }) c.token_lexeme-in-Some-raw_len.ensures
    (raw_front c.args.bytes.now c.past-in-Raw.result.now c.in-Some-raw_len.len c.requires.0 (sym c.start_of.ensures ∙ c.in-Raw.is) c.past-in-Raw.ensures c.in-Some-raw_len.ensures.some)

pub returns-in-None-raw_len-clause-none : goal.returns-in-None-raw_len-clause-none
returns-in-None-raw_len-clause-none c = no_raw c.args.bytes.now c.past-in-Raw.result.now c.requires.0 (sym c.start_of.ensures ∙ c.in-Raw.is) c.past-in-Raw.ensures c.in-None-raw_len.ensures.none

pub returns-in-Some-name_len-clause-some : goal.returns-in-Some-name_len-clause-some
returns-in-Some-name_len-clause-some c =
    front_as c.args.bytes.now c.token_lexeme-in-Some-name_len.result (record { kind = lexeme.Token c.name_kind.result; len = c.in-Some-name_len.len }) c.token_lexeme-in-Some-name_len.ensures
    (name_front c.args.bytes.now c.name_kind.result c.in-Some-name_len.len (sym c.start_of.ensures ∙ c.in-Name.is) c.in-Some-name_len.ensures.some c.name_kind.ensures)

pub returns-in-None-name_len-clause-none : goal.returns-in-None-name_len-clause-none
returns-in-None-name_len-clause-none c = no_name c.args.bytes.now (sym c.start_of.ensures ∙ c.in-Name.is) c.in-None-name_len.ensures.none

pub returns-in-Some-operator_at-clause-some : goal.returns-in-Some-operator_at-clause-some
returns-in-Some-operator_at-clause-some c =
    front_as c.args.bytes.now c.token_lexeme-in-Some-operator_at.result (record { kind = lexeme.Token c.in-Some-operator_at.operator.kind; len = c.in-Some-operator_at.operator.len }) c.token_lexeme-in-Some-operator_at.ensures
    (operator_front c.args.bytes.now c.in-Some-operator_at.operator (sym c.start_of.ensures ∙ c.in-Sign.is) (sym c.operator_at.ensures ∙ c.in-Some-operator_at.is))

pub returns-in-None-operator_at-clause-none : goal.returns-in-None-operator_at-clause-none
returns-in-None-operator_at-clause-none c = no_operator c.args.bytes.now (sym c.start_of.ensures ∙ c.in-Sign.is) (sym c.operator_at.ensures ∙ c.in-None-operator_at.is)
