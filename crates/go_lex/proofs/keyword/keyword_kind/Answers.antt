use Rattle.std.proofs.Common.{sym, ◌∙◌}
use Rattle.go_lex.proofs.KeywordParts.{keywords_by_parts, found, missed}
use Rattle.go_lex.proofs.keyword.keyword_kind.Goals as goal

pub returns-in-Some : goal.returns-in-Some
returns-in-Some c = found _ _ _ _ (keywords_by_parts c.args.name.now) (sym c.short_keyword.ensures ∙ c.in-Some.is)

pub returns-in-Some-keyword_of_four : goal.returns-in-Some-keyword_of_four
returns-in-Some-keyword_of_four c =
    let past_short = missed _ _ _ (keywords_by_parts c.args.name.now) (sym c.short_keyword.ensures ∙ c.in_default.is) in
    found _ _ _ _ past_short (sym c.keyword_of_four.ensures ∙ c.in-Some-keyword_of_four.is)

pub returns-in-Some-keyword_of_five : goal.returns-in-Some-keyword_of_five
returns-in-Some-keyword_of_five c =
    let past_short = missed _ _ _ (keywords_by_parts c.args.name.now) (sym c.short_keyword.ensures ∙ c.in_default.is) in
    let past_four = missed _ _ _ past_short (sym c.keyword_of_four.ensures ∙ c.in_default-keyword_of_four.is) in
    found _ _ _ _ past_four (sym c.keyword_of_five.ensures ∙ c.in-Some-keyword_of_five.is)

pub returns-in-Some-keyword_of_six : goal.returns-in-Some-keyword_of_six
returns-in-Some-keyword_of_six c =
    let past_short = missed _ _ _ (keywords_by_parts c.args.name.now) (sym c.short_keyword.ensures ∙ c.in_default.is) in
    let past_four = missed _ _ _ past_short (sym c.keyword_of_four.ensures ∙ c.in_default-keyword_of_four.is) in
    let past_five = missed _ _ _ past_four (sym c.keyword_of_five.ensures ∙ c.in_default-keyword_of_five.is) in
    found _ _ _ _ past_five (sym c.keyword_of_six.ensures ∙ c.in-Some-keyword_of_six.is)

pub returns : goal.returns
returns c =
    let past_short = missed _ _ _ (keywords_by_parts c.args.name.now) (sym c.short_keyword.ensures ∙ c.in_default.is) in
    let past_four = missed _ _ _ past_short (sym c.keyword_of_four.ensures ∙ c.in_default-keyword_of_four.is) in
    let past_five = missed _ _ _ past_four (sym c.keyword_of_five.ensures ∙ c.in_default-keyword_of_five.is) in
    let past_six = missed _ _ _ past_five (sym c.keyword_of_six.ensures ∙ c.in_default-keyword_of_six.is) in
    c.long_keyword.ensures ∙ sym past_six
