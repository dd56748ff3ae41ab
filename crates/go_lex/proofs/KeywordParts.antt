-- A look-up in a table of parts, one part after the other.
use Rattle.std.proofs.Common.{◌≡◌, ℕ, Bool, true, false, cond, List, [], ◌∷◌, ◌++◌, Option, Some, None, refl, sym, ap, ◌∙◌}
use Rattle.std.specs.Prelude.{bytes_eq}
use Rattle.go_syntax.specs.declared.token.TokenKind.{TokenKind}
use Rattle.go_base.specs.Keywords.{keywords}
use Rattle.go_syntax.specs.lexical.Words.{KindTable, kind_in, keyword_table, keyword_kinds}
use Rattle.go_lex.specs.inner.KeywordParts.{short_keywords, keywords_of_four, keywords_of_five, keywords_of_six, long_keywords}

-- the first answer, or else the second
unfoldable pub or_else : Option TokenKind → Option TokenKind → Option TokenKind
or_else None other = other
or_else (Some kind) other = Some kind

pub found : (whole first rest : Option TokenKind) (kind : TokenKind) → whole ≡ or_else first rest → first ≡ Some kind → Some kind ≡ whole
unfolding or_else
found whole first rest kind e h = sym (e ∙ ap (λ (x : Option TokenKind). or_else x rest) h)

pub missed : (whole first rest : Option TokenKind) → whole ≡ or_else first rest → first ≡ None → whole ≡ rest
unfolding or_else
missed whole first rest e h = e ∙ ap (λ (x : Option TokenKind). or_else x rest) h

row_or_else : (test : Bool) (kind : TokenKind) (x y z : Option TokenKind) → x ≡ or_else y z → cond test (Some kind) x ≡ or_else (cond test (Some kind) y) z
unfolding or_else
row_or_else true kind x y z e = refl
row_or_else false kind x y z e = e

pub kind_in-append : (first second : KindTable) (text : List ℕ) → kind_in (first ++ second) text ≡ or_else (kind_in first text) (kind_in second text)
unfolding or_else
kind_in-append [] second text = refl
kind_in-append (row ∷ rows) second text = row_or_else (bytes_eq text row.0) row.1 _ _ _ (kind_in-append rows second text)

-- the keywords are those of the five parts
pub keywords_by_parts : (text : List ℕ) → kind_in keyword_table text
    ≡ or_else (kind_in short_keywords text) (or_else (kind_in keywords_of_four text) (or_else (kind_in keywords_of_five text) (or_else (kind_in keywords_of_six text) (kind_in long_keywords text))))
unfolding keywords keyword_kinds
keywords_by_parts text =
    let d = kind_in-append keywords_of_six long_keywords text in
    let c = kind_in-append keywords_of_five (keywords_of_six ++ long_keywords) text in
    let b = kind_in-append keywords_of_four (keywords_of_five ++ (keywords_of_six ++ long_keywords)) text in
    let a = kind_in-append short_keywords (keywords_of_four ++ (keywords_of_five ++ (keywords_of_six ++ long_keywords))) text in
    a ∙ rw b (rw c (rw d refl))
