use Rattle.std.proofs.Common.{◌≤◌, ℕ, [], length, refl, sym, ap, ◌∙◌, None, arith}
use Rattle.std.specs.Prelude.{◌-◌}
use Rattle.go_base.specs.Comments.{without_mark}
use Rattle.go_syntax.specs.lexical.Tokens.{tokens_of}
use Rattle.go_lex.proofs.OneCut.{one_cut, no_further, empty}
use Rattle.go_lex.proofs.laws.one_list.Goals as goal

pub returns-clause-one : goal.returns-clause-one
returns-clause-one c bytes first second p q = p.tokens_are ∙ ap (tokens_of (length bytes - length (without_mark bytes)) None) (one_cut (without_mark bytes) (without_mark bytes) p.lexemes q.lexemes p.cut q.cut refl) ∙ sym q.tokens_are

pub returns-clause-one_offset : goal.returns-clause-one_offset
returns-clause-one_offset c bytes first second p q =
    let a : length p.rest ≤ length q.rest = no_further (without_mark bytes) (without_mark bytes) p.lexemes q.lexemes p.rest q.rest p.cut q.cut refl p.none in
    let b : length q.rest ≤ length p.rest = no_further (without_mark bytes) (without_mark bytes) q.lexemes p.lexemes q.rest p.rest q.cut p.cut refl q.none in
    omega (arith, p.offset, q.offset)

pub returns-clause-not_both : goal.returns-clause-not_both
returns-clause-not_both c bytes offset tokens p q =
    let a : length p.rest ≤ length {A = ℕ} [] = no_further (without_mark bytes) (without_mark bytes) p.lexemes q.lexemes p.rest [] p.cut q.cut refl p.none in
    p.more (empty p.rest a)

pub returns-clause-longest : goal.returns-clause-longest
returns-clause-longest c bytes offset lexemes rest p cut =
    let a : length p.rest ≤ length rest = no_further (without_mark bytes) (without_mark bytes) p.lexemes lexemes p.rest rest p.cut cut refl p.none in
    omega (arith, p.offset)
