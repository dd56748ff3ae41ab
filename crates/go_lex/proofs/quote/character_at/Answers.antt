use Rattle.std.proofs.Common.{List, ℕ, ◌∷◌, IfSome, sym, subst}
use Rattle.std.specs.Prelude.{IfNone}
use Rattle.go_lex.specs.inner.CharacterPrefixes.{BeginsCharacter, BeginsNoCharacter}
use Rattle.go_lex.proofs.EscapePrefixes.{map_some, map_none, nothing_begins, plain_begins, plain_none, no_slash_there}
use Rattle.go_lex.proofs.quote.character_at.Goals as goal

pub returns-in_default-clause-none : goal.returns-in_default-clause-none
returns-in_default-clause-none c = nothing_begins c.args.quote c.args.bytes.now c.in_default.ensures.cases

pub returns-then-b-eq92-clause-some : goal.returns-then-b-eq92-clause-some
returns-then-b-eq92-clause-some c =
    subst (λ (xs : List ℕ). IfSome c.escape.result (BeginsCharacter c.args.quote xs)) (sym c.in-Some.ensures.cases.0)
    (subst (λ (e : ℕ). IfSome c.escape.result (BeginsCharacter c.args.quote (e ∷ c.in-Some.rest.now))) (sym c.if-b-eq92.true) c.escape.ensures.some)

pub returns-then-b-eq92-clause-none : goal.returns-then-b-eq92-clause-none
returns-then-b-eq92-clause-none c =
    subst (λ (xs : List ℕ). IfNone c.escape.result (BeginsNoCharacter c.args.quote xs)) (sym c.in-Some.ensures.cases.0)
    (subst (λ (e : ℕ). IfNone c.escape.result (BeginsNoCharacter c.args.quote (e ∷ c.in-Some.rest.now))) (sym c.if-b-eq92.true) c.escape.ensures.none)

pub returns-clause-some : goal.returns-clause-some
returns-clause-some c = map_some c.plain.result _ _ (plain_begins c.args.quote c.args.bytes.now) c.plain.ensures.some

pub returns-clause-none : goal.returns-clause-none
returns-clause-none c =
    map_none c.plain.result _ _
    (plain_none c.args.quote c.args.bytes.now (λ rest. no_slash_there c.args.bytes.now rest c.in-Some.b.now c.in-Some.rest.now c.in-Some.ensures.cases.0 c.if-b-eq92.false))
    c.plain.ensures.none
