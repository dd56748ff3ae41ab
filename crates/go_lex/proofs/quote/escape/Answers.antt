use Rattle.std.proofs.Common.{List, ℕ, ◌∷◌, IfSome, sym, ◌∙◌, subst}
use Rattle.std.specs.Prelude.{IfNone}
use Rattle.go_lex.specs.declared.quote.Character.{Character}
use Rattle.go_syntax.specs.declared.token.Meaning.TheVariants.{Character as Character'}
use Rattle.go_lex.specs.inner.CharacterPrefixes.{BeginsEscape, BeginsNoCharacter, HasNoOctal}
use Rattle.go_lex.proofs.EscapePrefixes.{map_some, map_none, empty_slash, sign_begins, hexadecimal_begins, hexadecimal_none, point_begins, point_none, octal_begins, octal_none, other_byte}
use Rattle.go_lex.proofs.quote.escape.Goals as goal

pub returns-in_default-clause-none : goal.returns-in_default-clause-none
returns-in_default-clause-none c = empty_slash c.args.quote c.args.rest.now c.requires c.in_default.ensures.cases

pub returns-in-Some-sign_of-clause-some : goal.returns-in-Some-sign_of-clause-some
returns-in-Some-sign_of-clause-some c =
    subst (λ (xs : List ℕ). BeginsEscape c.args.quote xs (record { len = 2; meaning = Character' c.in-Some-sign_of.c })) (sym c.in-Some.ensures.cases.0)
    (sign_begins c.args.quote c.in-Some.e.now c.in-Some-sign_of.c c.in-Some.more.now (sym c.sign_of.ensures.value ∙ c.in-Some-sign_of.is))

pub returns-then-e-eq120-clause-some : goal.returns-then-e-eq120-clause-some
returns-then-e-eq120-clause-some c =
    subst (λ (xs : List ℕ). IfSome c.hexadecimal.result (BeginsEscape c.args.quote xs)) (sym c.in-Some.ensures.cases.0)
    (subst (λ (e : ℕ). IfSome c.hexadecimal.result (BeginsEscape c.args.quote (e ∷ c.in-Some.more.now))) (sym c.if-e-eq120.true)
    (map_some c.hexadecimal.result _ _ (hexadecimal_begins c.args.quote c.in-Some.more.now) c.hexadecimal.ensures.some))

pub returns-then-e-eq120-clause-none : goal.returns-then-e-eq120-clause-none
returns-then-e-eq120-clause-none c =
    subst (λ (xs : List ℕ). IfNone c.hexadecimal.result (BeginsNoCharacter c.args.quote (92 ∷ xs))) (sym c.in-Some.ensures.cases.0)
    (map_none c.hexadecimal.result _ _ (hexadecimal_none c.args.quote c.in-Some.e.now c.in-Some.more.now c.requires (sym c.sign_of.ensures.value ∙ c.in_default-sign_of.is) c.if-e-eq120.true) c.hexadecimal.ensures.none)

pub returns-in-Some-count_of-clause-some : goal.returns-in-Some-count_of-clause-some
returns-in-Some-count_of-clause-some c =
    subst (λ (xs : List ℕ). IfSome c.point.result (BeginsEscape c.args.quote xs)) (sym c.in-Some.ensures.cases.0)
    (map_some c.point.result _ _
    (λ (x : Character). point_begins c.args.quote c.in-Some.e.now c.in-Some-count_of.count c.in-Some.more.now x (sym c.count_of.ensures.value ∙ c.in-Some-count_of.is)) c.point.ensures.some)

pub returns-in-Some-count_of-clause-none : goal.returns-in-Some-count_of-clause-none
returns-in-Some-count_of-clause-none c =
    subst (λ (xs : List ℕ). IfNone c.point.result (BeginsNoCharacter c.args.quote (92 ∷ xs))) (sym c.in-Some.ensures.cases.0)
    (map_none c.point.result _ _
    (point_none c.args.quote c.in-Some.e.now c.in-Some-count_of.count c.in-Some.more.now c.requires (sym c.sign_of.ensures.value ∙ c.in_default-sign_of.is)
    (other_byte c.in-Some.e.now 120 c.if-e-eq120.false) (sym c.count_of.ensures.value ∙ c.in-Some-count_of.is)) c.point.ensures.none)

pub returns-in-None-clause-some : goal.returns-in-None-clause-some
returns-in-None-clause-some c = map_some c.octal.result _ _ (octal_begins c.args.quote c.args.rest.now) c.octal.ensures.some

pub returns-in-None-clause-none : goal.returns-in-None-clause-none
returns-in-None-clause-none c =
    subst (λ (xs : List ℕ). IfNone c.octal.result (BeginsNoCharacter c.args.quote (92 ∷ xs))) (sym c.in-Some.ensures.cases.0)
    (map_none c.octal.result _ _
    (octal_none c.args.quote c.in-Some.e.now c.in-Some.more.now c.requires (sym c.sign_of.ensures.value ∙ c.in_default-sign_of.is)
    (other_byte c.in-Some.e.now 120 c.if-e-eq120.false) (sym c.count_of.ensures.value ∙ c.in-None.is))
    (subst (λ (xs : List ℕ). IfNone c.octal.result (HasNoOctal xs)) c.in-Some.ensures.cases.0 c.octal.ensures.none))
