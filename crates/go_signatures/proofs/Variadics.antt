-- Where `...` stands, in a list that is taken apart at its last parameter.
use Rattle.std.proofs.Common.{◌≡◌, nat_le, Bool, true, false, if◌then◌else◌, List, [], ◌∷◌, ◌++◌, length, refl, sym, ap, ◌∙◌, rules, arith}
use Rattle.std.proofs.lemmas.Grind.{common_steps}
use Rattle.go_syntax.specs.declared.name.Name.{Name}
use Rattle.go_syntax.specs.declared.types.ParameterDecl.{ParameterDecl, out-ParameterDecl}
use Rattle.go_syntax.specs.grammar.Grammar.{is_variadic, at_most_one, none_variadic, last_variadic}

unless : (b n t c : Bool) → c ≡ (if n then t else false) → (if b then false else c) ≡ (if (if b then false else n) then t else false)
unless true n t c e = refl
unless false n t c e = e

abbrev ends : ParameterDecl → Bool
ends d = if is_variadic d then at_most_one (out-ParameterDecl d).names else true

last_of : (others : List ParameterDecl) (d : ParameterDecl) → last_variadic (others ++ d ∷ []) ≡ (if none_variadic others then ends d else false)
last_of [] d = refl
last_of (x ∷ []) d = unless (is_variadic x) true (ends d) (ends d) refl
last_of (x ∷ (y ∷ ys)) d = unless (is_variadic x) (none_variadic (y ∷ ys)) (ends d) (last_variadic (y ∷ (ys ++ d ∷ []))) (last_of (y ∷ ys) d)

module _ (parameters others : List ParameterDecl) (d : ParameterDecl) (apart : parameters ≡ others ++ d ∷ []) where
  among : (n : Bool) → none_variadic others ≡ n → last_variadic parameters ≡ (if n then ends d else false)
  among n e = ap last_variadic apart ∙ last_of others d ∙ ap (λ (b : Bool). if b then ends d else false) e

  pub other_variadic : none_variadic others ≡ false → false ≡ last_variadic parameters
  other_variadic e = sym (among false e)

  pub plain_last : none_variadic others ≡ true → is_variadic d ≡ false → true ≡ last_variadic parameters
  plain_last e v = sym (among true e ∙ ap (λ (b : Bool). if b then at_most_one (out-ParameterDecl d).names else true) v)

  pub named_last : none_variadic others ≡ true → is_variadic d ≡ true → (b : Bool) → b ≡ at_most_one (out-ParameterDecl d).names → b ≡ last_variadic parameters
  named_last e v b q = q ∙ sym (among true e ∙ ap (λ (c : Bool). if c then at_most_one (out-ParameterDecl d).names else true) v)

pub short : (ns : List Name) → nat_le (length ns) 1 ≡ at_most_one ns
short [] = refl
short (n ∷ []) = refl
short (n ∷ (m ∷ ns)) = first_of (search rules, grind (arith, common_steps))
