-- Specs of constants that repeat the type and the values of others.
use Rattle.std.proofs.Common.{◌≡◌, ◌<◌, ◌+◌, ℕ, suc, List, [], ◌∷◌, ◌++◌, append_assoc, add-one, drop, drop-cons, get_or, length, map, refl, sym, ap, ◌∙◌, subst}
use Rattle.std.proofs.lemmas.List.{map-append}
use Rattle.go_syntax.specs.declared.declaration.ConstSpec.{ConstSpec}
use Rattle.go_syntax.specs.declared.expression.Expr.{Expr}
use Rattle.go_typings.specs.Declarations.{constants, constants_from, Declaration as Declared, in_file, repeated, repeats}
use Rattle.go_declarations.specs.Forms.{spec_of}
use Rattle.go_declarations.specs.Listings.{declaration_of, declarations_of}
use Rattle.go_declarations.specs.declared.form.Constants.{Constants}
use Rattle.go_declarations.specs.declared.form.Form.TheVariants as form
use Rattle.go_declarations.specs.declared.listing.Declaration.{Declaration}
use Rattle.go_declarations.specs.inner.Repeating.{HasSame, with_names}

-- what a spec repeats of another is its type and its values
repeats_same : (a b s : ConstSpec) (es : List Expr) → HasSame a b → repeats a s es ≡ repeats b s es
repeats_same a b s [] h = λ i. record { names = s.names; type_ = h.0 i; values = h.1 i }
repeats_same a b s (e ∷ es) h = refl

pub from_same : (a b : ConstSpec) (place : ℕ) (ss : List ConstSpec) → HasSame a b → constants_from a place ss ≡ constants_from b place ss
from_same a b place [] h = refl
from_same a b place (s ∷ ss) h =
    let e = repeats_same a b s s.values h in
    λ i. constants (e i) place ∷ constants_from (e i) (suc place) ss

-- names with what is repeated
named_same : (b s c : ConstSpec) (es : List Expr) → HasSame c (repeats b s es) → with_names s.names c ≡ repeats b s es
named_same b s c [] h = λ i. record { names = s.names; type_ = h.0 i; values = h.1 i }
named_same b s c (e ∷ es) h = λ i. record { names = s.names; type_ = h.0 i; values = h.1 i }

-- the first of a group, and the others
first_and_others : (b s c : ConstSpec) (place : ℕ) (ss : List ConstSpec) → HasSame c (repeated b s) → constants (with_names s.names c) place ∷ constants_from c (suc place) ss ≡ constants_from b place (s ∷ ss)
first_and_others b s c place ss h =
    let e = named_same b s c s.values h in
    let f = from_same c (repeated b s) (suc place) ss h in
    λ i. constants (e i) place ∷ f i

-- one more is listed
module _ (file place : ℕ) (old new : List Declaration) (k : Constants) (b s c : ConstSpec) (whole : List ConstSpec) (all : List Declared) where
  abbrev pub borrowed : Declaration
  borrowed = record { file = file; form = form.Constants k }

  is_constants : spec_of k ≡ with_names s.names c → k.place ≡ place → declaration_of borrowed ≡ in_file file (constants (with_names s.names c) place)
  is_constants e f = λ i. in_file file (constants (e i) (f i))

  pub listed_next : new ≡ old ++ borrowed ∷ [] → spec_of k ≡ with_names s.names c → k.place ≡ place → HasSame c (repeated b s) → place < length whole → s ≡ get_or whole place s
      → declarations_of old ++ map (in_file file) (constants_from b place (drop place whole)) ≡ all
      → declarations_of new ++ map (in_file file) (constants_from c (place + 1) (drop (place + 1) whole)) ≡ all
  listed_next e is at same within item before =
      let more = λ (n : ℕ). map (in_file file) (constants_from c n (drop n whole)) in
      let others = map (in_file file) (constants_from c (suc place) (drop (suc place) whole)) in
      let added : declarations_of new ≡ declarations_of old ++ declaration_of borrowed ∷ [] = ap declarations_of e ∙ map-append declaration_of old (borrowed ∷ []) in
      let split : drop place whole ≡ s ∷ drop (suc place) whole = drop-cons whole place s within ∙ ap (λ x. x ∷ drop (suc place) whole) (sym item) in
      let rest : declaration_of borrowed ∷ others ≡ map (in_file file) (constants_from b place (drop place whole)) =
      ap (λ x. x ∷ others) (is_constants is at) ∙ ap (map (in_file file)) (first_and_others b s c place (drop (suc place) whole) same ∙ ap (constants_from b place) (sym split)) in
      ap (λ n. declarations_of new ++ more n) (add-one place) ∙ ap (λ ds. ds ++ others) added ∙ append_assoc (declarations_of old) (declaration_of borrowed ∷ []) others ∙ ap (λ ds. declarations_of old ++ ds) rest ∙ before
