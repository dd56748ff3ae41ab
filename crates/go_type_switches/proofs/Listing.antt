-- What the clauses of a type switch list, one clause after another.
use Rattle.std.proofs.Common.{◌≡◌, ◌∙◌, ◌<◌, ◌≤◌, ◌+◌, ℕ, List, [], ◌∷◌, ◌++◌, Option, None, Some, Result, Ok, Err, length, get_or, drop, append-nil, append_assoc, refl, sym, ap, subst}
use Rattle.std.specs.Result.{IsErrAnd}
use Rattle.go_base.specs.Lists.{Once}
use Rattle.go_model.specs.declared.types.term.Term.{Term}
use Rattle.go_rules.specs.Environments.{Env}
use Rattle.go_rules.proofs.OneName.{none_some, one_some}
use Rattle.go_selectors.proofs.Lists.{drop_all, drop_next}
use Rattle.go_statement_rules.specs.Clauses.{ListsAll}
use Rattle.go_statement_rules.specs.Statements.{AreListed, ListsClauses, clauses_default, clauses_none, clauses_types}
use Rattle.go_statement_rules.proofs.OneRun.{listed_once}
use Rattle.go_syntax.specs.declared.statement.TypeCase.{TypeCase, out-TypeCase}
use Rattle.go_syntax.specs.declared.types.«Type».{«Type» as Typ}
use Rattle.go_type_terms.specs.Answers.{Tells}
use Rattle.go_type_terms.specs.declared.error.ExprError.{ExprError}
use Rattle.go_type_terms.specs.declared.error.ExprError.TheVariants.{NoMemory, Untyped}
use Rattle.go_type_switches.specs.Switches.{AreClausesOf}
use Rattle.go_type_switches.specs.inner.Listing.{PushesListed}

module _ (E : Env) (i : Term) where
  -- ---- one clause

  module _ (ts : Option (List Typ)) (old new : List (Option Term)) where
    pub pushes_err : (fs : List Typ) → ts ≡ Some fs → (e : ExprError) (r : Result (Unit {0}) ExprError) → IsErrAnd r (λ x. x ≡ e) → Tells {A = List (Option Term)} (ListsAll E i fs) (Err e) → PushesListed E i ts old new r
    pushes_err fs j e (Ok u) k t = absurd k
    pushes_err fs j e (Err NoMemory) k t = tt
    pushes_err fs j Untyped (Err Untyped) k t = λ xs h. t xs (subst (λ (us : Option (List Typ)). AreListed E i us xs) j h)
    pushes_err fs j NoMemory (Err Untyped) k t = absurd (cc)

    pub pushes_some : (fs : List Typ) → ts ≡ Some fs → (xs : List (Option Term)) → ListsAll E i fs xs → new ≡ old ++ xs → PushesListed E i ts old new (Ok tt)
    pushes_some fs j xs h e = (xs, subst (λ (us : Option (List Typ)). AreListed E i us xs) (sym j) h, e)

    pub pushes_none : ts ≡ None → new ≡ old → PushesListed E i ts old new (Ok tt)
    pushes_none j e = ([], subst (λ (us : Option (List Typ)). AreListed E i us []) (sym j) refl, e ∙ sym (append-nil old))

  -- ---- all clauses

  clause_more : (c : TypeCase) (cs : List TypeCase) (ts : Option (List Typ)) (xs ys : List (Option Term)) → (out-TypeCase c).types ≡ ts → AreListed E i ts xs → ListsClauses E i cs ys → ListsClauses E i (c ∷ cs) (xs ++ ys)
  clause_more c cs None xs ys j a h = subst (λ (zs : List (Option Term)). ListsClauses E i (c ∷ cs) (zs ++ ys)) (sym a) (clauses_default j h)
  clause_more c cs (Some fs) xs ys j a h = clauses_types j a h

  clause_rest : {c : TypeCase} {cs : List TypeCase} {zs : List (Option Term)} → ListsClauses E i (c ∷ cs) zs → (ys : List (Option Term)) × ListsClauses E i cs ys
  clause_rest (clauses_default j h) = (_, h)
  clause_rest (clauses_types j a h) = (_, h)

  clause_first : {c : TypeCase} {cs : List TypeCase} {zs : List (Option Term)} → ListsClauses E i (c ∷ cs) zs → (xs : List (Option Term)) × AreListed E i (out-TypeCase c).types xs
  clause_first (clauses_default j h) = ([], subst (λ (us : Option (List Typ)). AreListed E i us []) (sym j) refl)
  clause_first (clauses_types {xs = xs} j a h) = (xs, subst (λ (us : Option (List Typ)). AreListed E i us xs) (sym j) a)

  -- what the clauses that are left list goes behind what the first ones do
  pub record Lists (whole rest : List TypeCase) (all : List (Option Term)) : Type 0 where
    pub to : (ys : List (Option Term)) → ListsClauses E i rest ys → ListsClauses E i whole (all ++ ys)
    pub from : (zs : List (Option Term)) → ListsClauses E i whole zs → (ys : List (Option Term)) × ListsClauses E i rest ys

  pub lists_begins : (whole : List TypeCase) (all : List (Option Term)) → all ≡ [] → Lists whole whole all
  lists_begins whole all e = subst (λ (xs : List (Option Term)). Lists whole whole xs) (sym e) (record { to = λ ys h. h; from = λ zs h. (zs, h) })

  module _ (whole : List TypeCase) (at : ℕ) (all : List (Option Term)) (w : Lists whole (drop at whole) all) where
    pub lists_whole : length whole ≤ at → ListsClauses E i whole all
    lists_whole h =
        let ended = subst (λ (cs : List TypeCase). Lists whole cs all) (drop_all at whole h) w in
        subst (λ (xs : List (Option Term)). ListsClauses E i whole xs) (append-nil all) (ended.to [] clauses_none)

    module _ (c : TypeCase) (h : at < length whole) (e : c ≡ get_or whole at c) where
      there : Lists whole (c ∷ drop (at + 1) whole) all
      there = subst (λ (cs : List TypeCase). Lists whole cs all) (drop_next at whole c h e) w

      pub lists_next : (new xs : List (Option Term)) → AreListed E i (out-TypeCase c).types xs → new ≡ all ++ xs → Lists whole (drop (at + 1) whole) new
      lists_next new xs a j = subst (λ (zs : List (Option Term)). Lists whole (drop (at + 1) whole) zs) (sym j) (record {
        to = λ ys k. subst (λ (zs : List (Option Term)). ListsClauses E i whole zs) (sym (append_assoc all xs ys)) (there.to (xs ++ ys) (clause_more c (drop (at + 1) whole) (out-TypeCase c).types xs ys refl a k));
        from = λ zs k. clause_rest (there.from zs k).1;
      })

      -- where the next one may not list what it does
      pub lists_none : (old new : List (Option Term)) (x : ExprError) (r : Result (List (Option Term)) ExprError) → IsErrAnd r (λ y. y ≡ x) → PushesListed E i (out-TypeCase c).types old new (Err x) → Tells {A = List (Option Term)} (ListsClauses E i whole) r
      lists_none old new x (Ok zs) k p = absurd k
      lists_none old new x (Err NoMemory) k p = tt
      lists_none old new Untyped (Err Untyped) k p = λ zs g. let f = clause_first (there.from zs g).1 in p f.0 f.1
      lists_none old new NoMemory (Err Untyped) k p = absurd (cc)

  clauses_once : {cs : List TypeCase} {xs ys : List (Option Term)} → ListsClauses E i cs xs → ListsClauses E i cs ys → xs ≡ ys
  clauses_once clauses_none clauses_none = refl
  clauses_once (clauses_default j h) (clauses_default k g) = clauses_once h g
  clauses_once (clauses_default j h) (clauses_types k a g) = absurd (none_some (sym j ∙ k))
  clauses_once (clauses_types j a h) (clauses_default k g) = absurd (none_some (sym k ∙ j))
  clauses_once (clauses_types {ts = ts} {xs = xs} {ys = ys} j a h) (clauses_types {xs = us} k b g) =
      let same = listed_once E i (Some ts) a (subst (λ (fs : List Typ). ListsAll E i fs us) (one_some (sym k ∙ j)) b) in
      ap (λ zs. zs ++ ys) same ∙ ap (λ zs. us ++ zs) (clauses_once h g)

  -- where something is listed twice, it is so however the clauses are read
  pub twice_listed : (cs : List TypeCase) (xs zs : List (Option Term)) → ListsClauses E i cs xs → zs ≡ xs → (Once zs → ⊥) → AreClausesOf E i cs → ⊥
  twice_listed cs xs zs h e none a = none (subst (λ (ys : List (Option Term)). Once ys) (clauses_once a.1 h ∙ sym e) a.2)
