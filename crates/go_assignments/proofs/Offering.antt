-- What values offer to names, one after another.
use Rattle.std.proofs.Common.{◌≡◌, ◌∙◌, ◌<◌, ◌≤◌, ◌+◌, ℕ, suc, List, [], ◌∷◌, ◌++◌, Option, Some, Result, Ok, Err, length, take, get_or, arith, refl, sym, ap, subst}
use Rattle.std.proofs.lemmas.List.{take_all}
use Rattle.std.specs.Result.{IsErrAnd}
use Rattle.go_model.specs.declared.types.term.Term.{Term}
use Rattle.go_rules.specs.Asks.{AreDistinctNames, texts}
use Rattle.go_rules.specs.Environments.{Env}
use Rattle.go_rules.specs.declared.operand.Operand.{Operand}
use Rattle.go_rules.specs.declared.seen.Seen.{Seen}
use Rattle.go_rules.specs.declared.seen.Seen.TheVariants as seen
use Rattle.go_rules.specs.Usability.{UsableAs}
use Rattle.go_selectors.proofs.Lists.{taken_next}
use Rattle.go_syntax.specs.declared.expression.Expr.{Expr}
use Rattle.go_syntax.specs.declared.name.Name.{Name}
use Rattle.go_type_terms.specs.Answers.{Tells}
use Rattle.go_type_terms.specs.declared.error.ExprError.{ExprError}
use Rattle.go_type_terms.specs.declared.error.ExprError.TheVariants.{NoMemory, Untyped}
use Rattle.go_typings.specs.Initializers.{Initialize}
use Rattle.go_typings.proofs.OneEntry.{initialize_once}
use Rattle.go_assignments.specs.Simple.{AreMet}
use Rattle.go_assignments.specs.declared.defined.Offer.{Offer}
use Rattle.go_assignments.specs.inner.Definitions.{AreOffers, IsOffer, MayTake, TellsGiven, TellsOffers}

module _ (E : Env) where
  -- the one variable that the name means
  pub one_variable : (n : Name) (o : Operand) {t : Term} → E.meaning n.text ≡ Some (seen.Local t) → MayTake E n o → UsableAs E o t
  one_variable n o i h = subst (UsableAs E o) (one_local (sym h.1) i) h.2
    where
      one_local : {m : Option Seen} {t u : Term} → Some (seen.Local t) ≡ m → m ≡ Some (seen.Local u) → t ≡ u
      one_local i j = cc

  -- ---- one after another

  offers_last : (ns : List Name) (os : List Operand) (xs : List Offer) (n : Name) (o : Operand) (x : Offer) → AreOffers E ns os xs → IsOffer E n o x → AreOffers E (ns ++ n ∷ []) (os ++ o ∷ []) (xs ++ x ∷ [])
  offers_last [] [] [] n o x h i = (i, tt)
  offers_last (m ∷ ns) (p ∷ os) (y ∷ xs) n o x h i = (h.0, offers_last ns os xs n o x h.1 i)
  offers_last ns os xs n o x h i = absurd h

  pub offers_lengths : (ns : List Name) (os : List Operand) (xs : List Offer) → AreOffers E ns os xs → length ns ≡ length os
  offers_lengths [] [] [] h = refl
  offers_lengths (n ∷ ns) (o ∷ os) (x ∷ xs) h = ap suc (offers_lengths ns os xs h.1)
  offers_lengths ns os xs h = absurd h

  pub offers_begin : (ns : List Name) (os : List Operand) (xs : List Offer) → xs ≡ [] → AreOffers E (take 0 ns) (take 0 os) xs
  offers_begin ns os xs e = subst (λ (ys : List Offer). AreOffers E (take 0 ns) (take 0 os) ys) (sym e) tt

  pub offers_whole : (ns : List Name) (os : List Operand) (xs : List Offer) (i : ℕ) → length ns ≤ i → length ns ≡ length os → AreOffers E (take i ns) (take i os) xs → AreOffers E ns os xs
  offers_whole ns os xs i h same a =
      subst (λ (ms : List Name). AreOffers E ms os xs) (take_all i ns h) (subst (λ (ps : List Operand). AreOffers E (take i ns) ps xs) (take_all i os (omega (arith, h, same))) a)

  module _ (ns : List Name) (os : List Operand) (i : ℕ) (n : Name) (o : Operand) (h : i < length ns) (same : length ns ≡ length os) (e : n ≡ get_or ns i n) (f : o ≡ get_or os i o) where
    pub offers_next : (xs new : List Offer) (x : Offer) → IsOffer E n o x → new ≡ xs ++ x ∷ [] → AreOffers E (take i ns) (take i os) xs → AreOffers E (take (i + 1) ns) (take (i + 1) os) new
    offers_next xs new x w g a =
        subst (λ (ms : List Name). AreOffers E ms (take (i + 1) os) new) (sym (taken_next ns i n h e))
        (subst (λ (ps : List Operand). AreOffers E (take i ns ++ n ∷ []) ps new) (sym (taken_next os i o (omega (arith, h, same)) f))
        (subst (λ (ys : List Offer). AreOffers E (take i ns ++ n ∷ []) (take i os ++ o ∷ []) ys) (sym g) (offers_last (take i ns) (take i os) xs n o x a w)))

  -- ---- the whole

  module _ (ns : List Name) (es : List Expr) where
    pub given_values : (e : ExprError) (r : Result (List Offer) ExprError) → IsErrAnd r (λ x. x ≡ e) → Tells {A = List Operand} (Initialize E (length ns) es) (Err e) → TellsGiven E ns es r
    given_values e (Ok xs) i t = absurd i
    given_values e (Err NoMemory) i t = tt
    given_values Untyped (Err Untyped) i t = λ os g. t os g.1
    given_values NoMemory (Err Untyped) i t = absurd (cc)

    module _ (os ps : List Operand) (given : Initialize E (length ns) es os) (same : ps ≡ os) where
      pub given_offers : (e : ExprError) (r : Result (List Offer) ExprError) → IsErrAnd r (λ x. x ≡ e) → TellsOffers E ns ps (Err e) → TellsGiven E ns es r
      given_offers e (Ok xs) i t = absurd i
      given_offers e (Err NoMemory) i t = tt
      given_offers Untyped (Err Untyped) i t = λ qs g. t (g.3 ∙ ap (λ (ys : List Operand). length ys) (initialize_once E g.1 given ∙ sym same))
      given_offers NoMemory (Err Untyped) i t = absurd (cc)

      pub given_whole : (xs : List Offer) → AreDistinctNames (texts ns) → AreMet E es → AreOffers E ns ps xs → TellsGiven E ns es (Ok xs)
      given_whole xs d m a = let b = subst (λ (qs : List Operand). AreOffers E ns qs xs) same a in (os, (d, given, m, offers_lengths ns os xs b), b)
