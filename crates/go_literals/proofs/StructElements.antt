-- Elements of literals of struct types, with keys or without.
use Rattle.std.proofs.Common.{◌≡◌, ℕ, List, [], ◌∷◌, refl, sym, ap, ◌∙◌, subst, ◌⊎◌, inl, inr, Bool, true, false, ◌&&◌, Option, Some, None}
use Rattle.go_model.specs.declared.types.term.Field.{Field}
use Rattle.go_model.specs.declared.types.term.Term.{Term}
use Rattle.go_model.specs.types.Imports.{is_imported_struct}
use Rattle.go_rules.specs.Environments.{Env, Entered}
use Rattle.go_rules.specs.Expressions.{HasFieldKey, field_key, HasKeyed, keyed_none, keyed_more, HasUnkeyed, unkeyed_more}
use Rattle.go_selectors.specs.Answers.{Decides}
use Rattle.go_syntax.specs.declared.expression.Element.{Element, out-Element}
use Rattle.go_syntax.specs.declared.name.Name.{Name}
use Rattle.go_operations.proofs.Typed.{none_some, true_false}
use Rattle.go_literals.specs.Structs.{AreKeyed, AreUnkeyed, MayBeUnkeyed, StructFits, is_there, names_fields}

key_there : {x : Element} {n : Name} → HasFieldKey x n → is_there (out-Element x).key ≡ true
key_there (field_key i j k) = ap is_there i

first_there : {E : Env} {fs : List Field} {x : Element} {xs : List Element} {ns : List (List ℕ)} → HasKeyed E fs (x ∷ xs) ns → is_there (out-Element x).key ≡ true
first_there (keyed_more f k b i s v h u m) = key_there k

first_not : {E : Env} {fs : List Field} {x : Element} {xs : List Element} → HasUnkeyed E fs (x ∷ xs) → is_there (out-Element x).key ≡ false
first_not (unkeyed_more k v h u r m) = ap is_there k

module _ (E : Env) (t : Term) (fs : List Field) where
  keyed_names : (xs : List Element) → AreKeyed E fs xs → names_fields xs ≡ true
  keyed_names [] a = refl
  keyed_names (x ∷ xs) a = first_there a.1

  empty_keyed : AreKeyed E fs []
  empty_keyed = ([], keyed_none, tt)

  unkeyed_keyed : (xs : List Element) → names_fields xs ≡ true → AreUnkeyed E t fs xs → AreKeyed E fs xs
  unkeyed_keyed [] e a = empty_keyed
  unkeyed_keyed (x ∷ xs) e a = absurd (true_false (sym e ∙ first_not a.1))

  pub in_keyed : (xs : List Element) → names_fields xs ≡ true → StructFits E t fs xs → AreKeyed E fs xs
  in_keyed xs e (inl a) = a
  in_keyed xs e (inr a) = unkeyed_keyed xs e a

  pub in_unkeyed : (xs : List Element) → names_fields xs ≡ false → StructFits E t fs xs → AreUnkeyed E t fs xs
  in_unkeyed xs e (inl a) = absurd (true_false (sym (keyed_names xs a) ∙ e))
  in_unkeyed xs e (inr a) = a
