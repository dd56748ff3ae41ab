-- What two operands that stand together are of, by how each stands.
use Rattle.std.proofs.Common.{◌≡◌, Option, Some, None, refl, sym, ◌∙◌, subst}
use Rattle.go_model.specs.declared.constants.value.Untyped.TheVariants as untyped
use Rattle.go_model.specs.declared.constants.value.Untyped.{Untyped}
use Rattle.go_model.specs.declared.types.package.ConstTerm.{ConstTerm}
use Rattle.go_model.specs.declared.types.term.Term.{Term}
use Rattle.go_rules.specs.Environments.{Env}
use Rattle.go_rules.specs.Operands.{IsTyped, IsUntyped}
use Rattle.go_rules.specs.Usability.{JoinsTo, Match, match_types, match_right, match_left, match_kinds, UsableAs}
use Rattle.go_rules.specs.declared.operand.Operand.{Operand}
use Rattle.go_usability.proofs.Using.{StandsForKind, typed_stands, untyped_stands}
use Rattle.go_usability.specs.Answers.{Gives}
use Rattle.go_usability.specs.inner.Matches.{OfTypes, OfUse, OfKinds, joined_kind}
use Rattle.go_usability.specs.inner.Stands.{Stand, of_type, of_constant, truth, stand_of}

-- ---- an operand is of one type or kind

pub typed_once : (o : Operand) (t u : Term) → IsTyped o t → IsTyped o u → t ≡ u
typed_once o t u a b = let e : of_type t ≡ of_type u = sym (typed_stands o t a) ∙ typed_stands o u b in cc

pub typed_untyped : (o : Operand) (t : Term) (k : Untyped) → IsTyped o t → IsUntyped o k → ⊥
typed_untyped o t k a b = subst (StandsForKind k) (typed_stands o t a) (untyped_stands o k b)

kinds_same : (s : Stand) (j k : Untyped) → StandsForKind j s → StandsForKind k s → j ≡ k
kinds_same (of_constant i v) j k a b = sym a ∙ b
kinds_same truth j k a b = a ∙ sym b
kinds_same s j k a b = absurd a

pub untyped_once : (o : Operand) (j k : Untyped) → IsUntyped o j → IsUntyped o k → j ≡ k
untyped_once o j k a b = kinds_same (stand_of o) j k (untyped_stands o j a) (untyped_stands o k b)

-- ---- two untyped kinds

joins : (j k : Untyped) → Gives (JoinsTo j k) (joined_kind j k)
joins untyped.IntKind untyped.IntKind = (refl, refl)
joins untyped.IntKind untyped.RuneKind = refl
joins untyped.RuneKind untyped.IntKind = refl
joins untyped.RuneKind untyped.RuneKind = (refl, refl)
joins untyped.StrKind untyped.StrKind = (refl, refl)
joins untyped.BoolKind untyped.BoolKind = (refl, refl)
joins j k = λ l i. absurd (cc)

pub kinds_some : (j k l : Untyped) → Some l ≡ joined_kind j k → JoinsTo j k l
kinds_some j k l e = subst (Gives (JoinsTo j k)) (sym e) (joins j k)

pub kinds_none : (j k : Untyped) → None ≡ joined_kind j k → (l : Untyped) → JoinsTo j k l → ⊥
kinds_none j k e = subst (Gives (JoinsTo j k)) (sym e) (joins j k)

-- ---- two operands

module _ (E : Env) (l r : Operand) where
  pub of_types : (t u : Term) (c : Option ConstTerm) → IsTyped l t → IsTyped r u → OfTypes t u c → Gives (Match E l r) c
  of_types t u (Some c) a b h = subst (Match E l r) (sym h.0) (match_types a (subst (IsTyped r) (sym h.1) b))
  of_types t u None a b h = none
    where
      none : (d : ConstTerm) → Match E l r d → ⊥
      none d (match_types {t = v} x y) = h (typed_once l t v a x ∙ typed_once r v u y b)
      none d (match_right {k = k} x y z) = typed_untyped l t k a x
      none d (match_left {k = k} x y z) = typed_untyped r u k b y
      none d (match_kinds {j = j} x y z) = typed_untyped l t j a x

  pub of_left : (t : Term) (k : Untyped) (c : Option ConstTerm) → IsTyped l t → IsUntyped r k → OfUse E r t c → Gives (Match E l r) c
  of_left t k (Some c) a b h = subst (Match E l r) (sym h.0) (match_left a b h.1)
  of_left t k None a b h = none
    where
      none : (d : ConstTerm) → Match E l r d → ⊥
      none d (match_types {t = v} x y) = typed_untyped r v k y b
      none d (match_right {k = j} x y z) = typed_untyped l t j a x
      none d (match_left {t = v} x y z) = h (subst (UsableAs E r) (typed_once l v t x a) z)
      none d (match_kinds {j = j} x y z) = typed_untyped l t j a x

  pub of_right : (t : Term) (k : Untyped) (c : Option ConstTerm) → IsUntyped l k → IsTyped r t → OfUse E l t c → Gives (Match E l r) c
  of_right t k (Some c) a b h = subst (Match E l r) (sym h.0) (match_right a b h.1)
  of_right t k None a b h = none
    where
      none : (d : ConstTerm) → Match E l r d → ⊥
      none d (match_types {t = v} x y) = typed_untyped l v k x a
      none d (match_right {t = v} x y z) = h (subst (UsableAs E l) (typed_once r v t y b) z)
      none d (match_left {t = v} x y z) = typed_untyped l v k x a
      none d (match_kinds {k = j} x y z) = typed_untyped r t j b y

  pub of_kinds : (j k : Untyped) (c : Option ConstTerm) → IsUntyped l j → IsUntyped r k → OfKinds j k c → Gives (Match E l r) c
  of_kinds j k (Some c) a b h = subst (Match E l r) (sym h.1) (match_kinds a b h.2)
  of_kinds j k None a b h = none
    where
      none : (d : ConstTerm) → Match E l r d → ⊥
      none d (match_types {t = v} x y) = typed_untyped l v j x a
      none d (match_right {t = v} x y z) = typed_untyped r v k y b
      none d (match_left {t = v} x y z) = typed_untyped l v j x a
      none d (match_kinds {j = i} {k = m} {l = n} x y z) = h n (subst (λ (q : Untyped). JoinsTo q k n) (untyped_once l i j x a) (subst (λ (q : Untyped). JoinsTo i q n) (untyped_once r m k y b) z))

  -- one of them is of none
  pub left_none : ((t : Term) → IsTyped l t → ⊥) → ((k : Untyped) → IsUntyped l k → ⊥) → (d : ConstTerm) → Match E l r d → ⊥
  left_none a b d (match_types {t = v} x y) = a v x
  left_none a b d (match_right {k = k} x y z) = b k x
  left_none a b d (match_left {t = v} x y z) = a v x
  left_none a b d (match_kinds {j = j} x y z) = b j x

  pub right_none : ((t : Term) → IsTyped r t → ⊥) → ((k : Untyped) → IsUntyped r k → ⊥) → (d : ConstTerm) → Match E l r d → ⊥
  right_none a b d (match_types {t = v} x y) = a v y
  right_none a b d (match_right {t = v} x y z) = a v y
  right_none a b d (match_left {k = k} x y z) = b k y
  right_none a b d (match_kinds {k = k} x y z) = b k y
