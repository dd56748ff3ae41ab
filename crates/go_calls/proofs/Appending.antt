-- `append` and `copy`: what they make, and where they make nothing.
use Rattle.std.proofs.Common.{◌≡◌, ℕ, Bool, true, false, Option, Some, None, refl, sym, ap, ◌∙◌, subst, if◌then◌else◌, List, [], ◌∷◌, length, IsTrue, ◌↔◌, arith}
use Rattle.go_base.specs.Lists.{Each}
use Rattle.go_model.specs.declared.constants.value.Basic.TheVariants as basic
use Rattle.go_model.specs.declared.types.term.Term.{Term, Term-F}
use Rattle.go_model.specs.types.Underlying.{under}
use Rattle.go_rules.specs.Environments.{Env}
use Rattle.go_model.specs.types.Terms.{slice_of}
use Rattle.go_rules.specs.Expressions.{IsString}
use Rattle.go_rules.specs.Operands.{IsTyped, basic_term, plain}
use Rattle.go_rules.specs.Usability.{UsableAs}
use Rattle.go_rules.specs.declared.operand.Operand.{Operand}
use Rattle.go_rules.proofs.OneKind.{one_type}
use Rattle.go_selectors.specs.Answers.{Decides}
use Rattle.go_elements.specs.go_usability.Answers.{Gives}
use Rattle.go_calls.specs.Builtins.{Appends, appends_elements, appends_slice, appends_string, Copies, copies_slice, copies_string, int_value}
use Rattle.go_calls.specs.inner.Appended.{IsBytesFrom, MayAppend, append_bytes, append_same, MayAppendAll, append_each, append_last, MayCopy, copy_bytes, copy_same}
use Rattle.go_elements.proofs.go_operators_proofs.Answers.{given, false_true}
use Rattle.go_calls.proofs.LevelParts.{same_element}

pub decide : (P : Type 0) (b : Bool) → (IsTrue b ↔ P) → Decides b P
decide P true i = i.0 refl
decide P false i = λ p. false_true (i.1 p)

head_same : {A : Type 0} {x y : A} → x ∷ [] ≡ y ∷ [] → x ≡ y
head_same e = cc

module _ (E : Env) where
  of_bytes : {e : Term} {o : Operand} → MayAppend E e o → (IsBytesFrom E e o → ⊥) → UsableAs E o (slice_of e)
  of_bytes (append_bytes b) none = absurd (none b)
  of_bytes (append_same u) none = u

  pub append_decides : (e : Term) (o : Operand) (b : Bool) → (IsBytesFrom E e o → ⊥) → Decides b (UsableAs E o (slice_of e)) → Decides b (MayAppend E e o)
  append_decides e o true none d = append_same d
  append_decides e o false none d = λ x. d (of_bytes x none)

  each_of : {e : Term} {os : List Operand} → MayAppendAll E e os false → Each (λ o. UsableAs E o e) os
  each_of (append_each u) = u

  pub all_decides : (e : Term) (os : List Operand) (b : Bool) → Decides b (Each (λ o. UsableAs E o e) os) → Decides b (MayAppendAll E e os false)
  all_decides e os true d = append_each d
  all_decides e os false d = λ x. d (each_of x)

  last_of : {e : Term} {os : List Operand} → MayAppendAll E e os true → (o : Operand) × (os ≡ o ∷ []) × MayAppend E e o
  last_of (append_last m) = (_, refl, m)

  pub last_decides : (e : Term) (os : List Operand) (o : Operand) (b : Bool) → os ≡ o ∷ [] → Decides b (MayAppend E e o) → Decides b (MayAppendAll E e os true)
  last_decides e os o true p d = subst (λ (x : List Operand). MayAppendAll E e x true) (sym p) (append_last d)
  last_decides e os o false p d = λ x. d (subst (MayAppend E e) (head_same (sym (last_of x).1 ∙ p)) (last_of x).2)

  pub last_none : (e : Term) (os : List Operand) → ((o : Operand) → os ≡ o ∷ [] → ⊥) → MayAppendAll E e os true → ⊥
  last_none e os none x = none _ (last_of x).1

  pub dots_none : (e : Term) (os : List Operand) (dots : Bool) (b : Bool) → dots ≡ false → Decides b (Each (λ o. UsableAs E o e) os) → Decides b (MayAppendAll E e os dots)
  dots_none e os dots b f d = subst (λ (x : Bool). Decides b (MayAppendAll E e os x)) (sym f) (all_decides e os b d)

  pub dots_last : (e : Term) (os : List Operand) (dots : Bool) (o : Operand) (b : Bool) → dots ≡ true → os ≡ o ∷ [] → Decides b (MayAppend E e o) → Decides b (MayAppendAll E e os dots)
  dots_last e os dots o b f p d = subst (λ (x : Bool). Decides b (MayAppendAll E e os x)) (sym f) (last_decides e os o b p d)

  pub dots_no_last : (e : Term) (os : List Operand) (dots : Bool) → dots ≡ true → ((o : Operand) → os ≡ o ∷ [] → ⊥) → MayAppendAll E e os dots → ⊥
  dots_no_last e os dots f none x = last_none e os none (subst (MayAppendAll E e os) f x)

  -- ---- append

  appended : {o r : Operand} {os : List Operand} {dots : Bool} → Appends E (o ∷ os) dots r → (t : Term) × (u : Term) × IsTyped o t × (under E.table t ≡ Term-F.Slice u) × MayAppendAll E u os dots
  appended (appends_elements h e u) = (_, _, h, e, append_each u)
  appended (appends_slice h e u) = (_, _, h, e, append_last (append_same u))
  appended (appends_string {n = n} h e s) = (_, _, h, e, append_last (append_bytes (record { bytes = refl; length = n; string = s })))

  pub append_no_type : (o : Operand) (os : List Operand) (dots : Bool) → ((t : Term) → IsTyped o t → ⊥) → (r : Operand) → Appends E (o ∷ os) dots r → ⊥
  append_no_type o os dots none r x = none _ (appended x).2

  pub append_no_slice : (o : Operand) (os : List Operand) (dots : Bool) (t : Term) → IsTyped o t → ((u : Term) → under E.table t ≡ Term-F.Slice u → ⊥) → (r : Operand) → Appends E (o ∷ os) dots r → ⊥
  append_no_slice o os dots t h none r x = none _ (ap (under E.table) (one_type h (appended x).2) ∙ (appended x).3)

  appends_bytes : {o q : Operand} {t u : Term} → IsTyped o t → under E.table t ≡ Term-F.Slice u → IsBytesFrom E u q → Appends E (o ∷ q ∷ []) true (plain t)
  appends_bytes h e b = appends_string h (e ∙ ap Term-F.Slice b.bytes) b.string

  appends_last : {o q : Operand} {t u : Term} → IsTyped o t → under E.table t ≡ Term-F.Slice u → MayAppend E u q → Appends E (o ∷ q ∷ []) true (plain t)
  appends_last h e (append_bytes b) = appends_bytes h e b
  appends_last h e (append_same u) = appends_slice h e u

  appends_all : {o : Operand} {os : List Operand} {dots : Bool} {t u : Term} → IsTyped o t → under E.table t ≡ Term-F.Slice u → MayAppendAll E u os dots → Appends E (o ∷ os) dots (plain t)
  appends_all h e (append_each u) = appends_elements h e u
  appends_all h e (append_last m) = appends_last h e m

  pub append_gives : (o : Operand) (os : List Operand) (dots : Bool) (t u : Term) (b : Bool) → IsTyped o t → under E.table t ≡ Term-F.Slice u → Decides b (MayAppendAll E u os dots) → Gives (Appends E (o ∷ os) dots) (if b then Some (plain t) else None)
  append_gives o os dots t u b h e d =
      given (Appends E (o ∷ os) dots) (MayAppendAll E u os dots) b (plain t) d (λ m. appends_all h e m)
      (λ r x. subst (λ (y : Term). MayAppendAll E y os dots) (same_element (sym (appended x).3 ∙ ap (under E.table) (one_type (appended x).2 h) ∙ e)) (appended x).4)

  none_appended : {dots : Bool} {r : Operand} → Appends E [] dots r → ⊥
  none_appended x = elim x [ ]

  pub append_nothing : (os : List Operand) (dots : Bool) → length os ≡ 0 → (r : Operand) → Appends E os dots r → ⊥
  append_nothing [] dots e r x = none_appended x
  append_nothing (o ∷ os) dots e r x = absurd (omega arith)

  pub append_rest : (os : List Operand) (o : Operand) (qs : List Operand) (dots : Bool) (r : Option Operand) → os ≡ o ∷ qs → Gives (Appends E (o ∷ qs) dots) r → Gives (Appends E os dots) r
  append_rest os o qs dots r e g = subst (λ (y : List Operand). Gives (Appends E y dots) r) (sym e) g

  -- ---- copy

  copied : {o q r : Operand} → Copies E o q r → (t : Term) × (u : Term) × IsTyped o t × (under E.table t ≡ Term-F.Slice u) × MayCopy E u q
  copied (copies_slice h e g f) = (_, _, h, e, copy_same g f)
  copied (copies_string {n = n} h e s) = (_, _, h, e, copy_bytes (record { bytes = refl; length = n; string = s }))

  pub copy_no_type : (o q : Operand) → ((t : Term) → IsTyped o t → ⊥) → (r : Operand) → Copies E o q r → ⊥
  copy_no_type o q none r x = none _ (copied x).2

  pub copy_no_slice : (o q : Operand) (t : Term) → IsTyped o t → ((u : Term) → under E.table t ≡ Term-F.Slice u → ⊥) → (r : Operand) → Copies E o q r → ⊥
  copy_no_slice o q t h none r x = none _ (ap (under E.table) (one_type h (copied x).2) ∙ (copied x).3)

  copies_bytes : {o q : Operand} {t u : Term} → IsTyped o t → under E.table t ≡ Term-F.Slice u → IsBytesFrom E u q → Copies E o q int_value
  copies_bytes h e b = copies_string h (e ∙ ap Term-F.Slice b.bytes) b.string

  copies : {o q : Operand} {t u : Term} → IsTyped o t → under E.table t ≡ Term-F.Slice u → MayCopy E u q → Copies E o q int_value
  copies h e (copy_bytes b) = copies_bytes h e b
  copies h e (copy_same g f) = copies_slice h e g f

  pub copy_gives : (o q : Operand) (t u : Term) (b : Bool) → IsTyped o t → under E.table t ≡ Term-F.Slice u → Decides b (MayCopy E u q) → Gives (Copies E o q) (if b then Some int_value else None)
  copy_gives o q t u b h e d =
      given (Copies E o q) (MayCopy E u q) b int_value d (λ m. copies h e m)
      (λ r x. subst (λ (y : Term). MayCopy E y q) (same_element (sym (copied x).3 ∙ ap (under E.table) (one_type (copied x).2 h) ∙ e)) (copied x).4)

  may_copy_same : {e : Term} {o : Operand} → (IsBytesFrom E e o → ⊥) → MayCopy E e o → (t : Term) × IsTyped o t × (under E.table t ≡ Term-F.Slice e)
  may_copy_same none (copy_bytes b) = absurd (none b)
  may_copy_same none (copy_same h e) = (_, h, e)

  pub copy_no_typed : (e : Term) (o : Operand) → (IsBytesFrom E e o → ⊥) → ((t : Term) → IsTyped o t → ⊥) → MayCopy E e o → ⊥
  copy_no_typed e o none no_type x = no_type _ (may_copy_same none x).1

  pub copy_not_slice : (e : Term) (o : Operand) (t : Term) → (IsBytesFrom E e o → ⊥) → IsTyped o t → ((u : Term) → under E.table t ≡ Term-F.Slice u → ⊥) → MayCopy E e o → ⊥
  copy_not_slice e o t none h never x = never _ (ap (under E.table) (one_type h (may_copy_same none x).1) ∙ (may_copy_same none x).2)

  pub copy_decides : (e : Term) (o : Operand) (t u : Term) (b : Bool) → (IsBytesFrom E e o → ⊥) → IsTyped o t → under E.table t ≡ Term-F.Slice u → Decides b (e ≡ u) → Decides b (MayCopy E e o)
  copy_decides e o t u true none h f d = copy_same h (f ∙ ap Term-F.Slice (sym d))
  copy_decides e o t u false none h f d = λ x. d (same_element (sym (may_copy_same none x).2 ∙ ap (under E.table) (one_type (may_copy_same none x).1 h) ∙ f))

  -- ---- bytes from a string

  pub bytes_from : (e : Term) (o : Operand) (n : Option ℕ) → e ≡ basic_term basic.Uint8 → IsString E o n → IsBytesFrom E e o
  bytes_from e o n b s = record { bytes = b; length = n; string = s }

  pub no_bytes : (e : Term) (o : Operand) → (e ≡ basic_term basic.Uint8 → ⊥) → IsBytesFrom E e o → ⊥
  no_bytes e o none x = none x.bytes

  pub no_string : (e : Term) (o : Operand) → ((n : Option ℕ) → IsString E o n → ⊥) → IsBytesFrom E e o → ⊥
  no_string e o none x = none _ x.string

  pub slice_like : (e t : Term) (o : Operand) (b : Bool) → t ≡ slice_of e → Decides b (UsableAs E o t) → Decides b (UsableAs E o (slice_of e))
  slice_like e t o b f d = subst (λ (x : Term). Decides b (UsableAs E o x)) f d
