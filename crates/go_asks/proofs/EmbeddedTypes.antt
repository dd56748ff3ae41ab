-- Whether a name is embedded as it may be, from what the name denotes.
use Rattle.std.proofs.Common.{◌≡◌, Bool, true, false, Option, Some, None, Err, sym, ◌∙◌, subst}
use Rattle.go_model.specs.declared.types.term.Term.{Term, out-Term}
use Rattle.go_model.specs.types.Underlying.{under}
use Rattle.go_expr.proofs.go_operations_proofs.Typed.{true_false}
use Rattle.go_rules.specs.Asks.{EmbedsField, EmbedsInterface, IsOwnLayer, MayEmbed, MayStandUnder}
use Rattle.go_rules.specs.Environments.{Env, Entered}
use Rattle.go_rules.specs.Expressions.{IsTypeName, NamesType}
use Rattle.go_rules.specs.Operands.{type_name}
use Rattle.go_rules.specs.declared.operand.Operand.{Operand}
use Rattle.go_rules.proofs.OneName.{one_denoted, one_imported, one_name}
use Rattle.go_selectors.specs.Answers.{Decides}
use Rattle.go_syntax.specs.declared.name.Name.{Name}
use Rattle.go_syntax.specs.declared.name.QualifiedName.{QualifiedName}
use Rattle.go_type_terms.specs.Answers.{Tells}
use Rattle.go_type_terms.specs.declared.error.ExprError.{ExprError}
use Rattle.go_type_terms.specs.declared.error.ExprError.TheVariants.{Untyped}
use Rattle.go_asks.specs.inner.Embedding.{IsTypeWith, NameDenotes, NameDenotesBy, StandsAsField}

names_type : (E : Env) (q : Option Name) (n : Name) (t : Term) → NameDenotesBy E q n (type_name t) → NamesType E q n t
names_type E None n t d = d
names_type E (Some q) n t d = d

denotes_type : (E : Env) (q : Option Name) (n : Name) (t : Term) → NamesType E q n t → NameDenotesBy E q n (type_name t)
denotes_type E None n t d = d
denotes_type E (Some q) n t d = d

one_named : (E : Env) (q : Option Name) (n : Name) {o p : Operand} → NameDenotesBy E q n o → NameDenotesBy E q n p → o ≡ p
one_named E None n a b = one_denoted a b
one_named E (Some q) n a b = one_imported a b

-- an answer without a typing
pub none_told : {A : Type 0} (F : A → Type 0) (e : ExprError) → e ≡ Untyped → Tells {A = A} F (Err e) → (a : A) → F a → ⊥
none_told {A = A} F e s t = subst (λ (x : ExprError). Tells {A = A} F (Err x)) s t

-- ---- which types

module _ (E : Env) (star : Bool) (t : Term) where
  pub stands_decided : Entered E t → MayStandUnder star (under E.table t) → (b : Bool) → Decides b (MayEmbed E t) → Decides b (StandsAsField E star t)
  stands_decided e s true p = (e, s, p)
  stands_decided e s false none = λ h. none h.2

module _ (E : Env) (t : Term) where
  pub outside_profile : (b : Bool) → b ≡ false → b ≡ E.profile → MayEmbed E t
  outside_profile b f s p = absurd (true_false (sym p ∙ sym s ∙ f))

  pub inside_profile : (b : Bool) → b ≡ true → b ≡ E.profile → (c : Bool) → Decides c (IsOwnLayer (out-Term t)) → Decides c (MayEmbed E t)
  inside_profile b y s true own = λ p. own
  inside_profile b y s false none = λ h. none (h (sym s ∙ y))

-- ---- names

-- whether the fact holds of the one type that the operand is
pub with_type : (P : Term → Type 0) (o : Operand) (t : Term) → o ≡ type_name t → (b : Bool) → Decides b (P t) → Decides b (IsTypeWith P o)
with_type P o t e true p = (t, e, p)
with_type P o t e false none = λ h. none (subst P (one_name (sym h.1 ∙ e)) h.2)

pub without_type : (P : Term → Type 0) (o : Operand) → ((t : Term) → o ≡ type_name t → ⊥) → IsTypeWith P o → ⊥
without_type P o none h = none h.0 h.1

module _ (E : Env) (q : QualifiedName) where
  -- no name of a type
  unnamed : ((o : Operand) → NameDenotes E q o → ⊥) → (t : Term) → IsTypeName E q t → ⊥
  unnamed none t n = none (type_name t) (denotes_type E q.qualifier q.name t n)

  -- what the name denotes is the type that it is the name of
  typed : (o : Operand) (t : Term) → NameDenotes E q o → o ≡ type_name t → IsTypeName E q t
  typed o t d e = names_type E q.qualifier q.name t (subst (NameDenotes E q) e d)

  is_type : (o : Operand) (t : Term) → NameDenotes E q o → IsTypeName E q t → o ≡ type_name t
  is_type o t d n = one_named E q.qualifier q.name d (denotes_type E q.qualifier q.name t n)

  -- ---- fields

  pub field_decided : (star : Bool) (o : Operand) → NameDenotes E q o → (b : Bool) → Decides b (IsTypeWith (StandsAsField E star) o) → Decides b (EmbedsField E star q)
  field_decided star o d true w = record { embedded = w.0; names = typed o w.0 d w.1; entered = w.2.0; stands = w.2.1; permitted = w.2.2 }
  field_decided star o d false none = λ f. none (f.embedded, is_type o f.embedded d f.names, (f.entered, f.stands, f.permitted))

  pub field_unnamed : (star : Bool) → ((o : Operand) → NameDenotes E q o → ⊥) → EmbedsField E star q → ⊥
  field_unnamed star none f = unnamed none f.embedded f.names

  -- ---- interfaces

  pub interface_decided : (o : Operand) → NameDenotes E q o → (b : Bool) → Decides b (IsTypeWith (MayEmbed E) o) → Decides b (EmbedsInterface E q)
  interface_decided o d true w = record { embedded = w.0; names = typed o w.0 d w.1; permitted = w.2 }
  interface_decided o d false none = λ f. none (f.embedded, is_type o f.embedded d f.names, f.permitted)

  pub interface_unnamed : ((o : Operand) → NameDenotes E q o → ⊥) → EmbedsInterface E q → ⊥
  interface_unnamed none f = unnamed none f.embedded f.names
