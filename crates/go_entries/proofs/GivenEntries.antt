-- What a declaration is given, by what is declared.
use Rattle.std.proofs.Common.{◌≡◌, List, Option, Some, None, Bool, true, false, ◌&&◌, ℕ, map, length, replicate, Result, Ok, Err, MatchResult, refl, sym, ap, ◌∙◌, subst}
use Rattle.go_model.specs.declared.types.package.Entity.{Entity}
use Rattle.go_model.specs.declared.types.package.Entity.TheVariants as entity
use Rattle.go_model.specs.declared.types.term.Signature.{Signature}
use Rattle.go_model.specs.declared.types.term.Term.{Term, roll-Term, out-roll-Term, roll-out-Term}
use Rattle.go_model.specs.types.Terms.{Layer}
use Rattle.go_rules.specs.Environments.{Env}
use Rattle.go_syntax.specs.declared.declaration.ConstSpec.{ConstSpec}
use Rattle.go_syntax.specs.declared.declaration.Func.{Func}
use Rattle.go_syntax.specs.declared.declaration.TypeSpec.{TypeSpec}
use Rattle.go_syntax.specs.declared.declaration.VarSpec.{VarSpec}
use Rattle.go_syntax.specs.declared.types.ParameterDecl.{ParameterDecl}
use Rattle.go_syntax.specs.declared.types.«Type».{«Type» as Typ}
use Rattle.go_type_terms.specs.Answers.{Tells}
use Rattle.go_type_terms.specs.declared.error.ExprError.{ExprError}
use Rattle.go_type_terms.specs.declared.error.ExprError.TheVariants.{NoMemory, Untyped}
use Rattle.go_typings.specs.DeclarationRules.{Gives, gives_constants, gives_typed_variables, gives_variables, gives_alias, gives_definition, gives_function, gives_method, is_name, is_qualified, is_struct_or_interface}
use Rattle.go_typings.specs.Declarations.{Form as Declared, constants, variables, alias, definition, function, method, Declaration}
use Rattle.go_typings.specs.Receivers.{name_form, written_name}
use Rattle.go_typings.specs.PackageEnvironments.{Entry as Given, objects, underlying}
use Rattle.go_entries.specs.Entries.{entry_of}
use Rattle.go_entries.specs.Entries.{TellsQualified}
use Rattle.go_entries.specs.declared.entry.Entry.{Entry}
use Rattle.go_entries.specs.declared.entry.Entry.TheVariants as entry
use Rattle.go_entries.specs.inner.Constants.{AreConstantsOf}
use Rattle.go_entries.specs.inner.Functions.{IsFunctionOf, IsSignatureOf}
use Rattle.go_entries.specs.inner.Types.{IsAliasOf, IsDefinitionOf, MayBeUnderneath}
use Rattle.go_entries.specs.inner.Variables.{AreVariablesBy, AreVariablesOf}

-- an answer that is made of another
made_entry : {A : Type 0} (made : A → Entry) (P : A → Type 0) (Q : Entry → Type 0) (given : Result A ExprError) (r : Result Entry ExprError) → MatchResult given (λ x. r ≡ Ok (made x)) (λ e. r ≡ Err e)
    → ((a : A) → P a → Q (made a)) → ((y : Entry) → Q y → (a : A) × P a) → Tells {A = A} P given → Tells {A = Entry} Q r
made_entry made P Q (Ok a) r m to from t = subst (λ (s : Result Entry ExprError). Tells {A = Entry} Q s) (sym m) (to a t)
made_entry made P Q (Err NoMemory) r m to from t = subst (λ (s : Result Entry ExprError). Tells {A = Entry} Q s) (sym m) tt
made_entry made P Q (Err Untyped) r m to from t = subst (λ (s : Result Entry ExprError). Tells {A = Entry} Q s) (sym m) (λ y q. t (from y q).0 (from y q).1)

first_true : (a b : Bool) → (a && b) ≡ true → a ≡ true
first_true true b e = refl
first_true false b e = e

second_true : (a b : Bool) → (a && b) ≡ true → b ≡ true
second_true true b e = e
second_true false b e = absurd (cc)

both_true : (a b : Bool) → a ≡ true → b ≡ true → (a && b) ≡ true
both_true a b e f = ap (λ (x : Bool). x && b) e ∙ f

module _ (E : Env) (ds : List Declaration) where
  -- ---- constants

  in_constants : {s : ConstSpec} {place : ℕ} {y : Given} → Gives E ds (constants s place) y → (xs : List Entity) × AreConstantsOf E s xs
  in_constants (gives_constants a e) = (_, (a, e))

  -- ---- variables

  to_variables_by : (s : VarSpec) (t : Option Typ) (xs : List Entity) → s.type_ ≡ t → AreVariablesBy E t (length s.names) s.values xs → Gives E ds (variables s) (objects xs)
  to_variables_by s None xs e h = subst (λ (ys : List Entity). Gives E ds (variables s) (objects ys)) (sym h.4) (gives_variables e h.2 h.3)
  to_variables_by s (Some t) xs e h = subst (λ (ys : List Entity). Gives E ds (variables s) (objects ys)) (sym h.2) (gives_typed_variables e h.1)

  in_variables : (s : VarSpec) (y : Given) → Gives E ds (variables s) y → (xs : List Entity) × AreVariablesOf E s xs
  in_variables s y (gives_typed_variables {t = t} {u = u} e a) =
      let xs = replicate (length s.names) (entity.Var u) in
      (xs, subst (λ (o : Option Typ). AreVariablesBy E o (length s.names) s.values xs) (sym e) (u, a, refl))
  in_variables s y (gives_variables {os = os} {ts = ts} e a b) =
      let xs = map entity.Var ts in
      (xs, subst (λ (o : Option Typ). AreVariablesBy E o (length s.names) s.values xs) (sym e) (os, ts, a, b, refl))

  -- ---- types

  to_alias : (s : TypeSpec) (xs : List Entity) → IsAliasOf E s.type_ xs → Gives E ds (alias s) (objects xs)
  to_alias s xs h = subst (λ (ys : List Entity). Gives E ds (alias s) (objects ys)) (sym h.2) (gives_alias h.1)

  in_alias : (s : TypeSpec) (y : Given) → Gives E ds (alias s) y → (xs : List Entity) × IsAliasOf E s.type_ xs
  in_alias s y (gives_alias h) = (_, (_, h, refl))

  module _ (s : TypeSpec) (q : Bool) (tells : TellsQualified E ds (definition s) q) where
    to_definition : (x : Term) → IsDefinitionOf E q s.type_ x → Gives E ds (definition s) (underlying x)
    to_definition x h =
        let m = h.2.1 in
        subst (λ (y : Term). Gives E ds (definition s) (underlying y)) (roll-out-Term x)
        (gives_definition h.1 (sym h.2.0) m.0 (λ p i. m.1 (both_true E.profile q p (sym (tells p) ∙ i))))

    may_be : (l : Layer) → is_name l ≡ false → (E.profile ≡ true → is_qualified ds (written_name (name_form s.type_)) ≡ true → is_struct_or_interface l ≡ false) → MayBeUnderneath (E.profile && q) l
    may_be l n may = (n, λ k. let p = first_true E.profile q k in may p (tells p ∙ second_true E.profile q k))

    in_definition : (y : Given) → Gives E ds (definition s) y → (x : Term) × IsDefinitionOf E q s.type_ x
    in_definition y (gives_definition {u = u} {l = l} of e n may) =
        (roll-Term l, (u, of, (out-roll-Term l ∙ sym e, subst (λ (k : Layer). MayBeUnderneath (E.profile && q) k) (sym (out-roll-Term l)) (may_be l n may))))

  -- ---- functions and methods

  to_function : (f : Func) (xs : List Entity) → IsFunctionOf E f.signature xs → Gives E ds (function f) (objects xs)
  to_function f xs h = subst (λ (ys : List Entity). Gives E ds (function f) (objects ys)) (sym h.2) (gives_function h.1.0 h.1.1)

  in_function : (f : Func) (y : Given) → Gives E ds (function f) y → (xs : List Entity) × IsFunctionOf E f.signature xs
  in_function f y (gives_function a i) = (_, (_, (a, i), refl))

  in_method : (receiver : ParameterDecl) (f : Func) (y : Given) → Gives E ds (method receiver f) y → (g : Signature) × IsSignatureOf E f.signature g
  in_method receiver f y (gives_method a i) = (_, (a, i))

-- ---- the answers

module _ (E : Env) (q : Bool) (r : Result Entry ExprError) where
  abbrev pub TellsEntry : Declared → Type 0
  TellsEntry f = (ds : List Declaration) → TellsQualified E ds f q → Tells {A = Entry} (λ x. Gives E ds f (entry_of x)) r

  by_form : (f g : Declared) → f ≡ g → TellsEntry g → TellsEntry f
  by_form f g e t = subst TellsEntry (sym e) t

  module _ (f : Declared) (given : Result (List Entity) ExprError) (m : MatchResult given (λ xs. r ≡ Ok (entry.Objects xs)) (λ e. r ≡ Err e)) where
    told_objects : (g : Declared) (P : List Entity → Type 0) → f ≡ g → ((ds : List Declaration) (xs : List Entity) → P xs → Gives E ds g (objects xs)) → ((ds : List Declaration) (y : Given) → Gives E ds g y → (xs : List Entity) × P xs)
        → Tells {A = List Entity} P given → TellsEntry f
    told_objects g P e to from t = by_form f g e (λ ds k. made_entry entry.Objects P (λ x. Gives E ds g (entry_of x)) given r m (λ xs h. to ds xs h) (λ y h. from ds (entry_of y) h) t)

    pub told_constants : (s : ConstSpec) (place : ℕ) → f ≡ constants s place → Tells {A = List Entity} (AreConstantsOf E s) given → TellsEntry f
    told_constants s place e t = told_objects (constants s place) (AreConstantsOf E s) e (λ ds xs h. gives_constants h.0 h.1) (λ ds y h. in_constants E ds h) t

    pub told_variables : (s : VarSpec) → f ≡ variables s → Tells {A = List Entity} (AreVariablesOf E s) given → TellsEntry f
    told_variables s e t = told_objects (variables s) (AreVariablesOf E s) e (λ ds xs h. to_variables_by E ds s s.type_ xs refl h) (λ ds y h. in_variables E ds s y h) t

    pub told_alias : (s : TypeSpec) → f ≡ alias s → Tells {A = List Entity} (IsAliasOf E s.type_) given → TellsEntry f
    told_alias s e t = told_objects (alias s) (IsAliasOf E s.type_) e (λ ds xs h. to_alias E ds s xs h) (λ ds y h. in_alias E ds s y h) t

    pub told_function : (k : Func) → f ≡ function k → Tells {A = List Entity} (IsFunctionOf E k.signature) given → TellsEntry f
    told_function k e t = told_objects (function k) (IsFunctionOf E k.signature) e (λ ds xs h. to_function E ds k xs h) (λ ds y h. in_function E ds k y h) t

  pub told_definition : (f : Declared) (given : Result Term ExprError) → MatchResult given (λ x. r ≡ Ok (entry.Underlying x)) (λ e. r ≡ Err e) → (s : TypeSpec) → f ≡ definition s → Tells {A = Term} (IsDefinitionOf E q s.type_) given → TellsEntry f
  told_definition f given m s e t = by_form f (definition s) e (λ ds k. made_entry entry.Underlying (IsDefinitionOf E q s.type_) (λ x. Gives E ds (definition s) (entry_of x)) given r m (λ x h. to_definition E ds s q k x h) (λ y h. in_definition E ds s q k (entry_of y) h) t)

  pub told_method : (f : Declared) (given : Result Signature ExprError) → MatchResult given (λ g. r ≡ Ok (entry.Signed g)) (λ e. r ≡ Err e) → (receiver : ParameterDecl) (k : Func) → f ≡ method receiver k → Tells {A = Signature} (IsSignatureOf E k.signature) given → TellsEntry f
  told_method f given m receiver k e t =
      by_form f (method receiver k) e (λ ds d. made_entry entry.Signed (IsSignatureOf E k.signature) (λ x. Gives E ds (method receiver k) (entry_of x)) given r m (λ g h. gives_method h.0 h.1) (λ y h. in_method E ds receiver k (entry_of y) h) t)
