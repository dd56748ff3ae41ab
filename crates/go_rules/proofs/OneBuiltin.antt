-- A call of a builtin function is one operand.
use Rattle.std.proofs.Common.{◌≡◌, ℕ, Bool, true, false, List, [], ◌∷◌, Some, refl, sym, ap, ◌∙◌, length}
use Rattle.go_model.specs.declared.constants.value.Basic.TheVariants as basic
use Rattle.go_model.specs.declared.constants.value.Value.TheVariants as value
use Rattle.go_model.specs.declared.types.package.ConstTerm.{ConstTerm}
use Rattle.go_model.specs.declared.types.package.ConstTerm.TheVariants as constant
use Rattle.go_model.specs.declared.types.term.Term.{Term, Term-F}
use Rattle.go_model.specs.types.Terms.{Layer, pointer_to}
use Rattle.go_model.specs.types.Underlying.{under}
use Rattle.go_rules.specs.Environments.{Env}
use Rattle.go_rules.specs.Expressions.{Has, HasBuiltin, append_elements, append_slice, append_string, len_string, array_constant, array_value, measure, close, copy_slice, copy_string, delete, make, new, panic, print, recover, HoldsNone, HoldsOne, IsArray, array_itself, array_pointer, IsString, string_typed, string_untyped, int_constant, is_constant, measures, measures_arrays, prints}
use Rattle.go_rules.specs.Operands.{IsTyped, any_term, basic_term, no_value, plain, type_name, constant_of}
use Rattle.go_rules.specs.declared.operand.Operand.{Operand}
use Rattle.go_rules.specs.declared.predeclared.Predeclared.{Predeclared}
use Rattle.go_rules.specs.declared.predeclared.Predeclared.TheVariants as p
use Rattle.go_rules.proofs.OneForm.{Alone}
use Rattle.go_rules.proofs.OneKind.{no_truth, const_in, term_in, typed, value_in}
use Rattle.go_rules.proofs.OneResult.{length_in, text_in}
use Rattle.go_syntax.specs.declared.expression.Expr.{Expr}

-- the operand of a value of type int
abbrev number : Operand
number = plain (basic_term basic.Int)

measured_is : (f : Predeclared) (l : Layer) → measures f l ≡ true → measures_arrays f ≡ true
measured_is p.Len l h = refl
measured_is p.Cap l h = refl
measured_is f l h = absurd (no_truth (sym h))

-- ---- functions whose result is always the same

abbrev pub is_fixed : Predeclared → Bool
is_fixed p.Copy = true
is_fixed p.Close = true
is_fixed p.Delete = true
is_fixed p.Panic = true
is_fixed p.Print = true
is_fixed p.Println = true
is_fixed p.Recover = true
is_fixed f = false

abbrev fixed_result : Predeclared → Operand
fixed_result p.Copy = number
fixed_result p.Recover = plain any_term
fixed_result f = no_value

measured_or_fixed : (f : Predeclared) → measures_arrays f ≡ true → is_fixed f ≡ true → ⊥
measured_or_fixed p.Len h i = no_truth (sym i)
measured_or_fixed p.Cap h i = no_truth (sym i)
measured_or_fixed f h i = no_truth (sym h)

prints_nothing : (f : Predeclared) → prints f ≡ true → fixed_result f ≡ no_value
prints_nothing p.Print h = refl
prints_nothing p.Println h = refl
prints_nothing f h = absurd (no_truth (sym h))

pub prints_fixed : (f : Predeclared) → prints f ≡ true → is_fixed f ≡ true
prints_fixed p.Print h = refl
prints_fixed p.Println h = refl
prints_fixed f h = absurd (no_truth (sym h))

fixed_is : {E : Env} {f : Predeclared} {es : List Expr} {dots : Bool} {r : Operand} → is_fixed f ≡ true → HasBuiltin E f es dots r → fixed_result f ≡ r
fixed_is i (append_elements a h e b u) = absurd (no_truth (sym i))
fixed_is i (append_slice a h e b u) = absurd (no_truth (sym i))
fixed_is i (append_string a h e b u) = absurd (no_truth (sym i))
fixed_is i (len_string a s n) = absurd (no_truth (sym i))
fixed_is i (array_constant {f = f} m a h y n k) = absurd (measured_or_fixed f m i)
fixed_is i (array_value {f = f} m a h y n) = absurd (measured_or_fixed f m i)
fixed_is {E = E} i (measure {f = f} {t = t} a c h m) = absurd (measured_or_fixed f (measured_is f (under E.table t) m) i)
fixed_is i (close a h e s) = refl
fixed_is i (copy_slice a h e b g d) = refl
fixed_is i (copy_string a h e b s) = refl
fixed_is i (delete a h e b u) = refl
fixed_is i (make a s m n) = absurd (no_truth (sym i))
fixed_is i (new a) = absurd (no_truth (sym i))
fixed_is i (panic a u) = refl
fixed_is i (print {f = f} q a u) = prints_nothing f q
fixed_is i recover = refl

pub one_fixed : {E : Env} {f : Predeclared} {es ds : List Expr} {c d : Bool} {r s : Operand} → is_fixed f ≡ true → HasBuiltin E f es c r → HasBuiltin E f ds d s → r ≡ s
one_fixed i a b = sym (fixed_is i a) ∙ fixed_is i b

-- ---- functions whose result hangs on the first argument

abbrev is_by_first : Predeclared → Bool
is_by_first p.Append = true
is_by_first p.Make = true
is_by_first p.New = true
is_by_first f = false

abbrev first_result : Predeclared → Operand → Operand
first_result p.New o = plain (pointer_to (term_in (const_in o.shape)))
first_result f o = plain (term_in (const_in o.shape))

record ByFirst (E : Env) (f : Predeclared) (e : Expr) (r : Operand) : Type 0 where
  operand : Operand
  has : Has E e operand
  is : first_result f operand ≡ r

measured_or_first : (f : Predeclared) → measures_arrays f ≡ true → is_by_first f ≡ true → ⊥
measured_or_first p.Len h i = no_truth (sym i)
measured_or_first p.Cap h i = no_truth (sym i)
measured_or_first f h i = no_truth (sym h)

prints_or_first : (f : Predeclared) → prints f ≡ true → is_by_first f ≡ true → ⊥
prints_or_first p.Print h i = no_truth (sym i)
prints_or_first p.Println h i = no_truth (sym i)
prints_or_first f h i = no_truth (sym h)

by_first : {E : Env} {f : Predeclared} {e : Expr} {es : List Expr} {dots : Bool} {r : Operand} → is_by_first f ≡ true → HasBuiltin E f (e ∷ es) dots r → ByFirst E f e r
by_first i (append_elements {o = o} a h e b u) = record { operand = o; has = a; is = ap (λ c. plain (term_in c)) (typed h) }
by_first i (append_slice {o = o} a h e b u) = record { operand = o; has = a; is = ap (λ c. plain (term_in c)) (typed h) }
by_first i (append_string {o = o} a h e b u) = record { operand = o; has = a; is = ap (λ c. plain (term_in c)) (typed h) }
by_first i (len_string a s n) = absurd (no_truth (sym i))
by_first i (array_constant {f = f} m a h y n k) = absurd (measured_or_first f m i)
by_first i (array_value {f = f} m a h y n) = absurd (measured_or_first f m i)
by_first {E = E} i (measure {f = f} {t = t} a c h m) = absurd (measured_or_first f (measured_is f (under E.table t) m) i)
by_first i (close a h e s) = absurd (no_truth (sym i))
by_first i (copy_slice a h e b g d) = absurd (no_truth (sym i))
by_first i (copy_string a h e b s) = absurd (no_truth (sym i))
by_first i (delete a h e b u) = absurd (no_truth (sym i))
by_first i (make {t = t} a s m n) = record { operand = type_name t; has = a; is = refl }
by_first i (new {t = t} a) = record { operand = type_name t; has = a; is = refl }
by_first i (panic a u) = absurd (no_truth (sym i))
by_first i (print {f = f} q a u) = absurd (prints_or_first f q i)

first_once : {E : Env} {f : Predeclared} {e : Expr} {o s : Operand} → Alone E e o → ByFirst E f e s → first_result f o ≡ s
first_once {f = f} one a = ap (first_result f) (one a.operand a.has) ∙ a.is

pub one_append : {E : Env} {e : Expr} {es : List Expr} {dots : Bool} {o s : Operand} {t : Term} → Alone E e o → IsTyped o t → HasBuiltin E p.Append (e ∷ es) dots s → plain t ≡ s
one_append one h b = ap (λ c. plain (term_in c)) (sym (typed h)) ∙ first_once one (by_first refl b)

pub one_make : {E : Env} {e : Expr} {es : List Expr} {dots : Bool} {s : Operand} {t : Term} → Alone E e (type_name t) → HasBuiltin E p.Make (e ∷ es) dots s → plain t ≡ s
one_make one b = first_once one (by_first refl b)

pub one_new : {E : Env} {e : Expr} {es : List Expr} {dots : Bool} {s : Operand} {t : Term} → Alone E e (type_name t) → HasBuiltin E p.New (e ∷ es) dots s → plain (pointer_to t) ≡ s
one_new one b = first_once one (by_first refl b)

-- ---- `len` and `cap`

abbrev array_length : ℕ → Bool → Operand
array_length n true = int_constant n
array_length n false = number

abbrev string_length : Operand → Bool → Operand
string_length o true = int_constant (length (text_in (value_in o.shape)))
string_length o false = number

abbrev layer_length : Env → Operand → Bool → Layer → Operand
layer_length E o quiet (Term-F.Plain b) = string_length o (is_constant o.mode)
layer_length E o quiet (Term-F.Array n e) = array_length n quiet
layer_length E o quiet (Term-F.Pointer base) = array_length (length_in (under E.table base)) quiet
layer_length E o quiet l = number

-- the length of an operand by its type, where it holds no call and no receive or does
abbrev length_by : Env → Operand → Bool → ConstTerm → Operand
length_by E o quiet (constant.OfTerm t) = layer_length E o quiet (under E.table t)
length_by E o quiet (constant.OfKind k) = string_length o (is_constant o.mode)

abbrev measured_of : Env → Operand → Bool → Operand
measured_of E o quiet = length_by E o quiet (const_in o.shape)

pub of_string : {E : Env} {o : Operand} {n : ℕ} (quiet : Bool) → IsString E o (Some n) → measured_of E o quiet ≡ int_constant n
of_string {E = E} quiet (string_typed {t = t} {s = s} e) = ap (layer_length E (constant_of (constant.OfTerm t) (value.Str s)) quiet) e
of_string quiet string_untyped = refl

pub of_array : (E : Env) {o : Operand} {t u : Term} {pointer : Bool} {n : ℕ} (quiet : Bool) → IsTyped o t → IsArray E t pointer n u → measured_of E o quiet ≡ array_length n quiet
of_array E {o = o} quiet h (array_itself e) = ap (length_by E o quiet) (typed h) ∙ ap (layer_length E o quiet) e
of_array E {o = o} quiet h (array_pointer e f) = ap (length_by E o quiet) (typed h) ∙ ap (layer_length E o quiet) e ∙ ap (λ l. array_length (length_in l) quiet) f

no_array : (f : Predeclared) (n : ℕ) (e : Term) → measures f (Term-F.Array n e) ≡ true → ⊥
no_array p.Len n e h = no_truth (sym h)
no_array p.Cap n e h = no_truth (sym h)
no_array f n e h = no_truth (sym h)

no_pointer : (f : Predeclared) (e : Term) → measures f (Term-F.Pointer e) ≡ true → ⊥
no_pointer p.Len e h = no_truth (sym h)
no_pointer p.Cap e h = no_truth (sym h)
no_pointer f e h = no_truth (sym h)

by_layer : (E : Env) (o : Operand) (quiet : Bool) (f : Predeclared) (l : Layer) → is_constant o.mode ≡ false → measures f l ≡ true → layer_length E o quiet l ≡ number
by_layer E o quiet f (Term-F.Plain b) c m = ap (string_length o) c
by_layer E o quiet f (Term-F.Named n) c m = refl
by_layer E o quiet f (Term-F.Pointer e) c m = absurd (no_pointer f e m)
by_layer E o quiet f (Term-F.Slice e) c m = refl
by_layer E o quiet f (Term-F.Array n e) c m = absurd (no_array f n e m)
by_layer E o quiet f (Term-F.Map k e) c m = refl
by_layer E o quiet f (Term-F.Chan d e) c m = refl
by_layer E o quiet f (Term-F.Func g) c m = refl
by_layer E o quiet f (Term-F.Struct fs) c m = refl
by_layer E o quiet f (Term-F.Interface ms) c m = refl

pub of_measure : (E : Env) {o : Operand} {t : Term} (quiet : Bool) (f : Predeclared) → is_constant o.mode ≡ false → IsTyped o t → measures f (under E.table t) ≡ true → measured_of E o quiet ≡ number
of_measure E {o = o} {t = t} quiet f c h m = ap (length_by E o quiet) (typed h) ∙ by_layer E o quiet f (under E.table t) c m

-- what `len` or `cap` of an expression is
pub data Measured (E : Env) (e : Expr) (r : Operand) : Type 0 where
  surely : {o : Operand} → Has E e o → ((quiet : Bool) → measured_of E o quiet ≡ r) → Measured E e r
  quietly : {o : Operand} → Has E e o → measured_of E o true ≡ r → HoldsNone E e → Measured E e r
  loudly : {o : Operand} → Has E e o → measured_of E o false ≡ r → HoldsOne E e → Measured E e r

prints_or_measures : (f : Predeclared) → measures_arrays f ≡ true → prints f ≡ true → ⊥
prints_or_measures p.Len h i = no_truth (sym i)
prints_or_measures p.Cap h i = no_truth (sym i)
prints_or_measures f h i = no_truth (sym h)

measured : {E : Env} {f : Predeclared} {e : Expr} {r : Operand} → measures_arrays f ≡ true → HasBuiltin E f (e ∷ []) false r → Measured E e r
measured i (append_elements a h e b u) = absurd (no_truth (sym i))
measured i (len_string a s n) = surely a (λ quiet. of_string quiet s)
measured {E = E} i (array_constant m a h y n k) = quietly a (of_array E true h y) n
measured {E = E} i (array_value m a h y n) = loudly a (of_array E false h y) n
measured {E = E} i (measure {f = f} a c h m) = surely a (λ quiet. of_measure E quiet f c h m)
measured i (close a h e s) = absurd (no_truth (sym i))
measured i (make a s m n) = absurd (no_truth (sym i))
measured i (new a) = absurd (no_truth (sym i))
measured i (panic a u) = absurd (no_truth (sym i))
measured i (print {f = f} q a u) = absurd (prints_or_measures f i q)

-- the same operand measures the same
also : (E : Env) {e : Expr} {o r s : Operand} (quiet : Bool) → Alone E e o → measured_of E o quiet ≡ r → (q : Operand) → Has E e q → measured_of E q quiet ≡ s → r ≡ s
also E quiet one a q h b = sym a ∙ ap (λ o. measured_of E o quiet) (one q h) ∙ b

one_sure : {E : Env} {e : Expr} {o r s : Operand} → Alone E e o → ((quiet : Bool) → measured_of E o quiet ≡ r) → Measured E e s → r ≡ s
one_sure {E = E} one a (surely {o = q} h b) = also E true one (a true) q h (b true)
one_sure {E = E} one a (quietly {o = q} h b n) = also E true one (a true) q h b
one_sure {E = E} one a (loudly {o = q} h b n) = also E false one (a false) q h b

pub one_len_string : {E : Env} {e : Expr} {o s : Operand} {n : ℕ} → Alone E e o → IsString E o (Some n) → HasBuiltin E p.Len (e ∷ []) false s → int_constant n ≡ s
one_len_string one i b = one_sure one (λ quiet. of_string quiet i) (measured refl b)

pub one_measure : {E : Env} {f : Predeclared} {e : Expr} {o s : Operand} {t : Term} → Alone E e o → is_constant o.mode ≡ false → IsTyped o t → measures f (under E.table t) ≡ true → HasBuiltin E f (e ∷ []) false s → number ≡ s
one_measure {E = E} {f = f} {t = t} one c h m b = one_sure one (λ quiet. of_measure E quiet f c h m) (measured (measured_is f (under E.table t) m) b)

one_quiet : {E : Env} {e : Expr} {o r s : Operand} → Alone E e o → measured_of E o true ≡ r → (HoldsOne E e → ⊥) → Measured E e s → r ≡ s
one_quiet {E = E} one a none (surely {o = q} h b) = also E true one a q h (b true)
one_quiet {E = E} one a none (quietly {o = q} h b n) = also E true one a q h b
one_quiet one a none (loudly h b n) = absurd (none n)

pub one_array_constant : {E : Env} {f : Predeclared} {e : Expr} {o s : Operand} {t u : Term} {pointer : Bool} {n : ℕ} → Alone E e o → IsTyped o t → IsArray E t pointer n u → (HoldsOne E e → ⊥) → measures_arrays f ≡ true → HasBuiltin E f (e ∷ []) false s → int_constant n ≡ s
one_array_constant {E = E} one h y none m b = one_quiet one (of_array E true h y) none (measured m b)

one_loud : {E : Env} {e : Expr} {o r s : Operand} → Alone E e o → measured_of E o false ≡ r → (HoldsNone E e → ⊥) → Measured E e s → r ≡ s
one_loud {E = E} one a none (surely {o = q} h b) = also E false one a q h (b false)
one_loud one a none (quietly h b n) = absurd (none n)
one_loud {E = E} one a none (loudly {o = q} h b n) = also E false one a q h b

pub one_array_value : {E : Env} {f : Predeclared} {e : Expr} {o s : Operand} {t u : Term} {pointer : Bool} {n : ℕ} → Alone E e o → IsTyped o t → IsArray E t pointer n u → (HoldsNone E e → ⊥) → measures_arrays f ≡ true → HasBuiltin E f (e ∷ []) false s → number ≡ s
one_array_value {E = E} one h y none m b = one_loud one (of_array E false h y) none (measured m b)
