-- The lines of features, row by row.
use Rattle.std.proofs.Common.{◌≡◌, ◌≢◌, ℕ, true, false, List, [], ◌∷◌, ◌++◌, length, map, refl, sym, ap, ◌∙◌, subst, ◌⊎◌, inl, inr}
use mathlib.Core.Bool.{true≢false}
use Rattle.std.specs.Prelude.{◌==◌, codes}
use Rattle.std.proofs.Math.Dec.{eqb-suc-zero}
use Rattle.go_base.specs.Growing.{Grows}
use Rattle.go_base.specs.Lists.{Has, Each}
use Rattle.go_base.proofs.Members.{each_has}
use Rattle.go_model.specs.declared.constants.value.Value.{Value}
use Rattle.go_model.specs.declared.types.package.ConstTerm.{ConstTerm}
use Rattle.go_model.specs.declared.types.package.Entity.TheVariants as entity
use Rattle.go_model.specs.declared.types.package.Package.{Package}
use Rattle.go_model.specs.declared.types.term.Term.{Term, Term-F, out-Term, roll-Term, roll-out-Term}
use Rattle.go_model.specs.declared.types.term.Field.{Field, out-Field}
use Rattle.go_model.specs.declared.types.term.Method.{Method, out-Method}
use Rattle.go_model.specs.declared.types.term.Signature.{Signature}
use Rattle.go_model.specs.types.Terms.{Layer}
use Rattle.go_model.specs.types.Underlying.{under}
use Rattle.go_model.specs.worlds.Worlds.{table_of}
use Rattle.api_lines.specs.declared.line.Line.{Line}
use Rattle.api_features.specs.TypeTexts.{commas, constant_type, name_of_method, signature_text, type_text}
use Rattle.api_features.specs.Features
use Rattle.api_features.specs.Features.{defined_term, is_interface, is_plain, IsUnexported, IsMethodRest, IsExported, IsRest, IsTypeRest}
use Rattle.api_features.specs.inner.FeatureLines.{end_unexported, end_empty, end_exported, feature_line, IsEndRest, IsFieldRest, IsLineIn, IsLineOfSome, IsExportedMethod, IsInterfaceMethodRest, IsValueRest, named_field, embedded_field, exported_method}
use Rattle.api_lines.proofs.Growing.{grows_as, grows_nothing, grows_then}
use Rattle.api_features.proofs.ValueTexts.{value_once}

-- ---- one line, none, and two sets of lines

pub one_line : (P : List ℕ → Type 0) (path rest : List ℕ) (old new : List Line) → P rest → ((r : List ℕ) → P r → r ≡ rest) → Grows (λ l. feature_line path rest ≡ l) old new → Grows (IsLineIn P path) old new
one_line P path rest old new p once g = grows_as (λ l. feature_line path rest ≡ l) (IsLineIn P path) old new (λ l e. (rest, p, e)) (λ l w. ap (feature_line path) (sym (once w.0 w.1)) ∙ w.2) g

pub no_line : (P : List ℕ → Type 0) (path : List ℕ) (old : List Line) → ((r : List ℕ) → P r → ⊥) → Grows (IsLineIn P path) old old
no_line P path old none = grows_nothing (IsLineIn P path) old (λ l w. none w.0 w.1)

-- the same lines, in another order
pub still : {A : Line → Type 0} (old mid new : List Line) → Grows A old mid → Grows (λ l. ⊥) mid new → Grows A old new
still {A} old mid new g h = grows_as (λ l. A l ⊎ ⊥) A old new (λ l k. elim k [ inl a ↦ a | inr n ↦ absurd n ]) (λ l a. inl a) (grows_then A (λ l. ⊥) old mid new g h)

pub both : (A B C : Line → Type 0) (old mid new : List Line) → ((l : Line) → A l → C l) → ((l : Line) → B l → C l) → ((l : Line) → C l → A l ⊎ B l) → Grows A old mid → Grows B mid new → Grows C old new
both A B C old mid new a b from f g = grows_as (λ l. A l ⊎ B l) C old new (λ l h. elim h [ inl p ↦ a l p | inr q ↦ b l q ]) from (grows_then A B old mid new f g)

-- ---- constants, variables, functions and aliases

module _ (packages : List Package) (path name : List ℕ) where
  of_constant : {t : ConstTerm} {v : Value} {rest : List ℕ} → IsRest packages path name (entity.Const t v) rest → IsValueRest name v rest ⊎ (rest ≡ codes "const " ++ name ++ codes " " ++ constant_type packages path t)
  of_constant (Features.constant_value {text = text} i) = inl (text, i, refl)
  of_constant Features.constant_kind = inr refl

  pub constant_lines : (t : ConstTerm) (v : Value) (first second : List ℕ) (old mid new : List Line) → IsValueRest name v first → second ≡ codes "const " ++ name ++ codes " " ++ constant_type packages path t
      → Grows (λ l. feature_line path first ≡ l) old mid → Grows (λ l. feature_line path second ≡ l) mid new → Grows (IsLineIn (IsRest packages path name (entity.Const t v)) path) old new
  constant_lines t v first second old mid new w k = both (λ l. feature_line path first ≡ l) (λ l. feature_line path second ≡ l) (IsLineIn (IsRest packages path name (entity.Const t v)) path) old mid new
      (λ l e. (first, subst (IsRest packages path name (entity.Const t v)) (sym w.2) (Features.constant_value w.1), e))
      (λ l e. (second, subst (IsRest packages path name (entity.Const t v)) (sym k) Features.constant_kind, e))
      (λ l p. elim (of_constant p.1) [
        | inl x ↦ inl (ap (feature_line path) (w.2 ∙ ap (λ (z : List ℕ). codes "const " ++ name ++ codes " = " ++ z) (value_once v w.0 x.0 w.1 x.1) ∙ sym x.2) ∙ p.2)
        | inr e ↦ inr (ap (feature_line path) (k ∙ sym e) ∙ p.2)
      ])

  only_variable : {t : Term} {rest : List ℕ} → IsRest packages path name (entity.Var t) rest → rest ≡ codes "var " ++ name ++ codes " " ++ type_text packages path t
  only_variable Features.variable = refl

  pub variable_line : (t : Term) (rest : List ℕ) (old new : List Line) → rest ≡ codes "var " ++ name ++ codes " " ++ type_text packages path t → Grows (λ l. feature_line path rest ≡ l) old new → Grows (IsLineIn (IsRest packages path name (entity.Var t)) path) old new
  variable_line t rest old new e = one_line (IsRest packages path name (entity.Var t)) path rest old new (subst (IsRest packages path name (entity.Var t)) (sym e) Features.variable) (λ r p. only_variable p ∙ sym e)

  only_function : {g : Signature} {rest : List ℕ} → IsRest packages path name (entity.Function g) rest → rest ≡ codes "func " ++ name ++ signature_text packages path g
  only_function Features.function = refl

  pub function_line : (g : Signature) (rest : List ℕ) (old new : List Line) → rest ≡ codes "func " ++ name ++ signature_text packages path g → Grows (λ l. feature_line path rest ≡ l) old new → Grows (IsLineIn (IsRest packages path name (entity.Function g)) path) old new
  function_line g rest old new e = one_line (IsRest packages path name (entity.Function g)) path rest old new (subst (IsRest packages path name (entity.Function g)) (sym e) Features.function) (λ r p. only_function p ∙ sym e)

  only_alias : {t : Term} {rest : List ℕ} → t ≢ defined_term path name → IsRest packages path name (entity.TypeOf t) rest → rest ≡ codes "type " ++ name ++ codes " = " ++ type_text packages path t
  only_alias n (Features.alias m) = refl
  only_alias n (Features.defined e p) = absurd (n e)
  only_alias n (Features.method e i p) = absurd (n e)

  pub alias_line : (t : Term) (rest : List ℕ) (old new : List Line) → t ≢ defined_term path name → rest ≡ codes "type " ++ name ++ codes " = " ++ type_text packages path t → Grows (λ l. feature_line path rest ≡ l) old new → Grows (IsLineIn (IsRest packages path name (entity.TypeOf t)) path) old new
  alias_line t rest old new n e = one_line (IsRest packages path name (entity.TypeOf t)) path rest old new (subst (IsRest packages path name (entity.TypeOf t)) (sym e) (Features.alias n)) (λ r p. only_alias n p ∙ sym e)

  -- ---- defined types

  of_defined : {t : Term} {rest : List ℕ} → t ≡ defined_term path name → IsRest packages path name (entity.TypeOf t) rest → IsTypeRest packages path name (under (table_of packages) t) rest ⊎ ((is_interface (under (table_of packages) t) ≡ false) × IsMethodRest packages path name (table_of packages) t rest)
  of_defined e (Features.alias n) = absurd (n e)
  of_defined e (Features.defined f p) = inl p
  of_defined e (Features.method f i p) = inr (i, p)

  pub interface_lines : (t : Term) (old new : List Line) → t ≡ defined_term path name → is_interface (under (table_of packages) t) ≡ true → Grows (IsLineIn (IsTypeRest packages path name (under (table_of packages) t)) path) old new → Grows (IsLineIn (IsRest packages path name (entity.TypeOf t)) path) old new
  interface_lines t old new e i g = grows_as (IsLineIn (IsTypeRest packages path name (under (table_of packages) t)) path) (IsLineIn (IsRest packages path name (entity.TypeOf t)) path) old new
      (λ l p. (p.0, Features.defined e p.1, p.2))
      (λ l p. elim (of_defined e p.1) [ inl q ↦ (p.0, q, p.2) | inr q ↦ absurd (true≢false (sym i ∙ q.0)) ]) g

  pub defined_lines : (t : Term) (old mid new : List Line) → t ≡ defined_term path name → is_interface (under (table_of packages) t) ≡ false → Grows (IsLineIn (IsTypeRest packages path name (under (table_of packages) t)) path) old mid
      → Grows (IsLineIn (IsMethodRest packages path name (table_of packages) t) path) mid new → Grows (IsLineIn (IsRest packages path name (entity.TypeOf t)) path) old new
  defined_lines t old mid new e i = both (IsLineIn (IsTypeRest packages path name (under (table_of packages) t)) path) (IsLineIn (IsMethodRest packages path name (table_of packages) t) path) (IsLineIn (IsRest packages path name (entity.TypeOf t)) path) old mid new
      (λ l p. (p.0, Features.defined e p.1, p.2)) (λ l p. (p.0, Features.method e i p.1, p.2))
      (λ l p. elim (of_defined e p.1) [ inl q ↦ inl (p.0, q, p.2) | inr q ↦ inr (p.0, q.1, p.2) ])

  -- ---- structs

  of_struct : {fs : List Field} {rest : List ℕ} → IsTypeRest packages path name (Term-F.Struct fs) rest → (rest ≡ codes "type " ++ name ++ codes " struct") ⊎ ((f : Field) × Has fs f × IsFieldRest packages path name f rest)
  of_struct Features.struct_type = inl refl
  of_struct (Features.struct_field f h o e) = inr (f, h, named_field o e)
  of_struct (Features.struct_embedded f h o e) = inr (f, h, embedded_field o e)
  of_struct (Features.plain_type e) = absurd (true≢false (sym e))

  from_field : {fs : List Field} (f : Field) {rest : List ℕ} → Has fs f → IsFieldRest packages path name f rest → IsTypeRest packages path name (Term-F.Struct fs) rest
  from_field f h (named_field o e) = Features.struct_field f h o e
  from_field f h (embedded_field o e) = Features.struct_embedded f h o e

  pub struct_lines : (fs : List Field) (rest : List ℕ) (old mid new : List Line) → rest ≡ codes "type " ++ name ++ codes " struct" → Grows (λ l. feature_line path rest ≡ l) old mid → Grows (IsLineOfSome (IsFieldRest packages path name) fs path) mid new → Grows (IsLineIn (IsTypeRest packages path name (Term-F.Struct fs)) path) old new
  struct_lines fs rest old mid new e = both (λ l. feature_line path rest ≡ l) (IsLineOfSome (IsFieldRest packages path name) fs path) (IsLineIn (IsTypeRest packages path name (Term-F.Struct fs)) path) old mid new
      (λ l p. (rest, subst (IsTypeRest packages path name (Term-F.Struct fs)) (sym e) Features.struct_type, p))
      (λ l p. (p.2.0, from_field p.0 p.1 p.2.1, p.2.2))
      (λ l p. elim (of_struct p.1) [ inl q ↦ inl (ap (feature_line path) (e ∙ sym q) ∙ p.2) | inr q ↦ inr (q.0, q.1, (p.0, q.2, p.2)) ])

  field_exported : {f : Field} {rest : List ℕ} → IsFieldRest packages path name f rest → IsExported (out-Field f).sel
  field_exported (named_field o e) = o
  field_exported (embedded_field o e) = o

  pub no_field : (f : Field) (old : List Line) → (IsExported (out-Field f).sel → ⊥) → Grows (IsLineIn (IsFieldRest packages path name f) path) old old
  no_field f old n = no_line (IsFieldRest packages path name f) path old (λ r p. n (field_exported p))

  only_named : {f : Field} {rest : List ℕ} → (out-Field f).embedded ≡ false → IsFieldRest packages path name f rest → rest ≡ codes "type " ++ name ++ codes " struct, " ++ (out-Field f).sel.name ++ codes " " ++ type_text packages path (out-Field f).term
  only_named n (named_field o e) = refl
  only_named n (embedded_field o e) = absurd (true≢false (sym e ∙ n))

  only_embedded : {f : Field} {rest : List ℕ} → (out-Field f).embedded ≡ true → IsFieldRest packages path name f rest → rest ≡ codes "type " ++ name ++ codes " struct, embedded " ++ type_text packages path (out-Field f).term
  only_embedded n (named_field o e) = absurd (true≢false (sym n ∙ e))
  only_embedded n (embedded_field o e) = refl

  pub named_line : (f : Field) (rest : List ℕ) (old new : List Line) → IsExported (out-Field f).sel → (out-Field f).embedded ≡ false → rest ≡ codes "type " ++ name ++ codes " struct, " ++ (out-Field f).sel.name ++ codes " " ++ type_text packages path (out-Field f).term → Grows (λ l. feature_line path rest ≡ l) old new → Grows (IsLineIn (IsFieldRest packages path name f) path) old new
  named_line f rest old new o n e = one_line (IsFieldRest packages path name f) path rest old new (subst (IsFieldRest packages path name f) (sym e) (named_field o n)) (λ r p. only_named n p ∙ sym e)

  pub embedded_line : (f : Field) (rest : List ℕ) (old new : List Line) → IsExported (out-Field f).sel → (out-Field f).embedded ≡ true → rest ≡ codes "type " ++ name ++ codes " struct, embedded " ++ type_text packages path (out-Field f).term → Grows (λ l. feature_line path rest ≡ l) old new → Grows (IsLineIn (IsFieldRest packages path name f) path) old new
  embedded_line f rest old new o n e = one_line (IsFieldRest packages path name f) path rest old new (subst (IsFieldRest packages path name f) (sym e) (embedded_field o n)) (λ r p. only_embedded n p ∙ sym e)

  -- ---- interfaces

  some_item : {A : Type 0} (xs : List A) (x : A) → Has xs x → xs ≢ []
  some_item [] x h e = h
  some_item (y ∷ xs) x h e = cc

  of_interface : {ms : List Method} {rest : List ℕ} → IsTypeRest packages path name (Term-F.Interface ms) rest → ((m : Method) × Has ms m × IsInterfaceMethodRest packages path name m rest) ⊎ IsEndRest packages path name ms rest
  of_interface (Features.interface_method m h o) = inl (m, h, exported_method o)
  of_interface {ms = ms} (Features.interface_unexported m h n) = inr (end_unexported (some_item ms m h) (λ all. n (each_has IsExportedMethod ms m all h)))
  of_interface (Features.interface_exported all) = inr (end_exported all)
  of_interface Features.interface_empty = inr end_empty
  of_interface (Features.plain_type e) = absurd (true≢false (sym e))

  from_exported : {ms : List Method} (m : Method) {rest : List ℕ} → Has ms m → IsInterfaceMethodRest packages path name m rest → IsTypeRest packages path name (Term-F.Interface ms) rest
  from_exported m h (exported_method o) = Features.interface_method m h o

  unexported_of : (m : Method) (ms : List Method) → (Each IsExportedMethod (m ∷ ms) → ⊥) → ((Each IsExportedMethod ms → ⊥) → (k : Method) × Has ms k × IsUnexported (out-Method k).sel) → (w : List ℕ) → (out-Method m).sel.«package» ≡ w → (k : Method) × Has (m ∷ ms) k × IsUnexported (out-Method k).sel
  unexported_of m ms n others [] e = let r = others (λ all. n (e, all)) in (r.0, inr r.1, r.2)
  unexported_of m ms n others (b ∷ w) e = (m, inl refl, (λ f. let g : b ∷ w ≡ [] = sym e ∙ f in absurd (cc)))

  some_unexported : (ms : List Method) → (Each IsExportedMethod ms → ⊥) → (k : Method) × Has ms k × IsUnexported (out-Method k).sel
  some_unexported [] n = absurd (n tt)
  some_unexported (m ∷ ms) n = unexported_of m ms n (λ k. some_unexported ms k) (out-Method m).sel.«package» refl

  from_end : {ms : List Method} {rest : List ℕ} → IsEndRest packages path name ms rest → IsTypeRest packages path name (Term-F.Interface ms) rest
  from_end end_empty = Features.interface_empty
  from_end (end_exported all) = Features.interface_exported all
  from_end {ms = ms} (end_unexported some n) = let r = some_unexported ms n in Features.interface_unexported r.0 r.1 r.2

  end_once : {ms : List Method} {r s : List ℕ} → IsEndRest packages path name ms r → IsEndRest packages path name ms s → r ≡ s
  end_once end_empty end_empty = refl
  end_once end_empty (end_unexported some n) = absurd (some refl)
  end_once (end_exported a) (end_exported b) = refl
  end_once (end_exported a) (end_unexported some n) = absurd (n a)
  end_once (end_unexported some n) end_empty = absurd (some refl)
  end_once (end_unexported some n) (end_exported b) = absurd (n b)
  end_once (end_unexported some n) (end_unexported other m) = refl

  pub empty_end : (ms : List Method) (rest : List ℕ) → (length ms == 0) ≡ true → rest ≡ codes "type " ++ name ++ codes " interface {}" → IsEndRest packages path name ms rest
  empty_end [] rest n e = subst (IsEndRest packages path name []) (sym e) end_empty
  empty_end (m ∷ ms) rest n e = absurd (true≢false (sym n ∙ eqb-suc-zero (length ms)))

  pub exported_end : (ms : List Method) (rest : List ℕ) → (length ms == 0) ≡ false → Each IsExportedMethod ms → rest ≡ codes "type " ++ name ++ codes " interface { " ++ commas (map name_of_method ms) ++ codes " }" → IsEndRest packages path name ms rest
  exported_end [] rest n all e = absurd (true≢false n)
  exported_end (m ∷ ms) rest n all e = subst (IsEndRest packages path name (m ∷ ms)) (sym e) (end_exported all)

  pub unexported_end : (ms : List Method) (rest : List ℕ) → (length ms == 0) ≡ false → (Each IsExportedMethod ms → ⊥) → rest ≡ codes "type " ++ name ++ codes " interface, unexported methods" → IsEndRest packages path name ms rest
  unexported_end [] rest n some e = absurd (true≢false n)
  unexported_end (m ∷ ms) rest n some e = subst (IsEndRest packages path name (m ∷ ms)) (sym e) (end_unexported (some_item (m ∷ ms) m (inl refl)) some)

  pub interface_all : (ms : List Method) (rest : List ℕ) (old mid new : List Line) → IsEndRest packages path name ms rest → Grows (IsLineOfSome (IsInterfaceMethodRest packages path name) ms path) old mid → Grows (λ l. feature_line path rest ≡ l) mid new → Grows (IsLineIn (IsTypeRest packages path name (Term-F.Interface ms)) path) old new
  interface_all ms rest old mid new e = both (IsLineOfSome (IsInterfaceMethodRest packages path name) ms path) (λ l. feature_line path rest ≡ l) (IsLineIn (IsTypeRest packages path name (Term-F.Interface ms)) path) old mid new
      (λ l p. (p.2.0, from_exported p.0 p.1 p.2.1, p.2.2))
      (λ l p. (rest, from_end e, p))
      (λ l p. elim (of_interface p.1) [ inl q ↦ inl (q.0, q.1, (p.0, q.2, p.2)) | inr q ↦ inr (ap (feature_line path) (end_once e q) ∙ p.2) ])

  exported_is : {m : Method} {rest : List ℕ} → IsInterfaceMethodRest packages path name m rest → IsExported (out-Method m).sel × (rest ≡ codes "type " ++ name ++ codes " interface, " ++ (out-Method m).sel.name ++ signature_text packages path (out-Method m).signature)
  exported_is (exported_method o) = (o, refl)

  pub no_exported : (m : Method) (old : List Line) → (IsExported (out-Method m).sel → ⊥) → Grows (IsLineIn (IsInterfaceMethodRest packages path name m) path) old old
  no_exported m old n = no_line (IsInterfaceMethodRest packages path name m) path old (λ r p. n (exported_is p).0)

  pub exported_line : (m : Method) (rest : List ℕ) (old new : List Line) → IsExported (out-Method m).sel → rest ≡ codes "type " ++ name ++ codes " interface, " ++ (out-Method m).sel.name ++ signature_text packages path (out-Method m).signature → Grows (λ l. feature_line path rest ≡ l) old new → Grows (IsLineIn (IsInterfaceMethodRest packages path name m) path) old new
  exported_line m rest old new o e = one_line (IsInterfaceMethodRest packages path name m) path rest old new (subst (IsInterfaceMethodRest packages path name m) (sym e) (exported_method o)) (λ r p. (exported_is p).1 ∙ sym e)

  -- ---- other types

  only_plain : {l : Layer} {rest : List ℕ} → is_plain l ≡ true → IsTypeRest packages path name l rest → rest ≡ codes "type " ++ name ++ codes " " ++ type_text packages path (roll-Term l)
  only_plain e Features.struct_type = absurd (true≢false (sym e))
  only_plain e (Features.struct_field f h o n) = absurd (true≢false (sym e))
  only_plain e (Features.struct_embedded f h o n) = absurd (true≢false (sym e))
  only_plain e (Features.interface_method m h o) = absurd (true≢false (sym e))
  only_plain e (Features.interface_unexported m h n) = absurd (true≢false (sym e))
  only_plain e (Features.interface_exported all) = absurd (true≢false (sym e))
  only_plain e Features.interface_empty = absurd (true≢false (sym e))
  only_plain e (Features.plain_type f) = refl

  pub plain_line : (t : Term) (rest : List ℕ) (old new : List Line) → is_plain (out-Term t) ≡ true → rest ≡ codes "type " ++ name ++ codes " " ++ type_text packages path t → Grows (λ l. feature_line path rest ≡ l) old new → Grows (IsLineIn (IsTypeRest packages path name (out-Term t)) path) old new
  plain_line t rest old new i e =
      let same : rest ≡ codes "type " ++ name ++ codes " " ++ type_text packages path (roll-Term (out-Term t)) = e ∙ ap (λ (w : Term). codes "type " ++ name ++ codes " " ++ type_text packages path w) (sym (roll-out-Term t)) in
      one_line (IsTypeRest packages path name (out-Term t)) path rest old new (subst (IsTypeRest packages path name (out-Term t)) (sym same) (Features.plain_type i)) (λ r p. only_plain i p ∙ sym same)
