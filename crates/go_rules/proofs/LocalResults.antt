-- In a region names denote, and operators, conversions, indices and slice expressions make, what they do in the whole
-- environment, and that is of the region.
use Rattle.std.proofs.Common.{◌≡◌, ℕ, Bool, true, List, [], ◌∷◌, Option, Some, None, sym, ap, ◌∙◌, subst, inl, inr}
use Rattle.std.specs.Prelude.{if◌then◌else◌}
use Rattle.go_syntax.specs.go_base.declared.operator.CompareOp.{CompareOp}
use Rattle.go_syntax.specs.go_base.Lists.{Each}
use Rattle.go_model.specs.declared.constants.value.Basic.TheVariants as basic
use Rattle.go_model.specs.declared.constants.value.BinaryOp.{BinaryOp}
use Rattle.go_model.specs.declared.constants.value.Untyped.{Untyped}
use Rattle.go_model.specs.declared.constants.value.Untyped.TheVariants as untyped
use Rattle.go_model.specs.declared.constants.value.Value.{Value}
use Rattle.go_model.specs.declared.types.package.ConstTerm.{ConstTerm}
use Rattle.go_model.specs.declared.types.package.ConstTerm.TheVariants as constant
use Rattle.go_model.specs.declared.types.package.Entity.{Entity}
use Rattle.go_model.specs.declared.types.package.Entity.TheVariants as entity
use Rattle.go_model.specs.declared.types.term.Term.{Term, Term-F}
use Rattle.go_model.specs.types.Terms.{Layer, slice_of}
use Rattle.go_model.specs.types.Underlying.{under}
use Rattle.go_rules.specs.Environments.{Env}
use Rattle.go_rules.specs.Expressions.{ArgumentsFit, fits_none, fits_more, fits_slice, fits_rest, Computes, computes_constant, computes_value, Converts, converts_constant, converts_inexact, converts_value, converts_typed, converts_untyped, converts_truth, converts_nil, Denotes, DenotesImported, Equates, equates_right, equates_left, equates_untyped_left, equates_untyped_right, equates_kinds, equates_nil_left, equates_nil_right, IsArray, array_itself, array_pointer, IsComparison, comparison_constant, comparison_equality, comparison_order, IsCount, count_value, count_typed, count_untyped, IsIndex, index_value, index_typed, index_untyped, IsPrinted, printed_typed, printed_constant, printed_truth, IsString, string_value, string_typed, string_untyped, IsTypeName, Makes, MayHold, NamesType, ProductComputes, ProductKind, arithmetic, shift, Shifts, shifts_constant, shifts_value, Slices, slices_string, slices_untyped, slices_array, slices_array_pointer, slices_slice, is_composed, measures, seen_operand}
use Rattle.go_rules.specs.Operands.{computed, default_type, denoted}
use Rattle.go_rules.specs.Regions.{Region, ConstIn, EntityIn, IsClosed, NameIn, SeenIn, TermIn, cut, error_name, front, front_of}
use Rattle.go_rules.specs.Universe.{predeclared_operand}
use Rattle.go_rules.specs.Usability.{UsableAs}
use Rattle.go_rules.specs.declared.operand.Operand.{Operand}
use Rattle.go_rules.specs.declared.predeclared.Predeclared.{Predeclared}
use Rattle.go_rules.specs.declared.predeclared.Predeclared.TheVariants as p
use Rattle.go_rules.specs.declared.seen.Seen.{Seen}
use Rattle.go_rules.specs.declared.seen.Seen.TheVariants as seen
use Rattle.go_rules.proofs.LocalRelations.{OperandIn, any_in, basic_in, compares_local, convertible_local, implements_local, kind_local, match_local, typed_in, usable_local}
use Rattle.go_rules.proofs.LocalTerms.{LayerIn, close_in, form_in, open_in}
use Rattle.go_rules.proofs.LocalTypes.{form_same, under_same}
use Rattle.go_rules.proofs.OneName.{none_some, one_some}
use Rattle.go_syntax.specs.declared.name.Name.{Name}
use Rattle.go_syntax.specs.declared.name.QualifiedName.{QualifiedName}

default_in : (R : Region) (k : Untyped) → TermIn R (default_type k)
default_in R untyped.IntKind = basic_in R basic.Int
default_in R untyped.RuneKind = basic_in R basic.Int32
default_in R untyped.StrKind = basic_in R basic.Str
default_in R untyped.BoolKind = basic_in R basic.Bool

pub slice_in : (R : Region) (t : Term) → TermIn R t → TermIn R (slice_of t)
slice_in R t h = close_in R (Term-F.Slice t) h

pub computed_in : (R : Region) (c : ConstTerm) → ConstIn R c → OperandIn R (computed c)
computed_in R (constant.OfTerm t) h = h
computed_in R (constant.OfKind k) h = tt

pub denoted_in : (R : Region) (x : Entity) → EntityIn R x → OperandIn R (denoted x)
denoted_in R (entity.Const c v) h = h
denoted_in R (entity.Var t) h = h
denoted_in R (entity.Function g) h = close_in R (Term-F.Func g) h
denoted_in R (entity.TypeOf t) h = h

module _ (E : Env) (R : Region) (w : IsClosed E R) where
  abbrev C : Env
  C = cut R E

  form : (t : Term) (l : Layer) → TermIn R t → under E.table t ≡ l → under C.table t ≡ l
  form t l h e = form_same E R w t l h e

  -- ---- names

  moved : {o q : Operand} → Some o ≡ Some q → OperandIn R o → OperandIn R q
  moved e h = subst (OperandIn R) (one_some e) h

  iota_in : (n : Option ℕ) (o : Operand) → predeclared_operand n p.Iota ≡ Some o → OperandIn R o
  iota_in None o e = absurd (none_some e)
  iota_in (Some n) o e = moved e tt

  predeclared_in : (n : Option ℕ) (u : Predeclared) (o : Operand) → predeclared_operand n u ≡ Some o → OperandIn R o
  predeclared_in n p.Any o e = moved e (any_in R)
  predeclared_in n p.Bool o e = moved e (basic_in R basic.Bool)
  predeclared_in n p.Byte o e = moved e (basic_in R basic.Uint8)
  predeclared_in n p.Complex64 o e = moved e (basic_in R basic.Complex64)
  predeclared_in n p.Complex128 o e = moved e (basic_in R basic.Complex128)
  predeclared_in n p.Error o e = moved e (close_in R (Term-F.Named error_name) (w.error, tt))
  predeclared_in n p.Float32 o e = moved e (basic_in R basic.Float32)
  predeclared_in n p.Float64 o e = moved e (basic_in R basic.Float64)
  predeclared_in n p.Int o e = moved e (basic_in R basic.Int)
  predeclared_in n p.Int8 o e = moved e (basic_in R basic.Int8)
  predeclared_in n p.Int16 o e = moved e (basic_in R basic.Int16)
  predeclared_in n p.Int32 o e = moved e (basic_in R basic.Int32)
  predeclared_in n p.Int64 o e = moved e (basic_in R basic.Int64)
  predeclared_in n p.Rune o e = moved e (basic_in R basic.Int32)
  predeclared_in n p.Str o e = moved e (basic_in R basic.Str)
  predeclared_in n p.Uint o e = moved e (basic_in R basic.Uint)
  predeclared_in n p.Uint8 o e = moved e (basic_in R basic.Uint8)
  predeclared_in n p.Uint16 o e = moved e (basic_in R basic.Uint16)
  predeclared_in n p.Uint32 o e = moved e (basic_in R basic.Uint32)
  predeclared_in n p.Uint64 o e = moved e (basic_in R basic.Uint64)
  predeclared_in n p.Uintptr o e = moved e (basic_in R basic.Uintptr)
  predeclared_in n p.Iota o e = iota_in n o e
  predeclared_in n u o e = moved e tt

  seen_in : (s : Seen) (o : Operand) → SeenIn R s → seen_operand E.iota s ≡ Some o → OperandIn R o
  seen_in (seen.Local t) o h e = moved e h
  seen_in (seen.LocalConst c v) o h e = moved e h
  seen_in (seen.Object x) o h e = moved e (denoted_in R x h)
  seen_in (seen.Import path) o h e = absurd (none_some e)
  seen_in (seen.Universe u) o h e = predeclared_in E.iota u o e

  meaning_same : (name : List ℕ) → R.names name ≡ true → C.meaning name ≡ E.meaning name
  meaning_same name h = λ i. if h i then E.meaning name else None

  pub denotes_local : {n : Name} {o : Operand} → NameIn R n → Denotes E n o → Denotes C n o × OperandIn R o
  denotes_local {n = n} {o = o} h d = (
    record { names = d.names; meaning = d.meaning; means = meaning_same n.text h ∙ d.means; denotes = d.denotes },
    seen_in d.meaning o (w.meaning n.text d.meaning h d.means) d.denotes,
  )

  pub imported_local : {q n : Name} {o : Operand} → NameIn R q → DenotesImported E q n o → DenotesImported C q n o × OperandIn R o
  imported_local {q = q} {n = n} h d =
      let k = w.meaning q.text (seen.Import d.path) h d.imported in (
        record { names = d.names; path = d.path; object = d.object; imported = meaning_same q.text h ∙ d.imported; exported = d.exported; declared = (λ i. if k i then E.object d.path n.text else None) ∙ d.declared; denotes = d.denotes },
        subst (OperandIn R) d.denotes (denoted_in R d.object (w.object d.path n.text d.object k d.declared)),
      )

  names_local : (q : Option Name) (n : Name) (t : Term) → NameIn R (front q n) → NamesType E q n t → NamesType C q n t × TermIn R t
  names_local None n t h d = denotes_local h d
  names_local (Some q) n t h d = imported_local h d

  pub type_name_local : (q : QualifiedName) (t : Term) → NameIn R (front_of q) → IsTypeName E q t → IsTypeName C q t × TermIn R t
  type_name_local q t h d = names_local q.qualifier q.name t h d

  -- ---- forms

  pub measures_local : (f : Predeclared) (t : Term) → TermIn R t → measures f (under E.table t) ≡ true → measures f (under C.table t) ≡ true
  measures_local f t h e = ap (measures f) (under_same E R w t h) ∙ e

  pub makes_local : (t : Term) (n : ℕ) → TermIn R t → Makes (under E.table t) n → Makes (under C.table t) n
  makes_local t n h k = subst (λ l. Makes l n) (sym (under_same E R w t h)) k

  pub array_local : {t u : Term} {pointer : Bool} {n : ℕ} → TermIn R t → IsArray E t pointer n u → IsArray C t pointer n u
  array_local {t = t} h (array_itself {n = n} {e = u} e) = array_itself (form t (Term-F.Array n u) h e)
  array_local {t = t} h (array_pointer {n = n} {base = base} {e = u} e f) = array_pointer (form t (Term-F.Pointer base) h e) (form base (Term-F.Array n u) (form_in E R w t (Term-F.Pointer base) h e) f)

  -- ---- indices, counts and strings

  pub index_local : {o : Operand} {c : Option ℕ} → OperandIn R o → IsIndex E o c → IsIndex C o c
  index_local h (index_value {t = t} {b = b} f k e i) = index_value f k (form t (Term-F.Plain b) (typed_in R h k) e) i
  index_local h (index_typed {t = t} {b = b} e i r) = index_typed (form t (Term-F.Plain b) h e) i r
  index_local h (index_untyped r) = index_untyped r

  count_local : {o : Operand} {v : Option Value} → OperandIn R o → IsCount E o v → IsCount C o v
  count_local h (count_value {t = t} {b = b} f k e i) = count_value f k (form t (Term-F.Plain b) (typed_in R h k) e) i
  count_local h (count_typed {t = t} {b = b} e i) = count_typed (form t (Term-F.Plain b) h e) i
  count_local h (count_untyped r) = count_untyped r

  pub string_local : {o : Operand} {n : Option ℕ} → OperandIn R o → IsString E o n → IsString C o n
  string_local h (string_value {t = t} f k e) = string_value f k (form t (Term-F.Plain basic.Str) (typed_in R h k) e)
  string_local h (string_typed {t = t} e) = string_typed (form t (Term-F.Plain basic.Str) h e)
  string_local h string_untyped = string_untyped

  pub slices_local : {simple : Bool} {o r : Operand} {n : Option ℕ} → OperandIn R o → Slices E simple o n r → Slices C simple o n r × OperandIn R r
  slices_local h (slices_string s k i) = (slices_string s k (string_local h i), typed_in R h k)
  slices_local h (slices_untyped s) = (slices_untyped s, basic_in R basic.Str)
  slices_local h (slices_array {t = t} {e = u} {n = n} e) = (slices_array (form t (Term-F.Array n u) h e), slice_in R u (form_in E R w t (Term-F.Array n u) h e))
  slices_local h (slices_array_pointer {t = t} {base = base} {e = u} {n = n} k e f) =
      let i = typed_in R h k in let j = form_in E R w t (Term-F.Pointer base) i e in
      (slices_array_pointer k (form t (Term-F.Pointer base) i e) (form base (Term-F.Array n u) j f), slice_in R u (form_in E R w base (Term-F.Array n u) j f))
  slices_local h (slices_slice {t = t} {e = u} k e) = (slices_slice k (form t (Term-F.Slice u) (typed_in R h k) e), typed_in R h k)

  -- ---- operators

  pub computes_local : {op : BinaryOp} {o q r : Operand} → OperandIn R o → OperandIn R q → Computes E op o q r → Computes C op o q r × OperandIn R r
  computes_local h k (computes_constant a i e) = let m = match_local E R w h k a in (computes_constant m.0 (kind_local E R w m.1 i) e, m.1)
  computes_local h k (computes_value {d = d} f a i j z) = let m = match_local E R w h k a in (computes_value f m.0 (kind_local E R w m.1 i) j z, computed_in R d m.1)

  shifts_local : {left : Bool} {o q r : Operand} → OperandIn R o → OperandIn R q → Shifts E left o q r → Shifts C left o q r × OperandIn R r
  shifts_local h k (shifts_constant i n e) = (shifts_constant (kind_local E R w h i) (count_local k n) e, h)
  shifts_local h k (shifts_value {t = t} {b = b} f i e j n) = (shifts_value f i (form t (Term-F.Plain b) (typed_in R h i) e) j (count_local k n), typed_in R h i)

  pub product_local : (k : ProductKind) (o q r : Operand) → OperandIn R o → OperandIn R q → ProductComputes E k o q r → ProductComputes C k o q r × OperandIn R r
  product_local (shift left) o q r h k a = shifts_local h k a
  product_local (arithmetic op) o q r h k a = computes_local h k a

  equates_local : {o q : Operand} → OperandIn R o → OperandIn R q → Equates E o q → Equates C o q
  equates_local h k (equates_right {t = t} {u = u} i j a c d) = equates_right i j (usable_local E R w h (typed_in R k j) a) (compares_local E R w t (typed_in R h i) c) (compares_local E R w u (typed_in R k j) d)
  equates_local h k (equates_left {t = t} {u = u} i j a c d) = equates_left i j (usable_local E R w k (typed_in R h i) a) (compares_local E R w t (typed_in R h i) c) (compares_local E R w u (typed_in R k j) d)
  equates_local h k (equates_untyped_left {u = u} i j a c) = equates_untyped_left i j (usable_local E R w h (typed_in R k j) a) (compares_local E R w u (typed_in R k j) c)
  equates_local h k (equates_untyped_right {t = t} i j a c) = equates_untyped_right i j (usable_local E R w k (typed_in R h i) a) (compares_local E R w t (typed_in R h i) c)
  equates_local h k (equates_kinds a) = equates_kinds (match_local E R w h k a).0
  equates_local h k (equates_nil_left i a) = equates_nil_left i (usable_local E R w h (typed_in R k i) a)
  equates_local h k (equates_nil_right i a) = equates_nil_right i (usable_local E R w k (typed_in R h i) a)

  pub comparison_local : {op : CompareOp} {o q r : Operand} → OperandIn R o → OperandIn R q → IsComparison E op o q r → IsComparison C op o q r × OperandIn R r
  comparison_local h k (comparison_constant a i j e) = let m = match_local E R w h k a in (comparison_constant m.0 (kind_local E R w m.1 i) j e, tt)
  comparison_local h k (comparison_equality f j e) = (comparison_equality f j (equates_local h k e), tt)
  comparison_local h k (comparison_order f j a i c) = let m = match_local E R w h k a in (comparison_order f j m.0 (kind_local E R w m.1 i) c, tt)

  composed_local : (t : Term) → TermIn R t → is_composed (under E.table t) ≡ true → is_composed (under C.table t) ≡ true
  composed_local t h e = ap is_composed (under_same E R w t h) ∙ e

  pub converts_local : {o r : Operand} {t : Term} → OperandIn R o → TermIn R t → Converts E o t r → Converts C o t r × OperandIn R r
  converts_local h k (converts_constant {t = t} {b = b} e i j v) = (converts_constant (form t (Term-F.Plain b) k e) i (kind_local E R w h j) v, k)
  converts_local h k (converts_inexact {t = t} {b = b} e i) = (converts_inexact (form t (Term-F.Plain b) k e) i, k)
  converts_local h k (converts_value {t = t} {u = u} f i a) = (converts_value f i (convertible_local E R w u t (typed_in R h i) k a), k)
  converts_local h k (converts_typed {t = t} {u = u} i a) = (converts_typed (composed_local t k i) (convertible_local E R w u t h k a), k)
  converts_local h k (converts_untyped {k = j} {t = t} i d a) = (converts_untyped (composed_local t k i) d (convertible_local E R w (default_type j) t (default_in R j) k a), k)
  converts_local h k (converts_truth {k = j} {t = t} a) = (converts_truth (convertible_local E R w (default_type j) t (default_in R j) k a), k)
  converts_local h k (converts_nil a) = (converts_nil (usable_local E R w h k a), k)

  -- ---- what is asked of operands

  pub holds_local : (t u : Term) → TermIn R t → TermIn R u → MayHold E t u → MayHold C t u
  holds_local t u h k (inl (ms, e)) = inl (ms, form u (Term-F.Interface ms) k e)
  holds_local t u h k (inr i) = inr (implements_local E R w u t k h i)

  pub each_usable : (t : Term) (os : List Operand) → TermIn R t → Each (OperandIn R) os → Each (λ o. UsableAs E o t) os → Each (λ o. UsableAs C o t) os
  each_usable t [] h k a = tt
  each_usable t (o ∷ os) h k a = (usable_local E R w k.0 h a.0, each_usable t os h k.1 a.1)

  pub fit_local : {variadic dots : Bool} {ts : List Term} {os : List Operand} → Each (TermIn R) ts → Each (OperandIn R) os → ArgumentsFit E variadic dots ts os → ArgumentsFit C variadic dots ts os
  fit_local h k fits_none = fits_none
  fit_local h k (fits_more a x) = fits_more (usable_local E R w k.0 h.0 a) (fit_local h.1 k.1 x)
  fit_local h k (fits_slice a) = fits_slice (usable_local E R w k.0 h.0 a)
  fit_local h k (fits_rest {t = t} {e = e} {os = os} i a) = fits_rest i (each_usable e os (subst (LayerIn R) i (open_in R t h.0)) k a)

  pub printed_local : (os : List Operand) → Each (IsPrinted E) os → Each (IsPrinted C) os
  printed_local [] a = tt
  printed_local (o ∷ os) a = (one a.0, printed_local os a.1)
    where
      one : {o : Operand} → IsPrinted E o → IsPrinted C o
      one (printed_typed h) = printed_typed h
      one (printed_constant d) = printed_constant d
      one printed_truth = printed_truth
