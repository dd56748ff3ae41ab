-- What names denote, and what operators, conversions and slice expressions make of operands that are kept, is kept.
use Rattle.std.proofs.Common.{◌≡◌, ℕ, zero, suc, Bool, List, [], ◌∷◌, Option, Some, None, map, length, sym, subst}
use Rattle.std.specs.Prelude.{replicate}
use Rattle.std.specs.List.Sorted.{IsStrictlySortedBy}
use Rattle.go_base.specs.declared.operator.CompareOp.{CompareOp}
use Rattle.go_base.specs.Lists.{Each}
use Rattle.go_model.specs.declared.constants.value.Basic.{Basic}
use Rattle.go_model.specs.declared.constants.value.Basic.TheVariants as basic
use Rattle.go_model.specs.declared.constants.value.BinaryOp.{BinaryOp}
use Rattle.go_model.specs.declared.constants.value.Untyped.{Untyped}
use Rattle.go_model.specs.declared.constants.value.Untyped.TheVariants as untyped
use Rattle.go_model.specs.declared.types.names.Sel.{Sel}
use Rattle.go_model.specs.declared.types.names.TypeName.{TypeName}
use Rattle.go_model.specs.declared.types.package.ConstTerm.{ConstTerm}
use Rattle.go_model.specs.declared.types.package.ConstTerm.TheVariants as constant
use Rattle.go_model.specs.declared.types.package.Entity.{Entity}
use Rattle.go_model.specs.declared.types.package.Entity.TheVariants as entity
use Rattle.go_model.specs.declared.types.term.Signature.{out-roll-Signature}
use Rattle.go_model.specs.declared.types.term.Term.{Term, Term-F}
use Rattle.go_model.specs.types.Members.{AreOrdered}
use Rattle.go_model.specs.types.Terms.{pointer_to, slice_of}
use Rattle.go_rules.proofs.OneName.{none_some, one_some}
use Rattle.go_rules.specs.Environments.{Env}
use Rattle.go_rules.specs.Expressions.{Computes, computes_constant, computes_value, Converts, converts_constant, converts_inexact, converts_value, converts_typed, converts_untyped, converts_truth, converts_nil, Denotes, DenotesImported, IsComparison, comparison_constant, comparison_equality, comparison_order, IsTypeName, NamesType, ProductComputes, ProductKind, arithmetic, shift, Shifts, shifts_constant, shifts_value, Slices, slices_string, slices_untyped, slices_array, slices_array_pointer, slices_slice, for_names, results_of, seen_operand, signature}
use Rattle.go_rules.specs.Operands.{IsOf, is_of_kind, is_of_type, IsTyped, typed_constant, typed_value, any_term, basic_term, computed, default_type, denoted, plain}
use Rattle.go_rules.specs.Regions.{error_name}
use Rattle.go_rules.specs.Universe.{predeclared_operand}
use Rattle.go_rules.specs.Usability.{Match, match_kinds, match_left, match_right, match_types}
use Rattle.go_rules.specs.declared.operand.Operand.{Operand}
use Rattle.go_rules.specs.declared.predeclared.Predeclared.{Predeclared}
use Rattle.go_rules.specs.declared.predeclared.Predeclared.TheVariants as p
use Rattle.go_rules.specs.declared.seen.Seen.{Seen}
use Rattle.go_rules.specs.declared.seen.Seen.TheVariants as seen
use Rattle.go_syntax.specs.declared.name.Name.{Name}
use Rattle.go_syntax.specs.declared.name.QualifiedName.{QualifiedName}
use Rattle.go_typed_packages.proofs.KeptFinds.{level_kept}
use Rattle.go_typed_packages.proofs.KeptTerms.{close_signature, close_term}
use Rattle.go_typed_packages.specs.inner.KeptTypes.{ConstKept, EntityKept, EnvKept, OperandKept, SeenKept, SignatureKept, TermKept}

none_ordered : AreOrdered []
unfolding IsStrictlySortedBy
none_ordered = record { ordered = tt; named = tt }

module _ (N : TypeName → Type 0) (S : Sel → Type 0) where
  -- ---- types

  pub basic_kept : (b : Basic) → TermKept N S (basic_term b)
  basic_kept b = close_term N S (Term-F.Plain b) tt

  pub any_kept : TermKept N S any_term
  any_kept = close_term N S (Term-F.Interface []) (none_ordered, tt)

  pub pointer_kept : (t : Term) → TermKept N S t → TermKept N S (pointer_to t)
  pointer_kept t h = close_term N S (Term-F.Pointer t) h

  pub slice_kept : (t : Term) → TermKept N S t → TermKept N S (slice_of t)
  slice_kept t h = close_term N S (Term-F.Slice t) h

  pub default_kept : (k : Untyped) → TermKept N S (default_type k)
  default_kept untyped.IntKind = basic_kept basic.Int
  default_kept untyped.RuneKind = basic_kept basic.Int32
  default_kept untyped.StrKind = basic_kept basic.Str
  default_kept untyped.BoolKind = basic_kept basic.Bool

  pub signature_kept : (ts us : List Term) (variadic : Bool) → Each (TermKept N S) ts → Each (TermKept N S) us → SignatureKept N S (signature ts variadic us)
  signature_kept ts us variadic h k =
      let e = out-roll-Signature (record { params = ts; variadic = variadic; results = us }) in
      close_signature N S (signature ts variadic us) (subst (λ z. Each (TermKept N S) z.params) (sym e) h) (subst (λ z. Each (TermKept N S) z.results) (sym e) k)

  replicated : (n : ℕ) (t : Term) → TermKept N S t → Each (TermKept N S) (replicate n t)
  replicated zero t h = tt
  replicated (suc n) t h = (h, replicated n t h)

  pub for_names_kept : (ns : List Name) (t : Term) → TermKept N S t → Each (TermKept N S) (for_names ns t)
  for_names_kept [] t h = (h, tt)
  for_names_kept (n ∷ ns) t h = replicated (length (n ∷ ns)) t h

  -- ---- operands

  pub typed_kept : {o : Operand} {t : Term} → OperandKept N S o → IsTyped o t → TermKept N S t
  typed_kept h (typed_value m) = h
  typed_kept h typed_constant = h

  pub of_kept : {o : Operand} {c : ConstTerm} → OperandKept N S o → IsOf o c → ConstKept N S c
  of_kept h (is_of_type i) = typed_kept h i
  of_kept h (is_of_kind i) = tt

  pub computed_kept : (c : ConstTerm) → ConstKept N S c → OperandKept N S (computed c)
  computed_kept (constant.OfTerm t) h = h
  computed_kept (constant.OfKind k) h = tt

  denoted_kept : (x : Entity) → EntityKept N S x → OperandKept N S (denoted x)
  denoted_kept (entity.Const c v) h = h
  denoted_kept (entity.Var t) h = h
  denoted_kept (entity.Function g) h = close_term N S (Term-F.Func g) h
  denoted_kept (entity.TypeOf t) h = h

  pub results_kept : (ts : List Term) → Each (TermKept N S) ts → OperandKept N S (results_of ts)
  results_kept [] h = tt
  results_kept (t ∷ []) h = h.0
  results_kept (t ∷ u ∷ ts) h = h

  pub plains_kept : (ts : List Term) → Each (TermKept N S) ts → Each (OperandKept N S) (map plain ts)
  plains_kept [] h = tt
  plains_kept (t ∷ ts) h = (h.0, plains_kept ts h.1)

  module _ (E : Env) (w : EnvKept N S E) where
    -- ---- names

    moved : {o q : Operand} → Some o ≡ Some q → OperandKept N S o → OperandKept N S q
    moved e h = subst (OperandKept N S) (one_some e) h

    iota_kept : (n : Option ℕ) (o : Operand) → predeclared_operand n p.Iota ≡ Some o → OperandKept N S o
    iota_kept None o e = absurd (none_some e)
    iota_kept (Some n) o e = moved e tt

    predeclared_kept : (n : Option ℕ) (u : Predeclared) (o : Operand) → predeclared_operand n u ≡ Some o → OperandKept N S o
    predeclared_kept n p.Any o e = moved e any_kept
    predeclared_kept n p.Bool o e = moved e (basic_kept basic.Bool)
    predeclared_kept n p.Byte o e = moved e (basic_kept basic.Uint8)
    predeclared_kept n p.Complex64 o e = moved e (basic_kept basic.Complex64)
    predeclared_kept n p.Complex128 o e = moved e (basic_kept basic.Complex128)
    predeclared_kept n p.Error o e = moved e (close_term N S (Term-F.Named error_name) w.error)
    predeclared_kept n p.Float32 o e = moved e (basic_kept basic.Float32)
    predeclared_kept n p.Float64 o e = moved e (basic_kept basic.Float64)
    predeclared_kept n p.Int o e = moved e (basic_kept basic.Int)
    predeclared_kept n p.Int8 o e = moved e (basic_kept basic.Int8)
    predeclared_kept n p.Int16 o e = moved e (basic_kept basic.Int16)
    predeclared_kept n p.Int32 o e = moved e (basic_kept basic.Int32)
    predeclared_kept n p.Int64 o e = moved e (basic_kept basic.Int64)
    predeclared_kept n p.Rune o e = moved e (basic_kept basic.Int32)
    predeclared_kept n p.Str o e = moved e (basic_kept basic.Str)
    predeclared_kept n p.Uint o e = moved e (basic_kept basic.Uint)
    predeclared_kept n p.Uint8 o e = moved e (basic_kept basic.Uint8)
    predeclared_kept n p.Uint16 o e = moved e (basic_kept basic.Uint16)
    predeclared_kept n p.Uint32 o e = moved e (basic_kept basic.Uint32)
    predeclared_kept n p.Uint64 o e = moved e (basic_kept basic.Uint64)
    predeclared_kept n p.Uintptr o e = moved e (basic_kept basic.Uintptr)
    predeclared_kept n p.Iota o e = iota_kept n o e
    predeclared_kept n u o e = moved e tt

    seen_kept : (s : Seen) (o : Operand) → SeenKept N S s → seen_operand E.iota s ≡ Some o → OperandKept N S o
    seen_kept (seen.Local t) o h e = moved e h
    seen_kept (seen.LocalConst c v) o h e = moved e h
    seen_kept (seen.Object x) o h e = moved e (denoted_kept x h)
    seen_kept (seen.Import path) o h e = absurd (none_some e)
    seen_kept (seen.Universe u) o h e = predeclared_kept E.iota u o e

    pub denotes_kept : {n : Name} {o : Operand} → Denotes E n o → OperandKept N S o
    denotes_kept {n = n} {o = o} d = seen_kept d.meaning o (w.meaning n.text d.meaning d.means) d.denotes

    pub imported_kept : {q n : Name} {o : Operand} → DenotesImported E q n o → OperandKept N S o
    imported_kept {n = n} d = subst (OperandKept N S) d.denotes (denoted_kept d.object (w.object d.path n.text d.object d.declared))

    names_kept : (q : Option Name) (n : Name) (t : Term) → NamesType E q n t → TermKept N S t
    names_kept None n t d = denotes_kept d
    names_kept (Some q) n t d = imported_kept d

    pub type_name_kept : (q : QualifiedName) (t : Term) → IsTypeName E q t → TermKept N S t
    type_name_kept q t d = names_kept q.qualifier q.name t d

    -- ---- operators

    match_kept : {o q : Operand} {d : ConstTerm} → OperandKept N S o → OperandKept N S q → Match E o q d → ConstKept N S d
    match_kept h k (match_types a b) = typed_kept h a
    match_kept h k (match_right a b u) = typed_kept k b
    match_kept h k (match_left a b u) = typed_kept h a
    match_kept h k (match_kinds a b j) = tt

    pub computes_kept : {op : BinaryOp} {o q r : Operand} → OperandKept N S o → OperandKept N S q → Computes E op o q r → OperandKept N S r
    computes_kept h k (computes_constant a i e) = match_kept h k a
    computes_kept h k (computes_value {d = d} f a i j z) = computed_kept d (match_kept h k a)

    shifts_kept : {left : Bool} {o q r : Operand} → OperandKept N S o → Shifts E left o q r → OperandKept N S r
    shifts_kept h (shifts_constant i n e) = h
    shifts_kept h (shifts_value f i e j n) = typed_kept h i

    pub product_kept : (k : ProductKind) (o q r : Operand) → OperandKept N S o → OperandKept N S q → ProductComputes E k o q r → OperandKept N S r
    product_kept (shift left) o q r h k a = shifts_kept h a
    product_kept (arithmetic op) o q r h k a = computes_kept h k a

    pub comparison_kept : {op : CompareOp} {o q r : Operand} → IsComparison E op o q r → OperandKept N S r
    comparison_kept (comparison_constant a i j e) = tt
    comparison_kept (comparison_equality f j e) = tt
    comparison_kept (comparison_order f j a i c) = tt

    pub converts_kept : {o r : Operand} {t : Term} → TermKept N S t → Converts E o t r → OperandKept N S r
    converts_kept k (converts_constant e i j v) = k
    converts_kept k (converts_inexact e i) = k
    converts_kept k (converts_value f i a) = k
    converts_kept k (converts_typed i a) = k
    converts_kept k (converts_untyped i d a) = k
    converts_kept k (converts_truth a) = k
    converts_kept k (converts_nil u) = k

    pub sliced_kept : {simple : Bool} {o r : Operand} {n : Option ℕ} → OperandKept N S o → Slices E simple o n r → OperandKept N S r
    sliced_kept h (slices_string s k i) = typed_kept h k
    sliced_kept h (slices_untyped s) = basic_kept basic.Str
    sliced_kept h (slices_array {t = t} {e = u} {n = n} e) = slice_kept u (level_kept N S E w t (Term-F.Array n u) h e)
    sliced_kept h (slices_array_pointer {t = t} {base = base} {e = u} {n = n} k e f) = slice_kept u (level_kept N S E w base (Term-F.Array n u) (level_kept N S E w t (Term-F.Pointer base) (typed_kept h k) e) f)
    sliced_kept h (slices_slice k e) = typed_kept h k
