-- What names denote, and what operators, conversions and slice expressions make of operands of made types, is of made types.
use Rattle.std.proofs.Common.{◌≡◌, inl, ℕ, Bool, List, [], ◌∷◌, Option, Some, None, map, refl, sym, ◌∙◌, subst}
use Rattle.go_base.specs.Lists.{Each, Has}
use Rattle.go_base.specs.declared.operator.CompareOp.{CompareOp}
use Rattle.go_model.specs.declared.constants.value.Basic.TheVariants as basic
use Rattle.go_model.specs.declared.constants.value.BinaryOp.{BinaryOp}
use Rattle.go_model.specs.declared.constants.value.Untyped.{Untyped}
use Rattle.go_model.specs.declared.constants.value.Untyped.TheVariants as untyped
use Rattle.go_model.specs.declared.types.names.Sel.{Sel}
use Rattle.go_model.specs.declared.types.names.TypeName.{TypeName}
use Rattle.go_model.specs.declared.types.package.ConstTerm.{ConstTerm}
use Rattle.go_model.specs.declared.types.package.ConstTerm.TheVariants as constant
use Rattle.go_model.specs.declared.types.package.Defined.{Defined}
use Rattle.go_model.specs.declared.types.package.Entity.{Entity}
use Rattle.go_model.specs.declared.types.package.Entity.TheVariants as entity
use Rattle.go_model.specs.declared.types.term.Signature.{Signature}
use Rattle.go_model.specs.declared.types.term.Term.{Term, Term-F, out-Term}
use Rattle.go_model.specs.types.Selectors.{Ending, start}
use Rattle.go_model.specs.types.Terms.{Layer}
use Rattle.go_model.specs.types.Underlying.{entry, under}
use Rattle.go_rules.proofs.OneName.{none_some, one_some}
use Rattle.go_rules.specs.Environments.{Env, Found, HasMethod, selector_of}
use Rattle.go_rules.specs.Expressions.{Computes, computes_constant, computes_value, Converts, converts_constant, converts_inexact, converts_value, converts_typed, converts_untyped, converts_truth, converts_nil, Denotes, DenotesImported, IsComparison, comparison_constant, comparison_equality, comparison_order, IsTypeName, NamesType, ProductComputes, ProductKind, arithmetic, shift, Shifts, shifts_constant, shifts_value, Slices, slices_string, slices_untyped, slices_array, slices_array_pointer, slices_slice, results_of, seen_operand}
use Rattle.go_rules.specs.Operands.{IsOf, is_of_kind, is_of_type, IsTyped, typed_constant, typed_value, computed, default_type, denoted, plain}
use Rattle.go_rules.specs.Regions.{error_name}
use Rattle.go_rules.specs.Universe.{predeclared_operand}
use Rattle.go_rules.specs.Usability.{Match, match_kinds, match_left, match_right, match_types}
use Rattle.go_rules.specs.declared.operand.Operand.{Operand}
use Rattle.go_rules.specs.declared.operand.Shape.{Shape}
use Rattle.go_rules.specs.declared.operand.Shape.TheVariants as shape
use Rattle.go_rules.specs.declared.predeclared.Predeclared.{Predeclared}
use Rattle.go_rules.specs.declared.predeclared.Predeclared.TheVariants as p
use Rattle.go_rules.specs.declared.seen.Seen.{Seen}
use Rattle.go_rules.specs.declared.seen.Seen.TheVariants as seen
use Rattle.go_syntax.specs.declared.name.Name.{Name}
use Rattle.go_syntax.specs.declared.name.QualifiedName.{QualifiedName}
use Rattle.go_type_images.specs.Parts.{function_type, parts}
use Rattle.go_shared_types.proofs.Regions as regions
use Rattle.go_shared_types.proofs.Regions.{TargetIn}
use Rattle.api_std_types.proofs.MadeTypes.{DefinedMade, Made, any_made, basic_made, region, rolled, slice_made}

module _ (N : TypeName → Type 0) (Q : Sel → Type 0) (M : Sel → Signature → Type 0) (I : List ℕ → Type 0) where
  abbrev G : Term → Type 0
  G = Made N Q M

  abbrev pub ConstMade : ConstTerm → Type 0
  ConstMade (constant.OfTerm t) = G t
  ConstMade (constant.OfKind k) = Unit {0}

  abbrev pub EntityMade : Entity → Type 0
  EntityMade (entity.Const c v) = ConstMade c
  EntityMade (entity.Var t) = G t
  EntityMade (entity.Function g) = G (function_type g)
  EntityMade (entity.TypeOf t) = G t

  abbrev pub SeenMade : Seen → Type 0
  SeenMade (seen.Local t) = G t
  SeenMade (seen.LocalConst c v) = ConstMade c
  SeenMade (seen.Object x) = EntityMade x
  SeenMade (seen.Import path) = I path
  SeenMade (seen.Universe u) = Unit {0}

  abbrev ShapeMade : Shape → Type 0
  ShapeMade (shape.Of t) = G t
  ShapeMade (shape.Fixed c v) = ConstMade c
  ShapeMade (shape.Many ts) = Each G ts
  ShapeMade s = Unit {0}

  abbrev pub OperandMade : Operand → Type 0
  OperandMade o = ShapeMade o.shape

  -- what an environment has is of made types, where its imports have such paths and its types such names, and so is what it declares
  pub record EnvMade (E : Env) : Type 0 where
    pub own_field : (name : List ℕ) → Q (selector_of E name)
    pub own_method : (name : List ℕ) (g : Signature) → G (function_type g) → M (selector_of E name) g
    pub error : N error_name
    pub meaning : (name : List ℕ) (m : Seen) → E.meaning name ≡ Some m → SeenMade m
    pub object : (path name : List ℕ) (x : Entity) → I path → E.object path name ≡ Some x → EntityMade x
    pub types : (n : TypeName) (d : Defined) → N n → entry E.table n ≡ Some d → DefinedMade N Q M d

  -- ---- operands

  pub default_made : (k : Untyped) → G (default_type k)
  default_made untyped.IntKind = basic_made N Q M basic.Int
  default_made untyped.RuneKind = basic_made N Q M basic.Int32
  default_made untyped.StrKind = basic_made N Q M basic.Str
  default_made untyped.BoolKind = basic_made N Q M basic.Bool

  pub typed_made : {o : Operand} {t : Term} → OperandMade o → IsTyped o t → G t
  typed_made h (typed_value m) = h
  typed_made h typed_constant = h

  pub of_made : {o : Operand} {c : ConstTerm} → OperandMade o → IsOf o c → ConstMade c
  of_made h (is_of_type i) = typed_made h i
  of_made h (is_of_kind i) = tt

  pub computed_made : (c : ConstTerm) → ConstMade c → OperandMade (computed c)
  computed_made (constant.OfTerm t) h = h
  computed_made (constant.OfKind k) h = tt

  denoted_made : (x : Entity) → EntityMade x → OperandMade (denoted x)
  denoted_made (entity.Const c v) h = h
  denoted_made (entity.Var t) h = h
  denoted_made (entity.Function g) h = h
  denoted_made (entity.TypeOf t) h = h

  pub results_made : (ts : List Term) → Each G ts → OperandMade (results_of ts)
  results_made [] h = tt
  results_made (t ∷ []) h = h.0
  results_made (t ∷ u ∷ ts) h = h

  pub plains_made : (ts : List Term) → Each G ts → Each OperandMade (map plain ts)
  plains_made [] h = tt
  plains_made (t ∷ ts) h = (h.0, plains_made ts h.1)

  module _ (E : Env) (w : EnvMade E) where
    -- ---- what is underneath, and what is found

    abbrev C : regions.Closed E.table G Q M
    C = region N Q M E w.types

    -- the parts of the level underneath
    pub below : (t : Term) (l : Layer) → G t → under E.table t ≡ l → (u : Term) → Has (parts l) u → G u
    below t l h e u k =
        let v = regions.under_of E.table G Q M C t h in
        C.inside v.0 u v.1 (subst (λ x. Has (parts x) u) (sym e ∙ v.2) k)

    -- a type of that level
    pub beneath : (t : Term) (l : Layer) → G t → under E.table t ≡ l → (v : Term) × G v × (l ≡ out-Term v)
    beneath t l h e = let v = regions.under_of E.table G Q M C t h in (v.0, v.1, sym e ∙ v.2)

    pub found_made : {s : Sel} {t : Term} {e : Ending} → G t → Found E s t e → TargetIn G e.target
    found_made {s = s} {t = t} {e = e} h f = (regions.found_in E.table G Q M C s f.depth (start E.table t) e (regions.start_in E.table G Q M C t h) f.only).target

    pub method_made : {a : Bool} {t : Term} {s : Sel} {g : Signature} → G t → HasMethod E a t s g → G (function_type g)
    method_made h m = found_made h m.found

    -- ---- names

    moved : {o q : Operand} → Some o ≡ Some q → OperandMade o → OperandMade q
    moved e h = subst OperandMade (one_some e) h

    iota_made : (n : Option ℕ) (o : Operand) → predeclared_operand n p.Iota ≡ Some o → OperandMade o
    iota_made None o e = absurd (none_some e)
    iota_made (Some n) o e = moved e tt

    predeclared_made : (n : Option ℕ) (u : Predeclared) (o : Operand) → predeclared_operand n u ≡ Some o → OperandMade o
    predeclared_made n p.Any o e = moved e (any_made N Q M)
    predeclared_made n p.Bool o e = moved e (basic_made N Q M basic.Bool)
    predeclared_made n p.Byte o e = moved e (basic_made N Q M basic.Uint8)
    predeclared_made n p.Complex64 o e = moved e (basic_made N Q M basic.Complex64)
    predeclared_made n p.Complex128 o e = moved e (basic_made N Q M basic.Complex128)
    predeclared_made n p.Error o e = moved e (rolled N Q M (Term-F.Named error_name) w.error (λ u k. absurd k))
    predeclared_made n p.Float32 o e = moved e (basic_made N Q M basic.Float32)
    predeclared_made n p.Float64 o e = moved e (basic_made N Q M basic.Float64)
    predeclared_made n p.Int o e = moved e (basic_made N Q M basic.Int)
    predeclared_made n p.Int8 o e = moved e (basic_made N Q M basic.Int8)
    predeclared_made n p.Int16 o e = moved e (basic_made N Q M basic.Int16)
    predeclared_made n p.Int32 o e = moved e (basic_made N Q M basic.Int32)
    predeclared_made n p.Int64 o e = moved e (basic_made N Q M basic.Int64)
    predeclared_made n p.Rune o e = moved e (basic_made N Q M basic.Int32)
    predeclared_made n p.Str o e = moved e (basic_made N Q M basic.Str)
    predeclared_made n p.Uint o e = moved e (basic_made N Q M basic.Uint)
    predeclared_made n p.Uint8 o e = moved e (basic_made N Q M basic.Uint8)
    predeclared_made n p.Uint16 o e = moved e (basic_made N Q M basic.Uint16)
    predeclared_made n p.Uint32 o e = moved e (basic_made N Q M basic.Uint32)
    predeclared_made n p.Uint64 o e = moved e (basic_made N Q M basic.Uint64)
    predeclared_made n p.Uintptr o e = moved e (basic_made N Q M basic.Uintptr)
    predeclared_made n p.Iota o e = iota_made n o e
    predeclared_made n u o e = moved e tt

    seen_made : (s : Seen) (o : Operand) → SeenMade s → seen_operand E.iota s ≡ Some o → OperandMade o
    seen_made (seen.Local t) o h e = moved e h
    seen_made (seen.LocalConst c v) o h e = moved e h
    seen_made (seen.Object x) o h e = moved e (denoted_made x h)
    seen_made (seen.Import path) o h e = absurd (none_some e)
    seen_made (seen.Universe u) o h e = predeclared_made E.iota u o e

    pub denotes_made : {n : Name} {o : Operand} → Denotes E n o → OperandMade o
    denotes_made {n = n} {o = o} d = seen_made d.meaning o (w.meaning n.text d.meaning d.means) d.denotes

    pub imported_made : {q n : Name} {o : Operand} → DenotesImported E q n o → OperandMade o
    imported_made {q = q} {n = n} d = subst OperandMade d.denotes (denoted_made d.object (w.object d.path n.text d.object (w.meaning q.text (seen.Import d.path) d.imported) d.declared))

    names_made : (q : Option Name) (n : Name) (t : Term) → NamesType E q n t → G t
    names_made None n t d = denotes_made d
    names_made (Some q) n t d = imported_made d

    pub type_name_made : (q : QualifiedName) (t : Term) → IsTypeName E q t → G t
    type_name_made q t d = names_made q.qualifier q.name t d

    -- ---- operators

    match_made : {o q : Operand} {d : ConstTerm} → OperandMade o → OperandMade q → Match E o q d → ConstMade d
    match_made h k (match_types a b) = typed_made h a
    match_made h k (match_right a b u) = typed_made k b
    match_made h k (match_left a b u) = typed_made h a
    match_made h k (match_kinds a b j) = tt

    pub computes_made : {op : BinaryOp} {o q r : Operand} → OperandMade o → OperandMade q → Computes E op o q r → OperandMade r
    computes_made h k (computes_constant a i e) = match_made h k a
    computes_made h k (computes_value {d = d} f a i j z) = computed_made d (match_made h k a)

    shifts_made : {left : Bool} {o q r : Operand} → OperandMade o → Shifts E left o q r → OperandMade r
    shifts_made h (shifts_constant i n e) = h
    shifts_made h (shifts_value f i e j n) = typed_made h i

    pub product_made : (k : ProductKind) (o q r : Operand) → OperandMade o → OperandMade q → ProductComputes E k o q r → OperandMade r
    product_made (shift left) o q r h k a = shifts_made h a
    product_made (arithmetic op) o q r h k a = computes_made h k a

    pub comparison_made : {op : CompareOp} {o q r : Operand} → IsComparison E op o q r → OperandMade r
    comparison_made (comparison_constant a i j e) = tt
    comparison_made (comparison_equality f j e) = tt
    comparison_made (comparison_order f j a i c) = tt

    pub converts_made : {o r : Operand} {t : Term} → G t → Converts E o t r → OperandMade r
    converts_made k (converts_constant e i j v) = k
    converts_made k (converts_inexact e i) = k
    converts_made k (converts_value f i a) = k
    converts_made k (converts_typed i a) = k
    converts_made k (converts_untyped i d a) = k
    converts_made k (converts_truth a) = k
    converts_made k (converts_nil u) = k

    pub sliced_made : {simple : Bool} {o r : Operand} {n : Option ℕ} → OperandMade o → Slices E simple o n r → OperandMade r
    sliced_made h (slices_string s k i) = typed_made h k
    sliced_made h (slices_untyped s) = basic_made N Q M basic.Str
    sliced_made h (slices_array {t = t} {e = u} {n = n} e) = slice_made N Q M u (below t (Term-F.Array n u) h e u (inl refl))
    sliced_made h (slices_array_pointer {t = t} {base = base} {e = u} {n = n} k e f) = slice_made N Q M u (below base (Term-F.Array n u) (below t (Term-F.Pointer base) (typed_made h k) e base (inl refl)) f u (inl refl))
    sliced_made h (slices_slice k e) = typed_made h k
