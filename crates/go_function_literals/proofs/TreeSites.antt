-- The function literals of an expression or a type that is derived, for each rule.
use Rattle.std.proofs.Common.{◌≡◌, ℕ, suc, Bool, true, false, List, [], ◌∷◌, ◌++◌, map, Option, Some, None, refl, ap, sym, append-nil}
use Rattle.go_base.specs.declared.operator.CompareOp.{CompareOp}
use Rattle.go_base.specs.declared.operator.ProductOperator.{ProductOperator}
use Rattle.go_base.specs.declared.operator.SumOperator.{SumOperator}
use Rattle.go_function_literals.specs.Places.{Places, below, element_places, expr_places, exprs_places, field_places, interface_places, joined, optional_expr, parameter_places, post_places, result_places, signature_places, type_places, value_places}
use Rattle.go_function_literals.specs.Sites.{Collected, IsEnd}
use Rattle.go_function_literals.proofs.Sites.{alone, behind, both, deeper, end_and, end_none, ends_end, equally, here, into, literal_end, marks_end, may_end, name_end, names_end, nothing, tag_end, takes_end, type_name_end, until}
use Rattle.go_function_literals.proofs.TreeLevels.{ElemLayer, ElementLayer, ExprLayer, FieldLayer, ParameterLayer, PostLayer, ResultLayer, SignatureLayer, TypeLayer, ValueLayer, element_level, element_literals, element_placed, element_ranged, element_ranges, expr_level, expr_placed, expr_ranged, expr_ranges, field_level, field_literals, field_placed, field_ranged, field_ranges, interface_level, interface_literals, interface_placed, interface_ranged, interface_ranges, parameter_level, parameter_literals, parameter_placed, parameter_ranged, parameter_ranges, post_level, post_literals, post_placed, post_ranged, post_ranges, result_level, result_literals, result_placed, result_ranged, result_ranges, signature_level, signature_literals, signature_placed, signature_ranged, signature_ranges, type_level, type_placed, type_ranged, type_ranges, value_level, value_literals, value_placed, value_ranged, value_ranges}
use Rattle.go_syntax.specs.declared.body.BodyRange.{BodyRange}
use Rattle.go_syntax.specs.declared.expression.Element.{Element, out-Element, out-roll-Element}
use Rattle.go_syntax.specs.declared.expression.ElementValue.{ElementValue, ElementValue-F, out-ElementValue}
use Rattle.go_syntax.specs.declared.expression.ElementValue.TheVariants as value
use Rattle.go_syntax.specs.declared.expression.Expr.{Expr, Expr-F, out-Expr}
use Rattle.go_syntax.specs.declared.expression.Expr.TheVariants as expr
use Rattle.go_syntax.specs.declared.expression.Post.{Post, Post-F, out-Post}
use Rattle.go_syntax.specs.declared.expression.Post.TheVariants as post
use Rattle.go_syntax.specs.declared.name.Name.{Name}
use Rattle.go_syntax.specs.declared.types.FieldDecl.{FieldDecl, FieldDecl-F, out-FieldDecl}
use Rattle.go_syntax.specs.declared.types.FieldDecl.TheVariants as field
use Rattle.go_syntax.specs.declared.types.FuncResult.{FuncResult, FuncResult-F, out-FuncResult}
use Rattle.go_syntax.specs.declared.types.FuncResult.TheVariants as result
use Rattle.go_syntax.specs.declared.types.InterfaceElem.{InterfaceElem, InterfaceElem-F, out-InterfaceElem}
use Rattle.go_syntax.specs.declared.types.InterfaceElem.TheVariants as elem
use Rattle.go_syntax.specs.declared.types.ParameterDecl.{ParameterDecl, out-ParameterDecl}
use Rattle.go_syntax.specs.declared.types.Signature.{Signature, out-Signature, out-roll-Signature}
use Rattle.go_syntax.specs.declared.types.«Type».{«Type» as Typ, «Type-F» as Type-F, «out-Type» as out-Typ}
use Rattle.go_syntax.specs.declared.types.«Type».TheVariants as type
use Rattle.go_syntax.specs.grammar.Grammar as grammar
use Rattle.go_syntax.specs.grammar.Grammar.{and_of, compare_of, or_of, primary_of, product_of, sum_of}
use Rattle.go_syntax.specs.grammar.Symbols.{Rule}
use Rattle.go_syntax.specs.grammar.Terminals.{Terminal}
use Rattle.go_syntax.specs.Literals as literals
use Rattle.go_syntax.specs.Literals.{expr_literals, exprs_literals, type_literals}

pub pair : {A B : Type 0} → A → B → A × B
pair a b = (a, b)

module _ {Body Other : ℕ → Rule BodyRange} (ended : (h : ℕ) (ts : List Terminal) (b : BodyRange) (rest : List Terminal) → Body h ts b rest → IsEnd rest ts) where
  -- by the level of a tree

  pub in_expr : {h : ℕ} {ts rest : List Terminal} {G : Type 0} (x : Expr) (l : ExprLayer) → out-Expr x ≡ l → Collected Body Other h ts rest (expr_level l h) (expr_ranges l) G → Collected Body Other h ts rest (expr_places x h) (expr_literals x) G
  in_expr {h = h} x l e c = equally (ap (λ (f : Places). f h) (sym (expr_placed x l e))) (sym (expr_ranged x l e)) c

  in_post : {h : ℕ} {ts rest : List Terminal} {G : Type 0} (x : Post) (l : PostLayer) → out-Post x ≡ l → Collected Body Other h ts rest (post_level l h) (post_ranges l) G → Collected Body Other h ts rest (post_places x h) (post_literals x) G
  in_post {h = h} x l e c = equally (ap (λ (f : Places). f h) (sym (post_placed x l e))) (sym (post_ranged x l e)) c

  in_element : {h : ℕ} {ts rest : List Terminal} {G : Type 0} (x : Element) (l : ElementLayer) → out-Element x ≡ l → Collected Body Other h ts rest (element_level l h) (element_ranges l) G → Collected Body Other h ts rest (element_places x h) (element_literals x) G
  in_element {h = h} x l e c = equally (ap (λ (f : Places). f h) (sym (element_placed x l e))) (sym (element_ranged x l e)) c

  in_value : {h : ℕ} {ts rest : List Terminal} {G : Type 0} (x : ElementValue) (l : ValueLayer) → out-ElementValue x ≡ l → Collected Body Other h ts rest (value_level l h) (value_ranges l) G → Collected Body Other h ts rest (value_places x h) (value_literals x) G
  in_value {h = h} x l e c = equally (ap (λ (f : Places). f h) (sym (value_placed x l e))) (sym (value_ranged x l e)) c

  in_type : {h : ℕ} {ts rest : List Terminal} {G : Type 0} (x : Typ) (l : TypeLayer) → out-Typ x ≡ l → Collected Body Other h ts rest (type_level l h) (type_ranges l) G → Collected Body Other h ts rest (type_places x h) (type_literals x) G
  in_type {h = h} x l e c = equally (ap (λ (f : Places). f h) (sym (type_placed x l e))) (sym (type_ranged x l e)) c

  in_signature : {h : ℕ} {ts rest : List Terminal} {G : Type 0} (x : Signature) (l : SignatureLayer) → out-Signature x ≡ l → Collected Body Other h ts rest (signature_level l h) (signature_ranges l) G → Collected Body Other h ts rest (signature_places x h) (signature_literals x) G
  in_signature {h = h} x l e c = equally (ap (λ (f : Places). f h) (sym (signature_placed x l e))) (sym (signature_ranged x l e)) c

  in_result : {h : ℕ} {ts rest : List Terminal} {G : Type 0} (x : FuncResult) (l : ResultLayer) → out-FuncResult x ≡ l → Collected Body Other h ts rest (result_level l h) (result_ranges l) G → Collected Body Other h ts rest (result_places x h) (result_literals x) G
  in_result {h = h} x l e c = equally (ap (λ (f : Places). f h) (sym (result_placed x l e))) (sym (result_ranged x l e)) c

  in_parameter : {h : ℕ} {ts rest : List Terminal} {G : Type 0} (x : ParameterDecl) (l : ParameterLayer) → out-ParameterDecl x ≡ l → Collected Body Other h ts rest (parameter_level l h) (parameter_ranges l) G → Collected Body Other h ts rest (parameter_places x h) (parameter_literals x) G
  in_parameter {h = h} x l e c = equally (ap (λ (f : Places). f h) (sym (parameter_placed x l e))) (sym (parameter_ranged x l e)) c

  in_field : {h : ℕ} {ts rest : List Terminal} {G : Type 0} (x : FieldDecl) (l : FieldLayer) → out-FieldDecl x ≡ l → Collected Body Other h ts rest (field_level l h) (field_ranges l) G → Collected Body Other h ts rest (field_places x h) (field_literals x) G
  in_field {h = h} x l e c = equally (ap (λ (f : Places). f h) (sym (field_placed x l e))) (sym (field_ranged x l e)) c

  in_interface : {h : ℕ} {ts rest : List Terminal} {G : Type 0} (x : InterfaceElem) (l : ElemLayer) → out-InterfaceElem x ≡ l → Collected Body Other h ts rest (interface_level l h) (interface_ranges l) G → Collected Body Other h ts rest (interface_places x h) (interface_literals x) G
  in_interface {h = h} x l e c = equally (ap (λ (f : Places). f h) (sym (interface_placed x l e))) (sym (interface_ranged x l e)) c

  -- chains, of which one operand alone is itself

  in_or : {h : ℕ} {ts rest : List Terminal} {G : Type 0} (x : Expr) (xs : List Expr) → Collected Body Other h ts rest (expr_places x h ++ exprs_places xs h) (expr_literals x ++ exprs_literals xs) G → Collected Body Other h ts rest (expr_places (or_of x xs) h) (expr_literals (or_of x xs)) G
  in_or {h = h} x [] c = equally (append-nil (expr_places x h)) (append-nil (expr_literals x)) c
  in_or x (y ∷ ys) c = in_expr (expr.Or x (y ∷ ys)) (Expr-F.Or x (y ∷ ys)) (expr.outs-Or x (y ∷ ys)) c

  in_and : {h : ℕ} {ts rest : List Terminal} {G : Type 0} (x : Expr) (xs : List Expr) → Collected Body Other h ts rest (expr_places x h ++ exprs_places xs h) (expr_literals x ++ exprs_literals xs) G → Collected Body Other h ts rest (expr_places (and_of x xs) h) (expr_literals (and_of x xs)) G
  in_and {h = h} x [] c = equally (append-nil (expr_places x h)) (append-nil (expr_literals x)) c
  in_and x (y ∷ ys) c = in_expr (expr.And x (y ∷ ys)) (Expr-F.And x (y ∷ ys)) (expr.outs-And x (y ∷ ys)) c

  in_compare : {h : ℕ} {ts rest : List Terminal} {G : Type 0} (x : Expr) (ops : List CompareOp) (xs : List Expr) → Collected Body Other h ts rest (expr_places x h ++ exprs_places xs h) (expr_literals x ++ exprs_literals xs) G → Collected Body Other h ts rest (expr_places (compare_of x ops xs) h) (expr_literals (compare_of x ops xs)) G
  in_compare {h = h} x ops [] c = equally (append-nil (expr_places x h)) (append-nil (expr_literals x)) c
  in_compare x ops (y ∷ ys) c = in_expr (expr.Compare x ops (y ∷ ys)) (Expr-F.Compare x ops (y ∷ ys)) (expr.outs-Compare x ops (y ∷ ys)) c

  in_sum : {h : ℕ} {ts rest : List Terminal} {G : Type 0} (x : Expr) (ops : List SumOperator) (xs : List Expr) → Collected Body Other h ts rest (expr_places x h ++ exprs_places xs h) (expr_literals x ++ exprs_literals xs) G → Collected Body Other h ts rest (expr_places (sum_of x ops xs) h) (expr_literals (sum_of x ops xs)) G
  in_sum {h = h} x ops [] c = equally (append-nil (expr_places x h)) (append-nil (expr_literals x)) c
  in_sum x ops (y ∷ ys) c = in_expr (expr.Sum x ops (y ∷ ys)) (Expr-F.Sum x ops (y ∷ ys)) (expr.outs-Sum x ops (y ∷ ys)) c

  in_product : {h : ℕ} {ts rest : List Terminal} {G : Type 0} (x : Expr) (ops : List ProductOperator) (xs : List Expr) → Collected Body Other h ts rest (expr_places x h ++ exprs_places xs h) (expr_literals x ++ exprs_literals xs) G → Collected Body Other h ts rest (expr_places (product_of x ops xs) h) (expr_literals (product_of x ops xs)) G
  in_product {h = h} x ops [] c = equally (append-nil (expr_places x h)) (append-nil (expr_literals x)) c
  in_product x ops (y ∷ ys) c = in_expr (expr.Product x ops (y ∷ ys)) (Expr-F.Product x ops (y ∷ ys)) (expr.outs-Product x ops (y ∷ ys)) c

  in_primary : {h : ℕ} {ts rest : List Terminal} {G : Type 0} (x : Expr) (ps : List Post) → Collected Body Other h ts rest (expr_places x h ++ joined (map post_places ps) h) (expr_literals x ++ literals.joined (map post_literals ps)) G → Collected Body Other h ts rest (expr_places (primary_of x ps) h) (expr_literals (primary_of x ps)) G
  in_primary {h = h} x [] c = equally (append-nil (expr_places x h)) (append-nil (expr_literals x)) c
  in_primary x (p ∷ ps) c = in_expr (expr.Primary x (p ∷ ps)) (Expr-F.Primary x (p ∷ ps)) (expr.outs-Primary x (p ∷ ps)) c

  -- posts of which a part may be missing

  in_slice : {h : ℕ} {ts rest : List Terminal} {G : Type 0} (low high : Option Expr) → Collected Body Other h ts rest (optional_expr low h ++ optional_expr high h) (literals.optional_expr low ++ literals.optional_expr high) G → Collected Body Other (suc h) ts rest (post_places (post.Slice low high) (suc h)) (post_literals (post.Slice low high)) G
  in_slice None None c = in_post (post.Slice None None) (Post-F.«Post::Slice» None None) (post.outs-Slice None None) (deeper c)
  in_slice None (Some y) c = in_post (post.Slice None (Some y)) (Post-F.«Post::Slice» None (Some y)) (post.outs-Slice None (Some y)) (deeper c)
  in_slice (Some x) None c = in_post (post.Slice (Some x) None) (Post-F.«Post::Slice» (Some x) None) (post.outs-Slice (Some x) None) (deeper c)
  in_slice (Some x) (Some y) c = in_post (post.Slice (Some x) (Some y)) (Post-F.«Post::Slice» (Some x) (Some y)) (post.outs-Slice (Some x) (Some y)) (deeper c)

  in_full_slice : {h : ℕ} {ts rest : List Terminal} {G : Type 0} (low : Option Expr) (high max : Expr) → Collected Body Other h ts rest (optional_expr low h ++ (expr_places high h ++ expr_places max h)) (literals.optional_expr low ++ (expr_literals high ++ expr_literals max)) G → Collected Body Other (suc h) ts rest (post_places (post.FullSlice low high max) (suc h)) (post_literals (post.FullSlice low high max)) G
  in_full_slice None high max c = in_post (post.FullSlice None high max) (Post-F.FullSlice None high max) (post.outs-FullSlice None high max) (deeper c)
  in_full_slice (Some x) high max c = in_post (post.FullSlice (Some x) high max) (Post-F.FullSlice (Some x) high max) (post.outs-FullSlice (Some x) high max) (deeper c)

  mutual
    pub type_sites : {h : ℕ} {ts : List Terminal} {a : Typ} {rest : List Terminal} → grammar.IsType Body h ts a rest → Collected Body Other h ts rest (type_places a h) (type_literals a) (grammar.IsType Other h ts a rest)
    type_sites (grammar.type_name {q = q} a0) = in_type (type.Named q) (Type-F.«Type::Named» q) (type.outs-Named q) (nothing (type_name_end a0) (grammar.type_name a0))
    type_sites (grammar.type_paren {t = t} a0 a1 a2) = in_type (type.Paren t) (Type-F.«Type::Paren» t) (type.outs-Paren t) (deeper (behind (takes_end a0) (into (λ k. grammar.type_paren a0 k a2) (until (takes_end a2) (type_sites a1)))))
    type_sites (grammar.type_pointer {t = t} a0 a1) = in_type (type.Pointer t) (Type-F.Pointer t) (type.outs-Pointer t) (deeper (behind (takes_end a0) (into (λ k. grammar.type_pointer a0 k) (type_sites a1))))
    type_sites (grammar.type_receive {t = t} a0 a1 a2) = in_type (type.ReceiveChan t) (Type-F.ReceiveChan t) (type.outs-ReceiveChan t) (deeper (behind (takes_end a0) (behind (takes_end a1) (into (λ k. grammar.type_receive a0 a1 k) (type_sites a2)))))
    type_sites (grammar.type_func {s = s} a0 a1) = in_type (type.Func s) (Type-F.Func s) (type.outs-Func s) (deeper (behind (takes_end a0) (into (λ k. grammar.type_func a0 k) (signature_sites a1))))
    type_sites (grammar.type_composite a0) = into (λ k. grammar.type_composite k) (composite_type_sites a0)
    type_sites (grammar.type_other a0) = into (λ k. grammar.type_other k) (other_type_sites a0)

    pub composite_type_sites : {h : ℕ} {ts : List Terminal} {a : Typ} {rest : List Terminal} → grammar.IsCompositeType Body h ts a rest → Collected Body Other h ts rest (type_places a h) (type_literals a) (grammar.IsCompositeType Other h ts a rest)
    composite_type_sites (grammar.type_slice {t = t} a0 a1 a2) = in_type (type.Slice t) (Type-F.«Type::Slice» t) (type.outs-Slice t) (deeper (behind (takes_end a0) (behind (takes_end a1) (into (λ k. grammar.type_slice a0 a1 k) (type_sites a2)))))
    composite_type_sites (grammar.type_array {x = x} {t = t} a0 a1 a2 a3) = in_type (type.Array x t) (Type-F.Array x t) (type.outs-Array x t) (deeper (behind (takes_end a0) (both (expr_sites a1) (behind (takes_end a2) (type_sites a3)) (λ k l. grammar.type_array a0 k a2 l))))
    composite_type_sites (grammar.type_map {key = key} {t = t} a0 a1 a2 a3 a4) = in_type (type.Map key t) (Type-F.Map key t) (type.outs-Map key t) (deeper (behind (takes_end a0) (behind (takes_end a1) (both (type_sites a2) (behind (takes_end a3) (type_sites a4)) (λ k l. grammar.type_map a0 a1 k a3 l)))))
    composite_type_sites (grammar.type_struct_empty a0 a1 a2) = in_type (type.Struct []) (Type-F.Struct []) (type.outs-Struct []) (nothing (end_and (takes_end a0) (end_and (takes_end a1) (takes_end a2))) (grammar.type_struct_empty a0 a1 a2))
    composite_type_sites (grammar.type_struct {fs = fs} a0 a1 a2 a3) = in_type (type.Struct fs) (Type-F.Struct fs) (type.outs-Struct fs) (deeper (behind (takes_end a0) (behind (takes_end a1) (into (λ k. grammar.type_struct a0 a1 k a3) (until (takes_end a3) (fields_sites a2))))))

    pub other_type_sites : {h : ℕ} {ts : List Terminal} {a : Typ} {rest : List Terminal} → grammar.IsOtherType Body h ts a rest → Collected Body Other h ts rest (type_places a h) (type_literals a) (grammar.IsOtherType Other h ts a rest)
    other_type_sites (grammar.type_chan {t = t} a0 a1 a2) = in_type (type.Chan t) (Type-F.Chan t) (type.outs-Chan t) (deeper (behind (takes_end a0) (into (λ k. grammar.type_chan a0 a1 k) (type_sites a2))))
    other_type_sites (grammar.type_send {t = t} a0 a1 a2) = in_type (type.SendChan t) (Type-F.SendChan t) (type.outs-SendChan t) (deeper (behind (takes_end a0) (behind (takes_end a1) (into (λ k. grammar.type_send a0 a1 k) (type_sites a2)))))
    other_type_sites (grammar.type_interface_empty a0 a1 a2) = in_type (type.Interface []) (Type-F.Interface []) (type.outs-Interface []) (nothing (end_and (takes_end a0) (end_and (takes_end a1) (takes_end a2))) (grammar.type_interface_empty a0 a1 a2))
    other_type_sites (grammar.type_interface {es = es} a0 a1 a2 a3) = in_type (type.Interface es) (Type-F.Interface es) (type.outs-Interface es) (deeper (behind (takes_end a0) (behind (takes_end a1) (into (λ k. grammar.type_interface a0 a1 k a3) (until (takes_end a3) (interface_elems_sites a2))))))

    pub signature_sites : {h : ℕ} {ts : List Terminal} {a : Signature} {rest : List Terminal} → grammar.IsSignature Body h ts a rest → Collected Body Other h ts rest (signature_places a h) (signature_literals a) (grammar.IsSignature Other h ts a rest)
    signature_sites (grammar.signature_alone {ds = ds} a0 a1 a2) = in_signature (grammar.signature ds (None)) (record { parameters = ds; result = None }) (out-roll-Signature (record { parameters = ds; result = None })) (deeper (into (λ k. grammar.signature_alone k a1 a2) (alone (parameters_sites a0))))
    signature_sites (grammar.signature_parameters {ds = ds} {rs = rs} a0 a1 a2 a3) = in_signature (grammar.signature ds (Some (result.Parameters rs))) (record { parameters = ds; result = Some (result.Parameters rs) }) (out-roll-Signature (record { parameters = ds; result = Some (result.Parameters rs) })) (deeper (both (parameters_sites a0) (in_result (result.Parameters rs) (FuncResult-F.Parameters rs) (result.outs-Parameters rs) (parameters_sites a2)) (λ k l. grammar.signature_parameters k a1 l a3)))
    signature_sites (grammar.signature_type {ds = ds} {t = t} a0 a1 a2 a3) = in_signature (grammar.signature ds (Some (result.Type t))) (record { parameters = ds; result = Some (result.Type t) }) (out-roll-Signature (record { parameters = ds; result = Some (result.Type t) })) (deeper (both (parameters_sites a0) (in_result (result.Type t) (FuncResult-F.«FuncResult::Type» t) (result.outs-Type t) (type_sites a3)) (λ k l. grammar.signature_type k a1 a2 l)))

    pub parameters_sites : {h : ℕ} {ts : List Terminal} {a : List ParameterDecl} {rest : List Terminal} → grammar.IsParameters Body h ts a rest → Collected Body Other h ts rest (joined (map parameter_places a) h) (literals.joined (map parameter_literals a)) (grammar.IsParameters Other h ts a rest)
    parameters_sites (grammar.parameters_none a0 a1) = nothing (end_and (takes_end a0) (takes_end a1)) (grammar.parameters_none a0 a1)
    parameters_sites (grammar.parameters_unnamed a0 a1 a2 a3) = behind (takes_end a0) (into (λ k. grammar.parameters_unnamed a0 k a2 a3) (until (end_and (may_end a2) (takes_end a3)) (unnamed_sites a1)))
    parameters_sites (grammar.parameters_named a0 a1 a2 a3) = behind (takes_end a0) (into (λ k. grammar.parameters_named a0 k a2 a3) (until (end_and (may_end a2) (takes_end a3)) (named_sites a1)))

    pub parameter_sites : {h : ℕ} {ns : List Name} {ts : List Terminal} {a : ParameterDecl} {rest : List Terminal} → grammar.IsParameter Body h ns ts a rest → Collected Body Other h ts rest (parameter_places a h) (parameter_literals a) (grammar.IsParameter Other h ns ts a rest)
    parameter_sites (grammar.parameter_one {ns = ns} {t = t} a0) = in_parameter (grammar.parameter ns false t) (record { names = ns; variadic = false; type_ = t }) refl (into (λ k. grammar.parameter_one k) (type_sites a0))
    parameter_sites (grammar.parameter_variadic {ns = ns} {t = t} a0 a1) = in_parameter (grammar.parameter ns true t) (record { names = ns; variadic = true; type_ = t }) refl (behind (takes_end a0) (into (λ k. grammar.parameter_variadic a0 k) (type_sites a1)))

    pub unnamed_sites : {h : ℕ} {ts : List Terminal} {a : List ParameterDecl} {rest : List Terminal} → grammar.IsUnnamed Body h ts a rest → Collected Body Other h ts rest (joined (map parameter_places a) h) (literals.joined (map parameter_literals a)) (grammar.IsUnnamed Other h ts a rest)
    unnamed_sites (grammar.unnamed a0 a1) = both (parameter_sites a0) (more_unnamed_sites a1) (λ k l. grammar.unnamed k l)

    pub more_unnamed_sites : {h : ℕ} {ts : List Terminal} {a : List ParameterDecl} {rest : List Terminal} → grammar.IsMoreUnnamed Body h ts a rest → Collected Body Other h ts rest (joined (map parameter_places a) h) (literals.joined (map parameter_literals a)) (grammar.IsMoreUnnamed Other h ts a rest)
    more_unnamed_sites grammar.unnamed_none = nothing end_none grammar.unnamed_none
    more_unnamed_sites (grammar.unnamed_more a0 a1 a2) = behind (takes_end a0) (both (parameter_sites a1) (more_unnamed_sites a2) (λ k l. grammar.unnamed_more a0 k l))

    pub named_sites : {h : ℕ} {ts : List Terminal} {a : List ParameterDecl} {rest : List Terminal} → grammar.IsNamed Body h ts a rest → Collected Body Other h ts rest (joined (map parameter_places a) h) (literals.joined (map parameter_literals a)) (grammar.IsNamed Other h ts a rest)
    named_sites (grammar.named a0 a1 a2) = behind (names_end a0) (both (parameter_sites a1) (more_named_sites a2) (λ k l. grammar.named a0 k l))

    pub more_named_sites : {h : ℕ} {ts : List Terminal} {a : List ParameterDecl} {rest : List Terminal} → grammar.IsMoreNamed Body h ts a rest → Collected Body Other h ts rest (joined (map parameter_places a) h) (literals.joined (map parameter_literals a)) (grammar.IsMoreNamed Other h ts a rest)
    more_named_sites grammar.named_none = nothing end_none grammar.named_none
    more_named_sites (grammar.named_more a0 a1 a2 a3) = behind (takes_end a0) (behind (names_end a1) (both (parameter_sites a2) (more_named_sites a3) (λ k l. grammar.named_more a0 a1 k l)))

    pub fields_sites : {h : ℕ} {ts : List Terminal} {a : List FieldDecl} {rest : List Terminal} → grammar.IsFields Body h ts a rest → Collected Body Other h ts rest (joined (map field_places a) h) (literals.joined (map field_literals a)) (grammar.IsFields Other h ts a rest)
    fields_sites grammar.fields_none = nothing end_none grammar.fields_none
    fields_sites (grammar.fields_more a0 a1 a2) = both (field_sites a0) (behind (ends_end a1) (fields_sites a2)) (λ k l. grammar.fields_more k a1 l)

    pub field_sites : {h : ℕ} {ts : List Terminal} {a : FieldDecl} {rest : List Terminal} → grammar.IsField Body h ts a rest → Collected Body Other h ts rest (field_places a h) (field_literals a) (grammar.IsField Other h ts a rest)
    field_sites (grammar.field_named {ns = ns} {t = t} {tag = tag} a0 a1 a2) = in_field (field.Named ns t tag) (FieldDecl-F.«FieldDecl::Named» ns t tag) (field.outs-Named ns t tag) (behind (names_end a0) (into (λ k. grammar.field_named a0 k a2) (until (tag_end a2) (type_sites a1))))
    field_sites (grammar.field_embedded {q = q} {tag = tag} a0 a1) = in_field (field.Embedded false q tag) (FieldDecl-F.«FieldDecl::Embedded» false q tag) (field.outs-Embedded false q tag) (nothing (end_and (type_name_end a0) (tag_end a1)) (grammar.field_embedded a0 a1))
    field_sites (grammar.field_pointer {q = q} {tag = tag} a0 a1 a2) = in_field (field.Embedded true q tag) (FieldDecl-F.«FieldDecl::Embedded» true q tag) (field.outs-Embedded true q tag) (nothing (end_and (takes_end a0) (end_and (type_name_end a1) (tag_end a2))) (grammar.field_pointer a0 a1 a2))

    pub interface_elems_sites : {h : ℕ} {ts : List Terminal} {a : List InterfaceElem} {rest : List Terminal} → grammar.IsInterfaceElems Body h ts a rest → Collected Body Other h ts rest (joined (map interface_places a) h) (literals.joined (map interface_literals a)) (grammar.IsInterfaceElems Other h ts a rest)
    interface_elems_sites grammar.elems_none = nothing end_none grammar.elems_none
    interface_elems_sites (grammar.elems_more a0 a1 a2) = both (interface_elem_sites a0) (behind (ends_end a1) (interface_elems_sites a2)) (λ k l. grammar.elems_more k a1 l)

    pub interface_elem_sites : {h : ℕ} {ts : List Terminal} {a : InterfaceElem} {rest : List Terminal} → grammar.IsInterfaceElem Body h ts a rest → Collected Body Other h ts rest (interface_places a h) (interface_literals a) (grammar.IsInterfaceElem Other h ts a rest)
    interface_elem_sites (grammar.elem_method {n = n} {s = s} a0 a1) = in_interface (elem.Method n s) (InterfaceElem-F.Method n s) (elem.outs-Method n s) (behind (name_end a0) (into (λ k. grammar.elem_method a0 k) (signature_sites a1)))
    interface_elem_sites (grammar.elem_embedded {q = q} a0) = in_interface (elem.Embedded q) (InterfaceElem-F.«InterfaceElem::Embedded» q) (elem.outs-Embedded q) (nothing (type_name_end a0) (grammar.elem_embedded a0))

    pub expr_sites : {b : Bool} {h : ℕ} {ts : List Terminal} {a : Expr} {rest : List Terminal} → grammar.IsExpr Body b h ts a rest → Collected Body Other h ts rest (expr_places a h) (expr_literals a) (grammar.IsExpr Other b h ts a rest)
    expr_sites (grammar.expr_or {x = x} {xs = xs} a0 a1) = in_or x xs (both (and_sites a0) (more_or_sites a1) (λ k l. grammar.expr_or k l))

    pub more_or_sites : {b : Bool} {h : ℕ} {ts : List Terminal} {a : List Expr} {rest : List Terminal} → grammar.IsMoreOr Body b h ts a rest → Collected Body Other h ts rest (exprs_places a h) (exprs_literals a) (grammar.IsMoreOr Other b h ts a rest)
    more_or_sites grammar.or_none = nothing end_none grammar.or_none
    more_or_sites (grammar.or_more a0 a1 a2) = behind (takes_end a0) (both (and_sites a1) (more_or_sites a2) (λ k l. grammar.or_more a0 k l))

    pub and_sites : {b : Bool} {h : ℕ} {ts : List Terminal} {a : Expr} {rest : List Terminal} → grammar.IsAnd Body b h ts a rest → Collected Body Other h ts rest (expr_places a h) (expr_literals a) (grammar.IsAnd Other b h ts a rest)
    and_sites (grammar.expr_and {x = x} {xs = xs} a0 a1) = in_and x xs (both (compare_sites a0) (more_and_sites a1) (λ k l. grammar.expr_and k l))

    pub more_and_sites : {b : Bool} {h : ℕ} {ts : List Terminal} {a : List Expr} {rest : List Terminal} → grammar.IsMoreAnd Body b h ts a rest → Collected Body Other h ts rest (exprs_places a h) (exprs_literals a) (grammar.IsMoreAnd Other b h ts a rest)
    more_and_sites grammar.and_none = nothing end_none grammar.and_none
    more_and_sites (grammar.and_more a0 a1 a2) = behind (takes_end a0) (both (compare_sites a1) (more_and_sites a2) (λ k l. grammar.and_more a0 k l))

    pub compare_sites : {b : Bool} {h : ℕ} {ts : List Terminal} {a : Expr} {rest : List Terminal} → grammar.IsCompare Body b h ts a rest → Collected Body Other h ts rest (expr_places a h) (expr_literals a) (grammar.IsCompare Other b h ts a rest)
    compare_sites (grammar.expr_compare {x = x} {ops = ops} {xs = xs} a0 a1) = in_compare x ops xs (both (sum_sites a0) (more_compare_sites a1) (λ k l. grammar.expr_compare k l))

    pub more_compare_sites : {b : Bool} {h : ℕ} {ts : List Terminal} {ops : List CompareOp} {a : List Expr} {rest : List Terminal} → grammar.IsMoreCompare Body b h ts ops a rest → Collected Body Other h ts rest (exprs_places a h) (exprs_literals a) (grammar.IsMoreCompare Other b h ts ops a rest)
    more_compare_sites grammar.compare_none = nothing end_none grammar.compare_none
    more_compare_sites (grammar.compare_more a0 a1 a2 a3) = behind (takes_end a0) (both (sum_sites a2) (more_compare_sites a3) (λ k l. grammar.compare_more a0 a1 k l))

    pub sum_sites : {b : Bool} {h : ℕ} {ts : List Terminal} {a : Expr} {rest : List Terminal} → grammar.IsSum Body b h ts a rest → Collected Body Other h ts rest (expr_places a h) (expr_literals a) (grammar.IsSum Other b h ts a rest)
    sum_sites (grammar.expr_sum {x = x} {ops = ops} {xs = xs} a0 a1) = in_sum x ops xs (both (product_sites a0) (more_sum_sites a1) (λ k l. grammar.expr_sum k l))

    pub more_sum_sites : {b : Bool} {h : ℕ} {ts : List Terminal} {ops : List SumOperator} {a : List Expr} {rest : List Terminal} → grammar.IsMoreSum Body b h ts ops a rest → Collected Body Other h ts rest (exprs_places a h) (exprs_literals a) (grammar.IsMoreSum Other b h ts ops a rest)
    more_sum_sites grammar.sum_none = nothing end_none grammar.sum_none
    more_sum_sites (grammar.sum_more a0 a1 a2 a3) = behind (takes_end a0) (both (product_sites a2) (more_sum_sites a3) (λ k l. grammar.sum_more a0 a1 k l))

    pub product_sites : {b : Bool} {h : ℕ} {ts : List Terminal} {a : Expr} {rest : List Terminal} → grammar.IsProduct Body b h ts a rest → Collected Body Other h ts rest (expr_places a h) (expr_literals a) (grammar.IsProduct Other b h ts a rest)
    product_sites (grammar.expr_product {x = x} {ops = ops} {xs = xs} a0 a1) = in_product x ops xs (both (unary_sites a0) (more_product_sites a1) (λ k l. grammar.expr_product k l))

    pub more_product_sites : {b : Bool} {h : ℕ} {ts : List Terminal} {ops : List ProductOperator} {a : List Expr} {rest : List Terminal} → grammar.IsMoreProduct Body b h ts ops a rest → Collected Body Other h ts rest (exprs_places a h) (exprs_literals a) (grammar.IsMoreProduct Other b h ts ops a rest)
    more_product_sites grammar.product_none = nothing end_none grammar.product_none
    more_product_sites (grammar.product_more a0 a1 a2 a3) = behind (takes_end a0) (both (unary_sites a2) (more_product_sites a3) (λ k l. grammar.product_more a0 a1 k l))

    pub unary_sites : {b : Bool} {h : ℕ} {ts : List Terminal} {a : Expr} {rest : List Terminal} → grammar.IsUnary Body b h ts a rest → Collected Body Other h ts rest (expr_places a h) (expr_literals a) (grammar.IsUnary Other b h ts a rest)
    unary_sites (grammar.unary_prefix {op = op} {x = x} a0 a1 a2 a3) = in_expr (expr.Prefix op x) (Expr-F.Prefix op x) (expr.outs-Prefix op x) (deeper (behind (takes_end a0) (into (λ k. grammar.unary_prefix a0 a1 a2 k) (unary_sites a3))))
    unary_sites (grammar.unary_primary a0) = into (λ k. grammar.unary_primary k) (primary_sites a0)

    pub primary_sites : {b : Bool} {h : ℕ} {ts : List Terminal} {a : Expr} {rest : List Terminal} → grammar.IsPrimary Body b h ts a rest → Collected Body Other h ts rest (expr_places a h) (expr_literals a) (grammar.IsPrimary Other b h ts a rest)
    primary_sites (grammar.primary {x = x} {ps = ps} a0 a1) = in_primary x ps (both (operand_sites a0) (posts_sites a1) (λ k l. grammar.primary k l))

    pub posts_sites : {h : ℕ} {ts : List Terminal} {a : List Post} {rest : List Terminal} → grammar.IsPosts Body h ts a rest → Collected Body Other h ts rest (joined (map post_places a) h) (literals.joined (map post_literals a)) (grammar.IsPosts Other h ts a rest)
    posts_sites grammar.posts_none = nothing end_none grammar.posts_none
    posts_sites (grammar.posts_more a0 a1) = both (post_sites a0) (posts_sites a1) (λ k l. grammar.posts_more k l)

    pub post_sites : {h : ℕ} {ts : List Terminal} {a : Post} {rest : List Terminal} → grammar.IsPost Body h ts a rest → Collected Body Other h ts rest (post_places a h) (post_literals a) (grammar.IsPost Other h ts a rest)
    post_sites (grammar.post_selector {n = n} a0 a1) = in_post (post.Selector n) (Post-F.Selector n) (post.outs-Selector n) (nothing (end_and (takes_end a0) (name_end a1)) (grammar.post_selector a0 a1))
    post_sites (grammar.post_assertion {t = t} a0 a1 a2 a3) = in_post (post.TypeAssertion t) (Post-F.TypeAssertion t) (post.outs-TypeAssertion t) (deeper (behind (takes_end a0) (behind (takes_end a1) (into (λ k. grammar.post_assertion a0 a1 k a3) (until (takes_end a3) (type_sites a2))))))
    post_sites (grammar.post_index {x = x} a0 a1 a2) = in_post (post.Index x) (Post-F.Index x) (post.outs-Index x) (deeper (behind (takes_end a0) (into (λ k. grammar.post_index a0 k a2) (until (takes_end a2) (expr_sites a1)))))
    post_sites (grammar.post_slice {low = low} {high = high} a0 a1 a2 a3 a4) = in_slice low high (behind (takes_end a0) (both (optional_sites a1) (behind (takes_end a2) (until (takes_end a4) (optional_sites a3))) (λ k l. grammar.post_slice a0 k a2 l a4)))
    post_sites (grammar.post_full_slice {low = low} {high = high} {max = max} a0 a1 a2 a3 a4 a5 a6) = in_full_slice low high max (behind (takes_end a0) (both (optional_sites a1) (behind (takes_end a2) (both (expr_sites a3) (behind (takes_end a4) (until (takes_end a6) (expr_sites a5))) pair)) (λ k p. grammar.post_full_slice a0 k a2 p.0 a4 p.1 a6)))
    post_sites (grammar.post_call_none a0 a1) = in_post (post.Call [] false) (Post-F.Call [] false) (post.outs-Call [] false) (nothing (end_and (takes_end a0) (takes_end a1)) (grammar.post_call_none a0 a1))
    post_sites (grammar.post_call {xs = xs} {spread = spread} a0 a1 a2 a3 a4) = in_post (post.Call xs spread) (Post-F.Call xs spread) (post.outs-Call xs spread) (deeper (behind (takes_end a0) (into (λ k. grammar.post_call a0 k a2 a3 a4) (until (end_and (marks_end a2) (end_and (may_end a3) (takes_end a4))) (exprs_sites a1)))))
    post_sites (grammar.post_call_receive {t = t} {xs = xs} {spread = spread} a0 a1 a2 a3 a4 a5 a6 a7) = in_post (post.CallReceiveChan t xs spread) (Post-F.CallReceiveChan t xs spread) (post.outs-CallReceiveChan t xs spread) (deeper (behind (takes_end a0) (behind (takes_end a1) (behind (takes_end a2) (both (type_sites a3) (until (end_and (marks_end a5) (end_and (may_end a6) (takes_end a7))) (more_exprs_sites a4)) (λ k l. grammar.post_call_receive a0 a1 a2 k l a5 a6 a7))))))

    pub optional_sites : {b : Bool} {h : ℕ} {ts : List Terminal} {a : Option Expr} {rest : List Terminal} → grammar.IsOptional Body b h ts a rest → Collected Body Other h ts rest (optional_expr a h) (literals.optional_expr a) (grammar.IsOptional Other b h ts a rest)
    optional_sites grammar.optional_none = nothing end_none grammar.optional_none
    optional_sites (grammar.optional_some a0) = into (λ k. grammar.optional_some k) (expr_sites a0)

    pub exprs_sites : {b : Bool} {h : ℕ} {ts : List Terminal} {a : List Expr} {rest : List Terminal} → grammar.IsExprs Body b h ts a rest → Collected Body Other h ts rest (exprs_places a h) (exprs_literals a) (grammar.IsExprs Other b h ts a rest)
    exprs_sites (grammar.exprs a0 a1) = both (expr_sites a0) (more_exprs_sites a1) (λ k l. grammar.exprs k l)

    pub more_exprs_sites : {b : Bool} {h : ℕ} {ts : List Terminal} {a : List Expr} {rest : List Terminal} → grammar.IsMoreExprs Body b h ts a rest → Collected Body Other h ts rest (exprs_places a h) (exprs_literals a) (grammar.IsMoreExprs Other b h ts a rest)
    more_exprs_sites grammar.exprs_none = nothing end_none grammar.exprs_none
    more_exprs_sites (grammar.exprs_more a0 a1 a2) = behind (takes_end a0) (both (expr_sites a1) (more_exprs_sites a2) (λ k l. grammar.exprs_more a0 k l))

    pub operand_sites : {b : Bool} {h : ℕ} {ts : List Terminal} {a : Expr} {rest : List Terminal} → grammar.IsOperand Body b h ts a rest → Collected Body Other h ts rest (expr_places a h) (expr_literals a) (grammar.IsOperand Other b h ts a rest)
    operand_sites (grammar.operand_literal {l = l} a0) = in_expr (expr.Literal l) (Expr-F.«Expr::Literal» l) (expr.outs-Literal l) (nothing (literal_end a0) (grammar.operand_literal a0))
    operand_sites (grammar.operand_name {n = n} a0) = in_expr (expr.Name n) (Expr-F.Name n) (expr.outs-Name n) (nothing (name_end a0) (grammar.operand_name a0))
    operand_sites (grammar.operand_func {s = s} {body = body} a0 a1 a2) = in_expr (expr.FuncLit s body) (Expr-F.FuncLit s body) (expr.outs-FuncLit s body) (behind (takes_end a0) (both (deeper (signature_sites a1)) (here (ended _ _ _ _ a2) a2) (λ k l. grammar.operand_func a0 k l)))
    operand_sites (grammar.operand_named_composite {q = q} {es = es} a0 a1) = in_expr (expr.Composite (type.Named q) es) (Expr-F.Composite (type.Named q) es) (expr.outs-Composite (type.Named q) es) (deeper (both (in_type (type.Named q) (Type-F.«Type::Named» q) (type.outs-Named q) (nothing {G = Unit {0}} (type_name_end a0) (tt {0}))) (literal_value_sites a1) (λ k l. grammar.operand_named_composite a0 l)))
    operand_sites (grammar.operand_composite {t = t} {es = es} a0 a1) = in_expr (expr.Composite t es) (Expr-F.Composite t es) (expr.outs-Composite t es) (deeper (both (composite_type_sites a0) (literal_value_sites a1) (λ k l. grammar.operand_composite k l)))
    operand_sites (grammar.operand_composite_array {t = t} {es = es} a0 a1 a2 a3 a4) = in_expr (expr.CompositeArray t es) (Expr-F.CompositeArray t es) (expr.outs-CompositeArray t es) (deeper (behind (takes_end a0) (behind (takes_end a1) (behind (takes_end a2) (both (type_sites a3) (literal_value_sites a4) (λ k l. grammar.operand_composite_array a0 a1 a2 k l))))))
    operand_sites (grammar.operand_composite_type {t = t} a0 a1) = in_expr (expr.Type t) (Expr-F.«Expr::Type» t) (expr.outs-Type t) (into (λ k. grammar.operand_composite_type k a1) (composite_type_sites a0))
    operand_sites (grammar.operand_func_type {s = s} a0 a1 a2) = in_expr (expr.Type (type.Func s)) (Expr-F.«Expr::Type» (type.Func s)) (expr.outs-Type (type.Func s)) (in_type (type.Func s) (Type-F.Func s) (type.outs-Func s) (deeper (behind (takes_end a0) (into (λ k. grammar.operand_func_type a0 k a2) (signature_sites a1)))))
    operand_sites (grammar.operand_other_type {t = t} a0) = in_expr (expr.Type t) (Expr-F.«Expr::Type» t) (expr.outs-Type t) (into (λ k. grammar.operand_other_type k) (other_type_sites a0))
    operand_sites (grammar.operand_paren {x = x} a0 a1 a2) = in_expr (expr.Paren x) (Expr-F.«Expr::Paren» x) (expr.outs-Paren x) (deeper (behind (takes_end a0) (into (λ k. grammar.operand_paren a0 k a2) (until (takes_end a2) (expr_sites a1)))))
    operand_sites (grammar.operand_paren_receive {t = t} a0 a1 a2 a3 a4) = in_expr (expr.ParenReceiveChan t) (Expr-F.ParenReceiveChan t) (expr.outs-ParenReceiveChan t) (deeper (behind (takes_end a0) (behind (takes_end a1) (behind (takes_end a2) (into (λ k. grammar.operand_paren_receive a0 a1 a2 k a4) (until (takes_end a4) (type_sites a3)))))))

    pub literal_value_sites : {h : ℕ} {ts : List Terminal} {a : List Element} {rest : List Terminal} → grammar.IsLiteralValue Body h ts a rest → Collected Body Other h ts rest (joined (map element_places a) (below h)) (literals.joined (map element_literals a)) (grammar.IsLiteralValue Other h ts a rest)
    literal_value_sites (grammar.literal_none a0 a1) = nothing (end_and (takes_end a0) (takes_end a1)) (grammar.literal_none a0 a1)
    literal_value_sites (grammar.literal_some a0 a1 a2 a3 a4) = deeper (behind (takes_end a0) (both (element_sites a1) (until (end_and (may_end a3) (takes_end a4)) (more_elements_sites a2)) (λ k l. grammar.literal_some a0 k l a3 a4)))

    pub more_elements_sites : {h : ℕ} {ts : List Terminal} {a : List Element} {rest : List Terminal} → grammar.IsMoreElements Body h ts a rest → Collected Body Other h ts rest (joined (map element_places a) h) (literals.joined (map element_literals a)) (grammar.IsMoreElements Other h ts a rest)
    more_elements_sites grammar.elements_none = nothing end_none grammar.elements_none
    more_elements_sites (grammar.elements_more a0 a1 a2) = behind (takes_end a0) (both (element_sites a1) (more_elements_sites a2) (λ k l. grammar.elements_more a0 k l))

    pub element_sites : {h : ℕ} {ts : List Terminal} {a : Element} {rest : List Terminal} → grammar.IsElement Body h ts a rest → Collected Body Other h ts rest (element_places a h) (element_literals a) (grammar.IsElement Other h ts a rest)
    element_sites (grammar.element_alone {v = v} a0) = in_element (grammar.element (None) v) (record { key = None; value = v }) (out-roll-Element (record { key = None; value = v })) (into (λ k. grammar.element_alone k) (element_value_sites a0))
    element_sites (grammar.element_keyed {k = k} {v = v} a0 a1 a2) = in_element (grammar.element (Some k) v) (record { key = Some k; value = v }) (out-roll-Element (record { key = Some k; value = v })) (both (element_value_sites a0) (behind (takes_end a1) (element_value_sites a2)) (λ k l. grammar.element_keyed k a1 l))

    pub element_value_sites : {h : ℕ} {ts : List Terminal} {a : ElementValue} {rest : List Terminal} → grammar.IsElementValue Body h ts a rest → Collected Body Other h ts rest (value_places a h) (value_literals a) (grammar.IsElementValue Other h ts a rest)
    element_value_sites (grammar.value_expr {x = x} a0) = in_value (value.Value x) (ElementValue-F.Value x) (value.outs-Value x) (into (λ k. grammar.value_expr k) (expr_sites a0))
    element_value_sites (grammar.value_literal {es = es} a0) = in_value (value.Literal es) (ElementValue-F.«ElementValue::Literal» es) (value.outs-Literal es) (into (λ k. grammar.value_literal k) (literal_value_sites a0))
