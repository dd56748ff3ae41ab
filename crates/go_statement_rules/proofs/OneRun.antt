-- What a header leaves, what a clause binds and the statements of a function are one.
use Rattle.std.proofs.Common.{◌≡◌, ℕ, Bool, List, [], ◌∷◌, ◌++◌, Option, Some, None, refl, sym, ap, ◌∙◌, subst}
use Rattle.go_model.specs.declared.constants.value.Basic.TheVariants as basic
use Rattle.go_model.specs.declared.types.package.ConstTerm.{ConstTerm}
use Rattle.go_model.specs.declared.types.package.ConstTerm.TheVariants as constant
use Rattle.go_model.specs.declared.types.term.Signature.{out-Signature}
use Rattle.go_model.specs.declared.types.term.Term.{Term, Term-F}
use Rattle.go_model.specs.types.Terms.{Layer}
use Rattle.go_model.specs.types.Underlying.{under}
use Rattle.go_typings.specs.go_rules.Environments.{Env}
use Rattle.go_typings.specs.go_rules.Expressions.{Denotes, NamesType, IsArray, OfForm, OfType, IsTypeName, array_itself, array_pointer, for_names, is_type, of_name, of_paren, of_type, seen_operand, string_typed, string_untyped, string_value}
use Rattle.go_typings.specs.go_rules.Nodes.{TypeLayer}
use Rattle.go_typings.specs.go_rules.Operands.{basic_term, nil, type_name}
use Rattle.go_typings.specs.go_rules.declared.operand.Operand.{Operand}
use Rattle.go_typings.specs.go_rules.declared.predeclared.Predeclared.TheVariants as p
use Rattle.go_typings.specs.go_rules.declared.seen.Seen.TheVariants as seen
use Rattle.go_typings.proofs.go_rules_proofs.OneKind.{const_in, no_truth, typed}
use Rattle.go_typings.proofs.go_rules_proofs.OneName.{none_some, one_some}
use Rattle.go_typings.proofs.go_rules_proofs.OneOperand.{has_once, signature_once, type_once}
use Rattle.go_statement_rules.specs.Bodies.{IsTypedBody, IsTypedRun, no_body, typed_body}
use Rattle.go_statement_rules.specs.Clauses.{IsNil, is_nil, nil_in_parentheses, Lists, lists_nil, lists_type, ListsAll, lists_more, lists_none, Ranges, ranges_array, ranges_channel, ranges_map, ranges_slice, ranges_string}
use Rattle.go_statement_rules.specs.Functions.{Enclosing, EntersBody, EntersFunction, IsBlockAt, OfReceiver, Run, block_here, block_later, enclosing, enters_body, enters_function, no_receiver, receiver, receiver_slots, run}
use Rattle.go_statement_rules.specs.Scopes.{Scopes, Declares, locals, opened, parameter_slots, result_slots, within}
use Rattle.go_statement_rules.specs.Statements.{AreListed, Begins, begins_alone, begins_with, IsOperand, is_operand, IsTypedFunction, typed_function, bound}
use Rattle.go_statement_rules.proofs.OneScope.{declares_once, leaves_once}
use Rattle.go_syntax.specs.declared.body.BodyRange.{BodyRange}
use Rattle.go_syntax.specs.declared.declaration.Func.{Func}
use Rattle.go_syntax.specs.declared.expression.Expr.{Expr}
use Rattle.go_syntax.specs.declared.name.Name.{Name}
use Rattle.go_syntax.specs.declared.name.QualifiedName.{QualifiedName}
use Rattle.go_syntax.specs.declared.statement.LiteralBlock.{LiteralBlock}
use Rattle.go_syntax.specs.declared.statement.Stmt.{Stmt}
use Rattle.go_syntax.specs.declared.types.ParameterDecl.{ParameterDecl, out-ParameterDecl}
use Rattle.go_syntax.specs.declared.types.Signature.{Signature as Sig, out-Signature as out-Sig}
use Rattle.go_syntax.specs.declared.types.«Type».{«Type» as Typ, «Type-F» as Typ-F}

-- ---- scopes

pub begins_once : (E : Env) (blocks : List LiteralBlock) {r : Enclosing} {s t u : Scopes} {x : Option Stmt} → Begins E blocks r s x t → Begins E blocks r s x u → t ≡ u
begins_once E blocks begins_alone begins_alone = refl
begins_once E blocks (begins_with a) (begins_with b) = leaves_once E blocks a b

pub bound_once : (n : Option Name) (t : Term) (s : Scopes) {u v : Scopes} → bound n t s u → bound n t s v → u ≡ v
bound_once None t s a b = a ∙ sym b
bound_once (Some n) t s a b = declares_once a b

-- ---- what clauses list

named_denotes : {E : Env} {q : QualifiedName} {u : Term} → q.qualifier ≡ None → IsTypeName E q u → Denotes E q.name (type_name u)
named_denotes {E = E} {q = q} {u = u} e a = subst (λ z. NamesType E z q.name u) e a

nil_is_no_type : {E : Env} {n : Name} {u : Term} → E.meaning n.text ≡ Some (seen.Universe p.Nil) → Denotes E n (type_name u) → ⊥
nil_is_no_type {E = E} {u = u} e a =
    let k = one_some (sym a.means ∙ e) in
    let d = one_some {x = nil} {y = type_name u} (ap (seen_operand E.iota) (sym k) ∙ a.denotes) in
    no_truth (sym (ap (λ (o : Operand). is_type o.mode) d))

form_named : {E : Env} {l : TypeLayer} {q : QualifiedName} {u : Term} → l ≡ Typ-F.«Type::Named» q → OfForm E l u → IsTypeName E q u
form_named {E = E} {q = q} {u = u} e a = named_in (subst (λ z. OfForm E z u) e a)
  where
    named_in : OfForm E (Typ-F.«Type::Named» q) u → IsTypeName E q u
    named_in (of_name b) = b

form_inside : {E : Env} {l : TypeLayer} {t : Typ} {u : Term} → l ≡ Typ-F.«Type::Paren» t → OfForm E l u → OfType E t u
form_inside {E = E} {t = t} {u = u} e a = inside_of (subst (λ z. OfForm E z u) e a)
  where
    inside_of : OfForm E (Typ-F.«Type::Paren» t) u → OfType E t u
    inside_of (of_paren b) = b

nil_or_type : {E : Env} {t : Typ} {u : Term} → IsNil E t → OfType E t u → ⊥
nil_or_type {E = E} (is_nil {q = q} i k e) (of_type a w) = nil_is_no_type {E = E} e (named_denotes {E = E} {q = q} k (form_named i a))
nil_or_type (nil_in_parentheses i n) (of_type a w) = nil_or_type n (form_inside i a)

lists_once : {E : Env} {v : Term} {t : Typ} {x y : Option Term} → Lists E v t x → Lists E v t y → x ≡ y
lists_once (lists_nil a) (lists_nil b) = refl
lists_once (lists_nil a) (lists_type b h) = absurd (nil_or_type a b.stands_for)
lists_once (lists_type b h) (lists_nil a) = absurd (nil_or_type a b.stands_for)
lists_once {E = E} (lists_type a h) (lists_type b k) = ap Some (type_once E a.stands_for b.stands_for)

all_once : {E : Env} {v : Term} {ts : List Typ} {xs ys : List (Option Term)} → ListsAll E v ts xs → ListsAll E v ts ys → xs ≡ ys
all_once lists_none lists_none = refl
all_once (lists_more a c) (lists_more b d) = let e = lists_once a b in let f = all_once c d in λ i. e i ∷ f i

pub listed_once : (E : Env) (v : Term) (ts : Option (List Typ)) {xs ys : List (Option Term)} → AreListed E v ts xs → AreListed E v ts ys → xs ≡ ys
listed_once E v None a b = a ∙ sym b
listed_once E v (Some ts) a b = all_once a b

-- ---- operands and ranges

pub operand_once : (E : Env) (blocks : List LiteralBlock) {r : Enclosing} {s : Scopes} {e : Expr} {o p : Operand} → IsOperand E blocks r s e o → IsOperand E blocks r s e p → o ≡ p
operand_once E blocks {s = s} (is_operand a c) (is_operand b d) = has_once (within E s) a.is b.is

abbrev pair : Term → List Term
pair e = basic_term basic.Int ∷ e ∷ []

abbrev text : List Term
text = basic_term basic.Int ∷ basic_term basic.Int32 ∷ []

abbrev behind : Layer → List Term
behind (Term-F.Array n e) = pair e
behind l = []

abbrev ranged : Env → Layer → List Term
ranged E (Term-F.Array n e) = pair e
ranged E (Term-F.Pointer b) = behind (under E.table b)
ranged E (Term-F.Slice e) = pair e
ranged E (Term-F.Map k e) = k ∷ e ∷ []
ranged E (Term-F.Chan d e) = e ∷ []
ranged E l = text

abbrev ranged_in : Env → ConstTerm → List Term
ranged_in E (constant.OfTerm t) = ranged E (under E.table t)
ranged_in E (constant.OfKind k) = text

of_array : {E : Env} {t e : Term} {pointer : Bool} {n : ℕ} → IsArray E t pointer n e → ranged E (under E.table t) ≡ pair e
of_array {E = E} (array_itself e) = ap (ranged E) e
of_array {E = E} (array_pointer e f) = ap (ranged E) e ∙ ap behind f

ranges_is : {E : Env} {o : Operand} {ts : List Term} → Ranges E o ts → ranged_in E (const_in o.shape) ≡ ts
ranges_is {E = E} (ranges_array i a) = ap (ranged_in E) (typed i) ∙ of_array a
ranges_is {E = E} (ranges_slice i e) = ap (ranged_in E) (typed i) ∙ ap (ranged E) e
ranges_is {E = E} (ranges_map i e) = ap (ranged_in E) (typed i) ∙ ap (ranged E) e
ranges_is {E = E} (ranges_channel i e r) = ap (ranged_in E) (typed i) ∙ ap (ranged E) e
ranges_is {E = E} (ranges_string (string_value c i e)) = ap (ranged_in E) (typed i) ∙ ap (ranged E) e
ranges_is {E = E} (ranges_string (string_typed e)) = ap (ranged E) e
ranges_is (ranges_string string_untyped) = refl

pub ranges_once : {E : Env} {o : Operand} {ts us : List Term} → Ranges E o ts → Ranges E o us → ts ≡ us
ranges_once a b = sym (ranges_is a) ∙ ranges_is b

-- ---- the statements of functions

pub block_once : {blocks : List LiteralBlock} {start : ℕ} {xs ys : List Stmt} → IsBlockAt blocks start xs → IsBlockAt blocks start ys → xs ≡ ys
block_once (block_here e) (block_here f) = refl
block_once (block_here e) (block_later n h) = absurd (n e)
block_once (block_later n h) (block_here e) = absurd (n e)
block_once (block_later n h) (block_later m k) = block_once h k

pub enters_once : (E : Env) (blocks : List LiteralBlock) {r : Enclosing} {s : Scopes} {g : Sig} {b : BodyRange} {v w : Run} → EntersFunction E blocks r s g b v → EntersFunction E blocks r s g b w → v ≡ w
enters_once E blocks {s = s} {g = g} {b = b} (enters_function {inner = inner} {h = h} {ss = ss} i a d x) (enters_function {inner = other} {h = k} {ss = ts} j c e y) =
    let p = signature_once (within E s) a c in
    let q = declares_once (subst (λ z. Declares (opened s) (parameter_slots (out-Sig g).parameters ++ result_slots (out-Sig g).result) (locals ((out-Signature z).params ++ (out-Signature z).results)) inner) p d) e in
    let t = block_once x y in
    λ n. run (enclosing (out-Signature (p n)).results b.start) (q n) (t n)

receiver_once : (E : Env) {r : Option ParameterDecl} {ts us : List Term} → OfReceiver E r ts → OfReceiver E r us → ts ≡ us
receiver_once E no_receiver no_receiver = refl
receiver_once E (receiver {r = r} a) (receiver b) = ap (for_names (out-ParameterDecl r).names) (type_once E a b)

pub enters_body_once : (E : Env) (blocks : List LiteralBlock) {f : Func} {v w : Run} → EntersBody E blocks f v → EntersBody E blocks f w → v ≡ w
enters_body_once E blocks {f = f} (enters_body {b = b} {h = h} {ts = ts} {inner = inner} {ss = ss} l r a d x) (enters_body {b = c} {h = k} {ts = us} m t n e y) =
    let o = one_some (sym l ∙ m) in
    let p = signature_once (within E []) a n in
    let z = receiver_once (within E []) r t in
    let q = declares_once (subst (λ us. Declares (opened []) (receiver_slots f.receiver ++ parameter_slots (out-Sig f.signature).parameters ++ result_slots (out-Sig f.signature).result) (locals (us ++ (out-Signature k).params ++ (out-Signature k).results)) inner) z
    (subst (λ g. Declares (opened []) (receiver_slots f.receiver ++ parameter_slots (out-Sig f.signature).parameters ++ result_slots (out-Sig f.signature).result) (locals (ts ++ (out-Signature g).params ++ (out-Signature g).results)) inner) p d)) e in
    let u = block_once (subst (λ (g : BodyRange). IsBlockAt blocks g.start ss) o x) y in
    λ n. run (enclosing (out-Signature (p n)).results ((o n).start)) (q n) (u n)

pub body_run : (E : Env) (blocks : List LiteralBlock) (f : Func) (w : Run) → EntersBody E blocks f w → IsTypedBody E blocks f → IsTypedRun E blocks w
body_run E blocks f w (enters_body e r g d h) (no_body n) = absurd (none_some (sym n ∙ e))
body_run E blocks f w a (typed_body b x) = subst (IsTypedRun E blocks) (enters_body_once E blocks b a) x

pub literal_run : (E : Env) (blocks : List LiteralBlock) (r : Enclosing) (s : Scopes) (g : Sig) (b : BodyRange) (w : Run) → EntersFunction E blocks r s g b w → IsTypedFunction E blocks r s g b → IsTypedRun E blocks w
literal_run E blocks r s g b w a (typed_function {last = last} c x) = subst (IsTypedRun E blocks) (enters_once E blocks c a) (last, x)
