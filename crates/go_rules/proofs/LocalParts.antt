-- What a tree of a region refers to: each of its parts is of the region too.
use Rattle.std.proofs.Common.{◌≡◌, ℕ, zero, suc, Bool, List, [], ◌∷◌, ◌++◌, Some, refl, sym, ap, ◌∙◌, subst}
use Rattle.std.specs.Prelude.{map, replicate, length}
use Rattle.go_syntax.specs.go_base.Lists.{Each, Passes}
use Rattle.go_model.specs.declared.types.term.Signature.{fold-roll-Signature}
use Rattle.go_model.specs.declared.types.term.Term.{Term}
use Rattle.go_model.specs.types.TypeNames.{Names, all_of, field_names, method_names, name_step, names, parameter_names}
use Rattle.go_syntax.specs.go_base.Gathered.{gather}
use Rattle.go_rules.specs.Expressions.{CallsAt, calls_at, IsCall, call, call_receive_type, chain, for_names, results_of, signature}
use Rattle.go_rules.specs.Nodes.{PostLayer, Node, expression, post, value, type, parts, Stands, stands_here, stands_in, element_parts, expression_parts, optional, post_parts, type_parts, value_parts}
use Rattle.go_rules.specs.Operands.{plain}
use Rattle.go_rules.specs.Regions.{Region, NameIn, RefersIn, SignatureIn, TermIn, expression_name, node_names, type_fronts}
use Rattle.go_rules.proofs.LocalRelations.{OperandIn}
use Rattle.go_rules.proofs.LocalTerms.{each_has, each_passes, passes_both}
use Rattle.go_rules.proofs.LocalTypes.{each_made}
use Rattle.go_syntax.specs.declared.expression.Element.{Element, out-Element}
use Rattle.go_syntax.specs.declared.expression.ElementValue.{ElementValue, ElementValue-F, out-ElementValue}
use Rattle.go_syntax.specs.declared.expression.Expr.{Expr}
use Rattle.go_syntax.specs.declared.expression.Expr.TheVariants as expr
use Rattle.go_syntax.specs.declared.expression.Expr.TheVariants.{outs-Type as expr_type}
use Rattle.go_syntax.specs.declared.expression.Post.{Post}
use Rattle.go_syntax.specs.declared.name.Name.{Name}
use Rattle.go_syntax.specs.declared.types.«Type».{«Type» as Typ}
use Rattle.go_syntax.specs.declared.types.«Type».TheVariants as typ
use Rattle.go_syntax.specs.declared.types.«Type».TheVariants.{outs-ReceiveChan as receive_type}

-- ---- lists

pub each_left : {A : Type 0} (P : A → Type 0) (xs ys : List A) → Each P (xs ++ ys) → Each P xs
each_left P [] ys h = tt
each_left P (x ∷ xs) ys h = (h.0, each_left P xs ys h.1)

pub each_right : {A : Type 0} (P : A → Type 0) (xs ys : List A) → Each P (xs ++ ys) → Each P ys
each_right P [] ys h = h
each_right P (x ∷ xs) ys h = each_right P xs ys h.1

pub each_both : {A : Type 0} (P : A → Type 0) (xs ys : List A) → Each P xs → Each P ys → Each P (xs ++ ys)
each_both P [] ys h k = k
each_both P (x ∷ xs) ys h k = (h.0, each_both P xs ys h.1 k)

-- the same of a list of trees after some of it
pub map_left : {A : Type 0} (P : Node → Type 0) (f : A → Node) (xs ys : List A) → Each P (map f (xs ++ ys)) → Each P (map f xs)
map_left P f [] ys h = tt
map_left P f (x ∷ xs) ys h = (h.0, map_left P f xs ys h.1)

map_next : (P : Node → Type 0) (xs ys : List Post) (x : Post) → Each P (map post (xs ++ x ∷ ys)) → Each P (map post (xs ++ x ∷ []))
map_next P [] ys x h = (h.0, tt)
map_next P (y ∷ xs) ys x h = (h.0, map_next P xs ys x h.1)

-- ---- trees

pub parts_in : (R : Region) (at : Node) → RefersIn R at → Each (RefersIn R) (parts at)
parts_in R at h = each_made (parts at) (λ b i c s. h c (stands_in i s))

pub names_here : (R : Region) (at : Node) → RefersIn R at → Each (NameIn R) (node_names at)
names_here R at h = h at stands_here

made : (R : Region) (at b : Node) → Each (NameIn R) (node_names at) → Each (RefersIn R) (parts at) → Stands at b → Each (NameIn R) (node_names b)
made R at b h k stands_here = h
made R at b h k (stands_in {b = c} i s) = each_has (RefersIn R) (parts at) c k i b s

-- the operand type of a call that begins with `<-chan`
receive_in : (R : Region) (t : Typ) → RefersIn R (type t) → RefersIn R (expression (expr.Type (typ.ReceiveChan t)))
receive_in R t h =
    let inner : RefersIn R (type (typ.ReceiveChan t)) = λ b s. made R (type (typ.ReceiveChan t)) b (subst (λ l. Each (NameIn R) (type_fronts l)) (sym (receive_type t)) tt) (subst (λ l. Each (RefersIn R) (type_parts l)) (sym (receive_type t)) (h, tt)) s in
    λ b s. made R (expression (expr.Type (typ.ReceiveChan t))) b (subst (λ l. Each (NameIn R) (expression_name l)) (sym (expr_type (typ.ReceiveChan t))) tt) (subst (λ l. Each (RefersIn R) (expression_parts l)) (sym (expr_type (typ.ReceiveChan t))) (inner, tt)) s

-- the arguments of a call
pub call_in : (R : Region) {l : PostLayer} {es : List Expr} {dots : Bool} → IsCall l es dots → Each (RefersIn R) (post_parts l) → Each (RefersIn R) (map expression es)
call_in R call h = h
call_in R (call_receive_type {t = t}) h = (receive_in R t h.0, h.1)

-- ---- elements of composite literals

pub element_key : (P : Node → Type 0) (x : Element) (xs : List Element) {v : ElementValue} → (out-Element x).key ≡ Some v → Each P (element_parts (x ∷ xs)) → P (value v)
element_key P x xs e h = (subst (λ k. Each P (optional value k)) e (each_left P (optional value (out-Element x).key) (value (out-Element x).value ∷ element_parts xs) h)).0

pub element_value : (P : Node → Type 0) (x : Element) (xs : List Element) → Each P (element_parts (x ∷ xs)) → P (value (out-Element x).value)
element_value P x xs h = (each_right P (optional value (out-Element x).key) (value (out-Element x).value ∷ element_parts xs) h).0

pub elements_rest : (P : Node → Type 0) (x : Element) (xs : List Element) → Each P (element_parts (x ∷ xs)) → Each P (element_parts xs)
elements_rest P x xs h = (each_right P (optional value (out-Element x).key) (value (out-Element x).value ∷ element_parts xs) h).1

pub value_in : (R : Region) (v : ElementValue) {e : Expr} → RefersIn R (value v) → out-ElementValue v ≡ ElementValue-F.Value e → RefersIn R (expression e)
value_in R v h e = (subst (λ l. Each (RefersIn R) (value_parts l)) e (parts_in R (value v) h)).0

pub literal_in : (R : Region) (v : ElementValue) {xs : List Element} → RefersIn R (value v) → out-ElementValue v ≡ ElementValue-F.«ElementValue::Literal» xs → Each (RefersIn R) (element_parts xs)
literal_in R v h e = subst (λ l. Each (RefersIn R) (value_parts l)) e (parts_in R (value v) h)

-- ---- an operand with what follows it

-- the names and parts of an operand with some of what follows it
pub chain_names : (R : Region) (x : Expr) (ps : List Post) → RefersIn R (expression x) → Each (NameIn R) (expression_name (chain x ps))
chain_names R x [] h = names_here R (expression x) h
chain_names R x (p ∷ ps) h = tt

pub chain_parts : (R : Region) (x : Expr) (ps : List Post) → RefersIn R (expression x) → Each (RefersIn R) (map post ps) → Each (RefersIn R) (expression_parts (chain x ps))
chain_parts R x [] h k = parts_in R (expression x) h
chain_parts R x (p ∷ ps) h k = (h, k)

-- the operand, and the posts up to a call
pub record CallIn (R : Region) (x : Expr) (before : List Post) (c : Post) : Type 0 where
  pub operand : RefersIn R (expression x)
  pub posts : Each (RefersIn R) (map post before)
  pub all : Each (RefersIn R) (map post (before ++ c ∷ []))

pub calls_in : (R : Region) {y x : Expr} {before : List Post} {c : Post} → RefersIn R (expression y) → CallsAt y x before c → CallIn R x before c
calls_in R {y = y} {x = x} {before = before} {c = c} h (calls_at after e k) =
    let g = subst (λ l. Each (RefersIn R) (expression_parts l)) e (parts_in R (expression y) h) in
    record { operand = g.0; posts = map_left (RefersIn R) post before (c ∷ after) g.1; all = map_next (RefersIn R) before after c g.1 }

-- ---- signatures and results

mapped : (ts : List Term) → all_of (map names ts) ≡ gather names ts
mapped [] = refl
mapped (t ∷ ts) = ap (λ z. names t ++ z) (mapped ts)

pub signature_in : (R : Region) (ts us : List Term) (variadic : Bool) → Each (TermIn R) ts → Each (TermIn R) us → SignatureIn R (signature ts variadic us)
signature_in R ts us variadic h k =
    subst (Passes R.types) (sym (fold-roll-Signature Names Names Names Names name_step field_names method_names parameter_names (record { params = ts; variadic = variadic; results = us }) ∙ (λ i. mapped ts i ++ mapped us i)))
    (passes_both R.types (gather names ts) (gather names us) (each_passes R.types names ts h) (each_passes R.types names us k))

pub results_in : (R : Region) (ts : List Term) → Each (TermIn R) ts → OperandIn R (results_of ts)
results_in R [] h = tt
results_in R (t ∷ []) h = h.0
results_in R (t ∷ u ∷ ts) h = h

pub plains_in : (R : Region) (ts : List Term) → Each (TermIn R) ts → Each (OperandIn R) (map plain ts)
plains_in R [] h = tt
plains_in R (t ∷ ts) h = (h.0, plains_in R ts h.1)

replicated : (R : Region) (n : ℕ) (t : Term) → TermIn R t → Each (TermIn R) (replicate n t)
replicated R zero t h = tt
replicated R (suc n) t h = (h, replicated R n t h)

pub for_names_in : (R : Region) (ns : List Name) (t : Term) → TermIn R t → Each (TermIn R) (for_names ns t)
for_names_in R [] t h = (h, tt)
for_names_in R (n ∷ ns) t h = replicated R (length (n ∷ ns)) t h
