-- Each name that stands in a tree is that of one of its references.
use Rattle.std.proofs.Common.{◌≡◌, true, false, List, [], ◌∷◌, ◌++◌, Option, None, Some, map, refl, sym, ap, ◌∙◌, subst, ◌⊎◌, inl, inr}
use Rattle.go_base.specs.Lists.{Has}
use Rattle.go_base.proofs.Members.{has_split}
use Rattle.go_typings.specs.go_references.References.{ExprRefs, PostRefs, References, before_posts, behind, behind_if, behind_operator, element_refs, element_step, expr_refs, expr_step, exprs_refs, field_refs, field_step, first_selected, first_name, inside_length, interface_refs, interface_step, joined, key_of, optional_parameter, optional_type, outermost, parameter_refs, parameter_step, post_refs, post_refs_of, post_step, reference, result_refs, result_step, signature_refs, signature_step, type_name, type_refs, type_step, value_refs, value_step}
use Rattle.go_typings.specs.go_references.declared.references.Position.{Position}
use Rattle.go_typings.specs.go_references.declared.references.Reference.{Reference}
use Rattle.go_typings.specs.go_rules.Nodes.{ElemLayer, ExprLayer, FieldLayer, Node, expression, post, value, type, signature, PostLayer, ResultLayer, Stands, stands_here, stands_in, TypeLayer, ValueLayer, elem_parts, element_parts, elems_parts, expression_parts, field_parts, fields_parts, optional, optional_result_parts, parameter_parts, parts, post_parts, result_parts, type_parts, value_parts}
use Rattle.go_typings.specs.go_rules.Regions.{elem_fronts, elems_fronts, expression_name, field_fronts, fields_fronts, front, front_of, node_names, type_fronts}
use Rattle.go_typings.specs.go_syntax.declared.expression.Element.{Element, fold_out-Element, map-Element, out-Element}
use Rattle.go_typings.specs.go_syntax.declared.expression.ElementValue.{ElementValue, ElementValue-F, fold_out-ElementValue, map-ElementValue, out-ElementValue}
use Rattle.go_typings.specs.go_syntax.declared.expression.Expr.{Expr, Expr-F, fold_out-Expr, map-Expr, out-Expr}
use Rattle.go_typings.specs.go_syntax.declared.expression.Post.{Post, Post-F, fold_out-Post, map-Post, out-Post}
use Rattle.go_typings.specs.go_syntax.declared.name.Name.{Name}
use Rattle.go_typings.specs.go_syntax.declared.name.QualifiedName.{QualifiedName}
use Rattle.go_typings.specs.go_syntax.declared.types.FieldDecl.{FieldDecl, FieldDecl-F, fold_out-FieldDecl, map-FieldDecl, out-FieldDecl}
use Rattle.go_typings.specs.go_syntax.declared.types.FuncResult.{FuncResult, FuncResult-F, fold_out-FuncResult, map-FuncResult, out-FuncResult}
use Rattle.go_typings.specs.go_syntax.declared.types.InterfaceElem.{InterfaceElem, InterfaceElem-F, fold_out-InterfaceElem, map-InterfaceElem, out-InterfaceElem}
use Rattle.go_typings.specs.go_syntax.declared.types.ParameterDecl.{ParameterDecl, fold_out-ParameterDecl, map-ParameterDecl, out-ParameterDecl}
use Rattle.go_typings.specs.go_syntax.declared.types.Signature.{Signature, fold_out-Signature, map-Signature, out-Signature}
use Rattle.go_typings.specs.DeclarationNodes.{nodes, references}
use Rattle.go_typings.specs.Declarations.{Form, constants, variables, alias, definition, function, method}
use Rattle.go_soundness.proofs.Members.{has_left, has_right}
use Rattle.go_typings.specs.go_syntax.declared.types.«Type».{«Type» as Typ, «Type-F» as Typ-F, «fold_out-Type» as fold_out-Typ, «map-Type» as map-Typ, «out-Type» as out-Typ}

-- ---- one level of a tree, where each part gives its references

abbrev expr_level : ExprLayer → ExprRefs
expr_level l = expr_step (map-Expr ElementValue Expr Post FieldDecl FuncResult InterfaceElem Typ Element ParameterDecl Signature ExprRefs ExprRefs PostRefs References References References References References References References value_refs expr_refs post_refs field_refs result_refs interface_refs type_refs element_refs parameter_refs signature_refs l)

abbrev post_level : PostLayer → PostRefs
post_level l = post_step (map-Post ElementValue Expr Post FieldDecl FuncResult InterfaceElem Typ Element ParameterDecl Signature ExprRefs ExprRefs PostRefs References References References References References References References value_refs expr_refs post_refs field_refs result_refs interface_refs type_refs element_refs parameter_refs signature_refs l)

abbrev value_level : ValueLayer → ExprRefs
value_level l = value_step (map-ElementValue ElementValue Expr Post FieldDecl FuncResult InterfaceElem Typ Element ParameterDecl Signature ExprRefs ExprRefs PostRefs References References References References References References References value_refs expr_refs post_refs field_refs result_refs interface_refs type_refs element_refs parameter_refs signature_refs l)

abbrev type_level : TypeLayer → References
type_level l = type_step (map-Typ ElementValue Expr Post FieldDecl FuncResult InterfaceElem Typ Element ParameterDecl Signature ExprRefs ExprRefs PostRefs References References References References References References References value_refs expr_refs post_refs field_refs result_refs interface_refs type_refs element_refs parameter_refs signature_refs l)

abbrev field_level : FieldLayer → References
field_level l = field_step (map-FieldDecl ElementValue Expr Post FieldDecl FuncResult InterfaceElem Typ Element ParameterDecl Signature ExprRefs ExprRefs PostRefs References References References References References References References value_refs expr_refs post_refs field_refs result_refs interface_refs type_refs element_refs parameter_refs signature_refs l)

abbrev elem_level : ElemLayer → References
elem_level l = interface_step (map-InterfaceElem ElementValue Expr Post FieldDecl FuncResult InterfaceElem Typ Element ParameterDecl Signature ExprRefs ExprRefs PostRefs References References References References References References References value_refs expr_refs post_refs field_refs result_refs interface_refs type_refs element_refs parameter_refs signature_refs l)

abbrev result_level : ResultLayer → References
result_level l = result_step (map-FuncResult ElementValue Expr Post FieldDecl FuncResult InterfaceElem Typ Element ParameterDecl Signature ExprRefs ExprRefs PostRefs References References References References References References References value_refs expr_refs post_refs field_refs result_refs interface_refs type_refs element_refs parameter_refs signature_refs l)

abbrev element_level : Element → References
element_level e = element_step (map-Element ElementValue Expr Post FieldDecl FuncResult InterfaceElem Typ Element ParameterDecl Signature ExprRefs ExprRefs PostRefs References References References References References References References value_refs expr_refs post_refs field_refs result_refs interface_refs type_refs element_refs parameter_refs signature_refs (out-Element e))

abbrev parameter_level : ParameterDecl → References
parameter_level d = parameter_step (map-ParameterDecl ElementValue Expr Post FieldDecl FuncResult InterfaceElem Typ Element ParameterDecl Signature ExprRefs ExprRefs PostRefs References References References References References References References value_refs expr_refs post_refs field_refs result_refs interface_refs type_refs element_refs parameter_refs signature_refs (out-ParameterDecl d))

abbrev signature_level : Signature → References
signature_level g = signature_step (map-Signature ElementValue Expr Post FieldDecl FuncResult InterfaceElem Typ Element ParameterDecl Signature ExprRefs ExprRefs PostRefs References References References References References References References value_refs expr_refs post_refs field_refs result_refs interface_refs type_refs element_refs parameter_refs signature_refs (out-Signature g))

expr_out : (e : Expr) → expr_refs e ≡ expr_level (out-Expr e)
expr_out e = fold_out-Expr ExprRefs ExprRefs PostRefs References References References References References References References value_step expr_step post_step field_step result_step interface_step type_step element_step parameter_step signature_step e

post_out : (p : Post) → post_refs p ≡ post_level (out-Post p)
post_out p = fold_out-Post ExprRefs ExprRefs PostRefs References References References References References References References value_step expr_step post_step field_step result_step interface_step type_step element_step parameter_step signature_step p

value_out : (v : ElementValue) → value_refs v ≡ value_level (out-ElementValue v)
value_out v = fold_out-ElementValue ExprRefs ExprRefs PostRefs References References References References References References References value_step expr_step post_step field_step result_step interface_step type_step element_step parameter_step signature_step v

type_out : (t : Typ) → type_refs t ≡ type_level (out-Typ t)
type_out t = fold_out-Typ ExprRefs ExprRefs PostRefs References References References References References References References value_step expr_step post_step field_step result_step interface_step type_step element_step parameter_step signature_step t

field_out : (d : FieldDecl) → field_refs d ≡ field_level (out-FieldDecl d)
field_out d = fold_out-FieldDecl ExprRefs ExprRefs PostRefs References References References References References References References value_step expr_step post_step field_step result_step interface_step type_step element_step parameter_step signature_step d

elem_out : (x : InterfaceElem) → interface_refs x ≡ elem_level (out-InterfaceElem x)
elem_out x = fold_out-InterfaceElem ExprRefs ExprRefs PostRefs References References References References References References References value_step expr_step post_step field_step result_step interface_step type_step element_step parameter_step signature_step x

result_out : (r : FuncResult) → result_refs r ≡ result_level (out-FuncResult r)
result_out r = fold_out-FuncResult ExprRefs ExprRefs PostRefs References References References References References References References value_step expr_step post_step field_step result_step interface_step type_step element_step parameter_step signature_step r

element_out : (e : Element) → element_refs e ≡ element_level e
element_out e = fold_out-Element ExprRefs ExprRefs PostRefs References References References References References References References value_step expr_step post_step field_step result_step interface_step type_step element_step parameter_step signature_step e

parameter_out : (d : ParameterDecl) → parameter_refs d ≡ parameter_level d
parameter_out d = fold_out-ParameterDecl ExprRefs ExprRefs PostRefs References References References References References References References value_step expr_step post_step field_step result_step interface_step type_step element_step parameter_step signature_step d

signature_out : (g : Signature) → signature_refs g ≡ signature_level g
signature_out g = fold_out-Signature ExprRefs ExprRefs PostRefs References References References References References References References value_step expr_step post_step field_step result_step interface_step type_step element_step parameter_step signature_step g

-- ---- a name among references

-- at each position one of the references is of this name
abbrev Says : References → Name → Type 0
Says refs n = (at : Position) → (r : Reference) × Has (refs at) r × (r.name ≡ n)

left : (p q : References) {n : Name} → Says p n → Says (λ at. p at ++ q at) n
left p q h at = let k = h at in (k.0, has_left (p at) (q at) k.0 k.1, k.2)

right : (p q : References) {n : Name} → Says q n → Says (λ at. p at ++ q at) n
right p q h at = let k = h at in (k.0, has_right (p at) (q at) k.0 k.1, k.2)

-- the references are those of this name alone, where it is told
abbrev IsBare : ExprRefs → Type 0
IsBare x = (m : Name) → x.bare ≡ Some m → (at : Position) (r : Reference) → Has (x.refs at) r → r.name ≡ m

none_some : {m : Name} → ◌≡◌ {A = Option Name} None (Some m) → ⊥
none_some e = absurd (cc)

some_once : {m n : Name} → ◌≡◌ {A = Option Name} (Some m) (Some n) → m ≡ n
some_once e = cc

level_bare : (l : ExprLayer) → IsBare (expr_level l)
level_bare (Expr-F.Name name) m e at r (inl p) = sym (ap (λ (z : Reference). z.name) p) ∙ some_once e
level_bare (Expr-F.Name name) m e at r (inr h) = absurd h
level_bare l m e at r h = absurd (none_some e)

expr_bare : (e : Expr) → IsBare (expr_refs e)
expr_bare e = subst IsBare (sym (expr_out e)) (level_bare (out-Expr e))

value_level_bare : (l : ValueLayer) → IsBare (value_level l)
value_level_bare (ElementValue-F.Value e) = expr_bare e
value_level_bare (ElementValue-F.«ElementValue::Literal» xs) = λ m e at r h. absurd (none_some e)

value_bare : (v : ElementValue) → IsBare (value_refs v)
value_bare v = subst IsBare (sym (value_out v)) (value_level_bare (out-ElementValue v))

-- what is told to be a name says that name
bare_says : (x : ExprRefs) (m n : Name) → IsBare x → x.bare ≡ Some m → Says x.refs n → m ≡ n
bare_says x m n b e h = let k = h outermost in sym (b m e outermost k.0 k.1) ∙ k.2

says_key : (x : ExprRefs) (n : Name) → IsBare x → Says x.refs n → Says (key_of x.bare x.refs) n
says_key x n b h = choose x.bare refl
  where
    choose : (c : Option Name) → x.bare ≡ c → Says (key_of c x.refs) n
    choose None e at = h at
    choose (Some m) e at = (reference m None true at, inl refl, bare_says x m n b e h)

says_before : (x : ExprRefs) (selected : Option Name) (n : Name) → IsBare x → Says x.refs n → Says (before_posts x.bare selected x.refs) n
says_before x selected n b h = choose x.bare selected refl
  where
    choose : (c d : Option Name) → x.bare ≡ c → Says (before_posts c d x.refs) n
    choose None d e at = h at
    choose (Some m) None e at = h at
    choose (Some m) (Some k) e at = (reference m (Some k) false at, inl refl, bare_says x m n b e h)

-- ---- lists of parts

abbrev node_refs : Node → References
node_refs (expression e) = (expr_refs e).refs
node_refs (post p) = (post_refs p).refs
node_refs (value v) = (value_refs v).refs
node_refs (type t) = type_refs t
node_refs (signature g) = signature_refs g

-- what a part says
abbrev Part : List Node → Name → Type 0
Part xs n = (b : Node) × Has xs b × Says (node_refs b) n

part_at : {x : Node} {n : Name} → Part (x ∷ []) n → Says (node_refs x) n
part_at {n = n} (b, inl e, h) = subst (λ z. Says (node_refs z) n) (sym e) h
part_at (b, inr i, h) = absurd i

part_of : (x : Node) (xs : List Node) (n : Name) → Part (x ∷ xs) n → Says (node_refs x) n ⊎ Part xs n
part_of x xs n (b, inl e, h) = inl (subst (λ z. Says (node_refs z) n) (sym e) h)
part_of x xs n (b, inr i, h) = inr (b, i, h)

part_split : (xs ys : List Node) (n : Name) → Part (xs ++ ys) n → Part xs n ⊎ Part ys n
part_split xs ys n (b, i, h) = elim (has_split xs ys b i) [ inl j ↦ inl (b, j, h) | inr j ↦ inr (b, j, h) ]

exprs_say : (xs : List Expr) (n : Name) → Part (map expression xs) n → Says (exprs_refs xs) n
exprs_say [] n (b, i, h) = absurd i
exprs_say (x ∷ xs) n p = elim (part_of (expression x) (map expression xs) n p) [ inl h ↦ left _ _ h | inr q ↦ right _ _ (exprs_say xs n q) ]

posts_say : (ps : List Post) (n : Name) → Part (map post ps) n → Says (joined (map post_refs_of (map post_refs ps))) n
posts_say [] n (b, i, h) = absurd i
posts_say (x ∷ xs) n p = elim (part_of (post x) (map post xs) n p) [ inl h ↦ left _ _ h | inr q ↦ right _ _ (posts_say xs n q) ]

element_level_says : (key : Option ElementValue) (v : ElementValue) (n : Name) → Part (optional value key) n ⊎ Says (value_refs v).refs n → Says (element_step (map-Element ElementValue Expr Post FieldDecl FuncResult InterfaceElem Typ Element ParameterDecl Signature ExprRefs ExprRefs PostRefs References References References References References References References value_refs expr_refs post_refs field_refs result_refs interface_refs type_refs element_refs parameter_refs signature_refs (record { key = key; value = v }))) n
element_level_says None v n (inl (b, i, h)) = absurd i
element_level_says None v n (inr k) = k
element_level_says (Some w) v n (inl p) = left _ _ (says_key (value_refs w) n (value_bare w) (part_at p))
element_level_says (Some w) v n (inr k) = right (key_of (value_refs w).bare (value_refs w).refs) (value_refs v).refs k

element_says : (x : Element) (n : Name) → Part (optional value (out-Element x).key) n ⊎ Says (node_refs (value (out-Element x).value)) n → Says (element_refs x) n
element_says x n h = subst (λ z. Says z n) (sym (element_out x)) (element_level_says (out-Element x).key (out-Element x).value n h)

elements_say : (xs : List Element) (n : Name) → Part (element_parts xs) n → Says (joined (map element_refs xs)) n
elements_say [] n (b, i, h) = absurd i
elements_say (x ∷ xs) n p = elim (part_split (optional value (out-Element x).key) (value (out-Element x).value ∷ element_parts xs) n p) [
  | inl q ↦ left _ _ (element_says x n (inl q))
  | inr q ↦ elim (part_of (value (out-Element x).value) (element_parts xs) n q) [ inl h ↦ left _ _ (element_says x n (inr h)) | inr k ↦ right _ _ (elements_say xs n k) ]
]

parameters_say : (ds : List ParameterDecl) (n : Name) → Part (parameter_parts ds) n → Says (joined (map parameter_refs ds)) n
parameters_say [] n (b, i, h) = absurd i
parameters_say (d ∷ ds) n p = elim (part_of (type (out-ParameterDecl d).type_) (parameter_parts ds) n p) [
  | inl h ↦ left _ _ (subst (λ z. Says z n) (sym (parameter_out d)) h)
  | inr q ↦ right _ _ (parameters_say ds n q)
]

result_level_says : (l : ResultLayer) (n : Name) → Part (result_parts l) n → Says (result_level l) n
result_level_says (FuncResult-F.Parameters ds) n p = parameters_say ds n p
result_level_says (FuncResult-F.«FuncResult::Type» t) n p = part_at p

result_says : (r : FuncResult) (n : Name) → Part (result_parts (out-FuncResult r)) n → Says (result_refs r) n
result_says r n p = subst (λ z. Says z n) (sym (result_out r)) (result_level_says (out-FuncResult r) n p)

signature_level_says : (ds : List ParameterDecl) (c : Option FuncResult) (n : Name) → Part (parameter_parts ds ++ optional_result_parts c) n → Says (signature_step (map-Signature ElementValue Expr Post FieldDecl FuncResult InterfaceElem Typ Element ParameterDecl Signature ExprRefs ExprRefs PostRefs References References References References References References References value_refs expr_refs post_refs field_refs result_refs interface_refs type_refs element_refs parameter_refs signature_refs (record { parameters = ds; result = c }))) n
signature_level_says ds None n p = elim (part_split (parameter_parts ds) [] n p) [ inl q ↦ left (λ at. joined (map parameter_refs ds) (behind at)) (λ at. []) (λ at. parameters_say ds n q (behind at)) | inr q ↦ nothing q ]
  where
    nothing : Part [] n → Says (signature_step (map-Signature ElementValue Expr Post FieldDecl FuncResult InterfaceElem Typ Element ParameterDecl Signature ExprRefs ExprRefs PostRefs References References References References References References References value_refs expr_refs post_refs field_refs result_refs interface_refs type_refs element_refs parameter_refs signature_refs (record { parameters = ds; result = None }))) n
    nothing (b, i, h) = absurd i
signature_level_says ds (Some r) n p = elim (part_split (parameter_parts ds) (result_parts (out-FuncResult r)) n p) [
  | inl q ↦ left (λ at. joined (map parameter_refs ds) (behind at)) (λ at. result_refs r (behind at)) (λ at. parameters_say ds n q (behind at))
  | inr q ↦ right (λ at. joined (map parameter_refs ds) (behind at)) (λ at. result_refs r (behind at)) (λ at. result_says r n q (behind at))
]

-- the names of a type's name, and of what is embedded
first_says : (q : QualifiedName) → Says (type_name q) (front_of q)
first_says q at = choose q.qualifier q.name
  where
    choose : (c : Option Name) (m : Name) → (r : Reference) × Has (first_name c m at) r × (r.name ≡ front c m)
    choose None m = (reference m None false at, inl refl, refl)
    choose (Some k) m = (reference k (Some m) false at, inl refl, refl)

name_says : (q : QualifiedName) (n : Name) → front_of q ≡ n → Says (type_name q) n
name_says q n e = subst (λ z. Says (type_name q) z) e (first_says q)

field_level_says : (l : FieldLayer) (n : Name) → Part (field_parts l) n ⊎ Has (field_fronts l) n → Says (field_level l) n
field_level_says (FieldDecl-F.«FieldDecl::Named» ns t tag) n (inl p) = part_at p
field_level_says (FieldDecl-F.«FieldDecl::Named» ns t tag) n (inr h) = absurd h
field_level_says (FieldDecl-F.«FieldDecl::Embedded» star q tag) n (inl (b, i, h)) = absurd i
field_level_says (FieldDecl-F.«FieldDecl::Embedded» star q tag) n (inr (inl e)) = λ at. name_says q n e (behind_if star at)
field_level_says (FieldDecl-F.«FieldDecl::Embedded» star q tag) n (inr (inr h)) = absurd h

field_says : (d : FieldDecl) (n : Name) → Part (field_parts (out-FieldDecl d)) n ⊎ Has (field_fronts (out-FieldDecl d)) n → Says (field_refs d) n
field_says d n h = subst (λ z. Says z n) (sym (field_out d)) (field_level_says (out-FieldDecl d) n h)

fields_say : (ds : List FieldDecl) (n : Name) → Part (fields_parts ds) n ⊎ Has (fields_fronts ds) n → Says (joined (map field_refs ds)) n
fields_say [] n (inl (b, i, h)) = absurd i
fields_say [] n (inr h) = absurd h
fields_say (d ∷ ds) n (inl p) = elim (part_split (field_parts (out-FieldDecl d)) (fields_parts ds) n p) [ inl q ↦ left _ _ (field_says d n (inl q)) | inr q ↦ right _ _ (fields_say ds n (inl q)) ]
fields_say (d ∷ ds) n (inr h) = elim (has_split (field_fronts (out-FieldDecl d)) (fields_fronts ds) n h) [ inl q ↦ left _ _ (field_says d n (inr q)) | inr q ↦ right _ _ (fields_say ds n (inr q)) ]

elem_level_says : (l : ElemLayer) (n : Name) → Part (elem_parts l) n ⊎ Has (elem_fronts l) n → Says (elem_level l) n
elem_level_says (InterfaceElem-F.Method m g) n (inl p) = part_at p
elem_level_says (InterfaceElem-F.Method m g) n (inr h) = absurd h
elem_level_says (InterfaceElem-F.«InterfaceElem::Embedded» q) n (inl (b, i, h)) = absurd i
elem_level_says (InterfaceElem-F.«InterfaceElem::Embedded» q) n (inr (inl e)) = name_says q n e
elem_level_says (InterfaceElem-F.«InterfaceElem::Embedded» q) n (inr (inr h)) = absurd h

elem_says : (x : InterfaceElem) (n : Name) → Part (elem_parts (out-InterfaceElem x)) n ⊎ Has (elem_fronts (out-InterfaceElem x)) n → Says (interface_refs x) n
elem_says x n h = subst (λ z. Says z n) (sym (elem_out x)) (elem_level_says (out-InterfaceElem x) n h)

elems_say : (xs : List InterfaceElem) (n : Name) → Part (elems_parts xs) n ⊎ Has (elems_fronts xs) n → Says (joined (map interface_refs xs)) n
elems_say [] n (inl (b, i, h)) = absurd i
elems_say [] n (inr h) = absurd h
elems_say (x ∷ xs) n (inl p) = elim (part_split (elem_parts (out-InterfaceElem x)) (elems_parts xs) n p) [ inl q ↦ left _ _ (elem_says x n (inl q)) | inr q ↦ right _ _ (elems_say xs n (inl q)) ]
elems_say (x ∷ xs) n (inr h) = elim (has_split (elem_fronts (out-InterfaceElem x)) (elems_fronts xs) n h) [ inl q ↦ left _ _ (elem_says x n (inr q)) | inr q ↦ right _ _ (elems_say xs n (inr q)) ]

-- ---- trees

both_say : (x : Expr) (xs : List Expr) (n : Name) → Part (expression x ∷ map expression xs) n → Says (λ at. (expr_refs x).refs at ++ exprs_refs xs at) n
both_say x xs n p = elim (part_of (expression x) (map expression xs) n p) [ inl h ↦ left _ _ h | inr q ↦ right _ _ (exprs_say xs n q) ]

expr_level_says : (l : ExprLayer) (n : Name) → Part (expression_parts l) n ⊎ Has (expression_name l) n → Says (expr_level l).refs n
expr_level_says (Expr-F.Or x xs) n (inl p) = both_say x xs n p
expr_level_says (Expr-F.And x xs) n (inl p) = both_say x xs n p
expr_level_says (Expr-F.Compare x ops xs) n (inl p) = both_say x xs n p
expr_level_says (Expr-F.Sum x ops xs) n (inl p) = both_say x xs n p
expr_level_says (Expr-F.Product x ops xs) n (inl p) = both_say x xs n p
expr_level_says (Expr-F.Prefix op x) n (inl p) = λ at. part_at p (behind_operator op at)
expr_level_says (Expr-F.Primary x ps) n (inl p) = elim (part_of (expression x) (map post ps) n p) [
  | inl h ↦ left _ _ (says_before (expr_refs x) (first_selected (map post_refs ps)) n (expr_bare x) h)
  | inr q ↦ right _ _ (posts_say ps n q)
]
expr_level_says (Expr-F.«Expr::Literal» k) n (inl (b, i, h)) = absurd i
expr_level_says (Expr-F.Name m) n (inl (b, i, h)) = absurd i
expr_level_says (Expr-F.Name m) n (inr (inl e)) = λ at. (reference m None false at, inl refl, e)
expr_level_says (Expr-F.Name m) n (inr (inr h)) = absurd h
expr_level_says (Expr-F.FuncLit g body) n (inl p) = part_at p
expr_level_says (Expr-F.Composite t xs) n (inl p) = elim (part_of (type t) (element_parts xs) n p) [ inl h ↦ left _ _ h | inr q ↦ right _ _ (elements_say xs n q) ]
expr_level_says (Expr-F.CompositeArray t xs) n (inl p) = elim (part_of (type t) (element_parts xs) n p) [ inl h ↦ left _ _ h | inr q ↦ right _ _ (elements_say xs n q) ]
expr_level_says (Expr-F.«Expr::Type» t) n (inl p) = part_at p
expr_level_says (Expr-F.«Expr::Paren» x) n (inl p) = part_at p
expr_level_says (Expr-F.ParenReceiveChan t) n (inl p) = λ at. part_at p (behind at)
expr_level_says l n (inr h) = absurd h

two_say : (x y : Expr) (n : Name) → Part (expression x ∷ expression y ∷ []) n → Says (λ at. (expr_refs x).refs at ++ (expr_refs y).refs at) n
two_say x y n p = elim (part_of (expression x) (expression y ∷ []) n p) [ inl h ↦ left (expr_refs x).refs (expr_refs y).refs h | inr q ↦ right (expr_refs x).refs (expr_refs y).refs (part_at q) ]

post_level_says : (l : PostLayer) (n : Name) → Part (post_parts l) n → Says (post_level l).refs n
post_level_says (Post-F.Selector m) n (b, i, h) = absurd i
post_level_says (Post-F.TypeAssertion t) n p = part_at p
post_level_says (Post-F.Index x) n p = part_at p
post_level_says (Post-F.«Post::Slice» None None) n (b, i, h) = absurd i
post_level_says (Post-F.«Post::Slice» None (Some y)) n p = part_at p
post_level_says (Post-F.«Post::Slice» (Some x) None) n p = left (expr_refs x).refs (λ at. []) (part_at p)
post_level_says (Post-F.«Post::Slice» (Some x) (Some y)) n p = two_say x y n p
post_level_says (Post-F.FullSlice None y z) n p = two_say y z n p
post_level_says (Post-F.FullSlice (Some x) y z) n p = elim (part_of (expression x) (expression y ∷ expression z ∷ []) n p) [
  | inl h ↦ left (expr_refs x).refs (λ at. (expr_refs y).refs at ++ (expr_refs z).refs at) h
  | inr q ↦ right (expr_refs x).refs (λ at. (expr_refs y).refs at ++ (expr_refs z).refs at) (two_say y z n q)
]
post_level_says (Post-F.Call xs dots) n p = exprs_say xs n p
post_level_says (Post-F.CallReceiveChan t xs dots) n p = elim (part_of (type t) (map expression xs) n p) [ inl h ↦ left _ _ (λ at. h (behind at)) | inr q ↦ right _ _ (exprs_say xs n q) ]

value_level_says : (l : ValueLayer) (n : Name) → Part (value_parts l) n → Says (value_level l).refs n
value_level_says (ElementValue-F.Value x) n p = part_at p
value_level_says (ElementValue-F.«ElementValue::Literal» xs) n p = elements_say xs n p

type_level_says : (l : TypeLayer) (n : Name) → Part (type_parts l) n ⊎ Has (type_fronts l) n → Says (type_level l) n
type_level_says (Typ-F.«Type::Named» q) n (inl (b, i, h)) = absurd i
type_level_says (Typ-F.«Type::Named» q) n (inr (inl e)) = name_says q n e
type_level_says (Typ-F.«Type::Named» q) n (inr (inr h)) = absurd h
type_level_says (Typ-F.«Type::Paren» t) n (inl p) = part_at p
type_level_says (Typ-F.Pointer t) n (inl p) = λ at. part_at p (behind at)
type_level_says (Typ-F.«Type::Slice» t) n (inl p) = λ at. part_at p (behind at)
type_level_says (Typ-F.Array k t) n (inl p) = elim (part_of (expression k) (type t ∷ []) n p) [ inl h ↦ left _ _ (λ at. h (inside_length at)) | inr q ↦ right _ _ (part_at q) ]
type_level_says (Typ-F.Map k t) n (inl p) = elim (part_of (type k) (type t ∷ []) n p) [ inl h ↦ left _ _ (λ at. h (behind at)) | inr q ↦ right _ _ (λ at. part_at q (behind at)) ]
type_level_says (Typ-F.Chan t) n (inl p) = λ at. part_at p (behind at)
type_level_says (Typ-F.SendChan t) n (inl p) = λ at. part_at p (behind at)
type_level_says (Typ-F.ReceiveChan t) n (inl p) = λ at. part_at p (behind at)
type_level_says (Typ-F.Func g) n (inl p) = part_at p
type_level_says (Typ-F.Struct ds) n h = fields_say ds n h
type_level_says (Typ-F.Interface xs) n h = elems_say xs n h
type_level_says l n (inr h) = absurd h

signature_says : (g : Signature) (n : Name) → Part (parts (signature g)) n → Says (signature_level g) n
signature_says g n p = signature_level_says (out-Signature g).parameters (out-Signature g).result n p

tree_says : (at : Node) (n : Name) → Part (parts at) n ⊎ Has (node_names at) n → Says (node_refs at) n
tree_says (expression e) n h = subst (λ (z : ExprRefs). Says z.refs n) (sym (expr_out e)) (expr_level_says (out-Expr e) n h)
tree_says (post p) n (inl h) = subst (λ (z : PostRefs). Says z.refs n) (sym (post_out p)) (post_level_says (out-Post p) n h)
tree_says (value v) n (inl h) = subst (λ (z : ExprRefs). Says z.refs n) (sym (value_out v)) (value_level_says (out-ElementValue v) n h)
tree_says (type t) n h = subst (λ z. Says z n) (sym (type_out t)) (type_level_says (out-Typ t) n h)
tree_says (signature g) n (inl h) = subst (λ z. Says z n) (sym (signature_out g)) (signature_says g n h)
tree_says at n (inr h) = absurd h

-- a name that stands in a tree is that of a reference at each position
stands_says : {at b : Node} (n : Name) → Stands at b → Has (node_names b) n → Says (node_refs at) n
stands_says {at = at} n stands_here h = tree_says at n (inr h)
stands_says {at = at} n (stands_in {b = c} i s) h = tree_says at n (inl (c, i, stands_says n s h))

-- ---- declarations

typed_say : (t : Option Typ) (es : List Expr) (n : Name) → Part (optional type t ++ map expression es) n → Says (λ at. optional_type t at ++ exprs_refs es at) n
typed_say t es n p = elim (part_split (optional type t) (map expression es) n p) [ inl q ↦ left _ _ (own_say t q) | inr q ↦ right _ _ (exprs_say es n q) ]
  where
    own_say : (c : Option Typ) → Part (optional type c) n → Says (optional_type c) n
    own_say None (b, i, h) = absurd i
    own_say (Some x) q = part_at q

form_says : (f : Form) (n : Name) → Part (nodes f) n → (r : Reference) × Has (references f) r × (r.name ≡ n)
form_says (constants s place) n p = typed_say s.type_ s.values n p outermost
form_says (variables s) n p = typed_say s.type_ s.values n p outermost
form_says (alias s) n p = part_at p outermost
form_says (definition s) n p = part_at p outermost
form_says (function f) n p = let k = part_at p outermost in (k.0, has_right (optional_parameter f.receiver (behind outermost)) (signature_refs f.signature outermost) k.0 k.1, k.2)
form_says (method receiver f) n p = elim (part_of (type (out-ParameterDecl receiver).type_) (signature f.signature ∷ []) n p) [
  | inl h ↦ (let k = subst (λ z. Says z n) (sym (parameter_out receiver)) h (behind outermost) in (k.0, has_left (parameter_refs receiver (behind outermost)) (signature_refs f.signature outermost) k.0 k.1, k.2))
  | inr q ↦ (let k = part_at q outermost in (k.0, has_right (parameter_refs receiver (behind outermost)) (signature_refs f.signature outermost) k.0 k.1, k.2))
]

-- each name that stands in a tree of a declaration is that of one of its references
pub named_reference : (f : Form) (at b : Node) (n : Name) → Has (nodes f) at → Stands at b → Has (node_names b) n → (r : Reference) × Has (references f) r × (r.name ≡ n)
named_reference f at b n i s h = form_says f n (at, i, stands_says n s h)
