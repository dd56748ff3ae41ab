-- Statements of a client on both sides: what is typed in some scopes is typed on the new side in their images.
use Rattle.std.proofs.Common.{◌≡◌, inl, Bool, true, List, [], ◌∷◌, ◌++◌, length, map, take, refl, sym, ap, ◌∙◌, subst, Option, Some, None}
use Rattle.std.specs.Prelude.{◌≤◌}
use Rattle.go_base.specs.Lists.{Each, Has as HasItem}
use Rattle.go_model.specs.declared.types.names.Sel.{Sel}
use Rattle.go_model.specs.declared.types.names.TypeName.{TypeName}
use Rattle.go_model.specs.declared.types.term.Signature.{Signature, out-Signature}
use Rattle.go_model.specs.declared.types.term.Term.{Term, Term-F, out-roll-Term}
use Rattle.go_rules.specs.Asks.{Meets}
use Rattle.go_rules.specs.Environments.{Env}
use Rattle.go_rules.specs.Expressions.{IsTypeName, OfSignature}
use Rattle.go_rules.specs.Nodes.{Node, expression, expression_parts, optional_result_parts, parameter_parts, signature as at_signature}
use Rattle.go_rules.specs.Operands.{plain}
use Rattle.go_rules.specs.declared.operand.Operand.{Operand}
use Rattle.go_rules.proofs.LocalParts.{each_both, each_left, each_right, map_left}
use Rattle.go_rules.proofs.LocalTypes.{each_made}
use Rattle.go_selectors.proofs.Lists.{has-left, has-right}
use Rattle.go_statement_rules.specs.Assignments.{AreAssigned}
use Rattle.go_statement_rules.specs.Functions.{Enclosing, enclosing, enters_function}
use Rattle.go_statement_rules.specs.Scopes.{Scopes, Declares, locals, opened, parameter_slots, result_slots, within}
use Rattle.go_statement_rules.specs.Statements.{AreCases, AreDeclared, AreMet, AreSelectCases, AreTypeCases, AreTyped, Begins, LiteralsAreTyped, IsTypedBlock, IsCondition, IsTypedFunction, KindLayer, Leaves, MayStand, IsOperand, bound, form_env, some_names}
use Rattle.go_statement_rules.specs.Statements.{begins_alone, begins_with, typed_block, cases_default, cases_none, cases_values, condition, declared_more, declared_none, typed_function, literals_typed, may_be, may_lack, met_more, met_none, no_condition, select_cases_more, select_cases_none, is_operand, type_cases_more, type_cases_none, typed_more, typed_none}
use Rattle.go_statement_rules.specs.Statements.{leaves_assignment, leaves_break, leaves_call, leaves_constants_declared, leaves_continue, leaves_defer, leaves_definition, leaves_empty, leaves_fallthrough, leaves_for, leaves_go, leaves_goto, leaves_if_then, leaves_inner_block, leaves_labeled, leaves_operation, leaves_range, leaves_range_assigned, leaves_range_defined, leaves_receive_alone, leaves_return, leaves_select, leaves_send, leaves_step, leaves_switch, leaves_type_switch, leaves_variables_declared, leaves_while}
use Rattle.go_syntax.specs.declared.body.BodyRange.{BodyRange}
use Rattle.go_syntax.specs.declared.expression.Expr.{Expr, Expr-F, out-Expr}
use Rattle.go_syntax.specs.declared.name.Name.{Name}
use Rattle.go_syntax.specs.declared.name.QualifiedName.{QualifiedName}
use Rattle.go_syntax.specs.declared.statement.Case.{Case}
use Rattle.go_syntax.specs.declared.statement.LiteralBlock.{LiteralBlock}
use Rattle.go_syntax.specs.declared.statement.SelectCase.{SelectCase}
use Rattle.go_syntax.specs.declared.statement.Stmt.{Stmt}
use Rattle.go_syntax.specs.declared.statement.TypeCase.{TypeCase, out-TypeCase}
use Rattle.go_syntax.specs.declared.types.Signature.{Signature as Sig, out-Signature as out-Sig}
use Rattle.go_type_images.specs.Images.{Naming, image, image_of_signature, same_sels}
use Rattle.go_type_images.specs.Parts.{function_type, parts}
use Rattle.go_type_images.specs.declared.pair.TypePair.{TypePair}
use Rattle.go_type_images.proofs.ImageLevels.{out_image_signature}
use Rattle.go_type_images.proofs.ImageParts.{map_append}
use Rattle.go_typings.specs.Declarations.{Form, alias, constants, definition, function, method, names_of, no_spec, variables}
use Rattle.go_client_types.specs.Following.{After, after_constant}
use Rattle.go_client_types.specs.Keeping.{Keeps, seen_to}
use Rattle.go_client_types.specs.Reached.{IsReached}
use Rattle.go_client_types.proofs.Conversions as C
use Rattle.go_client_types.proofs.Operands.{typed_after}
use Rattle.go_client_types.proofs.TypeForms.{meets_parts}
use Rattle.go_client_types.proofs.Views as V
use Rattle.go_client_operators.proofs.Operators as operators
use Rattle.go_client_expressions.proofs.Asked.{meets_kept}
use Rattle.go_client_expressions.proofs.Expressions as expressions
use Rattle.go_client_expressions.proofs.MetParts as met
use Rattle.go_client_expressions.proofs.Results as results
use Rattle.go_client_statements.specs.LocalScopes.{LocalReached, ResultsReached, ScopesReached, enclosing_to, scopes_to}
use Rattle.go_client_statements.proofs.ApartImages.{once_kept}
use Rattle.go_client_statements.proofs.Listed as listed
use Rattle.go_client_statements.proofs.Listed.{each_take, map_take}
use Rattle.go_client_statements.proofs.LocalDeclarations.{IsLocalForm, constants_local, fits_kept, local_given, locals_of, locals_reached, variables_local}
use Rattle.go_client_statements.proofs.ScopeImages.{declares_local, declares_to, locals_local, locals_to}
use Rattle.go_client_statements.proofs.Values as values
use Rattle.go_client_statements.proofs.Values.{assigned_after, map_length}
use Rattle.go_client_statements.proofs.Within.{place_kept, same_names, within_kept}

map_right : {A : Type 0} (P : Node → Type 0) (f : A → Node) (xs ys : List A) → Each P (map f (xs ++ ys)) → Each P (map f ys)
map_right P f [] ys h = h
map_right P f (x ∷ xs) ys h = map_right P f xs ys h.1

pub mets : {E : Env} {blocks : List LiteralBlock} {f : Enclosing} {G : Env} {s : Scopes} {ns : List Node} → AreMet E blocks f G s ns → Each (Meets G) ns
mets met_none = tt
mets (met_more x y z) = (x, mets z)

operand_met : {E : Env} {blocks : List LiteralBlock} {f : Enclosing} {s : Scopes} {e : Expr} {o : Operand} → IsOperand E blocks f s e o → Meets (within E s) (expression e)
operand_met (is_operand x y) = x.meets

-- ---- declarations in functions

form_names : (D : Env) (f : Form) (q : QualifiedName) (t : Term) → IsTypeName D q t → IsTypeName (form_env D f) q t
form_names D (constants s place) q t d = same_names D (form_env D (constants s place)) (λ name m e. e) (λ path name x e. e) q t d
form_names D (variables s) q t d = d
form_names D (alias s) q t d = d
form_names D (definition s) q t d = d
form_names D (function f) q t d = d
form_names D (method p f) q t d = d

form_barred : (D : Env) (f : Form) → D.profile ≡ true → (form_env D f).profile ≡ true
form_barred D (constants s place) e = e
form_barred D (variables s) e = e
form_barred D (alias s) e = e
form_barred D (definition s) e = e
form_barred D (function f) e = e
form_barred D (method p f) e = e

form_keeps : (E F : Env) (r : Naming) (pairs : List TypePair) (std : TypeName → Bool) (is_open : Sel → Bool) → Keeps E F r pairs std is_open → (f : Form) → Keeps (form_env E f) (form_env F f) r pairs std is_open
form_keeps E F r pairs std is_open K (constants s place) = place_kept E F r pairs std is_open K place
form_keeps E F r pairs std is_open K (variables s) = K
form_keeps E F r pairs std is_open K (alias s) = K
form_keeps E F r pairs std is_open K (definition s) = K
form_keeps E F r pairs std is_open K (function f) = K
form_keeps E F r pairs std is_open K (method p f) = K

module _ (E F : Env) (r : Naming) (pairs : List TypePair) (std : TypeName → Bool) (is_open : Sel → Bool) (K : Keeps E F r pairs std is_open) (blocks : List LiteralBlock) where
  abbrev to : Term → Term
  to = image r same_sels

  abbrev R : Term → Type 0
  R = IsReached pairs std is_open

  abbrev A : Operand → Operand → Type 0
  A = After r pairs std is_open

  -- the scopes, and the results of the function, are of types that the client reaches
  abbrev In : Scopes → Type 0
  In = ScopesReached pairs std is_open

  abbrev Of : Enclosing → Type 0
  Of = ResultsReached pairs std is_open

  abbrev inside : Scopes → Env
  inside s = within E s

  abbrev inside_too : Scopes → Env
  inside_too s = within F (scopes_to r s)

  deep : (s : Scopes) → In s → Keeps (inside s) (inside_too s) r pairs std is_open
  deep s i = within_kept E F r pairs std is_open K s i

  abbrev Names : Scopes → Env → Type 0
  Names s G = (q : QualifiedName) (t : Term) → IsTypeName (inside s) q t → IsTypeName G q t

  -- ---- function literals

  signature_of : (s : Scopes) → In s → (G : Env) → Names s G → G.profile ≡ true → (g : Sig) (h : Signature) → Meets G (at_signature g) → OfSignature (inside s) (out-Sig g).parameters (out-Sig g).result h
      → OfSignature (inside_too s) (out-Sig g).parameters (out-Sig g).result (image_of_signature r same_sels h) × R (function_type h)
  signature_of s i G names barred g h m o =
      let p = meets_parts G (at_signature g) m in
      expressions.signature_kept (inside s) (inside_too s) G r pairs std is_open (deep s i) names barred o (each_left (Meets G) (parameter_parts (out-Sig g).parameters) (optional_result_parts (out-Sig g).result) p) (each_right (Meets G) (parameter_parts (out-Sig g).parameters) (optional_result_parts (out-Sig g).result) p)

  pub signature_parts : (h : Signature) → R (function_type h) → Each R (out-Signature h).params × Each R (out-Signature h).results
  signature_parts h x =
      let all : (u : Term) → HasItem ((out-Signature h).params ++ (out-Signature h).results) u → R u = λ u k. C.part_reached E F r pairs std is_open K (function_type h) u x (subst (λ l. HasItem (parts l) u) (sym (out-roll-Term (Term-F.Func h))) k) in
      (each_made (out-Signature h).params (λ u k. all u (has-left (out-Signature h).params (out-Signature h).results u k)), each_made (out-Signature h).results (λ u k. all u (has-right (out-Signature h).params (out-Signature h).results u k)))

  parameters_to : (h : Signature) → map (seen_to r) (locals ((out-Signature h).params ++ (out-Signature h).results)) ≡ locals ((out-Signature (image_of_signature r same_sels h)).params ++ (out-Signature (image_of_signature r same_sels h)).results)
  parameters_to h =
      locals_to r ((out-Signature h).params ++ (out-Signature h).results) ∙ ap locals (map_append to (out-Signature h).params (out-Signature h).results)
      ∙ ap (λ (x : _). locals (x.params ++ x.results)) (sym (out_image_signature r same_sels h))

  parameters_local : (h : Signature) → R (function_type h) → Each (LocalReached pairs std is_open) (locals ((out-Signature h).params ++ (out-Signature h).results))
  parameters_local h x =
      let p = signature_parts h x in
      locals_local pairs std is_open ((out-Signature h).params ++ (out-Signature h).results) (each_both R (out-Signature h).params (out-Signature h).results p.0 p.1)

  -- the signature of a function literal meets what it is asked where the literal does
  literal_signature : (G : Env) {x : Expr} {g : Sig} {b : BodyRange} → Meets G (expression x) → out-Expr x ≡ Expr-F.FuncLit g b → Meets G (at_signature g)
  literal_signature G {x = x} m e = (subst (λ l. Each (Meets G) (expression_parts l)) e (meets_parts G (expression x) m)).0

  bound_kept : (n : Option Name) (t : Term) (s u : Scopes) → In s → R t → bound n t s u → bound n (to t) (scopes_to r s) (scopes_to r u) × In u
  bound_kept None t s u i h e = (ap (scopes_to r) e, subst In (sym e) (tt, i))
  bound_kept (Some n) t s u i h d = (declares_to r d, declares_local pairs std is_open (tt, i) (h, tt) d)

  -- ---- statements

  mutual
    operand_kept : {f : Enclosing} {s : Scopes} {e : Expr} {o : Operand} → In s → IsOperand E blocks f s e o → (q : Operand) × IsOperand F blocks (enclosing_to r f) (scopes_to r s) e q × A o q
    operand_kept {s = s} i (is_operand x y) =
        let g = values.has (inside s) (inside_too s) (inside s) r pairs std is_open (deep s i) (λ q t n. n) K.barred x.is x.meets in
        (g.0, is_operand (record { is = g.1; meets = meets_kept (inside s) (inside_too s) r pairs std is_open (deep s i) _ x.meets }) (literals_kept i (inside s) (λ q t n. n) K.barred x.meets y), g.2)

    pub literals_kept : {f : Enclosing} {s : Scopes} {at : Node} → In s → (G : Env) → Names s G → G.profile ≡ true → Meets G at → LiteralsAreTyped E blocks f s at → LiteralsAreTyped F blocks (enclosing_to r f) (scopes_to r s) at
    literals_kept i G names barred m (literals_typed w) = literals_typed (λ x g b st e. function_kept i G names barred (literal_signature G (met.within G m st) e) (w x g b st e))

    met_kept : {f : Enclosing} {s : Scopes} {ns : List Node} → In s → (G H : Env) → Keeps G H r pairs std is_open → Names s G → AreMet E blocks f G s ns → AreMet F blocks (enclosing_to r f) H (scopes_to r s) ns
    met_kept i G H D names met_none = met_none
    met_kept i G H D names (met_more x y z) = met_more (meets_kept G H r pairs std is_open D _ x) (literals_kept i G names D.barred x y) (met_kept i G H D names z)

    function_kept : {f : Enclosing} {s : Scopes} {g : Sig} {b : BodyRange} → In s → (G : Env) → Names s G → G.profile ≡ true → Meets G (at_signature g) → IsTypedFunction E blocks f s g b → IsTypedFunction F blocks (enclosing_to r f) (scopes_to r s) g b
    function_kept {s = s} {g = g} {b = b} i G names barred m (typed_function {last = last} (enters_function {inner = inner} {h = h} {ss = ss} first o d k) y) =
        let q = signature_of s i G names barred g h m o in
        let p = signature_parts h q.1 in
        let within_too = declares_local pairs std is_open (tt, i) (parameters_local h q.1) d in
        let slots = parameter_slots (out-Sig g).parameters ++ result_slots (out-Sig g).result in
        let declared = subst (λ ms. Declares (opened (scopes_to r s)) slots ms (scopes_to r inner)) (parameters_to h) (declares_to r d) in
        let t = typed_kept p.1 within_too y in
        typed_function (enters_function first q.0 declared k) (subst (λ (x : _). AreTyped F blocks (enclosing x.results b.start) (scopes_to r inner) ss (scopes_to r last)) (sym (out_image_signature r same_sels h)) t.0)

    pub typed_kept : {f : Enclosing} {s t : Scopes} {ss : List Stmt} → Of f → In s → AreTyped E blocks f s ss t → AreTyped F blocks (enclosing_to r f) (scopes_to r s) ss (scopes_to r t) × In t
    typed_kept h i typed_none = (typed_none, i)
    typed_kept h i (typed_more x y) = let a = leaves_kept h i x in let b = typed_kept h a.1 y in (typed_more a.0 b.0, b.1)

    block_kept : {f : Enclosing} {s : Scopes} {ss : List Stmt} → Of f → In s → IsTypedBlock E blocks f s ss → IsTypedBlock F blocks (enclosing_to r f) (scopes_to r s) ss
    block_kept h i (typed_block x) = typed_block (typed_kept h (tt, i) x).0

    begins_kept : {f : Enclosing} {s t : Scopes} {x : Option Stmt} → Of f → In s → Begins E blocks f s x t → Begins F blocks (enclosing_to r f) (scopes_to r s) x (scopes_to r t) × In t
    begins_kept h i begins_alone = (begins_alone, (tt, i))
    begins_kept h i (begins_with x) = let a = leaves_kept h (tt, i) x in (begins_with a.0, a.1)

    stand_kept : {f : Enclosing} {s : Scopes} {x : Option Stmt} → Of f → In s → MayStand E blocks f s x → MayStand F blocks (enclosing_to r f) (scopes_to r s) x
    stand_kept h i may_lack = may_lack
    stand_kept h i (may_be x) = may_be (leaves_kept h i x).0

    condition_kept : {f : Enclosing} {s : Scopes} {e : Option Expr} → In s → IsCondition E blocks f s e → IsCondition F blocks (enclosing_to r f) (scopes_to r s) e
    condition_kept i no_condition = no_condition
    condition_kept {s = s} i (condition x y) = let a = operand_kept i x in condition a.1 (listed.truth_kept (inside s) (inside_too s) r pairs std is_open (deep s i) a.2 y)

    declared_kept : {f : Enclosing} {s t : Scopes} {fs : List Form} → In s → Each IsLocalForm fs → AreDeclared E blocks f s fs t → AreDeclared F blocks (enclosing_to r f) (scopes_to r s) fs (scopes_to r t) × In t
    declared_kept i l declared_none = (declared_none, i)
    declared_kept {s = s} i l (declared_more {t = t} {f = form} {xs = xs} x y z d w) =
        let G = form_env (inside s) form in
        let H = form_env (inside_too s) form in
        let D = form_keeps (inside s) (inside_too s) r pairs std is_open (deep s i) form in
        let g = local_given G H G r pairs std is_open D (λ q t n. n) D.barred [] form xs l.0 x (mets z) in
        let declared = subst (λ ms. Declares (scopes_to r s) (some_names (names_of form)) ms (scopes_to r t)) (locals_of r xs) (declares_to r d) in
        let rest = declared_kept (declares_local pairs std is_open i (locals_reached pairs std is_open xs g.1) d) l.1 w in
        (declared_more g.0 (fits_kept (inside s) (inside_too s) r pairs std is_open (deep s i) form (mets z) y) (met_kept i G H D (form_names (inside s) form) z) declared rest.0, rest.1)

    cases_kept : {f : Enclosing} {s : Scopes} {t : Term} {cs : List Case} → Of f → In s → R t → AreCases E blocks f s t cs → AreCases F blocks (enclosing_to r f) (scopes_to r s) (to t) cs
    cases_kept h i k cases_none = cases_none
    cases_kept h i k (cases_default x y z) = cases_default x (block_kept h i y) (cases_kept h i k z)
    cases_kept {s = s} {t = t} h i k (cases_values {es = es} x y z w v) = cases_values x (listed.cases_kept (inside s) (inside_too s) r pairs std is_open (deep s i) t es k y (mets z)) (met_kept i (inside s) (inside_too s) (deep s i) (λ q t n. n) z) (block_kept h i w) (cases_kept h i k v)

    type_cases_kept : {f : Enclosing} {s : Scopes} {n : Option Name} {t : Term} {cs : List TypeCase} → Of f → In s → R t → AreTypeCases E blocks f s n t cs → AreTypeCases F blocks (enclosing_to r f) (scopes_to r s) n (to t) cs
    type_cases_kept h i k type_cases_none = type_cases_none
    type_cases_kept {s = s} {n = n} {t = t} h i k (type_cases_more {u = u} {c = c} xs x y z w v) =
        let l = listed.listed_kept (inside s) (inside_too s) r pairs std is_open (deep s i) t (out-TypeCase c).types xs k x in
        let b = bound_kept n _ s u i (listed.bound_reached (inside s) (inside_too s) r pairs std is_open (deep s i) t xs k l.1) z in
        type_cases_more _ l.0 (met_kept i (inside s) (inside_too s) (deep s i) (λ q t n. n) y) (subst (λ x. bound n x (scopes_to r s) (scopes_to r u)) (sym (listed.bound_to (inside s) (inside_too s) r pairs std is_open (deep s i) t xs)) b.0) (typed_kept h b.1 w).0 (type_cases_kept h i k v)

    select_cases_kept : {f : Enclosing} {s : Scopes} {cs : List SelectCase} → Of f → In s → AreSelectCases E blocks f s cs → AreSelectCases F blocks (enclosing_to r f) (scopes_to r s) cs
    select_cases_kept h i select_cases_none = select_cases_none
    select_cases_kept h i (select_cases_more x y z) = let b = begins_kept h i x in select_cases_more b.0 (typed_kept h b.1 y).0 (select_cases_kept h i z)

    leaves_kept : {f : Enclosing} {s t : Scopes} {k : KindLayer} → Of f → In s → Leaves E blocks f s k t → Leaves F blocks (enclosing_to r f) (scopes_to r s) k (scopes_to r t) × In t
    leaves_kept h i leaves_empty = (leaves_empty, i)
    leaves_kept {s = s} h i (leaves_call x y) = let a = operand_kept i x in (leaves_call a.1 (values.call_kept (inside s) (inside_too s) (inside s) r pairs std is_open (deep s i) (λ q t n. n) K.barred y (operand_met x)), i)
    leaves_kept h i (leaves_receive_alone x y) = let a = operand_kept i x in (leaves_receive_alone a.1 y, i)
    leaves_kept {s = s} h i (leaves_send {t = t} {u = u} {d = d} x y z w v k) =
        let a = operand_kept i x in let b = operand_kept i v in
        let j = typed_after r pairs std is_open a.2 y in
        let g = V.form_kept E F r pairs std is_open K t (Term-F.Chan d u) j.1 refl z in
        (leaves_send a.1 j.0 g.0 w b.1 (values.usable (inside s) (inside_too s) r pairs std is_open (deep s i) b.2 (g.1 u (inl refl)) k), i)
    leaves_kept {s = s} h i (leaves_step x y z w) =
        let a = operand_kept i x in
        let g = assigned_after r pairs std is_open y a.2 in
        let c = operators.computes_kept (inside s) (inside_too s) r pairs std is_open (deep s i) a.2 (after_constant tt) z in
        (leaves_step a.1 g.0 c.1 (values.usable (inside s) (inside_too s) r pairs std is_open (deep s i) c.2 g.1 w), i)
    leaves_kept {s = s} h i (leaves_operation {op = op} x y z w v) =
        let a = operand_kept i x in let b = operand_kept i z in
        let g = assigned_after r pairs std is_open y a.2 in
        let c = values.operates_kept (inside s) (inside_too s) r pairs std is_open (deep s i) op a.2 b.2 w in
        (leaves_operation a.1 g.0 b.1 c.1 (values.usable (inside s) (inside_too s) r pairs std is_open (deep s i) c.2 g.1 v), i)
    leaves_kept {s = s} h i (leaves_assignment {es = es} {xs = xs} x y z) =
        let a = values.initialize_kept (inside s) (inside_too s) (inside s) r pairs std is_open (deep s i) (λ q t n. n) K.barred x (map_right (Meets (inside s)) expression es xs (mets z)) in
        (leaves_assignment a.1 (values.assigned_kept (inside s) (inside_too s) (inside s) r pairs std is_open (deep s i) (λ q t n. n) K.barred a.0 a.2 y (map_left (Meets (inside s)) expression es xs (mets z))) (met_kept i (inside s) (inside_too s) (deep s i) (λ q t n. n) z), i)
    leaves_kept h i (leaves_definition {scope = scope} {outer = outer} x y z w v u) =
        let a = values.initialize_kept (inside (scope ∷ outer)) (inside_too (scope ∷ outer)) (inside (scope ∷ outer)) r pairs std is_open (deep (scope ∷ outer) i) (λ q t n. n) K.barred y (mets v) in
        let d = values.defined_kept (inside (scope ∷ outer)) (inside_too (scope ∷ outer)) r pairs std is_open (deep (scope ∷ outer) i) scope i.0 a.0 a.2 z in
        (leaves_definition x a.1 d.0 w (met_kept i (inside (scope ∷ outer)) (inside_too (scope ∷ outer)) (deep (scope ∷ outer) i) (λ q t n. n) v) (declares_to r u), declares_local pairs std is_open i d.1 u)
    leaves_kept h i (leaves_constants_declared {specs = specs} x) = let a = declared_kept i (constants_local no_spec 0 specs) x in (leaves_constants_declared a.0, a.1)
    leaves_kept h i (leaves_variables_declared {specs = specs} x) = let a = declared_kept i (variables_local specs) x in (leaves_variables_declared a.0, a.1)
    leaves_kept h i (leaves_labeled x) = let a = leaves_kept h i x in (leaves_labeled a.0, a.1)
    leaves_kept {s = s} h i (leaves_go x y) = let a = operand_kept i x in (leaves_go a.1 (values.call_kept (inside s) (inside_too s) (inside s) r pairs std is_open (deep s i) (λ q t n. n) K.barred y (operand_met x)), i)
    leaves_kept {s = s} h i (leaves_defer x y) = let a = operand_kept i x in (leaves_defer a.1 (values.call_kept (inside s) (inside_too s) (inside s) r pairs std is_open (deep s i) (λ q t n. n) K.barred y (operand_met x)), i)
    leaves_kept {s = s} h i (leaves_return x y) = (leaves_return (values.returns_kept (inside s) (inside_too s) (inside s) r pairs std is_open (deep s i) (λ q t n. n) K.barred h x (mets y)) (met_kept i (inside s) (inside_too s) (deep s i) (λ q t n. n) y), i)
    leaves_kept h i leaves_break = (leaves_break, i)
    leaves_kept h i leaves_continue = (leaves_continue, i)
    leaves_kept h i leaves_goto = (leaves_goto, i)
    leaves_kept h i leaves_fallthrough = (leaves_fallthrough, i)
    leaves_kept h i (leaves_inner_block x) = (leaves_inner_block (block_kept h i x), i)
    leaves_kept h i (leaves_if_then x y z w) = let b = begins_kept h i x in (leaves_if_then b.0 (condition_kept b.1 y) (block_kept h b.1 z) (stand_kept h b.1 w), i)
    leaves_kept h i (leaves_switch {t = t} x y z w) =
        let b = begins_kept h i x in
        let g = listed.tag_kept (inside t) (inside_too t) r pairs std is_open (deep t b.1) y (mets z) in
        (leaves_switch b.0 g.0 (met_kept b.1 (inside t) (inside_too t) (deep t b.1) (λ q x n. n) z) (cases_kept h b.1 g.1 w), i)
    leaves_kept h i (leaves_type_switch {t = t} {u = u} {ms = ms} {xs = xs} x y z w v k q p) =
        let b = begins_kept h i x in
        let a = operand_kept b.1 z in
        let j = typed_after r pairs std is_open a.2 w in
        let n = listed.interface_kept E F r pairs std is_open K u ms j.1 v in
        let l = listed.clauses_kept (inside t) (inside_too t) r pairs std is_open (deep t b.1) j.1 k in
        (leaves_type_switch b.0 y a.1 j.0 n.1 l.0 (once_kept (inside t) (inside_too t) r pairs std is_open (deep t b.1) xs l.1 q) (type_cases_kept h b.1 j.1 p), i)
    leaves_kept h i (leaves_select x) = (leaves_select (select_cases_kept h i x), i)
    leaves_kept h i (leaves_for x y p z w) = let b = begins_kept h i x in (leaves_for b.0 (condition_kept b.1 y) p (stand_kept h b.1 z) (block_kept h b.1 w), i)
    leaves_kept h i (leaves_while x y) = (leaves_while (condition_kept i x) (block_kept h i y), i)
    leaves_kept {s = s} h i (leaves_range x y z) =
        let a = operand_kept i x in
        let g = listed.ranges_kept (inside s) (inside_too s) r pairs std is_open (deep s i) a.2 y in
        (leaves_range a.1 g.0 (block_kept h i z), i)
    leaves_kept {s = s} h i (leaves_range_assigned {es = es} {ts = ts} x y z w v u) =
        let a = operand_kept i x in
        let g = listed.ranges_kept (inside s) (inside_too s) r pairs std is_open (deep s i) a.2 y in
        let n = length es in
        let c = values.assigned_kept (inside s) (inside_too s) (inside s) r pairs std is_open (deep s i) (λ q t n. n) K.barred _ (results.plains_after r pairs std is_open (take n ts) (each_take R n ts g.1)) w (mets v) in
        (leaves_range_assigned a.1 g.0 (subst (λ k. n ≤ k) (sym (map_length to ts)) z) (subst (λ us. AreAssigned (inside_too s) es (map plain us)) (sym (map_take to n ts)) c) (met_kept i (inside s) (inside_too s) (deep s i) (λ q t n. n) v) (block_kept h i u), i)
    leaves_kept {s = s} h i (leaves_range_defined {t = t} {ns = ns} {ts = ts} x y z w v u) =
        let a = operand_kept i x in
        let g = listed.ranges_kept (inside s) (inside_too s) r pairs std is_open (deep s i) a.2 y in
        let n = length ns in
        let j = declares_local pairs std is_open (tt, i) (locals_local pairs std is_open (take n ts) (each_take R n ts g.1)) v in
        let d = subst (λ ms. Declares (opened (scopes_to r s)) (some_names ns) ms (scopes_to r t)) (locals_to r (take n ts) ∙ ap locals (sym (map_take to n ts))) (declares_to r v) in
        (leaves_range_defined a.1 g.0 (subst (λ k. n ≤ k) (sym (map_length to ts)) z) w d (block_kept h j u), i)
