-- Fields and methods, declaration by declaration.
use Rattle.std.proofs.Common.{◌≡◌, List, [], ◌∷◌, ◌++◌, map, refl, sym, subst, Bool, true, false, Result}
use Rattle.go_model.specs.declared.types.term.Field.{Field}
use Rattle.go_model.specs.declared.types.term.Method.{Method}
use Rattle.go_syntax.specs.declared.types.FieldDecl.{FieldDecl, FieldDecl-F, out-FieldDecl}
use Rattle.go_syntax.specs.declared.types.InterfaceElem.{InterfaceElem, InterfaceElem-F, out-InterfaceElem}
use Rattle.go_rules.specs.Environments.{Env}
use Rattle.go_rules.specs.Expressions.{OfFields, OfMethods, field_of, starred, fields_embedded, fields_named, methods_embedded, methods_method}
use Rattle.go_rules.specs.Nodes.{ElemLayer, FieldLayer}
use Rattle.go_rules.specs.Nodes.{field_parts}
use Rattle.go_type_terms.specs.Answers.{Types}
use Rattle.go_type_terms.specs.Members.{OfElement, OfField, method_of}
use Rattle.go_type_terms.specs.declared.error.ExprError.{ExprError}

module _ {E : Env} where
  -- the fields of a declaration, and those of the ones behind it
  join_fields : {d : FieldDecl} {ds : List FieldDecl} (l : FieldLayer) (now more : List Field) → out-FieldDecl d ≡ l → OfField E l now → OfFields E ds more → OfFields E (d ∷ ds) (now ++ more)
  join_fields {d = d} {ds = ds} (FieldDecl-F.«FieldDecl::Named» ns t tag) now more e h k = subst (λ (fs : List Field). OfFields E (d ∷ ds) (fs ++ more)) (sym h.2) (fields_named e h.1 k)
  join_fields {d = d} {ds = ds} (FieldDecl-F.«FieldDecl::Embedded» star q tag) now more e h k = subst (λ (fs : List Field). OfFields E (d ∷ ds) (fs ++ more)) (sym h.2) (fields_embedded h.0 e h.1 k)

  pub joined_fields : (d : FieldDecl) (ds : List FieldDecl) (now more : List Field) → OfField E (out-FieldDecl d) now → OfFields E ds more → OfFields E (d ∷ ds) (now ++ more)
  joined_fields d ds now more h k = join_fields (out-FieldDecl d) now more refl h k

  pub later_fields : (d : FieldDecl) (ds : List FieldDecl) (all : List Field) → OfFields E (d ∷ ds) all → (more : List Field) × OfFields E ds more
  later_fields d ds all (fields_named e h k) = (_, k)
  later_fields d ds all (fields_embedded u e h k) = (_, k)

  pub first_fields : (d : FieldDecl) (ds : List FieldDecl) (all : List Field) → OfFields E (d ∷ ds) all → (now : List Field) × OfField E (out-FieldDecl d) now
  first_fields d ds all (fields_named {ns = ns} {tag = tag} {u = u} e h k) = (map (field_of E false u tag) ns, subst (λ (l : FieldLayer). OfField E l (map (field_of E false u tag) ns)) (sym e) (u, h, refl))
  first_fields d ds all (fields_embedded {star = star} {q = q} {tag = tag} u e h k) = (field_of E true (starred star u) tag q.name ∷ [], subst (λ (l : FieldLayer). OfField E l (field_of E true (starred star u) tag q.name ∷ [])) (sym e) (u, h, refl))

  -- the methods of an element, and those of the ones behind it
  join_methods : {x : InterfaceElem} {xs : List InterfaceElem} (l : ElemLayer) (now more : List Method) → out-InterfaceElem x ≡ l → OfElement E l now → OfMethods E xs more → OfMethods E (x ∷ xs) (now ++ more)
  join_methods {x = x} {xs = xs} (InterfaceElem-F.Method n g) now more e h k = subst (λ (ms : List Method). OfMethods E (x ∷ xs) (ms ++ more)) (sym h.2) (methods_method e h.1 k)
  join_methods (InterfaceElem-F.«InterfaceElem::Embedded» q) now more e h k = methods_embedded h.0 e h.1 h.2 k

  pub joined_methods : (x : InterfaceElem) (xs : List InterfaceElem) (now more : List Method) → OfElement E (out-InterfaceElem x) now → OfMethods E xs more → OfMethods E (x ∷ xs) (now ++ more)
  joined_methods x xs now more h k = join_methods (out-InterfaceElem x) now more refl h k

  pub later_methods : (x : InterfaceElem) (xs : List InterfaceElem) (all : List Method) → OfMethods E (x ∷ xs) all → (more : List Method) × OfMethods E xs more
  later_methods x xs all (methods_method e h k) = (_, k)
  later_methods x xs all (methods_embedded u e h f k) = (_, k)

  pub first_methods : (x : InterfaceElem) (xs : List InterfaceElem) (all : List Method) → OfMethods E (x ∷ xs) all → (now : List Method) × OfElement E (out-InterfaceElem x) now
  first_methods x xs all (methods_method {n = n} {h = s} e h k) = (method_of E n s ∷ [], subst (λ (l : ElemLayer). OfElement E l (method_of E n s ∷ [])) (sym e) (s, h, refl))
  first_methods x xs all (methods_embedded u {ns = ns} e h f k) = (ns, subst (λ (l : ElemLayer). OfElement E l ns) (sym e) (u, h, f))

-- a declaration, by its form
pub by_field : (E : Env) (l k : FieldLayer) (r : Result (List Field × Bool) ExprError) → l ≡ k → Types {A = List Field} E (OfField E k) (field_parts k) r → Types {A = List Field} E (OfField E l) (field_parts l) r
by_field E l k r e t = subst (λ (f : FieldLayer). Types {A = List Field} E (OfField E f) (field_parts f) r) (sym e) t
