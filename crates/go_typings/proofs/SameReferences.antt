-- In a closed region and among more entries a declaration that refers to the region alone names the same others, and finds the same methods.
use Rattle.std.proofs.Common.{◌≡◌, ℕ, Bool, true, false, Option, inr, List, [], ◌∷◌, ◌++◌, map, refl, sym, ap, ◌∙◌, subst}
use Rattle.go_references.specs.go_base.Lists.{Each}
use Rattle.go_rules.specs.go_model.declared.types.names.Sel.{Sel}
use Rattle.go_rules.specs.go_model.declared.types.names.TypeName.{TypeName}
use Rattle.go_rules.specs.go_model.declared.types.term.Signature.{Signature}
use Rattle.go_rules.specs.go_model.declared.types.term.Term.{Term, Term-F}
use Rattle.go_rules.specs.go_model.types.Selectors.{Ending, is_defined_pointer, method}
use Rattle.go_rules.specs.go_model.types.TypeNames.{names}
use Rattle.go_rules.specs.go_model.types.Underlying.{under}
use Rattle.go_references.specs.declared.references.Reference.{Reference}
use Rattle.std.specs.Prelude.{if◌then◌else◌}
use Rattle.go_rules.specs.Environments.{Env, Found, HasMethod, is_exported}
use Rattle.go_rules.specs.Expressions.{HasForm, Has as Typed, has_operand, has_primary, has_imported, OfType, chain}
use Rattle.go_rules.specs.Growth.{Grows}
use Rattle.go_rules.specs.Nodes.{ExprLayer, Node, Stands, expression, post, type, expression_parts}
use Rattle.go_rules.specs.Operands.{ShapeWithin}
use Rattle.go_rules.specs.Regions.{IsClosed, NameIn, RefersIn, Region, TermIn, cut, expression_name}
use Rattle.go_rules.specs.declared.operand.Operand.{Operand}
use Rattle.go_rules.proofs.GrowOperand.{has_form_more, type_more}
use Rattle.go_rules.proofs.GrowTypes.{form_more, found_more, joined_is, method_more}
use Rattle.go_rules.proofs.LocalOperand.{has_local, posts_local, stands_within, type_local}
use Rattle.go_rules.proofs.LocalParts.{map_left, names_here, parts_in}
use Rattle.go_rules.proofs.LocalRelations.{OperandIn, typed_in}
use Rattle.go_rules.proofs.LocalResults.{imported_local}
use Rattle.go_rules.proofs.LocalTerms.{close_in, each_has, form_in, passes_left, passes_right}
use Rattle.go_rules.proofs.LocalTypes.{form_same, found_local, method_local}
use Rattle.go_references.specs.go_syntax.declared.expression.Element.{Element}
use Rattle.go_references.specs.go_syntax.declared.expression.Expr.{Expr, Expr-F, out-Expr}
use Rattle.go_references.specs.go_syntax.declared.expression.Post.{Post}
use Rattle.go_references.specs.go_syntax.declared.name.Name.{Name}
use Rattle.go_references.specs.go_syntax.declared.types.«Type».{«Type» as Typ}
use Rattle.go_typings.specs.DeclarationNodes.{nodes}
use Rattle.go_typings.specs.Declarations.{Form}
use Rattle.go_typings.specs.References.{Finds, FindsMethod, FindsOf, finds_value, finds_expression, HasLiteral, literal, literal_array, literal_key, literal_value, HoldsValues, holds_item, holds_slice_item, holds_map_item, IsOmitted, omitted_itself, omitted_base, IsFieldKey, NamesDeclaration, Selects}
use Rattle.go_typings.specs.Sources.{PackageSource}

either_true : (b : Bool) → (if b then true else true) ≡ true
either_true true = refl
either_true false = refl

module _ (E : Env) (R : Region) (w : IsClosed E R) where
  -- an operand with some of what follows it, in the region
  pub chain_local : (x : Expr) (ps : List Post) (o : Operand) → RefersIn R (expression x) → Each (RefersIn R) (map post ps) → HasForm E (chain x ps) o → ShapeWithin o.shape → HasForm (cut R E) (chain x ps) o × OperandIn R o
  chain_local x [] o n k h s = let f = has_local E R w (has_operand h s) n in (form_of f.0, f.1)
    where
      form_of : Typed (cut R E) x o → HasForm (cut R E) (out-Expr x) o
      form_of (has_operand g r) = g
  chain_local x (p ∷ ps) o n k (has_primary a c) s = let f = has_local E R w a n in let g = posts_local E R w c f.1 k in (has_primary f.0 g.0, g.1)
  chain_local x (p ∷ ps) o n k (has_imported {q = q} e f d i c) s =
      let h = subst (λ l. Each (NameIn R) (expression_name l)) e (names_here R (expression x) n) in
      let g = imported_local E R w h.0 d in let j = posts_local E R w c g.1 k.1 in (has_imported e f g.0 i j.0, j.1)

module _ (E F : Env) (R : Region) (w : IsClosed E R) (m : Grows (cut R E) F) where
  abbrev C : Env
  C = cut R E

  -- a part of what refers to the region
  within : {at b : Node} → RefersIn R at → Stands at b → RefersIn R b
  within n s c k = n c (stands_within s k)

  -- the parts of an expression that stands there
  layer_parts : {at : Node} {e : Expr} (l : ExprLayer) → RefersIn R at → Stands at (expression e) → out-Expr e ≡ l → Each (RefersIn R) (expression_parts l)
  layer_parts {e = e} l n s p = subst (λ z. Each (RefersIn R) (expression_parts z)) p (parts_in R (expression e) (within n s))

  of_type_same : {x : Typ} {t : Term} → RefersIn R (type x) → OfType E x t → OfType F x t × TermIn R t
  of_type_same {x = x} {t = t} n a = let f = type_local E R w a n in (subst (λ z. OfType z x t) (joined_is C F m) (type_more C F m f.0), f.1)

  -- ---- keys of struct literals

  array_under : (t e : Term) (n : ℕ) → TermIn R t → under E.table t ≡ Term-F.Array n e → (under F.table t ≡ Term-F.Array n e) × TermIn R e
  array_under t e n i p = (form_more C F m t (Term-F.Array n e) refl (form_same E R w t (Term-F.Array n e) i p), form_in E R w t (Term-F.Array n e) i p)

  slice_under : (t e : Term) → TermIn R t → under E.table t ≡ Term-F.Slice e → (under F.table t ≡ Term-F.Slice e) × TermIn R e
  slice_under t e i p = (form_more C F m t (Term-F.Slice e) refl (form_same E R w t (Term-F.Slice e) i p), form_in E R w t (Term-F.Slice e) i p)

  pointer_under : (t e : Term) → TermIn R t → under E.table t ≡ Term-F.Pointer e → (under F.table t ≡ Term-F.Pointer e) × TermIn R e
  pointer_under t e i p = (form_more C F m t (Term-F.Pointer e) refl (form_same E R w t (Term-F.Pointer e) i p), form_in E R w t (Term-F.Pointer e) i p)

  map_under : (t k e : Term) → TermIn R t → under E.table t ≡ Term-F.Map k e → (under F.table t ≡ Term-F.Map k e) × TermIn R k × TermIn R e
  map_under t k e i p =
      let h = form_in E R w t (Term-F.Map k e) i p in
      (form_more C F m t (Term-F.Map k e) refl (form_same E R w t (Term-F.Map k e) i p), passes_left R.types (names k) (names e) h, passes_right R.types (names k) (names e) h)

  holds_same : {t u : Term} → HoldsValues E t u → TermIn R t → HoldsValues F t u × TermIn R u
  holds_same {t = t} (holds_item {e = e} {n = n} p) i = let f = array_under t e n i p in (holds_item f.0, f.1)
  holds_same {t = t} (holds_slice_item {e = e} p) i = let f = slice_under t e i p in (holds_slice_item f.0, f.1)
  holds_same {t = t} (holds_map_item {k = k} {e = e} p) i = let f = map_under t k e i p in (holds_map_item f.0, f.2)

  omitted_same : {t u : Term} → IsOmitted E t u → TermIn R t → IsOmitted F t u × TermIn R u
  omitted_same omitted_itself i = (omitted_itself, i)
  omitted_same {t = t} (omitted_base {base = b} p) i = let f = pointer_under t b i p in (omitted_base f.0, f.1)

  literal_same : {at : Node} {t : Term} {xs : List Element} → RefersIn R at → HasLiteral E at t xs → HasLiteral F at t xs × TermIn R t
  literal_same n (literal {t = x} {xs = xs} s e a) = let f = of_type_same (layer_parts (Expr-F.Composite x xs) n s e).0 a in (literal s e f.0, f.1)
  literal_same n (literal_array {t = x} {xs = xs} {v = v} k s e a) = let f = of_type_same (layer_parts (Expr-F.CompositeArray x xs) n s e).0 a in (literal_array k s e f.0, close_in R (Term-F.Array k v) f.1)
  literal_same n (literal_key {t = t} {k = k} {e = e} x h i q p m o) = let f = literal_same n h in let g = map_under t k e f.1 m in let j = omitted_same o g.1 in (literal_key x f.0 i q p g.0 j.0, j.1)
  literal_same n (literal_value x h i p v o) = let f = literal_same n h in let g = holds_same v f.1 in let j = omitted_same o g.1 in (literal_value x f.0 i p g.0 j.0, j.1)

  pub key_same : {at : Node} {name : Name} → RefersIn R at → IsFieldKey E at name → IsFieldKey F at name
  key_same n k =
      let f = literal_same n k.stands in
      record {
        type = k.type;
        fields = k.fields;
        elements = k.elements;
        element = k.element;
        stands = f.0;
        struct = form_more C F m k.type (Term-F.Struct k.fields) refl (form_same E R w k.type (Term-F.Struct k.fields) f.1 k.struct);
        has = k.has;
        key = k.key;
      }

  -- what counts in the second environment counts in the first
  pub refers_back : (u : PackageSource) (f : Form) (rs : List Reference) (n : ℕ) → Each (RefersIn R) (nodes f) → NamesDeclaration F u f rs n → NamesDeclaration E u f rs n
  refers_back u f rs n h r = record { reference = r.reference; has = r.has; names = r.names; counts = λ q at i k. r.counts q at i (key_same (each_has (RefersIn R) (nodes f) at h i) k) }

  -- ---- methods that are found

  found_same : {s : Sel} {t : Term} {e : Ending} → TermIn R t → Found E s t e → Found F s t e
  found_same {s = s} {t = t} {e = e} i f = subst (λ z. Found z s t e) (joined_is C F m) (found_more C F m (found_local E R w i f))

  -- a type in which a method is found stays defined over a pointer, or not
  counts_same : {s : Sel} {t : Term} {through pointer : Bool} {owner : Option TypeName} {g : Signature} → TermIn R t → Found E s t (record { through = through; target = method owner pointer g })
      → is_defined_pointer E.table t ≡ false → is_defined_pointer F.table t ≡ false
  counts_same {s = s} {t = t} {g = g} i f c =
      let h : HasMethod E true t s g = record { through = _; owner = _; pointer = _; found = f; counts = c; reaches = inr (either_true _) } in
      let k : HasMethod F true t s g = subst (λ z. HasMethod z true t s g) (joined_is C F m) (method_more C F m (method_local E R w i h)) in
      k.counts

  of_same : {o : Operand} {s : Sel} {owner : TypeName} → OperandIn R o → FindsOf E o s owner → FindsOf F o s owner
  of_same i (finds_value h f c) = finds_value h (found_same (typed_in R i h) f) (counts_same (typed_in R i h) f c)
  of_same i (finds_expression {t = t} e f c) = finds_expression e (found_same (subst (OperandIn R) e i) f) (counts_same (subst (OperandIn R) e i) f c)

  selects_same : {at : Node} {o : Operand} {name : Name} → RefersIn R at → Selects E at o name → Selects F at o name × OperandIn R o
  selects_same {o = o} n s =
      let p = layer_parts (Expr-F.Primary s.operand (s.before ++ s.post ∷ s.after)) n s.stands s.is in
      let f = chain_local E R w s.operand s.before o p.0 (map_left (RefersIn R) post s.before (s.post ∷ s.after) p.1) s.has s.within in (
        record {
          whole = s.whole;
          operand = s.operand;
          before = s.before;
          post = s.post;
          after = s.after;
          stands = s.stands;
          is = s.is;
          selector = s.selector;
          has = subst (λ z. HasForm z (chain s.operand s.before) o) (joined_is C F m) (has_form_more C F m f.0);
          within = s.within;
        },
        f.1,
      )

  finds_same : {at : Node} {owner : TypeName} {s : Sel} → RefersIn R at → Finds E at owner s → Finds F at owner s
  finds_same {s = s} n f =
      let g = selects_same n f.selected in
      record { operand = f.operand; name = f.name; selected = g.0; sel = ap (λ z. record { name = f.name.text; «package» = if is_exported f.name.text then [] else z }) (sym m.path) ∙ f.sel; found = of_same g.1 f.found }

  pub finds_method_same : (u : PackageSource) (f : Form) (n : ℕ) → Each (RefersIn R) (nodes f) → FindsMethod E u f n → FindsMethod F u f n
  finds_method_same u f n h k = record { type = k.type; method = k.method; at = k.at; stands = k.stands; found = finds_same (each_has (RefersIn R) (nodes f) k.at h k.stands) k.found; has = k.has; number = k.number }
