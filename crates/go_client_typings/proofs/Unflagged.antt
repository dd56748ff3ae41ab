-- What is typed in the profile is typed without its flag.
use Rattle.std.proofs.Common.{◌≡◌, ◌⊎◌, ℕ, zero, suc, List, [], ◌∷◌, ◌++◌, Some, sym, ap, ◌∙◌, subst, inl, inr}
use Rattle.std.specs.Prelude.{slice_get}
use Rattle.go_base.specs.Lists.{Each, Has}
use Rattle.go_base.proofs.Members.{each_has}
use Rattle.go_client_typings.specs.Clients.{Blocks, IsTypedClient, blocks_in, without_flag}
use Rattle.go_client_typings.proofs.ReceiverTrees.{no_expression}
use Rattle.go_client_typings.proofs.SamePlaces.{bodies_f}
use Rattle.go_client_typings.proofs.TypedTrees.{DeclaresSome, IsSome, TreesAreTyped, asked, given_typed, method_is_some, named_is_some}
use Rattle.go_model.specs.declared.types.names.Sel.{Sel}
use Rattle.go_model.specs.declared.types.names.TypeName.{TypeName}
use Rattle.go_model.specs.declared.types.term.Term.{Term, Term-F, out-Term}
use Rattle.go_model.specs.types.Selectors.{Ending, Spot, start}
use Rattle.go_model.specs.types.Terms.{Layer}
use Rattle.go_references.specs.declared.references.Reference.{Reference}
use Rattle.go_rules.specs.Asks.{Meets}
use Rattle.go_rules.specs.Environments.{BeginsLayer, Env, EnteredLayer, Found, ToldLayer, ToldTo}
use Rattle.go_rules.specs.Expressions.{Has as Typed, HasForm, chain, has_name, has_operand}
use Rattle.go_rules.specs.Growth.{Grows, unflagged}
use Rattle.go_rules.specs.Nodes.{ExprLayer, Node, Stands, expression, signature, type}
use Rattle.go_rules.specs.declared.operand.Operand.{Operand}
use Rattle.go_rules.proofs.GrowAsks.{grows_unflagged}
use Rattle.go_rules.proofs.GrowOperand.{has_form_more}
use Rattle.go_rules.proofs.GrowTypes.{joined_is}
use Rattle.go_rules.proofs.OneOperand.{form_once}
use Rattle.go_soundness.proofs.DeclaredForms.{method_declared}
use Rattle.go_statement_rules.proofs.GrowLocals.{fits_f, meets_f, type_f}
use Rattle.go_syntax.specs.declared.declaration.Func.{Func}
use Rattle.go_syntax.specs.declared.expression.Element.{Element}
use Rattle.go_syntax.specs.declared.expression.Expr.{Expr, Expr-F, out-Expr}
use Rattle.go_syntax.specs.declared.expression.Post.{Post}
use Rattle.go_syntax.specs.declared.name.Name.{Name}
use Rattle.go_syntax.specs.declared.types.ParameterDecl.{ParameterDecl, out-ParameterDecl}
use Rattle.go_typed_parts.specs.TypedNodes.{IsTypedNode, bare_name, typed_expression}
use Rattle.go_typed_parts.proofs.TypedParts.{chain_typed, typed_within}
use Rattle.go_typings.specs.Assignments.{before}
use Rattle.go_typings.specs.DeclarationAsks.{Asks, FormAsks, IsMethod}
use Rattle.go_typings.specs.DeclarationNodes.{length_references, nodes, references, strong_references}
use Rattle.go_typings.specs.Declarations.{Form, constants, variables, alias, definition, function, method, Declaration, declarations}
use Rattle.go_typings.specs.PackageEnvironments.{Entries, environment}
use Rattle.go_typings.specs.References.{FindsMethod, FindsOf, finds_expression, finds_value, HasLiteral, literal, literal_array, literal_key, literal_value, HoldsValues, holds_item, holds_map_item, holds_slice_item, IsFieldKey, IsOmitted, LeadsTo, leads_by_method, leads_by_name, leads_here, NamesDeclaration, omitted_base, omitted_itself, Selects}
use Rattle.go_typings.specs.Sources.{PackageSource, Setting}
use Rattle.go_typings.specs.Typings.{IsTyping}
use Rattle.go_typings.proofs.Cells.{some_once}
use Rattle.go_typings.proofs.GrowRules.{gives_more}

-- ---- in an environment

no_primary : (n : Name) (x : Expr) (ps : List Post) → ◌≡◌ {A = ExprLayer} (Expr-F.Name n) (Expr-F.Primary x ps) → ⊥
no_primary n x ps e = absurd (let g : ◌≡◌ {A = ExprLayer} (Expr-F.Name n) (Expr-F.Primary x ps) = e in cc)

module _ (E : Env) where
  abbrev F : Env
  F = unflagged E

  grown : Grows E F
  grown = grows_unflagged E

  -- keys of struct literals

  holds_more : {t u : Term} → HoldsValues E t u → HoldsValues F t u
  holds_more (holds_item e) = holds_item e
  holds_more (holds_slice_item e) = holds_slice_item e
  holds_more (holds_map_item e) = holds_map_item e

  omitted_more : {t u : Term} → IsOmitted E t u → IsOmitted F t u
  omitted_more omitted_itself = omitted_itself
  omitted_more (omitted_base e) = omitted_base e

  literal_more : {at : Node} {t : Term} {xs : List Element} → HasLiteral E at t xs → HasLiteral F at t xs
  literal_more (literal s e a) = literal s e (type_f E F grown a)
  literal_more (literal_array n s e a) = literal_array n s e (type_f E F grown a)
  literal_more (literal_key x h i q p m o) = literal_key x (literal_more h) i q p m (omitted_more o)
  literal_more (literal_value x h i p v o) = literal_value x (literal_more h) i p (holds_more v) (omitted_more o)

  key_more : {at : Node} {name : Name} → IsFieldKey E at name → IsFieldKey F at name
  key_more k = record { type = k.type; fields = k.fields; elements = k.elements; element = k.element; stands = literal_more k.stands; struct = k.struct; has = k.has; key = k.key }

  -- what counts without the flag counts with it
  pub names_back : (u : PackageSource) (f : Form) (rs : List Reference) (n : ℕ) → NamesDeclaration F u f rs n → NamesDeclaration E u f rs n
  names_back u f rs n r = record { reference = r.reference; has = r.has; names = r.names; counts = λ q at i k. r.counts q at i (key_more k) }

  -- methods that are found

  entered_back : (l : Layer) → EnteredLayer F l → EnteredLayer E l
  entered_back (Term-F.Named n) h = h
  entered_back l h = tt

  begins_back : (t : Term) (l : Layer) → BeginsLayer F t l → BeginsLayer E t l
  begins_back t (Term-F.Pointer b) h = entered_back (out-Term b) h
  begins_back t l h = entered_back (out-Term t) h

  layer_back : (s : Sel) (l : Layer) → ToldLayer F s l → ToldLayer E s l
  layer_back s (Term-F.Named n) h = h
  layer_back s l h = tt

  told_back : (s : Sel) (depth : ℕ) (at : Spot) → ToldTo F s depth at → ToldTo E s depth at
  told_back s zero at h = layer_back s (out-Term at.term) h
  told_back s (suc depth) at h = (layer_back s (out-Term at.term) h.0, λ next i. told_back s depth next (h.1 next i))

  found_back : {s : Sel} {t : Term} {e : Ending} → Found F s t e → Found E s t e
  found_back {s = s} {t = t} f = record { depth = f.depth; only = f.only; begins = begins_back t (out-Term t) f.begins; told = told_back s f.depth (start E.table t) f.told }

  of_back : {o : Operand} {s : Sel} {owner : TypeName} → FindsOf F o s owner → FindsOf E o s owner
  of_back (finds_value h f c) = finds_value h (found_back f) c
  of_back (finds_expression e f c) = finds_expression e (found_back f) c

  form_more : {l : ExprLayer} {o : Operand} → HasForm E l o → HasForm F l o
  form_more {l = l} {o = o} h = subst (λ z. HasForm z l o) (joined_is E F grown) (has_form_more E F grown h)

  name_back : {n : Name} {o : Operand} → HasForm F (Expr-F.Name n) o → HasForm E (Expr-F.Name n) o
  name_back (has_name d) = has_name (record { names = d.names; meaning = d.meaning; means = d.means; denotes = d.denotes })

  has_form : {e : Expr} {o : Operand} → Typed E e o → HasForm E (out-Expr e) o
  has_form (has_operand h w) = h

  -- an operand with some of what follows it in a typed expression
  chain_back : (e x : Expr) (before : List Post) (p : Post) (after : List Post) {o : Operand} → IsTypedNode E (expression e) → out-Expr e ≡ Expr-F.Primary x (before ++ p ∷ after) → HasForm F (chain x before) o → HasForm E (chain x before) o
  chain_back e x before p after {o = o} (typed_expression k) is h = choose (chain_typed E e before p after (has_form k) is)
    where
      choose : ((q : Operand) × HasForm E (chain x before) q) ⊎ ((before ≡ []) × ((n : Name) × (out-Expr x ≡ Expr-F.Name n))) → HasForm E (chain x before) o
      choose (inl (q, g)) = subst (HasForm E (chain x before)) (form_once F (form_more g) h) g
      choose (inr (i, (n, j))) = let l = ap (chain x) i ∙ j in subst (λ z. HasForm E z o) (sym l) (name_back (subst (λ z. HasForm F z o) l h))
  chain_back e x before p after (bare_name {n = n} j) is h = absurd (no_primary n x (before ++ p ∷ after) (sym j ∙ is))

  selects_back : {at : Node} {o : Operand} {name : Name} → ((x : Expr) → Stands at (expression x) → IsTypedNode E (expression x)) → Selects F at o name → Selects E at o name
  selects_back typed s = record {
    whole = s.whole;
    operand = s.operand;
    before = s.before;
    post = s.post;
    after = s.after;
    stands = s.stands;
    is = s.is;
    selector = s.selector;
    has = chain_back s.whole s.operand s.before s.post s.after (typed s.whole s.stands) s.is s.has;
    within = s.within;
  }

  pub finds_back : (u : PackageSource) (f : Form) (n : ℕ) → ((at : Node) → Has (nodes f) at → (x : Expr) → Stands at (expression x) → IsTypedNode E (expression x)) → FindsMethod F u f n → FindsMethod E u f n
  finds_back u f n typed k = record {
    type = k.type;
    method = k.method;
    at = k.at;
    stands = k.stands;
    found = record { operand = k.found.operand; name = k.found.name; selected = selects_back (typed k.at k.stands) k.found.selected; sel = k.found.sel; found = of_back k.found.found };
    has = k.has;
    number = k.number;
  }

  -- what is asked

  method_more : (u : PackageSource) (n : ℕ) (r : ParameterDecl) (f : Func) → IsMethod E u n r f → IsMethod F u n r f
  method_more u n r f k = record { type = k.type; of = k.of; defined = k.defined; entry = k.entry; permits_methods = k.permits_methods; only = k.only; apart = k.apart; distinct = k.distinct }

  form_asks_more : (u : PackageSource) (n : ℕ) (f : Form) → FormAsks E u n f → FormAsks F u n f
  form_asks_more u n (constants s place) k = k
  form_asks_more u n (variables s) k = (k.0, fits_f E F grown (variables s) k.1)
  form_asks_more u n (alias s) k = k
  form_asks_more u n (definition s) k = k
  form_asks_more u n (function f) k = k
  form_asks_more u n (method r f) k = method_more u n r f k

  each_meets : (ns : List Node) → Each (Meets E) ns → Each (Meets F) ns
  each_meets [] h = tt
  each_meets (n ∷ ns) h = (meets_f E F grown h.0, each_meets ns h.1)

  pub asks_more : (u : PackageSource) (n : ℕ) (f : Form) → Asks E u n f → Asks F u n f
  asks_more u n f k = record { form = form_asks_more u n f k.form; meets = each_meets (nodes f) k.meets }

-- ---- in a package

-- what stands in a declaration is typed, where its trees are, but for the type of a receiver
module _ (E : Env) (u : PackageSource) (n : ℕ) (at : Node) (x : Expr) (k : Stands at (expression x)) where
  among : (ns : List Node) → Each (IsTypedNode E) ns → Has ns at → IsTypedNode E (expression x)
  among ns g j = typed_within E k (each_has (IsTypedNode E) ns at g j)

  of_method : (r : ParameterDecl) (f : Func) → IsTypedNode E (signature f.signature) → IsMethod E u n r f → Has (type (out-ParameterDecl r).type_ ∷ signature f.signature ∷ []) at → IsTypedNode E (expression x)
  of_method r f g m (inl j) = absurd (no_expression (declarations u) r m.type m.of x (subst (λ b. Stands b (expression x)) (sym j) k))
  of_method r f g m (inr (inl j)) = typed_within E (subst (λ b. Stands b (expression x)) (sym j) k) g
  of_method r f g m (inr (inr j)) = absurd j

  pub in_form : (f : Form) → TreesAreTyped E f → Asks E u n f → Has (nodes f) at → IsTypedNode E (expression x)
  in_form (constants c place) g m j = among (nodes (constants c place)) g j
  in_form (variables c) g m j = among (nodes (variables c)) g j
  in_form (alias c) g m j = among (nodes (alias c)) g j
  in_form (definition c) g m j = among (nodes (definition c)) g j
  in_form (function f) g m j = among (nodes (function f)) g j
  in_form (method r f) g m j = of_method r f g m.form j

module _ (s : Setting) (u : PackageSource) (a : Entries) (T : IsTyping s u a) where
  stands_typed : (n : ℕ) (d : Declaration) → slice_get (declarations u) n ≡ Some d → DeclaresSome d.form → (at : Node) → Has (nodes d.form) at → (x : Expr) → Stands at (expression x) → IsTypedNode (environment s u a d) (expression x)
  stands_typed n d e h at i x k = in_form (environment s u a d) u n at x k d.form (given_typed s u a T n d e h) (asked s u a T n d e) i

  -- what leads on without the flag does with it, from a declaration that declares something
  leads_back : {j k : ℕ} → IsSome u j → LeadsTo (without_flag s) u a j k → LeadsTo s u a j k
  leads_back w leads_here = leads_here
  leads_back w (leads_by_name n (d, e, r) l) =
      let g = names_back (environment s u a d) u d.form (references d.form) n r in
      leads_by_name n (d, e, g) (leads_back (named_is_some u g.reference.name n g.names) l)
  leads_back {j = j} w (leads_by_method n (d, e, r) l) =
      let q = some_once w.0 d (sym w.1 ∙ e) in
      let g = finds_back (environment s u a d) u d.form n (stands_typed j d e (subst (λ (z : Declaration). DeclaresSome z.form) q w.2)) r in
      leads_by_method n (d, e, g) (leads_back (subst (IsSome u) g.number (method_is_some u g.type g.method (method_declared u g.type g.method g.has))) l)

  pub typing_without : IsTyping (without_flag s) u a
  typing_without = record {
    had = record {
      only = T.had.only;
      order = T.had.order;
      below = λ n i. let k = T.had.below n i in
          (k.0, k.1, (k.2.0, k.2.1, gives_more (environment s u (before T.had.order (T.had.order n) a) k.0) (environment (without_flag s) u (before T.had.order (T.had.order n) a) k.0) (grows_unflagged (environment s u (before T.had.order (T.had.order n) a) k.0)) k.2.2));
    };
    asks = λ n i. let k = T.asks n i in (k.0, k.1, asks_more (environment s u a k.0) u n k.0.form k.2);
    rank = T.rank;
    falls = λ m n i k. T.falls m n i (k.0, k.1, names_back (environment s u a k.0) u k.0.form (strong_references k.0.form) n k.2);
    lengths = λ m n i k l.
        let g = names_back (environment s u a k.0) u k.0.form (length_references k.0.form) n k.2 in
        T.lengths m n i (k.0, k.1, g) (leads_back (named_is_some u g.reference.name n g.names) l);
  }

-- a client that is typed is typed without the flag
pub client_without : (s : Setting) (u : PackageSource) (blocks : Blocks) → IsTypedClient s u blocks → IsTypedClient (without_flag s) u blocks
client_without s u blocks c = record {
  once = c.once;
  found = c.found;
  entries = c.entries;
  typing = typing_without s u c.entries c.typing;
  bodies = λ d i. bodies_f (environment s u c.entries d) (environment (without_flag s) u c.entries d) (blocks_in blocks d.file) (grows_unflagged (environment s u c.entries d)) d.form (c.bodies d i);
}
