-- The keys of literals in a tree are those of the literal that it is, and those in its parts.
use Rattle.std.proofs.Common.{◌≡◌, ℕ, List, [], ◌∷◌, ◌++◌, refl, sym, ap, ◌∙◌, subst, ◌⊎◌, inl, inr}
use Rattle.go_base.specs.Growing.{Grows}
use Rattle.go_base.specs.Lists.{Has}
use Rattle.go_model.specs.declared.types.term.Field.{Field}
use Rattle.go_model.specs.declared.types.term.Term.{Term, Term-F, out-roll-Term}
use Rattle.go_model.specs.types.Terms.{Layer}
use Rattle.go_model.specs.types.Underlying.{under, under_layer}
use Rattle.go_rules.specs.Environments.{Env}
use Rattle.go_rules.specs.Expressions.{OfType, array_of}
use Rattle.go_rules.specs.Nodes.{ExprLayer, Node, Stands, stands_here, stands_in, expression, post, value, type, signature, parts}
use Rattle.go_syntax.specs.declared.expression.Element.{Element}
use Rattle.go_syntax.specs.declared.expression.Expr.{Expr, Expr-F, out-Expr}
use Rattle.go_syntax.specs.declared.name.Name.{Name}
use Rattle.go_syntax.specs.declared.types.«Type».{«Type» as Typ}
use Rattle.go_typings.specs.References.{HasLiteral, literal, literal_array, literal_key, literal_value, HoldsValues, holds_item, holds_slice_item, holds_map_item, IsFieldKey}
use Rattle.go_leads.specs.Listed.{Lists}
use Rattle.go_leads.specs.inner.Bares.{Literal, inner}
use Rattle.go_leads.specs.inner.FieldKeys.{KeyAt, KeyHere, KeyIn, key_of_field, key_in_key, key_in_value, field_keys}
use Rattle.go_leads.specs.inner.Some.{SomeIn, keys_of}
use Rattle.go_leads.proofs.KeyLists.{key_splits, of_fields, of_inner}
use Rattle.go_leads.proofs.Walks.{Splits, lists_one}

module _ (E : Env) where
  -- a literal gives the keys of its fields, and those of the literals without a type among its elements
  pub literal_splits : (l : Literal) → Splits (keys_of E) l (inner E (under E.table l.0) l.1) (λ (n : Name). Has (field_keys (under E.table l.0) l.1) n)
  literal_splits l = record {
    splits = λ n k. key_splits E n l.0 l.1 k;
    of_here = λ n h. of_fields E n l.0 l.1 (under E.table l.0) refl h;
    of_parts = λ n s. of_inner E n l.0 l.1 (under E.table l.0) refl s;
  }

  -- ---- arrays of any length

  pub array_under : (m : ℕ) (u : Term) → under E.table (array_of m u) ≡ Term-F.Array m u
  array_under m u = ap (under_layer E.table) (out-roll-Term (Term-F.Array m u))

  no_struct : {m : ℕ} {u : Term} {fs : List Field} → ◌≡◌ {A = Layer} (Term-F.Array m u) (Term-F.Struct fs) → ⊥
  no_struct e = absurd (cc)

  no_map : {m : ℕ} {u k e : Term} → ◌≡◌ {A = Layer} (Term-F.Array m u) (Term-F.Map k e) → ⊥
  no_map e = absurd (cc)

  no_slice : {m : ℕ} {u e : Term} → ◌≡◌ {A = Layer} (Term-F.Array m u) (Term-F.Slice e) → ⊥
  no_slice e = absurd (cc)

  same_item : {m k : ℕ} {u v : Term} → ◌≡◌ {A = Layer} (Term-F.Array m u) (Term-F.Array k v) → u ≡ v
  same_item e = cc

  resized_holds : (m k : ℕ) (u : Term) {e : Term} → HoldsValues E (array_of m u) e → HoldsValues E (array_of k u) e
  resized_holds m k u (holds_item q) = holds_item (array_under k u ∙ ap (Term-F.Array k) (same_item (sym (array_under m u) ∙ q)))
  resized_holds m k u (holds_slice_item q) = absurd (no_slice (sym (array_under m u) ∙ q))
  resized_holds m k u (holds_map_item q) = absurd (no_map (sym (array_under m u) ∙ q))

  resized : (m k : ℕ) (u : Term) {xs : List Element} {n : Name} → KeyIn E (array_of m u) xs n → KeyIn E (array_of k u) xs n
  resized m k u (key_of_field x e h f) = absurd (no_struct (sym (array_under m u) ∙ e))
  resized m k u (key_in_key x h f o q i d) = absurd (no_map (sym (array_under m u) ∙ q))
  resized m k u (key_in_value x h o v i d) = key_in_value x h o (resized_holds m k u v) i d

  -- ---- the keys in a tree

  field_key_of : {a : Node} {t : Term} {xs : List Element} {n : Name} → HasLiteral E a t xs → KeyIn E t xs n → IsFieldKey E a n
  field_key_of l (key_of_field x e h k) = record { type = _; fields = _; elements = _; element = x; stands = l; struct = e; has = h; key = k }
  field_key_of l (key_in_key x h f o m i d) = field_key_of (literal_key x l h f o m i) d
  field_key_of l (key_in_value x h o v i d) = field_key_of (literal_value x l h o v i) d

  abbrev Parted : Node → Name → Type 0
  Parted a n = KeyHere E a n ⊎ SomeIn (IsFieldKey E) (parts a) n

  here_at : (e : Expr) (l : ExprLayer) (n : Name) → out-Expr e ≡ l → KeyAt E l n → KeyHere E (expression e) n
  here_at e l n i k = subst (λ (y : ExprLayer). KeyAt E y n) (sym i) k

  composite_parted : {a : Node} {e : Expr} {t : Typ} {xs : List Element} {v : Term} {n : Name} → Stands a (expression e) → out-Expr e ≡ Expr-F.Composite t xs → OfType E t v → KeyIn E v xs n → Parted a n
  composite_parted {n = n} stands_here i o k = inl (here_at _ _ n i (_, o, k))
  composite_parted (stands_in {b = p} h s) i o k = inr (p, h, field_key_of (literal s i o) k)

  array_parted : {a : Node} {e : Expr} {t : Typ} {xs : List Element} {v : Term} {n : Name} (m : ℕ) → Stands a (expression e) → out-Expr e ≡ Expr-F.CompositeArray t xs → OfType E t v → KeyIn E (array_of m v) xs n → Parted a n
  array_parted {v = v} {n = n} m stands_here i o k = inl (here_at _ _ n i (_, o, resized m 0 v k))
  array_parted m (stands_in {b = p} h s) i o k = inr (p, h, field_key_of (literal_array m s i o) k)

  parted : {a : Node} {t : Term} {xs : List Element} {n : Name} → HasLiteral E a t xs → KeyIn E t xs n → Parted a n
  parted (literal s i o) k = composite_parted s i o k
  parted (literal_array m s i o) k = array_parted m s i o k
  parted (literal_key x l h f o m i) k = parted l (key_in_key x h f o m i k)
  parted (literal_value x l h o v i) k = parted l (key_in_value x h o v i k)

  deeper : {a p : Node} {t : Term} {xs : List Element} → Has (parts a) p → HasLiteral E p t xs → HasLiteral E a t xs
  deeper h (literal s i o) = literal (stands_in h s) i o
  deeper h (literal_array m s i o) = literal_array m (stands_in h s) i o
  deeper h (literal_key x l g f o m i) = literal_key x (deeper h l) g f o m i
  deeper h (literal_value x l g o v i) = literal_value x (deeper h l) g o v i

  module _ (e : Expr) (n : Name) where
    of_at : (l : ExprLayer) → out-Expr e ≡ l → KeyAt E l n → IsFieldKey E (expression e) n
    of_at (Expr-F.Or f es) i k = absurd k
    of_at (Expr-F.And f es) i k = absurd k
    of_at (Expr-F.Compare f ops es) i k = absurd k
    of_at (Expr-F.Sum f ops es) i k = absurd k
    of_at (Expr-F.Product f ops es) i k = absurd k
    of_at (Expr-F.Prefix op f) i k = absurd k
    of_at (Expr-F.Primary f ps) i k = absurd k
    of_at (Expr-F.«Expr::Literal» c) i k = absurd k
    of_at (Expr-F.Name m) i k = absurd k
    of_at (Expr-F.FuncLit g body) i k = absurd k
    of_at (Expr-F.Composite t xs) i k = field_key_of (literal stands_here i k.1) k.2
    of_at (Expr-F.CompositeArray t xs) i k = field_key_of (literal_array 0 stands_here i k.1) k.2
    of_at (Expr-F.«Expr::Type» t) i k = absurd k
    of_at (Expr-F.«Expr::Paren» f) i k = absurd k
    of_at (Expr-F.ParenReceiveChan t) i k = absurd k

  of_key_here : (a : Node) (n : Name) → KeyHere E a n → IsFieldKey E a n
  of_key_here (expression e) n k = of_at e n (out-Expr e) refl k
  of_key_here (post p) n k = absurd k
  of_key_here (value v) n k = absurd k
  of_key_here (type t) n k = absurd k
  of_key_here (signature g) n k = absurd k

  -- a tree gives the keys of the literal that it is, and those in its parts
  pub tree_splits : (a : Node) → Splits (IsFieldKey E) a (parts a) (KeyHere E a)
  tree_splits a = record {
    splits = λ n f. parted f.stands (key_of_field f.element f.struct f.has f.key);
    of_here = of_key_here a;
    of_parts = λ n s. let f = s.2 in record { type = f.type; fields = f.fields; elements = f.elements; element = f.element; stands = deeper s.1 f.stands; struct = f.struct; has = f.has; key = f.key };
  }

-- the keys in one tree, from none
pub listed : (E F : Env) → E ≡ F → (a : Node) (start all : List Node) (first last : List Name) → start ≡ [] → all ≡ start ++ a ∷ [] → first ≡ [] → Grows (SomeIn (IsFieldKey E) all) first last → Lists (IsFieldKey F a) last
listed E F s a start all first last e f k g = subst (λ (G : Env). Lists (IsFieldKey G a) last) s (lists_one (IsFieldKey E) a all first last (f ∙ ap (λ ns. ns ++ a ∷ []) e) k g)
