-- Keys of elements and literals without a type among them, as lists and as facts.
use Rattle.std.proofs.Common.{◌≡◌, List, [], ◌∷◌, ◌++◌, Option, None, Some, refl, sym, ◌∙◌, subst, ◌⊎◌, inl, inr}
use Rattle.go_base.specs.Lists.{Has}
use Rattle.go_model.specs.declared.types.term.Term.{Term, Term-F}
use Rattle.go_model.specs.types.Terms.{Layer}
use Rattle.go_model.specs.types.Underlying.{under}
use Rattle.go_rules.specs.Environments.{Env}
use Rattle.go_rules.specs.Expressions.{HasFieldKey, field_key}
use Rattle.go_rules.specs.Nodes.{ExprLayer, ValueLayer}
use Rattle.go_selectors.proofs.Lists.{has-left, has-right, has-split}
use Rattle.go_syntax.specs.declared.expression.Element.{Element, out-Element}
use Rattle.go_syntax.specs.declared.expression.ElementValue.{ElementValue, ElementValue-F, out-ElementValue}
use Rattle.go_syntax.specs.declared.expression.Expr.{Expr, Expr-F, out-Expr}
use Rattle.go_syntax.specs.declared.name.Name.{Name}
use Rattle.go_typings.specs.References.{HoldsValues, holds_item, holds_slice_item, holds_map_item, IsOmitted, omitted_itself, omitted_base}
use Rattle.go_leads.specs.inner.Bares.{Literal, bare_key, bare_pairs, bare_value, bare_values, inner, omitted, omitted_layer}
use Rattle.go_leads.specs.inner.FieldKeys.{KeyIn, key_of_field, key_in_key, key_in_value, field_keys, key_name, key_names, name_alone, value_name}
use Rattle.go_leads.specs.inner.Some.{SomeIn, keys_of}
use Rattle.go_leads.proofs.Walks.{one_some, some_left, some_one, some_right, some_split}

-- ---- keys that are names

module _ (x : Element) (n : Name) where
  to_key : HasFieldKey x n → Has (key_name (out-Element x).key) n
  to_key (field_key k v e) =
      subst (λ (o : Option ElementValue). Has (key_name o) n) (sym k)
      (subst (λ (l : ValueLayer). Has (value_name l) n) (sym v)
      (subst (λ (l : ExprLayer). Has (name_alone l) n) (sym e) (inl refl)))

  module _ (v : ElementValue) (k : (out-Element x).key ≡ Some v) (y : Expr) (i : out-ElementValue v ≡ ElementValue-F.Value y) where
    alone : (m : Name) → out-Expr y ≡ Expr-F.Name m → m ≡ n → HasFieldKey x n
    alone m e s = subst (HasFieldKey x) s (field_key k i e)

    of_alone : (l : ExprLayer) → out-Expr y ≡ l → Has (name_alone l) n → HasFieldKey x n
    of_alone (Expr-F.Or f es) e h = absurd h
    of_alone (Expr-F.And f es) e h = absurd h
    of_alone (Expr-F.Compare f ops es) e h = absurd h
    of_alone (Expr-F.Sum f ops es) e h = absurd h
    of_alone (Expr-F.Product f ops es) e h = absurd h
    of_alone (Expr-F.Prefix op f) e h = absurd h
    of_alone (Expr-F.Primary f ps) e h = absurd h
    of_alone (Expr-F.«Expr::Literal» c) e h = absurd h
    of_alone (Expr-F.Name m) e h = elim h [ inl s ↦ alone m e s | inr z ↦ absurd z ]
    of_alone (Expr-F.FuncLit g body) e h = absurd h
    of_alone (Expr-F.Composite t xs) e h = absurd h
    of_alone (Expr-F.CompositeArray t xs) e h = absurd h
    of_alone (Expr-F.«Expr::Type» t) e h = absurd h
    of_alone (Expr-F.«Expr::Paren» f) e h = absurd h
    of_alone (Expr-F.ParenReceiveChan t) e h = absurd h

  of_value : (v : ElementValue) → (out-Element x).key ≡ Some v → (l : ValueLayer) → out-ElementValue v ≡ l → Has (value_name l) n → HasFieldKey x n
  of_value v k (ElementValue-F.Value y) i h = of_alone v k y i (out-Expr y) refl h
  of_value v k (ElementValue-F.«ElementValue::Literal» ys) i h = absurd h

  of_key : (o : Option ElementValue) → (out-Element x).key ≡ o → Has (key_name o) n → HasFieldKey x n
  of_key None k h = absurd h
  of_key (Some v) k h = of_value v k (out-ElementValue v) refl h

module _ (n : Name) where
  pub key_listed : (xs : List Element) (x : Element) → Has xs x → HasFieldKey x n → Has (key_names xs) n
  key_listed [] x h k = absurd h
  key_listed (y ∷ xs) x (inl e) k = has-left (key_name (out-Element y).key) (key_names xs) n (subst (λ (z : Element). Has (key_name (out-Element z).key) n) (sym e) (to_key x n k))
  key_listed (y ∷ xs) x (inr h) k = has-right (key_name (out-Element y).key) (key_names xs) n (key_listed xs x h k)

  pub listed_key : (xs : List Element) → Has (key_names xs) n → (x : Element) × Has xs x × HasFieldKey x n
  listed_key [] h = absurd h
  listed_key (y ∷ xs) h = elim (has-split (key_name (out-Element y).key) (key_names xs) n h) [
    | inl a ↦ (y, inl refl, of_key y n (out-Element y).key refl a)
    | inr b ↦ (let k = listed_key xs b in (k.0, inr k.1, k.2))
  ]

module _ (E : Env) (n : Name) where
  -- ---- a literal of a pointer type has no keys

  pointer_holds : {t e base : Term} → under E.table t ≡ Term-F.Pointer base → HoldsValues E t e → ⊥
  pointer_holds p (holds_item q) = absurd (cc)
  pointer_holds p (holds_slice_item q) = absurd (cc)
  pointer_holds p (holds_map_item q) = absurd (cc)

  pointer_none : {t base : Term} {xs : List Element} → under E.table t ≡ Term-F.Pointer base → KeyIn E t xs n → ⊥
  pointer_none p (key_of_field x e h k) = absurd (cc)
  pointer_none p (key_in_key x h k o m i d) = absurd (cc)
  pointer_none p (key_in_value x h o v i d) = pointer_holds p v

  same_pointer : {a b : Term} → ◌≡◌ {A = Layer} (Term-F.Pointer a) (Term-F.Pointer b) → a ≡ b
  same_pointer e = cc

  -- ---- the type of a literal without a type

  itself : {t v : Term} → ((base : Term) → under E.table t ≡ Term-F.Pointer base → ⊥) → IsOmitted E t v → v ≡ t
  itself none omitted_itself = refl
  itself none (omitted_base q) = absurd (none _ q)

  based : {t v base : Term} {ys : List Element} → under E.table t ≡ Term-F.Pointer base → IsOmitted E t v → KeyIn E v ys n → KeyIn E base ys n
  based e omitted_itself k = absurd (pointer_none e k)
  based {ys = ys} e (omitted_base q) k = subst (λ (u : Term). KeyIn E u ys n) (same_pointer (sym q ∙ e)) k

  module _ (t : Term) where
    unpointed : {v : Term} {ys : List Element} → ((base : Term) → under E.table t ≡ Term-F.Pointer base → ⊥) → IsOmitted E t v → KeyIn E v ys n → KeyIn E t ys n
    unpointed {ys = ys} none i k = subst (λ (u : Term). KeyIn E u ys n) (itself none i) k

    omit : (l : Layer) {v : Term} {ys : List Element} → under E.table t ≡ l → IsOmitted E t v → KeyIn E v ys n → KeyIn E (omitted_layer t l) ys n
    omit (Term-F.Plain b) e i k = unpointed (λ base q. absurd (cc)) i k
    omit (Term-F.Named m) e i k = unpointed (λ base q. absurd (cc)) i k
    omit (Term-F.Pointer base) e i k = based e i k
    omit (Term-F.Slice u) e i k = unpointed (λ base q. absurd (cc)) i k
    omit (Term-F.Array m u) e i k = unpointed (λ base q. absurd (cc)) i k
    omit (Term-F.Map j u) e i k = unpointed (λ base q. absurd (cc)) i k
    omit (Term-F.Chan d u) e i k = unpointed (λ base q. absurd (cc)) i k
    omit (Term-F.Func g) e i k = unpointed (λ base q. absurd (cc)) i k
    omit (Term-F.Struct fs) e i k = unpointed (λ base q. absurd (cc)) i k
    omit (Term-F.Interface ms) e i k = unpointed (λ base q. absurd (cc)) i k

    is_omitted : (l : Layer) → under E.table t ≡ l → IsOmitted E t (omitted_layer t l)
    is_omitted (Term-F.Plain b) e = omitted_itself
    is_omitted (Term-F.Named m) e = omitted_itself
    is_omitted (Term-F.Pointer base) e = omitted_base e
    is_omitted (Term-F.Slice u) e = omitted_itself
    is_omitted (Term-F.Array m u) e = omitted_itself
    is_omitted (Term-F.Map j u) e = omitted_itself
    is_omitted (Term-F.Chan d u) e = omitted_itself
    is_omitted (Term-F.Func g) e = omitted_itself
    is_omitted (Term-F.Struct fs) e = omitted_itself
    is_omitted (Term-F.Interface ms) e = omitted_itself

  -- ---- literals without a type among elements

  abbrev pub Keys : List Literal → Type 0
  Keys ls = SomeIn (keys_of E) ls n

  -- the elements of a literal without a type, and its type
  abbrev Bared : Term → ValueLayer → Type 0
  Bared t l = (ys : List Element) × (v : Term) × (l ≡ ElementValue-F.«ElementValue::Literal» ys) × IsOmitted E t v × KeyIn E v ys n

  value_to : (t : Term) (l : ValueLayer) → Bared t l → Keys (bare_value E t l)
  value_to t l b = subst (λ (y : ValueLayer). Keys (bare_value E t y)) (sym b.2) (one_some (keys_of E) (omitted E t, b.0) n (omit t (under E.table t) refl b.3 b.4))

  to_value : (t : Term) (l : ValueLayer) → Keys (bare_value E t l) → Bared t l
  to_value t (ElementValue-F.Value y) s = absurd s.1
  to_value t (ElementValue-F.«ElementValue::Literal» ys) s = (ys, omitted E t, refl, is_omitted t (under E.table t) refl, some_one (keys_of E) (omitted E t, ys) n s)

  -- the literal without a type that is a key
  abbrev KeyBared : Term → Option ElementValue → Type 0
  KeyBared t o = (key : ElementValue) × (o ≡ Some key) × Bared t (out-ElementValue key)

  key_to : (t : Term) (o : Option ElementValue) → KeyBared t o → Keys (bare_key E t o)
  key_to t o b = subst (λ (z : Option ElementValue). Keys (bare_key E t z)) (sym b.1) (value_to t (out-ElementValue b.0) b.2)

  to_key_bared : (t : Term) (o : Option ElementValue) → Keys (bare_key E t o) → KeyBared t o
  to_key_bared t None s = absurd s.1
  to_key_bared t (Some key) s = (key, refl, to_value t (out-ElementValue key) s)

  abbrev at_value : Element → ValueLayer
  at_value x = out-ElementValue (out-Element x).value

  values_to : (t : Term) (xs : List Element) (x : Element) → Has xs x → Bared t (at_value x) → Keys (bare_values E t xs)
  values_to t [] x h b = absurd h
  values_to t (y ∷ xs) x (inl e) b = some_left (keys_of E) (bare_value E t (at_value y)) (bare_values E t xs) n (value_to t (at_value y) (subst (λ (z : Element). Bared t (at_value z)) (sym e) b))
  values_to t (y ∷ xs) x (inr h) b = some_right (keys_of E) (bare_value E t (at_value y)) (bare_values E t xs) n (values_to t xs x h b)

  to_values : (t : Term) (xs : List Element) → Keys (bare_values E t xs) → (x : Element) × Has xs x × Bared t (at_value x)
  to_values t [] s = absurd s.1
  to_values t (y ∷ xs) s = elim (some_split (keys_of E) (bare_value E t (at_value y)) (bare_values E t xs) n s) [
    | inl a ↦ (y, inl refl, to_value t (at_value y) a)
    | inr b ↦ (let k = to_values t xs b in (k.0, inr k.1, k.2))
  ]

  abbrev Paired : Term → Term → Element → Type 0
  Paired k t x = KeyBared k (out-Element x).key ⊎ Bared t (at_value x)

  abbrev pair_of : Term → Term → Element → List Literal
  pair_of k t x = bare_key E k (out-Element x).key ++ bare_value E t (at_value x)

  pair_to : (k t : Term) (x : Element) → Paired k t x → Keys (pair_of k t x)
  pair_to k t x (inl a) = some_left (keys_of E) (bare_key E k (out-Element x).key) (bare_value E t (at_value x)) n (key_to k (out-Element x).key a)
  pair_to k t x (inr b) = some_right (keys_of E) (bare_key E k (out-Element x).key) (bare_value E t (at_value x)) n (value_to t (at_value x) b)

  to_pair : (k t : Term) (x : Element) → Keys (pair_of k t x) → Paired k t x
  to_pair k t x s = elim (some_split (keys_of E) (bare_key E k (out-Element x).key) (bare_value E t (at_value x)) n s) [
    | inl a ↦ inl (to_key_bared k (out-Element x).key a)
    | inr b ↦ inr (to_value t (at_value x) b)
  ]

  pairs_to : (k t : Term) (xs : List Element) (x : Element) → Has xs x → Paired k t x → Keys (bare_pairs E k t xs)
  pairs_to k t [] x h b = absurd h
  pairs_to k t (y ∷ xs) x (inl e) b = some_left (keys_of E) (pair_of k t y) (bare_pairs E k t xs) n (pair_to k t y (subst (Paired k t) (sym e) b))
  pairs_to k t (y ∷ xs) x (inr h) b = some_right (keys_of E) (pair_of k t y) (bare_pairs E k t xs) n (pairs_to k t xs x h b)

  to_pairs : (k t : Term) (xs : List Element) → Keys (bare_pairs E k t xs) → (x : Element) × Has xs x × Paired k t x
  to_pairs k t [] s = absurd s.1
  to_pairs k t (y ∷ xs) s = elim (some_split (keys_of E) (pair_of k t y) (bare_pairs E k t xs) n s) [
    | inl a ↦ (y, inl refl, to_pair k t y a)
    | inr d ↦ (let z = to_pairs k t xs d in (z.0, inr z.1, z.2))
  ]

  -- ---- the keys of a literal

  abbrev pub Split : Layer → List Element → Type 0
  Split l xs = Has (field_keys l xs) n ⊎ Keys (inner E l xs)

  pub key_splits : (t : Term) (xs : List Element) → KeyIn E t xs n → Split (under E.table t) xs
  key_splits t xs (key_of_field x e h k) = subst (λ (l : Layer). Split l xs) (sym e) (inl (key_listed n xs x h k))
  key_splits t xs (key_in_key {k = k} {e = e} x h s o m i d) = subst (λ (l : Layer). Split l xs) (sym m) (inr (pairs_to k e xs x h (inl (_, s, (_, _, o, i, d)))))
  key_splits t xs (key_in_value {e = e} x h o (holds_item q) i d) = subst (λ (l : Layer). Split l xs) (sym q) (inr (values_to e xs x h (_, _, o, i, d)))
  key_splits t xs (key_in_value {e = e} x h o (holds_slice_item q) i d) = subst (λ (l : Layer). Split l xs) (sym q) (inr (values_to e xs x h (_, _, o, i, d)))
  key_splits t xs (key_in_value {e = e} x h o (holds_map_item {k = k} q) i d) = subst (λ (l : Layer). Split l xs) (sym q) (inr (pairs_to k e xs x h (inr (_, _, o, i, d))))

  module _ (t : Term) (xs : List Element) where
    pub of_fields : (l : Layer) → under E.table t ≡ l → Has (field_keys l xs) n → KeyIn E t xs n
    of_fields (Term-F.Plain b) e h = absurd h
    of_fields (Term-F.Named m) e h = absurd h
    of_fields (Term-F.Pointer base) e h = absurd h
    of_fields (Term-F.Slice u) e h = absurd h
    of_fields (Term-F.Array m u) e h = absurd h
    of_fields (Term-F.Map j u) e h = absurd h
    of_fields (Term-F.Chan d u) e h = absurd h
    of_fields (Term-F.Func g) e h = absurd h
    of_fields (Term-F.Struct fs) e h = let k = listed_key n xs h in key_of_field k.0 e k.1 k.2
    of_fields (Term-F.Interface ms) e h = absurd h

    of_item : {u : Term} → HoldsValues E t u → (x : Element) → Has xs x → Bared u (at_value x) → KeyIn E t xs n
    of_item v x h b = key_in_value x h b.2 v b.3 b.4

    of_pair : {k u : Term} → under E.table t ≡ Term-F.Map k u → (x : Element) → Has xs x → Paired k u x → KeyIn E t xs n
    of_pair e x h (inl a) = let b = a.2 in key_in_key x h a.1 b.2 e b.3 b.4
    of_pair e x h (inr b) = of_item (holds_map_item e) x h b

    pub of_inner : (l : Layer) → under E.table t ≡ l → Keys (inner E l xs) → KeyIn E t xs n
    of_inner (Term-F.Plain b) e s = absurd s.1
    of_inner (Term-F.Named m) e s = absurd s.1
    of_inner (Term-F.Pointer base) e s = absurd s.1
    of_inner (Term-F.Slice u) e s = let k = to_values u xs s in of_item (holds_slice_item e) k.0 k.1 k.2
    of_inner (Term-F.Array m u) e s = let k = to_values u xs s in of_item (holds_item e) k.0 k.1 k.2
    of_inner (Term-F.Map j u) e s = let k = to_pairs j u xs s in of_pair e k.0 k.1 k.2
    of_inner (Term-F.Chan d u) e s = absurd s.1
    of_inner (Term-F.Func g) e s = absurd s.1
    of_inner (Term-F.Struct fs) e s = absurd s.1
    of_inner (Term-F.Interface ms) e s = absurd s.1
