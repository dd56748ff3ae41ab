-- Values of fields by their names, and values of fields in order, element by element.
use Rattle.std.proofs.Common.{◌≡◌, ◌<◌, ◌≤◌, ◌+◌, suc, length, get_or, drop, ℕ, List, [], ◌∷◌, refl, sym, ap, ◌∙◌, subst, ◌⊎◌, inl, inr, Bool, true, false, ◌||◌, Option, Some, None}
use Rattle.go_base.specs.Lists.{Has as In, Each, Once}
use Rattle.go_model.specs.declared.types.names.Sel.{Sel}
use Rattle.go_model.specs.declared.types.term.Field.{Field, out-Field}
use Rattle.go_rules.specs.Environments.{Env, selector_of}
use Rattle.go_rules.specs.Expressions.{Has, HasFieldKey, HasKeyed, keyed_none, keyed_more, HasUnkeyed, unkeyed_none, unkeyed_more, IsReachable, is_blank}
use Rattle.go_rules.specs.Nodes.{element_parts, expression}
use Rattle.go_rules.specs.Usability.{UsableAs}
use Rattle.go_rules.specs.declared.operand.Operand.{Operand}
use Rattle.go_rules.proofs.OneOperand.{has_once}
use Rattle.go_rules.proofs.OneType.{one_field_key}
use Rattle.go_syntax.specs.declared.expression.Element.{Element, out-Element}
use Rattle.go_syntax.specs.declared.expression.ElementValue.{ElementValue, ElementValue-F, out-ElementValue}
use Rattle.go_syntax.specs.declared.expression.Expr.{Expr}
use Rattle.go_syntax.specs.declared.name.Name.{Name}
use Rattle.go_selectors.specs.Answers.{Decides}
use Rattle.go_selectors.proofs.Lists.{drop_all, drop_next, item_has}
use Rattle.go_operations.specs.go_type_terms.Loudness.{AreLoud}
use Rattle.go_operations.proofs.go_type_terms_proofs.LoudTrees.{none_loud}
use Rattle.go_operations.proofs.Typed.{none_some, true_false}
use Rattle.go_operations.proofs.Walks.{Walk, set_out, walk_on, arrived}
use Rattle.go_literals.specs.Elements.{EachKeyed, keyed_end, keyed_next, ExprFits, KeyedFits, NamedFits, Takes, UnkeyedFits, parts_of}
use Rattle.go_literals.specs.Keys.{KeysAre, keys_none, keys_more, KeyedOnce}
use Rattle.go_literals.specs.Structs.{AreKeyed}
use Rattle.go_literals.proofs.Parts.{parts_join}
use Rattle.go_literals.proofs.ElementValues.{one_expr}

module _ (E : Env) where
  -- ---- fields that take an operand

  abbrev TakesHere : Field → Sel → Operand → Type 0
  TakesHere f s o = ((out-Field f).sel ≡ s) × UsableAs E o (out-Field f).term

  pub takes_at : (fs : List Field) (i : ℕ) (f : Field) (s : Sel) (o : Operand) (b : Bool) → i < length fs → f ≡ get_or fs i f → b ≡ true → Decides b (TakesHere f s o) → Takes E fs s o
  takes_at fs i f s o b h e t d = let y = subst (λ b. Decides b (TakesHere f s o)) t d in (f, item_has fs i f h e, y.0, y.1)

  takes_later : (f : Field) (fs : List Field) (s : Sel) (o : Operand) → (TakesHere f s o → ⊥) → Takes E (f ∷ fs) s o → Takes E fs s o
  takes_later f fs s o none t = elim t.1 [ inl e ↦ absurd (none (subst (λ (x : Field). TakesHere x s o) (sym e) (t.2, t.3))) | inr k ↦ (t.0, k, t.2, t.3) ]

  pub takes_next : (fs : List Field) (i : ℕ) (f : Field) (s : Sel) (o : Operand) (b : Bool) → i < length fs → f ≡ get_or fs i f → b ≡ false → Decides b (TakesHere f s o) → (Takes E fs s o → Takes E (drop i fs) s o) → Takes E fs s o → Takes E (drop (i + 1) fs) s o
  takes_next fs i f s o b h e t d w k = takes_later f (drop (i + 1) fs) s o (subst (λ b. Decides b (TakesHere f s o)) t d) (subst (λ (xs : List Field). Takes E xs s o) (drop_next i fs f h e) (w k))

  no_field : (s : Sel) (o : Operand) → Takes E [] s o → ⊥
  no_field s o t = absurd t.1

  pub takes_none : (fs : List Field) (i : ℕ) (s : Sel) (o : Operand) → length fs ≤ i → (Takes E fs s o → Takes E (drop i fs) s o) → Takes E fs s o → ⊥
  takes_none fs i s o h w k = no_field s o (subst (λ (xs : List Field). Takes E xs s o) (drop_all i fs h) (w k))

  -- ---- a name and a value

  pub named_some : (fs : List Field) (n : Name) (e : Expr) (o : Operand) (s : Sel) → is_blank n.text ≡ false → s ≡ selector_of E n.text → Has E e o → Takes E fs s o → NamedFits E fs n e
  named_some fs n e o s b i h t = record { names = b; operand = o; has = h; takes = subst (λ (x : Sel). Takes E fs x o) i t }

  pub named_blank : (fs : List Field) (n : Name) (e : Expr) → is_blank n.text ≡ true → NamedFits E fs n e → ⊥
  named_blank fs n e b f = true_false (sym b ∙ f.names)

  pub named_untyped : (fs : List Field) (n : Name) (e : Expr) → NamedFits E fs n e → (o : Operand) × Has E e o
  named_untyped fs n e f = (f.operand, f.has)

  pub named_none : (fs : List Field) (n : Name) (e : Expr) (o : Operand) (s : Sel) → s ≡ selector_of E n.text → Has E e o → (Takes E fs s o → ⊥) → NamedFits E fs n e → ⊥
  named_none fs n e o s i h none f = none (subst (λ (x : Sel). Takes E fs x o) (sym i) (subst (λ (q : Operand). Takes E fs (selector_of E n.text) q) (has_once E f.has h) f.takes))

  -- ---- an element with a key

  pub to_keyed_fits : (fs : List Field) (x : Element) (n : Name) (e : Expr) → HasFieldKey x n → out-ElementValue (out-Element x).value ≡ ElementValue-F.Value e → NamedFits E fs n e → KeyedFits E fs x
  to_keyed_fits fs x n e k i f = record { name = n; key = k; expr = e; is = i; fits = f }

  pub in_keyed_fits : (fs : List Field) (x : Element) (n : Name) (e : Expr) → HasFieldKey x n → out-ElementValue (out-Element x).value ≡ ElementValue-F.Value e → KeyedFits E fs x → NamedFits E fs n e
  in_keyed_fits fs x n e k i f = subst (λ (m : Name). NamedFits E fs m e) (one_field_key f.key k) (subst (NamedFits E fs f.name) (one_expr f.is i) f.fits)

  pub unnamed : (fs : List Field) (x : Element) → ((n : Name) → HasFieldKey x n → ⊥) → KeyedFits E fs x → ⊥
  unnamed fs x none f = none f.name f.key

  pub valueless : (fs : List Field) (x : Element) → ((e : Expr) → out-ElementValue (out-Element x).value ≡ ElementValue-F.Value e → ⊥) → KeyedFits E fs x → ⊥
  valueless fs x none f = none f.expr f.is

  module _ (fs : List Field) where
    abbrev KeyedOnward : Unit {0} → List Element → Unit {0} → Type 0
    KeyedOnward s xs r = EachKeyed E fs xs

    abbrev pub Keyed : List Element → List Element → Bool → Type 0
    Keyed whole rest loud = Walk E element_parts KeyedOnward tt whole tt rest loud

    first_keyed : {x : Element} {xs : List Element} → EachKeyed E fs (x ∷ xs) → KeyedFits E fs x × EachKeyed E fs xs
    first_keyed (keyed_next f h) = (f, h)

    pub keyed_begin : (xs : List Element) → Keyed xs xs false
    keyed_begin xs = set_out E element_parts KeyedOnward tt xs

    pub keyed_on : (whole : List Element) (x : Element) (rest : List Element) (loud b : Bool) → KeyedFits E fs x → AreLoud E (parts_of x) b → Keyed whole (x ∷ rest) loud → Keyed whole rest (loud || b)
    keyed_on whole x rest loud b p l w = walk_on E element_parts KeyedOnward tt whole tt tt x rest loud b (parts_of x) (parts_join E x rest) l (λ r h. keyed_next p h) (λ r h. (first_keyed h).1) w

    pub keyed_done : (whole : List Element) (loud : Bool) → Keyed whole [] loud → EachKeyed E fs whole × AreLoud E (element_parts whole) loud
    keyed_done whole loud w = arrived E element_parts KeyedOnward tt whole tt loud tt keyed_end (none_loud E) w

    keyed_all : (whole : List Element) (i : ℕ) (x : Element) (loud : Bool) → i < length whole → x ≡ get_or whole i x → Keyed whole (drop i whole) loud → Keyed whole (x ∷ drop (i + 1) whole) loud
    keyed_all whole i x loud h e w = subst (λ (xs : List Element). Keyed whole xs loud) (drop_next i whole x h e) w

    pub keyed_after : (whole : List Element) (i : ℕ) (x : Element) (loud b : Bool) → i < length whole → x ≡ get_or whole i x → KeyedFits E fs x → AreLoud E (parts_of x) b → Keyed whole (drop i whole) loud → Keyed whole (drop (i + 1) whole) (loud || b)
    keyed_after whole i x loud b h e p l w = keyed_on whole x (drop (i + 1) whole) loud b p l (keyed_all whole i x loud h e w)

    pub keyed_first : (whole : List Element) (i : ℕ) (x : Element) (loud : Bool) → i < length whole → x ≡ get_or whole i x → Keyed whole (drop i whole) loud → EachKeyed E fs whole → KeyedFits E fs x
    keyed_first whole i x loud h e w k = (first_keyed ((keyed_all whole i x loud h e w).from tt k)).0

    pub keyed_whole : (whole : List Element) (i : ℕ) (loud : Bool) → length whole ≤ i → Keyed whole (drop i whole) loud → EachKeyed E fs whole × AreLoud E (element_parts whole) loud
    keyed_whole whole i loud h w = keyed_done whole loud (subst (λ (xs : List Element). Keyed whole xs loud) (drop_all i whole h) w)

    -- ---- all elements with keys

    renamed : (m n : Name) (xs : List Element) (ns : List (List ℕ)) → m ≡ n → HasKeyed E fs xs (m.text ∷ ns) → HasKeyed E fs xs (n.text ∷ ns)
    renamed m n xs ns e h = subst (λ (q : Name). HasKeyed E fs xs (q.text ∷ ns)) e h

    has_keyed : {xs : List Element} {ns : List (List ℕ)} → EachKeyed E fs xs → KeysAre xs ns → HasKeyed E fs xs ns
    has_keyed keyed_end keys_none = keyed_none
    has_keyed (keyed_next f h) (keys_more k m) = renamed _ _ _ _ (one_field_key f.key k) (keyed_more f.fits.takes.0 f.key f.fits.names f.fits.takes.1 f.fits.takes.2 f.is f.fits.has f.fits.takes.3 (has_keyed h m))

    each_keyed : {xs : List Element} {ns : List (List ℕ)} → HasKeyed E fs xs ns → EachKeyed E fs xs
    each_keyed keyed_none = keyed_end
    each_keyed (keyed_more f k b i s v h u m) = keyed_next (record { name = _; key = k; expr = _; is = v; fits = record { names = b; operand = _; has = h; takes = (f, i, s, u) } }) (each_keyed m)

    keys_in : {xs : List Element} {ns : List (List ℕ)} → HasKeyed E fs xs ns → KeysAre xs ns
    keys_in keyed_none = keys_none
    keys_in (keyed_more f k b i s v h u m) = keys_more k (keys_in m)

    pub all_keyed : (xs : List Element) → KeyedOnce [] xs → EachKeyed E fs xs → AreKeyed E fs xs
    all_keyed xs o k = (o.names, has_keyed k o.keys, o.once)

    no_others : (ns : List (List ℕ)) → Each (λ n. In [] n → ⊥) ns
    no_others [] = tt
    no_others (n ∷ ns) = ((λ i. i), no_others ns)

    pub keyed_once : (xs : List Element) → AreKeyed E fs xs → KeyedOnce [] xs
    keyed_once xs a = record { names = a.0; keys = keys_in a.1; once = a.2; apart = no_others a.0 }

    pub keyed_each : (xs : List Element) → AreKeyed E fs xs → EachKeyed E fs xs
    keyed_each xs a = each_keyed a.1

  -- ---- values of fields in order

  abbrev UnkeyedOnward : List Field → List Element → Unit {0} → Type 0
  UnkeyedOnward fs xs r = HasUnkeyed E fs xs

  abbrev pub Unkeyed : List Field → List Element → List Field → List Element → Bool → Type 0
  Unkeyed fs whole later rest loud = Walk E element_parts UnkeyedOnward fs whole later rest loud

  first_unkeyed : {f : Field} {fs : List Field} {x : Element} {xs : List Element} → HasUnkeyed E (f ∷ fs) (x ∷ xs) → UnkeyedFits E f x × HasUnkeyed E fs xs
  first_unkeyed (unkeyed_more k v h u r m) = (record { no_key = k; expr = _; is = v; fits = (_, h, u); reachable = r }, m)

  pub unkeyed_begin : (fs : List Field) (xs : List Element) → Unkeyed fs xs fs xs false
  unkeyed_begin fs xs = set_out E element_parts UnkeyedOnward fs xs

  pub unkeyed_on : (fs : List Field) (whole : List Element) (f : Field) (later : List Field) (x : Element) (rest : List Element) (loud b : Bool) → UnkeyedFits E f x → AreLoud E (parts_of x) b → Unkeyed fs whole (f ∷ later) (x ∷ rest) loud → Unkeyed fs whole later rest (loud || b)
  unkeyed_on fs whole f later x rest loud b p l w = walk_on E element_parts UnkeyedOnward fs whole (f ∷ later) later x rest loud b (parts_of x) (parts_join E x rest) l (λ r h. unkeyed_more p.no_key p.is p.fits.1 p.fits.2 p.reachable h) (λ r h. (first_unkeyed h).1) w

  pub unkeyed_done : (fs : List Field) (whole : List Element) (loud : Bool) → Unkeyed fs whole [] [] loud → HasUnkeyed E fs whole × AreLoud E (element_parts whole) loud
  unkeyed_done fs whole loud w = arrived E element_parts UnkeyedOnward fs whole [] loud tt unkeyed_none (none_loud E) w

  unkeyed_all : (fs : List Field) (whole : List Element) (i : ℕ) (f : Field) (x : Element) (loud : Bool) → i < length fs → f ≡ get_or fs i f → i < length whole → x ≡ get_or whole i x
      → Unkeyed fs whole (drop i fs) (drop i whole) loud → Unkeyed fs whole (f ∷ drop (i + 1) fs) (x ∷ drop (i + 1) whole) loud
  unkeyed_all fs whole i f x loud h e k j w = subst (λ (xs : List Element). Unkeyed fs whole (f ∷ drop (i + 1) fs) xs loud) (drop_next i whole x k j) (subst (λ (gs : List Field). Unkeyed fs whole gs (drop i whole) loud) (drop_next i fs f h e) w)

  pub unkeyed_after : (fs : List Field) (whole : List Element) (i : ℕ) (f : Field) (x : Element) (loud b : Bool) → i < length fs → f ≡ get_or fs i f → i < length whole → x ≡ get_or whole i x
      → UnkeyedFits E f x → AreLoud E (parts_of x) b → Unkeyed fs whole (drop i fs) (drop i whole) loud → Unkeyed fs whole (drop (i + 1) fs) (drop (i + 1) whole) (loud || b)
  unkeyed_after fs whole i f x loud b h e k j p l w = unkeyed_on fs whole f (drop (i + 1) fs) x (drop (i + 1) whole) loud b p l (unkeyed_all fs whole i f x loud h e k j w)

  pub unkeyed_first : (fs : List Field) (whole : List Element) (i : ℕ) (f : Field) (x : Element) (loud : Bool) → i < length fs → f ≡ get_or fs i f → i < length whole → x ≡ get_or whole i x
      → Unkeyed fs whole (drop i fs) (drop i whole) loud → HasUnkeyed E fs whole → UnkeyedFits E f x
  unkeyed_first fs whole i f x loud h e k j w u = (first_unkeyed ((unkeyed_all fs whole i f x loud h e k j w).from tt u)).0

  pub unkeyed_whole : (fs : List Field) (whole : List Element) (i : ℕ) (loud : Bool) → length fs ≤ i → length whole ≤ i → Unkeyed fs whole (drop i fs) (drop i whole) loud → HasUnkeyed E fs whole × AreLoud E (element_parts whole) loud
  unkeyed_whole fs whole i loud h k w = unkeyed_done fs whole loud (subst (λ (xs : List Element). Unkeyed fs whole [] xs loud) (drop_all i whole k) (subst (λ (gs : List Field). Unkeyed fs whole gs (drop i whole) loud) (drop_all i fs h) w))

  pub unkeyed_lengths : {fs : List Field} {xs : List Element} → HasUnkeyed E fs xs → length fs ≡ length xs
  unkeyed_lengths unkeyed_none = refl
  unkeyed_lengths (unkeyed_more k v h u r m) = ap suc (unkeyed_lengths m)

  -- an element without a key
  pub to_unkeyed : (f : Field) (x : Element) (e : Expr) → (out-Element x).key ≡ None → out-ElementValue (out-Element x).value ≡ ElementValue-F.Value e → ExprFits E (out-Field f).term e → IsReachable E f → UnkeyedFits E f x
  to_unkeyed f x e k i h r = record { no_key = k; expr = e; is = i; fits = h; reachable = r }

  pub in_unkeyed : (f : Field) (x : Element) (e : Expr) → out-ElementValue (out-Element x).value ≡ ElementValue-F.Value e → UnkeyedFits E f x → ExprFits E (out-Field f).term e
  in_unkeyed f x e i u = subst (ExprFits E (out-Field f).term) (one_expr u.is i) u.fits
