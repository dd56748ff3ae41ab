-- Names of fields among the keys of a literal, each once.
use Rattle.std.proofs.Common.{◌≡◌, ◌<◌, ◌≤◌, ◌+◌, length, get_or, drop, Bool, ℕ, List, [], ◌∷◌, refl, sym, ap, ◌∙◌, subst, ◌⊎◌, inl, inr, true, false, Option, Some, None}
use Rattle.go_base.specs.Growing.{Adds}
use Rattle.go_base.specs.Lists.{Has as In, Each, Once}
use Rattle.go_rules.specs.Expressions.{HasFieldKey, field_key}
use Rattle.go_rules.specs.Nodes.{ValueLayer}
use Rattle.go_rules.proofs.OneType.{one_field_key}
use Rattle.go_syntax.specs.declared.expression.Element.{Element, out-Element}
use Rattle.go_syntax.specs.declared.expression.ElementValue.{ElementValue, ElementValue-F, out-ElementValue}
use Rattle.go_syntax.specs.declared.expression.Expr.{Expr, Expr-F, out-Expr}
use Rattle.go_syntax.specs.declared.name.Name.{Name}
use Rattle.go_elements.specs.go_usability.Answers.{Gives}
use Rattle.go_selectors.proofs.Lists.{drop_all, drop_next}
use Rattle.go_operations.proofs.Typed.{none_some, one_some}
use Rattle.go_literals.specs.Keys.{KeysAre, keys_none, keys_more, KeyedOnce}
use Rattle.go_literals.proofs.ElementValues.{one_expr}

-- ---- the key of an element

without_key : (x : Element) → (out-Element x).key ≡ None → (n : Name) → HasFieldKey x n → ⊥
without_key x e n (field_key i j k) = none_some (sym e ∙ i)

other_expr : (x : Element) (v : ElementValue) (e : Expr) → (out-Element x).key ≡ Some v → out-ElementValue v ≡ ElementValue-F.Value e → ((n : Name) → out-Expr e ≡ Expr-F.Name n → ⊥) → (n : Name) → HasFieldKey x n → ⊥
other_expr x v e i f none n (field_key {e = d} j k m) = none n (ap out-Expr (one_expr f (ap out-ElementValue (one_some (sym i ∙ j)) ∙ k)) ∙ m)

-- the name that a key is, by the expression that it is
pub key_gives : (x : Element) (v : ElementValue) (e : Expr) → (out-Element x).key ≡ Some v → out-ElementValue v ≡ ElementValue-F.Value e → (r : Option Name) → Gives (λ n. out-Expr e ≡ Expr-F.Name n) r → Gives (HasFieldKey x) r
key_gives x v e i j (Some n) g = field_key i j g
key_gives x v e i j None g = other_expr x v e i j g

-- ---- members

in_each : (P : List ℕ → Type 0) (ns : List (List ℕ)) → Each P ns → (m : List ℕ) → In ns m → P m
in_each P [] e m i = absurd i
in_each P (n ∷ ns) e m (inl s) = subst P s e.0
in_each P (n ∷ ns) e m (inr i) = in_each P ns e.1 m i

to_each : (P : List ℕ → Type 0) (ns : List (List ℕ)) → ((m : List ℕ) → In ns m → P m) → Each P ns
to_each P [] f = tt
to_each P (n ∷ ns) f = (f n (inl refl), to_each P ns (λ m i. f m (inr i)))

-- ---- one key more

-- how far the keys were seen
abbrev pub OnceFrom : List (List ℕ) → List Element → List Element → Type 0
OnceFrom seen rest xs = (KeyedOnce seen rest → KeyedOnce [] xs) × (KeyedOnce [] xs → KeyedOnce seen rest)

pub once_begins : (xs : List Element) (seen : List (List ℕ)) → seen ≡ [] → OnceFrom seen xs xs
once_begins xs seen e = ((λ k. subst (λ (s : List (List ℕ)). KeyedOnce s xs) e k), (λ k. subst (λ (s : List (List ℕ)). KeyedOnce s xs) (sym e) k))

none_left : (seen : List (List ℕ)) → KeyedOnce seen []
none_left seen = record { names = []; keys = keys_none; once = tt; apart = tt }

pub once_done : (seen : List (List ℕ)) (xs : List Element) (i : ℕ) → length xs ≤ i → OnceFrom seen (drop i xs) xs → KeyedOnce [] xs
once_done seen xs i h w = w.0 (subst (KeyedOnce seen) (sym (drop_all i xs h)) (none_left seen))

-- the names of the first key and of the others
record First (seen : List (List ℕ)) (x : Element) (xs : List Element) : Type 0 where
  name : Name
  key : HasFieldKey x name
  names : List (List ℕ)
  keys : KeysAre xs names
  alone : In names name.text → ⊥
  once : Once names
  fresh : In seen name.text → ⊥
  apart : Each (λ n. In seen n → ⊥) names

first_of_keys : {seen : List (List ℕ)} {x : Element} {xs : List Element} {ns : List (List ℕ)} → KeysAre (x ∷ xs) ns → Once ns → Each (λ n. In seen n → ⊥) ns → First seen x xs
first_of_keys (keys_more {n = n} {ns = ns} k m) o a = record { name = n; key = k; names = ns; keys = m; alone = o.0; once = o.1; fresh = a.0; apart = a.1 }

first_key : {seen : List (List ℕ)} {x : Element} {xs : List Element} → KeyedOnce seen (x ∷ xs) → First seen x xs
first_key o = first_of_keys o.keys o.once o.apart

no_first : (seen : List (List ℕ)) (x : Element) (xs : List Element) → ((n : Name) → HasFieldKey x n → ⊥) → KeyedOnce seen (x ∷ xs) → ⊥
no_first seen x xs none o = let f = first_key o in none f.name f.key

twice : (seen new : List (List ℕ)) (x : Element) (xs : List Element) (n : Name) → HasFieldKey x n → Adds seen n.text new false → KeyedOnce seen (x ∷ xs) → ⊥
twice seen new x xs n k a o = let f = first_key o in f.fresh (subst (λ (m : Name). In seen m.text) (one_field_key k f.key) (a.there refl))

next_once : (seen new : List (List ℕ)) (x : Element) (xs : List Element) (n : Name) → HasFieldKey x n → Adds seen n.text new true → KeyedOnce new xs → KeyedOnce seen (x ∷ xs)
next_once seen new x xs n k a o = record {
  names = n.text ∷ o.names;
  keys = keys_more k o.keys;
  once = ((λ i. in_each (λ m. In new m → ⊥) o.names o.apart n.text i (a.grows.complete n.text refl)), o.once);
  apart = ((λ i. a.fresh refl i), to_each (λ y. In seen y → ⊥) o.names (λ m i j. in_each (λ y. In new y → ⊥) o.names o.apart m i (a.grows.kept m j)));
}

module _ (seen new : List (List ℕ)) (x : Element) (xs : List Element) (n : Name) (k : HasFieldKey x n) (a : Adds seen n.text new true) where
  later_once : KeyedOnce seen (x ∷ xs) → KeyedOnce new xs
  later_once o =
      let f = first_key o in
      record {
        names = f.names;
        keys = f.keys;
        once = f.once;
        apart = to_each (λ y. In new y → ⊥) f.names (λ m i j. elim (a.grows.sound m j) [ inl s ↦ in_each (λ y. In seen y → ⊥) f.names f.apart m i s | inr e ↦ f.alone (subst (In f.names) (sym e ∙ ap (λ (q : Name). q.text) (one_field_key k f.key)) i) ]);
      }

module _ (seen : List (List ℕ)) (xs : List Element) (i : ℕ) (x : Element) (h : i < length xs) (e : x ≡ get_or xs i x) (w : OnceFrom seen (drop i xs) xs) where
  here : KeyedOnce [] xs → KeyedOnce seen (x ∷ drop (i + 1) xs)
  here o = subst (KeyedOnce seen) (drop_next i xs x h e) (w.1 o)

  pub once_unnamed : ((n : Name) → HasFieldKey x n → ⊥) → KeyedOnce [] xs → ⊥
  once_unnamed none o = no_first seen x (drop (i + 1) xs) none (here o)

  pub once_twice : (new : List (List ℕ)) (n : Name) (b : Bool) → HasFieldKey x n → b ≡ false → Adds seen n.text new b → KeyedOnce [] xs → ⊥
  once_twice new n b k f a o = twice seen new x (drop (i + 1) xs) n k (subst (Adds seen n.text new) f a) (here o)

  pub once_next : (new : List (List ℕ)) (n : Name) (b : Bool) → HasFieldKey x n → b ≡ true → Adds seen n.text new b → OnceFrom new (drop (i + 1) xs) xs
  once_next new n b k f a =
      let y = subst (Adds seen n.text new) f a in
      ((λ o. w.0 (subst (KeyedOnce seen) (sym (drop_next i xs x h e)) (next_once seen new x (drop (i + 1) xs) n k y o))), (λ o. later_once seen new x (drop (i + 1) xs) n k y (here o)))
