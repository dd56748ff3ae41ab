-- What ranges give, and which names are new.
use Rattle.std.proofs.Common.{◌≡◌, ◌∙◌, ◌<◌, ◌≤◌, ◌+◌, ℕ, List, [], ◌∷◌, Option, true, false, length, get_or, drop, refl, sym, subst}
use Rattle.go_model.specs.declared.types.term.Term.{Term, Term-F}
use Rattle.go_model.specs.types.Terms.{Layer}
use Rattle.go_model.specs.types.Underlying.{under}
use Rattle.go_rules.specs.Environments.{Env}
use Rattle.go_rules.specs.Expressions.{array_itself, array_pointer, is_blank, IsString}
use Rattle.go_rules.specs.Operands.{IsTyped}
use Rattle.go_rules.specs.declared.operand.Operand.{Operand}
use Rattle.go_rules.proofs.OneKind.{no_truth, one_type}
use Rattle.go_rules.proofs.OneOperand.{has_once}
use Rattle.go_selectors.proofs.Lists.{drop_all, drop_next}
use Rattle.go_statement_rules.specs.Clauses.{Ranges, ranges_array, ranges_channel, ranges_map, ranges_slice, ranges_string}
use Rattle.go_statement_rules.specs.Statements.{IsNew, new_here, new_later}
use Rattle.go_syntax.specs.declared.expression.Expr.{Expr}
use Rattle.go_syntax.specs.declared.name.Name.{Name}
use Rattle.go_clauses.specs.Clauses.{RangesOver}
use Rattle.go_clauses.specs.inner.Levels.{RangesArray, RangesLevel, RangesValue}
use Rattle.go_rules.specs.Asks.{HasOperand}

module _ (E : Env) (o : Operand) (t : Term) (h : IsTyped o t) where
  of_array : (base : Term) → under E.table t ≡ Term-F.Pointer base → (l : Layer) → under E.table base ≡ l → (ts : List Term) → RangesArray l ts → Ranges E o ts
  of_array base i (Term-F.Array n e) j ts r = subst (Ranges E o) (sym r) (ranges_array h (array_pointer i j))
  of_array base i (Term-F.Plain b) j ts r = absurd r
  of_array base i (Term-F.Named n) j ts r = absurd r
  of_array base i (Term-F.Pointer e) j ts r = absurd r
  of_array base i (Term-F.Slice e) j ts r = absurd r
  of_array base i (Term-F.Map k e) j ts r = absurd r
  of_array base i (Term-F.Chan d e) j ts r = absurd r
  of_array base i (Term-F.Func g) j ts r = absurd r
  of_array base i (Term-F.Struct fs) j ts r = absurd r
  of_array base i (Term-F.Interface ms) j ts r = absurd r

  of_level : (l : Layer) → under E.table t ≡ l → (ts : List Term) → RangesLevel E l ts → Ranges E o ts
  of_level (Term-F.Array n e) i ts r = subst (Ranges E o) (sym r) (ranges_array h (array_itself i))
  of_level (Term-F.Pointer base) i ts r = of_array base i (under E.table base) refl ts r
  of_level (Term-F.Slice e) i ts r = subst (Ranges E o) (sym r) (ranges_slice h i)
  of_level (Term-F.Map k e) i ts r = subst (Ranges E o) (sym r) (ranges_map h i)
  of_level (Term-F.Chan d e) i ts r = subst (Ranges E o) (sym r.1) (ranges_channel h i r.0)
  of_level (Term-F.Plain b) i ts r = absurd r
  of_level (Term-F.Named n) i ts r = absurd r
  of_level (Term-F.Func g) i ts r = absurd r
  of_level (Term-F.Struct fs) i ts r = absurd r
  of_level (Term-F.Interface ms) i ts r = absurd r

module _ (E : Env) (o : Operand) where
  pub to_ranges : (ts : List Term) → RangesValue E o ts → Ranges E o ts
  to_ranges ts v = of_level E o v.0 v.1 (under E.table v.0) refl ts v.2

  pub in_ranges : ((n : Option ℕ) → IsString E o n → ⊥) → (ts : List Term) → Ranges E o ts → RangesValue E o ts
  in_ranges none ts (ranges_array {t = t} {e = e} h (array_itself i)) = (t, h, subst (λ (l : Layer). RangesLevel E l ts) (sym i) refl)
  in_ranges none ts (ranges_array {t = t} {e = e} h (array_pointer i j)) = (t, h, subst (λ (l : Layer). RangesLevel E l ts) (sym i) (subst (λ (l : Layer). RangesArray l ts) (sym j) refl))
  in_ranges none ts (ranges_slice {t = t} h i) = (t, h, subst (λ (l : Layer). RangesLevel E l ts) (sym i) refl)
  in_ranges none ts (ranges_string s) = absurd (none _ s)
  in_ranges none ts (ranges_map {t = t} h i) = (t, h, subst (λ (l : Layer). RangesLevel E l ts) (sym i) refl)
  in_ranges none ts (ranges_channel {t = t} h i r) = (t, h, subst (λ (l : Layer). RangesLevel E l ts) (sym i) (r, refl))

  -- the one type of the value tells what is underneath
  pub value_to : (t : Term) → IsTyped o t → (ts : List Term) → RangesLevel E (under E.table t) ts → RangesValue E o ts
  value_to t h ts r = (t, h, r)

  pub value_in : (t : Term) → IsTyped o t → (ts : List Term) → RangesValue E o ts → RangesLevel E (under E.table t) ts
  value_in t h ts v = subst (λ (u : Term). RangesLevel E (under E.table u) ts) (one_type v.1 h) v.2

  pub over_in : (e : Expr) → HasOperand E e o → (ts : List Term) → RangesOver E e ts → Ranges E o ts
  over_in e h ts r = subst (λ (q : Operand). Ranges E q ts) (has_once E r.1.is h.is) r.2

-- ---- new names

new_in : {n : Name} {ns : List Name} → is_blank n.text ≡ true → IsNew (n ∷ ns) → IsNew ns
new_in i (new_here j) = absurd (no_truth (sym i ∙ j))
new_in i (new_later h) = h

none_new : IsNew [] → ⊥
none_new h = elim h [ ]

-- a name in the rest is one of the whole, and a new one of the whole is in the rest
abbrev pub NewFrom : List Name → List Name → Type 0
NewFrom rest ns = (IsNew rest → IsNew ns) × (IsNew ns → IsNew rest)

pub new_begins : (ns : List Name) → NewFrom ns ns
new_begins ns = ((λ h. h), (λ h. h))

module _ (ns : List Name) (i : ℕ) (w : NewFrom (drop i ns) ns) where
  pub new_none : length ns ≤ i → IsNew ns → ⊥
  new_none h k = none_new (subst IsNew (drop_all i ns h) (w.1 k))

  module _ (n : Name) (h : i < length ns) (e : n ≡ get_or ns i n) where
    pub new_found : is_blank n.text ≡ false → IsNew ns
    new_found f = w.0 (subst IsNew (sym (drop_next i ns n h e)) (new_here f))

    pub new_passed : is_blank n.text ≡ true → NewFrom (drop (i + 1) ns) ns
    new_passed b = ((λ k. w.0 (subst IsNew (sym (drop_next i ns n h e)) (new_later k))), (λ k. new_in b (subst IsNew (drop_next i ns n h e) (w.1 k))))
