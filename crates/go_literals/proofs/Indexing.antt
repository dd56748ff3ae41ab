-- Elements of arrays and slices, element by element.
use Rattle.std.proofs.Common.{◌≡◌, ◌<◌, ◌≤◌, ◌+◌, length, get_or, drop, ℕ, zero, suc, List, [], ◌∷◌, refl, sym, ap, ◌∙◌, subst, Bool, true, false, ◌||◌, Option, Some, None, Result, arith}
use Rattle.std.specs.Prelude.{max, pos}
use Rattle.go_model.specs.constants.Constants.{is_representable}
use Rattle.go_model.specs.declared.constants.value.Basic.TheVariants as basic
use Rattle.go_model.specs.declared.constants.value.Value.TheVariants as value
use Rattle.go_model.specs.declared.types.term.Term.{Term}
use Rattle.go_rules.specs.Environments.{Env}
use Rattle.go_rules.specs.Expressions.{Below, ElementFits, Has, HasIndexed, indexed_none, indexed_more, indexed_keyed, IsIndex}
use Rattle.go_rules.specs.Nodes.{element_parts, optional, value as value_node}
use Rattle.go_rules.specs.declared.operand.Operand.{Operand}
use Rattle.go_rules.proofs.OneOperand.{has_once}
use Rattle.go_rules.proofs.OneResult.{one_index}
use Rattle.go_syntax.specs.declared.expression.Element.{Element, out-Element}
use Rattle.go_syntax.specs.declared.expression.ElementValue.{ElementValue, ElementValue-F, out-ElementValue}
use Rattle.go_syntax.specs.declared.expression.Expr.{Expr}
use Rattle.go_operations.specs.go_type_terms.Answers.{Types}
use Rattle.go_operations.specs.go_type_terms.Loudness.{AreLoud}
use Rattle.go_operations.specs.go_type_terms.declared.error.ExprError.{ExprError}
use Rattle.go_operations.proofs.go_type_terms_proofs.LoudTrees.{none_loud}
use Rattle.go_selectors.proofs.Lists.{drop_all, drop_next}
use Rattle.go_operations.proofs.Typed.{one_some}
use Rattle.go_operations.proofs.Walks.{Walk, set_out, walk_on, arrived}
use Rattle.go_literals.specs.Elements.{IndexedFits, IndexedFrom, IsKeyIndex, IsPlace, IsPlaceWithin, parts_of}
use Rattle.go_literals.proofs.Parts.{parts_join}
use Rattle.go_literals.proofs.ElementValues.{one_expr}

module _ (E : Env) where
  -- ---- places

  pub key_untyped : (v : ElementValue) (e : Expr) → out-ElementValue v ≡ ElementValue-F.Value e → (n : ℕ) → IsKeyIndex E v n → (o : Operand) × Has E e o
  key_untyped v e i n k = (k.1, subst (λ (d : Expr). Has E d k.1) (one_expr k.2 i) k.3)

  pub key_some : (v : ElementValue) (e : Expr) (o : Operand) (n : ℕ) → out-ElementValue v ≡ ElementValue-F.Value e → Has E e o → IsIndex E o (Some n) → IsKeyIndex E v n
  key_some v e o n i h k = (e, o, i, h, k)

  pub key_none : (v : ElementValue) (e : Expr) (o : Operand) → out-ElementValue v ≡ ElementValue-F.Value e → Has E e o → ((n : ℕ) → IsIndex E o (Some n) → ⊥) → (n : ℕ) → IsKeyIndex E v n → ⊥
  key_none v e o i h none n k = none n (subst (λ (q : Operand). IsIndex E q (Some n)) (has_once E (subst (λ (d : Expr). Has E d k.1) (one_expr k.2 i) k.3) h) k.4)

  pub key_bare : (v : ElementValue) → ((e : Expr) → out-ElementValue v ≡ ElementValue-F.Value e → ⊥) → (n : ℕ) → IsKeyIndex E v n → ⊥
  key_bare v none n k = none k.0 k.2

  key_once : (v : ElementValue) (m n : ℕ) → IsKeyIndex E v m → IsKeyIndex E v n → m ≡ n
  key_once v m n h k = one_some (one_index (subst (λ (q : Operand). IsIndex E q (Some m)) (has_once E (subst (λ (d : Expr). Has E d h.1) (one_expr h.2 k.2) h.3) k.3) h.4) k.4)

  place_once : (key : Option ElementValue) (next m n : ℕ) → IsPlace E key next m → IsPlace E key next n → m ≡ n
  place_once None next m n h k = h.0 ∙ sym k.0
  place_once (Some v) next m n h k = key_once v m n h k

  pub place_by_key : (k : Option ElementValue) (v : ElementValue) → k ≡ Some v → (next : ℕ) (r : Result (ℕ × Bool) ExprError) → Types {A = ℕ} E (IsKeyIndex E v) (value_node v ∷ []) r → Types {A = ℕ} E (IsPlace E k next) (optional value_node k) r
  place_by_key k v e next r t = subst (λ (x : Option ElementValue). Types {A = ℕ} E (IsPlace E x next) (optional value_node x) r) (sym e) t

  pub place_out : (k : Option ElementValue) (limit : Option ℕ) (next at : ℕ) → IsPlace E k next at → (Below (Some at) limit → ⊥) → (n : ℕ) → IsPlaceWithin E limit next k n → ⊥
  place_out k limit next at h none n p = none (subst (λ (m : ℕ). Below (Some m) limit) (place_once k next n at p.0 h) p.1)

  -- ---- elements

  module _ (t : Term) (limit : Option ℕ) where
    abbrev Onward : ℕ × ℕ → List Element → ℕ → Type 0
    Onward s xs r = IndexedFrom E t limit s.0 s.1 xs r

    abbrev pub Indexed : List Element → ℕ → ℕ → List Element → Bool → Type 0
    Indexed whole next greatest rest loud = Walk E element_parts Onward (0, 0) whole (next, greatest) rest loud

    indexed_by : (next at : ℕ) (x : Element) (xs : List Element) (n : ℕ) (key : Option ElementValue) → (out-Element x).key ≡ key → IsPlaceWithin E limit next key at → ElementFits E t (out-Element x).value → HasIndexed E t limit (suc at) xs n → HasIndexed E t limit next (x ∷ xs) (max (suc at) n)
    indexed_by next at x xs n None k p f h = subst (λ (m : ℕ). HasIndexed E t limit next (x ∷ xs) (max (suc m) n)) (sym p.0.0) (indexed_more k p.0.1 (subst (λ (m : ℕ). Below (Some m) limit) p.0.0 p.1) f (subst (λ (m : ℕ). HasIndexed E t limit (suc m) xs n) p.0.0 h))
    indexed_by next at x xs n (Some v) k p f h = indexed_keyed k p.0.2 p.0.3 p.0.4 p.1 f h

    record Split (next : ℕ) (x : Element) (xs : List Element) (n : ℕ) : Type 0 where
      at : ℕ
      fits : IndexedFits E t limit next x at
      more : ℕ
      rest : HasIndexed E t limit (suc at) xs more
      whole : n ≡ max (suc at) more

    split : {next : ℕ} {x : Element} {xs : List Element} {n : ℕ} → HasIndexed E t limit next (x ∷ xs) n → Split next x xs n
    split {next = next} (indexed_more k r b f h) = record { at = next; fits = (subst (λ (key : Option ElementValue). IsPlaceWithin E limit next key next) (sym k) ((refl, r), b), f); more = _; rest = h; whole = refl }
    split {next = next} (indexed_keyed {at = at} k i h j b f m) = record { at = at; fits = (subst (λ (key : Option ElementValue). IsPlaceWithin E limit next key at) (sym k) ((_, _, i, h, j), b), f); more = _; rest = m; whole = refl }

    max_max : (a b c : ℕ) → max (max a b) c ≡ max a (max b c)
    max_max a b c = grind arith

    joins : (next at greatest : ℕ) (x : Element) (xs : List Element) → IndexedFits E t limit next x at → (r : ℕ) → Onward (suc at, max greatest (suc at)) xs r → Onward (next, greatest) (x ∷ xs) r
    joins next at greatest x xs f r h = (max (suc at) h.0, indexed_by next at x xs h.0 (out-Element x).key refl f.0 f.1 h.1, h.2 ∙ max_max greatest (suc at) h.0)

    splits : (next at greatest : ℕ) (x : Element) (xs : List Element) → IndexedFits E t limit next x at → (r : ℕ) → Onward (next, greatest) (x ∷ xs) r → Onward (suc at, max greatest (suc at)) xs r
    splits next at greatest x xs f r h =
        let s = split h.1 in
        let e = place_once (out-Element x).key next s.at at s.fits.0.0 f.0.0 in
        (s.more, subst (λ (m : ℕ). HasIndexed E t limit (suc m) xs s.more) e s.rest, h.2 ∙ ap (max greatest) (s.whole ∙ ap (λ m. max (suc m) s.more) e) ∙ sym (max_max greatest (suc at) s.more))

    pub indexed_begin : (xs : List Element) → Indexed xs 0 0 xs false
    indexed_begin xs = set_out E element_parts Onward (0, 0) xs

    pub indexed_on : (whole : List Element) (next at greatest : ℕ) (x : Element) (rest : List Element) (loud b : Bool) → IndexedFits E t limit next x at → AreLoud E (parts_of x) b → Indexed whole next greatest (x ∷ rest) loud → Indexed whole (suc at) (max greatest (suc at)) rest (loud || b)
    indexed_on whole next at greatest x rest loud b f l w = walk_on E element_parts Onward (0, 0) whole (next, greatest) (suc at, max greatest (suc at)) x rest loud b (parts_of x) (parts_join E x rest) l (joins next at greatest x rest f) (splits next at greatest x rest f) w

    zero_max : (n : ℕ) → n ≡ max 0 n
    zero_max n = grind arith

    max_zero : (n : ℕ) → n ≡ max n 0
    max_zero n = grind arith

    pub indexed_end : (whole : List Element) (next greatest : ℕ) (loud : Bool) → Indexed whole next greatest [] loud → HasIndexed E t limit 0 whole greatest × AreLoud E (element_parts whole) loud
    indexed_end whole next greatest loud w =
        let a = arrived E element_parts Onward (0, 0) whole (next, greatest) loud greatest (0, indexed_none, max_zero greatest) (none_loud E) w in
        (subst (HasIndexed E t limit 0 whole) (sym (a.0.2 ∙ sym (zero_max a.0.0))) a.0.1, a.1)

    indexed_all : (whole : List Element) (next greatest : ℕ) (i : ℕ) (x : Element) (loud : Bool) → i < length whole → x ≡ get_or whole i x → Indexed whole next greatest (drop i whole) loud → Indexed whole next greatest (x ∷ drop (i + 1) whole) loud
    indexed_all whole next greatest i x loud h e w = subst (λ (xs : List Element). Indexed whole next greatest xs loud) (drop_next i whole x h e) w

    pub indexed_next : (whole : List Element) (next at later greatest : ℕ) (i : ℕ) (x : Element) (loud b : Bool) → i < length whole → x ≡ get_or whole i x → later ≡ suc at → IndexedFits E t limit next x at → AreLoud E (parts_of x) b
        → Indexed whole next greatest (drop i whole) loud → Indexed whole later (max greatest later) (drop (i + 1) whole) (loud || b)
    indexed_next whole next at later greatest i x loud b h e s f l w = subst (λ (n : ℕ). Indexed whole n (max greatest n) (drop (i + 1) whole) (loud || b)) (sym s) (indexed_on whole next at greatest x (drop (i + 1) whole) loud b f l (indexed_all whole next greatest i x loud h e w))

    pub indexed_first : (whole : List Element) (next greatest : ℕ) (i : ℕ) (x : Element) (loud : Bool) → i < length whole → x ≡ get_or whole i x → Indexed whole next greatest (drop i whole) loud → (n : ℕ) → HasIndexed E t limit 0 whole n → (at : ℕ) × IndexedFits E t limit next x at
    indexed_first whole next greatest i x loud h e w n k = let s = split ((indexed_all whole next greatest i x loud h e w).from n (n, k, zero_max n)).1 in (s.at, s.fits)

    pub indexed_done : (whole : List Element) (next greatest : ℕ) (i : ℕ) (loud : Bool) → length whole ≤ i → Indexed whole next greatest (drop i whole) loud → HasIndexed E t limit 0 whole greatest × AreLoud E (element_parts whole) loud
    indexed_done whole next greatest i loud h w = indexed_end whole next greatest loud (subst (λ (xs : List Element). Indexed whole next greatest xs loud) (drop_all i whole h) w)
