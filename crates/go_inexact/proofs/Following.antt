-- What has to be a constant for an expression to be one.
use Rattle.std.proofs.Common.{◌≡◌, Bool, true, false, List, [], ◌∷◌, ◌++◌, map, refl, sym, ap, ◌∙◌, subst, inl, inr, append-nil}
use Rattle.std.specs.Prelude.{if◌then◌else◌, is_some, MatchOption, Option, Some, None}
use denote.Ref.{Bor}
use Rattle.go_base.specs.Lists.{Each, Has}
use Rattle.go_exposed.specs.BeyondProfile.{MayBeConstant, may_converted, may_itself, may_operated, operands}
use Rattle.go_inexact.proofs.Arguments.{argument_same, last_same}
use Rattle.go_inexact.specs.Chains.{Converts, IsTypeForm}
use Rattle.go_inexact.specs.Maybe.{Follows, FollowsTree, MayBe, is_operated}
use Rattle.go_inexact.specs.inner.Added.{AddsConverted}
use Rattle.go_inexact.specs.inner.Constants.{IsConstant}
use Rattle.go_model.specs.declared.constants.value.Value.{Value}
use Rattle.go_model.specs.declared.types.package.ConstTerm.{ConstTerm}
use Rattle.go_model.specs.declared.types.term.Term.{Term}
use Rattle.go_rules.specs.Environments.{Env}
use Rattle.go_rules.specs.Expressions.{Has as HasOperand, HasForm, IsCall, has_operand, has_type, unary_operator}
use Rattle.go_rules.specs.Nodes.{ExprLayer, Node, expression, expression_parts}
use Rattle.go_rules.specs.Operands.{constant_of, type_name}
use Rattle.go_rules.specs.declared.operand.Operand.{Operand}
use Rattle.go_rules.specs.declared.operand.Mode.TheVariants as mode
use Rattle.go_rules.proofs.LocalParts.{each_both, each_left, each_right}
use Rattle.go_rules.proofs.OneOperand.{has_once}
use Rattle.go_selectors.specs.Answers.{Decides}
use Rattle.go_syntax.specs.declared.expression.Expr.{Expr, Expr-F, out-Expr}
use Rattle.go_syntax.specs.declared.expression.Post.{Post, out-Post}
use Rattle.go_syntax.specs.declared.types.«Type».{«Type» as Typ}

not_some : {A B : Type 0} {x : A} {xs : List A} → ◌≡◌ {A = List A} [] (x ∷ xs) → B
not_some e = absurd (cc)

-- ---- constants by themselves

not_constant : {t : Term} {c : ConstTerm} {v : Value} → type_name t ≡ constant_of c v → ⊥
not_constant e = let m : mode.TypeName ≡ mode.Constant = ap (λ (o : Operand). o.mode) e in absurd (cc)

module _ (E : Env) where
  pub constant_is : (e : Expr) (o : Operand) (r : Option (Bor ConstTerm × Bor Value)) → HasOperand E e o
      → MatchOption r ((c : ConstTerm) (v : Value) → o ≡ constant_of c v → ⊥) (λ p. o ≡ constant_of p.0.now p.1.now) → Decides (is_some r) (IsConstant E e)
  constant_is e o None h m = λ k. m k.term k.value (has_once E h k.has)
  constant_is e o (Some p) h m = record { term = p.0.now; value = p.1.now; has = subst (HasOperand E e) m h }

  pub constant_decides : (e : Expr) (o : Operand) (r : Option (Bor ConstTerm × Bor Value)) (b : Bool) → HasOperand E e o
      → MatchOption r ((c : ConstTerm) (v : Value) → o ≡ constant_of c v → ⊥) (λ p. o ≡ constant_of p.0.now p.1.now) → b ≡ is_some r → Decides b (IsConstant E e)
  constant_decides e o r b h m i = subst (λ (z : Bool). Decides z (IsConstant E e)) (sym i) (constant_is e o r h m)

  pub untyped_constant : (e : Expr) → ((o : Operand) → HasOperand E e o → ⊥) → IsConstant E e → ⊥
  untyped_constant e none k = none (constant_of k.term k.value) k.has

  -- ---- a type by its form is no constant

  type_form : {t : Typ} {o : Operand} → HasForm E (Expr-F.«Expr::Type» t) o → (u : Term) × (type_name u ≡ o)
  type_form (has_type {u = u} h) = (u, refl)

  type_operand : {e : Expr} {o : Operand} → IsTypeForm e → HasOperand E e o → (u : Term) × (type_name u ≡ o)
  type_operand {o = o} k (has_operand h w) = type_form (subst (λ (l : ExprLayer). HasForm E l o) k.is h)

  not_primary : {e f : Expr} {ps : List Post} → IsTypeForm e → out-Expr e ≡ Expr-F.Primary f ps → ⊥
  not_primary {f = f} {ps = ps} k q = let j : Expr-F.«Expr::Type» k.form ≡ Expr-F.Primary f ps = sym k.is ∙ q in absurd (cc)

  no_operands : {e x : Expr} {xs : List Expr} → IsTypeForm e → operands (out-Expr e) ≡ x ∷ xs → ⊥
  no_operands k q = not_some (sym (ap operands k.is) ∙ q)

  type_not : {e : Expr} → IsTypeForm e → MayBeConstant E e → ⊥
  type_not k (may_itself h) = not_constant (type_operand k h).1
  type_not k (may_operated q m) = no_operands k q
  type_not k (may_converted before c q h s u a m) = not_primary k q

-- ---- what was added

abbrev pub FollowsBy : Env → Node → List Node → Type 0
FollowsBy E a ns = (MayBe E a → Each (MayBe E) ns) × (Each (MayBe E) ns → MayBe E a)

each_mapped : (E : Env) (xs : List Expr) → ((y : Expr) → Has xs y → MayBeConstant E y) → Each (MayBe E) (map expression xs)
each_mapped E [] f = tt
each_mapped E (x ∷ xs) f = (f x (inl refl), each_mapped E xs (λ y h. f y (inr h)))

mapped_has : (E : Env) (xs : List Expr) → Each (MayBe E) (map expression xs) → (y : Expr) → Has xs y → MayBeConstant E y
mapped_has E [] k y h = absurd h
mapped_has E (x ∷ xs) k y (inl e) = subst (MayBeConstant E) e k.0
mapped_has E (x ∷ xs) k y (inr h) = mapped_has E xs k.1 y h

-- an expression that is made of others has some, which are its parts
pub record IsMade (l : ExprLayer) : Type 0 where
  pub first : Expr
  pub others : List Expr
  pub applied : operands l ≡ first ∷ others
  pub written : expression_parts l ≡ map expression (first ∷ others)

no_made : {A : Type 0} → false ≡ true → A
no_made e = absurd (cc)

no_unmade : {A : Type 0} → true ≡ false → A
no_unmade e = absurd (cc)

prefixed : (b : Bool) (x : Expr) → b ≡ true → (if b then x ∷ [] else []) ≡ x ∷ []
prefixed true x e = refl
prefixed false x e = no_made e

made : (l : ExprLayer) → is_operated l ≡ true → IsMade l
made (Expr-F.Or x xs) e = record { first = x; others = xs; applied = refl; written = refl }
made (Expr-F.And x xs) e = record { first = x; others = xs; applied = refl; written = refl }
made (Expr-F.Compare x ops xs) e = record { first = x; others = xs; applied = refl; written = refl }
made (Expr-F.Sum x ops xs) e = record { first = x; others = xs; applied = refl; written = refl }
made (Expr-F.Product x ops xs) e = record { first = x; others = xs; applied = refl; written = refl }
made (Expr-F.Prefix op x) e = record { first = x; others = []; applied = prefixed (is_some (unary_operator op)) x e; written = refl }
made (Expr-F.«Expr::Paren» x) e = record { first = x; others = []; applied = refl; written = refl }
made (Expr-F.Primary x ps) e = no_made e
made (Expr-F.«Expr::Literal» l) e = no_made e
made (Expr-F.Name n) e = no_made e
made (Expr-F.FuncLit g body) e = no_made e
made (Expr-F.Composite t xs) e = no_made e
made (Expr-F.CompositeArray t xs) e = no_made e
made (Expr-F.«Expr::Type» t) e = no_made e
made (Expr-F.ParenReceiveChan t) e = no_made e

-- one that isn't has none
unmade_prefix : (b : Bool) (x : Expr) → b ≡ false → (if b then x ∷ [] else []) ≡ []
unmade_prefix true x e = no_unmade e
unmade_prefix false x e = refl

unmade : (l : ExprLayer) → is_operated l ≡ false → operands l ≡ []
unmade (Expr-F.Or x xs) e = no_unmade e
unmade (Expr-F.And x xs) e = no_unmade e
unmade (Expr-F.Compare x ops xs) e = no_unmade e
unmade (Expr-F.Sum x ops xs) e = no_unmade e
unmade (Expr-F.Product x ops xs) e = no_unmade e
unmade (Expr-F.Prefix op x) e = unmade_prefix (is_some (unary_operator op)) x e
unmade (Expr-F.«Expr::Paren» x) e = no_unmade e
unmade (Expr-F.Primary x ps) e = refl
unmade (Expr-F.«Expr::Literal» l) e = refl
unmade (Expr-F.Name n) e = refl
unmade (Expr-F.FuncLit g body) e = refl
unmade (Expr-F.Composite t xs) e = refl
unmade (Expr-F.CompositeArray t xs) e = refl
unmade (Expr-F.«Expr::Type» t) e = refl
unmade (Expr-F.ParenReceiveChan t) e = refl

same_operand : {x y : Expr} {ps qs : List Post} → ◌≡◌ {A = ExprLayer} (Expr-F.Primary x ps) (Expr-F.Primary y qs) → x ≡ y
same_operand e = cc

same_posts : {x y : Expr} {ps qs : List Post} → ◌≡◌ {A = ExprLayer} (Expr-F.Primary x ps) (Expr-F.Primary y qs) → ps ≡ qs
same_posts e = cc

module _ (E : Env) (e : Expr) (old new : List Node) where
  -- it is a constant by itself
  pub follows_itself : (b : Bool) → b ≡ true → Decides b (IsConstant E e) → new ≡ old → Follows E e old new true
  follows_itself b q d f =
      let k : IsConstant E e = subst (λ (z : Bool). Decides z (IsConstant E e)) q d in
      ([], f ∙ sym (append-nil old), (λ m. tt), (λ m. may_itself k.has))

  module _ (not_itself : IsConstant E e → ⊥) where
    may_parts : (m : IsMade (out-Expr e)) → MayBeConstant E e → Each (MayBe E) (map expression (m.first ∷ m.others))
    may_parts m (may_itself {c = c} {v = v} h) = absurd (not_itself (record { term = c; value = v; has = h }))
    may_parts m (may_operated {x = x} {xs = xs} q k) = each_mapped E (m.first ∷ m.others) (λ y h. k y (subst (λ (zs : List Expr). Has zs y) (sym m.applied ∙ q) h))
    may_parts m (may_converted before c q h s u a k) = not_some (sym (ap operands q) ∙ m.applied)

    pub follows_operated : is_operated (out-Expr e) ≡ true → new ≡ old ++ expression_parts (out-Expr e) → Follows E e old new true
    follows_operated o f =
        let m = made (out-Expr e) o in
        (map expression (m.first ∷ m.others), f ∙ ap (λ (ns : List Node). old ++ ns) m.written, may_parts m, (λ k. may_operated m.applied (λ y h. mapped_has E (m.first ∷ m.others) k y h)))

    module _ (o : is_operated (out-Expr e) ≡ false) where
      no_parts : {x : Expr} {xs : List Expr} → operands (out-Expr e) ≡ x ∷ xs → ⊥
      no_parts q = not_some (sym (unmade (out-Expr e) o) ∙ q)

      -- it may be a constant only by a conversion
      by_conversion : MayBeConstant E e → (x : Expr) × Converts E e x × MayBeConstant E x
      by_conversion (may_itself {c = c} {v = v} h) = absurd (not_itself (record { term = c; value = v; has = h }))
      by_conversion (may_operated q k) = absurd (no_parts q)
      by_conversion (may_converted {f = f} {x = x} {t = t} {b = b} before c q h s u a k) =
          (x, record { operand = f; before = before; call = c; is = q; argument = a; basic = record { type = t; is = (h, s); basic = b; under_it = u } }, k)

      converts_same : {x y : Expr} → Converts E e x → Converts E e y → x ≡ y
      converts_same {x = x} {y = y} a b =
          let p = last_same a.before b.before a.call b.call (same_posts (sym a.is ∙ b.is)) in
          argument_same a.argument (subst (λ (z : Post). IsCall (out-Post z) (y ∷ []) false) (sym p.1) b.argument)

      pub follows_converted : (b : Bool) → AddsConverted E e old new b → Follows E e old new b
      follows_converted true k = (
        expression k.0 ∷ [],
        k.1,
        (λ m. let w = by_conversion m in (subst (MayBeConstant E) (converts_same w.1 k.2) w.2, tt)),
        (λ m. may_converted k.2.before k.2.call k.2.is k.2.basic.is.0 k.2.basic.is.1 k.2.basic.under_it k.2.argument m.0),
      )
      follows_converted false k = λ m. let w = by_conversion m in type_not E (k w.0 w.1) w.2

pub follows_tree : (E : Env) (e : Expr) (old new : List Node) (b : Bool) → Follows E e old new b → FollowsTree E (expression e) old new b
follows_tree E e old new true k = k
follows_tree E e old new false k = k

-- ---- trees one by one

module _ (E : Env) (e : Expr) where
  -- the expression may be a constant exactly where each of the trees may
  pub record SameMaybe (ns : List Node) : Type 0 where
    pub to : MayBeConstant E e → Each (MayBe E) ns
    pub of : Each (MayBe E) ns → MayBeConstant E e

  pub maybe_begins : (old ns : List Node) → old ≡ [] → ns ≡ old ++ expression e ∷ [] → SameMaybe ns
  maybe_begins old ns q f =
      let g : ns ≡ expression e ∷ [] = f ∙ ap (λ (z : List Node). z ++ expression e ∷ []) q in
      record { to = λ m. subst (Each (MayBe E)) (sym g) (m, tt); of = λ k. (let j : Each (MayBe E) (expression e ∷ []) = subst (Each (MayBe E)) g k in j.0) }

  module _ (old rest new : List Node) (a : Node) (w : SameMaybe old) (q : old ≡ rest ++ a ∷ []) where
    pub maybe_next : (b : Bool) → b ≡ true → FollowsTree E a rest new b → SameMaybe new
    maybe_next b t f = by (subst (FollowsTree E a rest new) t f)
      where
        by : FollowsTree E a rest new true → SameMaybe new
        by k = record {
          to = λ m. (let j : Each (MayBe E) (rest ++ a ∷ []) = subst (Each (MayBe E)) q (w.to m) in
              subst (Each (MayBe E)) (sym k.1) (each_both (MayBe E) rest k.0 (each_left (MayBe E) rest (a ∷ []) j) (k.2 (each_right (MayBe E) rest (a ∷ []) j).0)));
          of = λ m. (let j : Each (MayBe E) (rest ++ k.0) = subst (Each (MayBe E)) k.1 m in
              w.of (subst (Each (MayBe E)) (sym q) (each_both (MayBe E) rest (a ∷ []) (each_left (MayBe E) rest k.0 j) (k.3 (each_right (MayBe E) rest k.0 j), tt))));
        }

    pub maybe_not : (b : Bool) → b ≡ false → FollowsTree E a rest new b → MayBeConstant E e → ⊥
    maybe_not b t f m =
        let none : MayBe E a → ⊥ = subst (FollowsTree E a rest new) t f in
        let j : Each (MayBe E) (rest ++ a ∷ []) = subst (Each (MayBe E)) q (w.to m) in
        none (each_right (MayBe E) rest (a ∷ []) j).0

  pub maybe_done : (ns : List Node) → SameMaybe ns → ns ≡ [] → MayBeConstant E e
  maybe_done ns w q = w.of (subst (Each (MayBe E)) (sym q) tt)
