-- A number stands in trees exactly where it does in others that have the parts of one in place of it, if that is none itself.
use Rattle.std.proofs.Common.{◌≡◌, Bool, true, false, List, [], ◌∷◌, ◌++◌, refl, sym, subst, ◌⊎◌, inl, inr}
use Rattle.go_base.specs.Lists.{Has}
use Rattle.go_base.proofs.Members.{has_split}
use Rattle.go_beyond.specs.Numbers.{HasNumberIn, IsNumber, IsNumberHere}
use Rattle.go_exposed.specs.BeyondProfile.{HasNumber}
use Rattle.go_rules.specs.Nodes.{Node, Stands, stands_here, stands_in, expression, post, value, type, signature, parts}
use Rattle.go_selectors.specs.Answers.{Decides}
use Rattle.go_syntax.specs.declared.expression.Expr.{Expr}
use Rattle.go_typings.specs.DeclarationNodes.{nodes}
use Rattle.go_typings.specs.Declarations.{Form}

has_left : {A : Type 0} (xs ys : List A) (x : A) → Has xs x → Has (xs ++ ys) x
has_left [] ys x h = absurd h
has_left (y ∷ xs) ys x (inl e) = inl e
has_left (y ∷ xs) ys x (inr h) = inr (has_left xs ys x h)

has_right : {A : Type 0} (xs ys : List A) (x : A) → Has ys x → Has (xs ++ ys) x
has_right [] ys x h = h
has_right (y ∷ xs) ys x h = inr (has_right xs ys x h)

here_or_in : {a c : Node} → Stands a c → (a ≡ c) ⊎ ((b : Node) × Has (parts a) b × Stands b c)
here_or_in stands_here = inl refl
here_or_in (stands_in {b = b} h s) = inr (b, h, s)

-- the declaration has a number exactly where the trees have one
pub record SameNumbers (f : Form) (ns : List Node) : Type 0 where
  pub of : HasNumberIn ns → HasNumber f
  pub to : HasNumber f → HasNumberIn ns

pub numbers_begin : (f : Form) (ns : List Node) → ns ≡ nodes f → SameNumbers f ns
numbers_begin f ns e = record {
  of = λ h. record { node = h.node; has = subst (λ (ms : List Node). Has ms h.node) e h.has; expr = h.expr; stands = h.stands; literal = h.number.literal; is = h.number.is; beyond = h.number.beyond };
  to = λ h. record { node = h.node; has = subst (λ (ms : List Node). Has ms h.node) (sym e) h.has; expr = h.expr; stands = h.stands; number = record { literal = h.literal; is = h.is; beyond = h.beyond } };
}

module _ (f : Form) (old rest : List Node) (a : Node) (w : SameNumbers f old) (e : old ≡ rest ++ a ∷ []) where
  last_has : Has old a
  last_has = subst (λ (ms : List Node). Has ms a) (sym e) (has_right rest (a ∷ []) a (inl refl))

  number_of : (a : Node) → IsNumberHere a → (x : Expr) × (a ≡ expression x) × IsNumber x
  number_of (expression x) h = (x, refl, h)
  number_of (post p) h = absurd h
  number_of (value v) h = absurd h
  number_of (type t) h = absurd h
  number_of (signature g) h = absurd h

  pub number_found : (b : Bool) → b ≡ true → Decides b (IsNumberHere a) → HasNumber f
  number_found b t d =
      let h = number_of a (subst (λ (z : Bool). Decides z (IsNumberHere a)) t d) in
      w.of (record { node = a; has = last_has; expr = h.0; stands = subst (λ (z : Node). Stands a z) h.1 stands_here; number = h.2 })

  module _ (new : List Node) (is : new ≡ rest ++ parts a) (no : IsNumberHere a → ⊥) where
    moved : (n : Node) (x : Expr) → Has old n → Stands n (expression x) → IsNumber x → HasNumberIn new
    moved n x h s k = elim (has_split rest (a ∷ []) n (subst (λ (ms : List Node). Has ms n) e h)) [
      | inl i ↦ record { node = n; has = subst (λ (ms : List Node). Has ms n) (sym is) (has_left rest (parts a) n i); expr = x; stands = s; number = k }
      | inr i ↦ elim i [
        | inl q ↦ elim (here_or_in (subst (λ (z : Node). Stands z (expression x)) (sym q) s)) [
          | inl p ↦ absurd (no (subst IsNumberHere (sym p) k))
          | inr p ↦ record { node = p.0; has = subst (λ (ms : List Node). Has ms p.0) (sym is) (has_right rest (parts a) p.0 p.1); expr = x; stands = p.2; number = k }
        ]
        | inr z ↦ absurd z
      ]
    ]

    back : HasNumberIn new → HasNumberIn old
    back h = elim (has_split rest (parts a) h.node (subst (λ (ms : List Node). Has ms h.node) is h.has)) [
      | inl i ↦ record { node = h.node; has = subst (λ (ms : List Node). Has ms h.node) (sym e) (has_left rest (a ∷ []) h.node i); expr = h.expr; stands = h.stands; number = h.number }
      | inr i ↦ record { node = a; has = last_has; expr = h.expr; stands = stands_in i h.stands; number = h.number }
    ]

    pub numbers_go_on : SameNumbers f new
    numbers_go_on = record { of = λ h. w.of (back h); to = λ h. (let k = w.to h in moved k.node k.expr k.has k.stands k.number) }

  pub numbers_next : (new : List Node) (b : Bool) → new ≡ rest ++ parts a → b ≡ false → Decides b (IsNumberHere a) → SameNumbers f new
  numbers_next new b is q d = numbers_go_on new is (subst (λ (z : Bool). Decides z (IsNumberHere a)) q d)

pub numbers_none : (f : Form) (ns : List Node) → SameNumbers f ns → ns ≡ [] → HasNumber f → ⊥
numbers_none f ns w e h = let k = w.to h in subst (λ (ms : List Node). Has ms k.node) e k.has
