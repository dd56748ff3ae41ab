-- The function literals of trees that are taken one by one, their parts in place of them.
use Rattle.std.proofs.Common.{◌≡◌, ◌⊎◌, List, [], ◌∷◌, ◌++◌, Option, None, Some, sym, ap, subst, inl, inr}
use Rattle.go_base.specs.Lists.{Has as In}
use Rattle.go_literal_blocks.specs.Literals.{AreLiteralsOf, Form, HasLiteral, listed, literal_here}
use Rattle.go_rules.specs.Nodes.{Node, Stands, parts, stands_here, stands_in}
use Rattle.go_selectors.proofs.Lists.{has-back, has-last, has-left, has-right, has-split}

-- those of all trees are found, or stand in those that are left
pub record Gathers (all : List Node) (found : List Form) (left : List Node) : Type 0 where
  pub to : (l : Form) → In found l ⊎ HasLiteral left l → HasLiteral all l
  pub from : (l : Form) → HasLiteral all l → In found l ⊎ HasLiteral left l

pub gathers_begin : (all : List Node) (found : List Form) → found ≡ [] → Gathers all found all
gathers_begin all found e = record {
  to = λ l h. elim h [ inl i ↦ absurd (subst (λ (ls : List Form). In ls l) e i) | inr k ↦ k ];
  from = λ l h. inr h;
}

same_some : {l m : Form} → Some l ≡ Some m → l ≡ m
same_some e = cc

none_some : {l : Form} → None ≡ Some l → ⊥
none_some e = absurd (cc)

in_listed : (x : Option Form) (l : Form) → x ≡ Some l → In (listed x) l
in_listed None l e = absurd (none_some e)
in_listed (Some m) l e = inl (same_some e)

of_listed : (x : Option Form) (l : Form) → In (listed x) l → x ≡ Some l
of_listed None l h = absurd h
of_listed (Some m) l (inl e) = ap Some e
of_listed (Some m) l (inr h) = absurd h

module _ (rest : List Node) (a : Node) where
  through : (l : Form) (n : Node) → Stands a n → literal_here n ≡ Some l → In (listed (literal_here a)) l ⊎ HasLiteral (rest ++ parts a) l
  through l n stands_here e = inl (in_listed (literal_here a) l e)
  through l n (stands_in {b = p} i s) e = inr (p, has-right rest (parts a) p i, n, s, e)

  -- a literal in a tree is the tree, or stands in one of its parts
  apart : (l : Form) → HasLiteral (rest ++ a ∷ []) l → In (listed (literal_here a)) l ⊎ HasLiteral (rest ++ parts a) l
  apart l (at, i, n, s, e) = elim (has-back rest a at i) [
    | inl j ↦ inr (at, has-left rest (parts a) at j, n, s, e)
    | inr same ↦ through l n (subst (λ (x : Node). Stands x n) (sym same) s) e
  ]

  together : (l : Form) → In (listed (literal_here a)) l ⊎ HasLiteral (rest ++ parts a) l → HasLiteral (rest ++ a ∷ []) l
  together l (inl i) = (a, has-last rest a, a, stands_here, of_listed (literal_here a) l i)
  together l (inr (at, i, n, s, e)) = elim (has-split rest (parts a) at i) [
    | inl j ↦ (at, has-left rest (a ∷ []) at j, n, s, e)
    | inr j ↦ (a, has-last rest a, n, stands_in j s, e)
  ]

  pub gathers_next : (all left new : List Node) (found more : List Form) → left ≡ rest ++ a ∷ [] → new ≡ rest ++ parts a → more ≡ found ++ listed (literal_here a) → Gathers all found left → Gathers all more new
  gathers_next all left new found more e f g h =
      subst (λ (ls : List Form). Gathers all ls new) (sym g) (subst (λ (ns : List Node). Gathers all (found ++ listed (literal_here a)) ns) (sym f) (record {
        to = λ l k. elim k [
          | inl i ↦ elim (has-split found (listed (literal_here a)) l i) [ inl j ↦ h.to l (inl j) | inr j ↦ h.to l (inr (subst (λ (ns : List Node). HasLiteral ns l) (sym e) (together l (inl j)))) ]
          | inr k ↦ h.to l (inr (subst (λ (ns : List Node). HasLiteral ns l) (sym e) (together l (inr k))))
        ];
        from = λ l k. elim (h.from l k) [
          | inl i ↦ inl (has-left found (listed (literal_here a)) l i)
          | inr m ↦ elim (apart l (subst (λ (ns : List Node). HasLiteral ns l) e m)) [ inl i ↦ inl (has-right found (listed (literal_here a)) l i) | inr o ↦ inr o ]
        ];
      }))

pub gathers_done : (all left : List Node) (found : List Form) → left ≡ [] → Gathers all found left → AreLiteralsOf all found
gathers_done all left found e h l = (
  (λ i. h.to l (inl i)),
  (λ k. elim (h.from l k) [ inl i ↦ i | inr m ↦ absurd (subst (λ (ns : List Node). HasLiteral ns l) e m).1 ]),
)
