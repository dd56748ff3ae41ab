-- Whether trees are loud, by their parts.
use Rattle.std.proofs.Common.{◌≡◌, List, [], ◌∷◌, ◌++◌, ◌⊎◌, inl, inr, refl, subst, Bool, true, false, ◌||◌}
use Rattle.go_base.specs.Lists.{Has as In}
use Rattle.go_usability.proofs.go_selectors_proofs.Lists.{has-left, has-right, has-split}
use Rattle.go_syntax.specs.declared.expression.Expr.{Expr}
use Rattle.go_rules.specs.Environments.{Env}
use Rattle.go_rules.specs.Nodes.{Node, Stands, stands_here, stands_in, parts, expression}
use Rattle.go_type_terms.specs.Loudness.{AreLoud, Loud, loud_receive, loud_call, Quiet}

-- how a tree stands in another
stands : {a b : Node} → Stands a b → (a ≡ b) ⊎ ((c : Node) × In (parts a) c × Stands c b)
stands stands_here = inl refl
stands (stands_in i s) = inr (_, i, s)

module _ (E : Env) where
  pub none_loud : AreLoud E [] false
  none_loud = λ n i. absurd i

  pub join_loud : (ns ms : List Node) (a b : Bool) → AreLoud E ns a → AreLoud E ms b → AreLoud E (ns ++ ms) (a || b)
  join_loud ns ms true b h k = (h.0, has-left ns ms h.0 h.1, h.2)
  join_loud ns ms false true h k = (k.0, has-right ns ms k.0 k.1, k.2)
  join_loud ns ms false false h k = λ n i. elim (has-split ns ms n i) [ inl a ↦ h n a | inr b ↦ k n b ]

  raised : (n m : Node) → In (parts n) m → Loud E m → Loud E n
  raised n m i (loud_receive x s r) = loud_receive x (stands_in i s) r
  raised n m i (loud_call y x before c s a o t r k) = loud_call y x before c (stands_in i s) a o t r k

  lowered : (n : Node) → ((x : Expr) → n ≡ expression x → ⊥) → ((m : Node) → In (parts n) m → Quiet E m) → Quiet E n
  lowered n apart q = record {
    receives = λ x s. elim (stands s) [ inl e ↦ absurd (apart x e) | inr t ↦ (q t.0 t.1).receives x t.2 ];
    calls = λ y x before c s at. elim (stands s) [ inl e ↦ absurd (apart y e) | inr t ↦ (q t.0 t.1).calls y x before c t.2 at ];
  }

  -- a tree that is no expression is loud by its parts
  pub parts_loud : (n : Node) → ((x : Expr) → n ≡ expression x → ⊥) → (b : Bool) → AreLoud E (parts n) b → AreLoud E (n ∷ []) b
  parts_loud n apart true h = (n, inl refl, raised n h.0 h.1 h.2)
  parts_loud n apart false h = λ m i. only m i (lowered n apart h)
    where
      only : (m : Node) → In (n ∷ []) m → Quiet E n → Quiet E m
      only m (inl e) q = subst (λ (k : Node). Quiet E k) e q
      only m (inr i) q = absurd i
