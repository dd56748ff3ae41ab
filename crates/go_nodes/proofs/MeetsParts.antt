-- What is asked in a tree is what the tree by itself is asked and what is asked in its parts; so for trees that are
-- taken one by one, their parts in place of them.
use Rattle.std.proofs.Common.{◌≡◌, Bool, true, false, List, [], ◌∷◌, ◌++◌, refl, sym, subst, inl, inr}
use Rattle.go_base.specs.Lists.{Has, Each}
use Rattle.go_base.proofs.Members.{each_has}
use Rattle.go_rules.specs.Asks.{Meets}
use Rattle.go_rules.specs.Environments.{Env}
use Rattle.go_rules.specs.Nodes.{Node, Stands, stands_here, stands_in, expression, post, value, type, signature, parts}
use Rattle.go_rules.proofs.LocalParts.{each_left, each_right, each_both}
use Rattle.go_selectors.specs.Answers.{Decides}
use Rattle.go_nodes.specs.Here.{MeetsHere}

each_of : {A : Type 0} (P : A → Type 0) (xs : List A) → ((x : A) → Has xs x → P x) → Each P xs
each_of P [] f = tt
each_of P (x ∷ xs) f = (f x (inl refl), each_of P xs (λ y h. f y (inr h)))

module _ (E : Env) where
  -- each tree in the tree meets what it is asked by itself
  abbrev Within : Node → Type 0
  Within a = (b : Node) → Stands a b → MeetsHere E b

  here_of : (a : Node) → Meets E a → Within a
  here_of a m (expression e) s = tt
  here_of a m (post p) s = tt
  here_of a m (value v) s = tt
  here_of a m (type t) s = m.types t s
  here_of a m (signature g) s = m.signatures g s

  of_here : (a : Node) → Within a → Meets E a
  of_here a w = record { types = λ t s. w (type t) s; signatures = λ g s. w (signature g) s }

  whole_within : (a b : Node) → MeetsHere E a → ((p : Node) → Has (parts a) p → Within p) → Stands a b → MeetsHere E b
  whole_within a b h rest stands_here = h
  whole_within a b h rest (stands_in {b = p} i s) = rest p i b s

  pub meets_here : (a : Node) → Meets E a → MeetsHere E a
  meets_here a m = here_of a m a stands_here

  part_meets : (a : Node) → Meets E a → (p : Node) → Has (parts a) p → Meets E p
  part_meets a m p i = of_here p (λ b s. here_of a m b (stands_in i s))

  pub meets_parts : (a : Node) → Meets E a → Each (Meets E) (parts a)
  meets_parts a m = each_of (Meets E) (parts a) (part_meets a m)

  pub meets_whole : (a : Node) → MeetsHere E a → Each (Meets E) (parts a) → Meets E a
  meets_whole a h m = of_here a (λ b s. whole_within a b h (λ p i. here_of p (each_has (Meets E) (parts a) p m i)) s)

  -- ---- trees one by one

  -- all that is asked in the one trees is met exactly where it is in the others
  abbrev pub SameAsks : List Node → List Node → Type 0
  SameAsks ns ms = (Each (Meets E) ns → Each (Meets E) ms) × (Each (Meets E) ms → Each (Meets E) ns)

  pub asks_begin : (ns : List Node) → SameAsks ns ns
  asks_begin ns = ((λ h. h), (λ h. h))

  last_meets : (ns : List Node) (a : Node) → Each (Meets E) (ns ++ a ∷ []) → Meets E a
  last_meets ns a h = (each_right (Meets E) ns (a ∷ []) h).0

  -- the last tree gave way to its parts
  pub asks_next : (all old rest new : List Node) (a : Node) (b : Bool) → SameAsks all old → old ≡ rest ++ a ∷ [] → new ≡ rest ++ parts a → b ≡ true → Decides b (MeetsHere E a) → SameAsks all new
  asks_next all old rest new a b w e f t d =
      let here : MeetsHere E a = subst (λ b. Decides b (MeetsHere E a)) t d in (
        (λ h. subst (Each (Meets E)) (sym f) (let k : Each (Meets E) (rest ++ a ∷ []) = subst (Each (Meets E)) e (w.0 h) in each_both (Meets E) rest (parts a) (each_left (Meets E) rest (a ∷ []) k) (meets_parts a (last_meets rest a k)))),
        (λ h. let k : Each (Meets E) (rest ++ parts a) = subst (Each (Meets E)) f h in w.1 (subst (Each (Meets E)) (sym e) (each_both (Meets E) rest (a ∷ []) (each_left (Meets E) rest (parts a) k) (meets_whole a here (each_right (Meets E) rest (parts a) k), tt)))),
      )

  -- the last tree doesn't meet what it is asked by itself
  pub asks_not : (all old rest : List Node) (a : Node) (b : Bool) → SameAsks all old → old ≡ rest ++ a ∷ [] → b ≡ false → Decides b (MeetsHere E a) → Each (Meets E) all → ⊥
  asks_not all old rest a b w e f d h =
      let none : MeetsHere E a → ⊥ = subst (λ b. Decides b (MeetsHere E a)) f d in
      none (meets_here a (last_meets rest a (subst (Each (Meets E)) e (w.0 h))))

  -- no tree is left
  pub asks_done : (all old : List Node) → SameAsks all old → old ≡ [] → Each (Meets E) all
  asks_done all old w e = w.1 (subst (Each (Meets E)) (sym e) tt)
