-- The first place among those of several declarations.
use Rattle.std.proofs.Common.{inl, inr, ◌≡◌, ◌⊎◌, ◌≤◌, ◌<◌, ℕ, Bool, true, false, nat_eq, nat_le, nat_lt, List, [], ◌∷◌, ◌++◌, Option, None, Some, refl, sym, ap, ◌∙◌, subst, arith}
use Rattle.std.proofs.lemmas.Bool.{eqb-false, eqb-true, leb-false, leb-true, ltb-false, ltb-true}
use Rattle.std.specs.Prelude.{if◌then◌else◌}
use Rattle.go_base.specs.Lists.{Has}
use Rattle.go_client_typings.specs.Bodies.{AreTypedBodies, HasUntyped}
use Rattle.go_client_typings.specs.Clients.{Blocks, ComesFirst, blocks_in}
use Rattle.go_client_typings.proofs.OneVetted.{body_apart}
use Rattle.go_clients.specs.inner.Told.{At, FindsIn, IsFirstAmong, TellsDeclaration, comes_first, lesser}
use Rattle.go_rules.specs.Scopes.{Scopes as Known}
use Rattle.go_selectors.proofs.Lists.{has-back, has-last, has-left}
use Rattle.go_syntax.specs.declared.name.Place.{Place}
use Rattle.go_typings.specs.Declarations.{Declaration}

-- ---- the order of places

order_by : (a b c d : ℕ) (x : Bool) → nat_eq a c ≡ x → (if x then nat_le b d else nat_lt a c) ≡ true → (a < c) ⊎ ((a ≡ c) × (b ≤ d))
order_by a b c d true e h = inr (eqb-true a c e, leb-true b d h)
order_by a b c d false e h = inl (ltb-true a c h)

-- numbers that aren't the same, the first of them not below the second
above : (a c : ℕ) → (a ≡ c → ⊥) → c ≤ a → c < a
above a c n l = omega (arith, n, l)

back_by : (a b c d : ℕ) (x : Bool) → nat_eq a c ≡ x → (if x then nat_le b d else nat_lt a c) ≡ false → (c < a) ⊎ ((c ≡ a) × (d ≤ b))
back_by a b c d true e h = let l = leb-false b d h in inr (sym (eqb-true a c e), omega (arith, l))
back_by a b c d false e h = inl (above a c (eqb-false a c e) (ltb-false a c h))

pub is_first : (p q : Place) → comes_first p q ≡ true → ComesFirst p q
is_first p q h = order_by p.file p.offset q.file q.offset (nat_eq p.file q.file) refl h

pub is_behind : (p q : Place) → comes_first p q ≡ false → ComesFirst q p
is_behind p q h = back_by p.file p.offset q.file q.offset (nat_eq p.file q.file) refl h

first_twice : (p q r : Place) → ComesFirst p q → ComesFirst q r → ComesFirst p r
first_twice p q r (inl a) (inl b) = inl (omega (arith, a, b))
first_twice p q r (inl a) (inr b) = let e = b.0 in inl (omega (arith, a, e))
first_twice p q r (inr a) (inl b) = let e = a.0 in inl (omega (arith, b, e))
first_twice p q r (inr a) (inr b) = let l = a.1 in let m = b.1 in inr (a.0 ∙ b.0, omega (arith, l, m))

-- ---- one declaration more

module _ (c : Known) (blocks : Blocks) where
  abbrev Typed : Declaration → Type 0
  Typed d = AreTypedBodies (At c blocks d) (blocks_in blocks d.file) d.form

  abbrev Untyped : Declaration → ℕ → Type 0
  Untyped d q = HasUntyped (At c blocks d) (blocks_in blocks d.file) d.form q

  apart : (d : Declaration) (q : ℕ) → Typed d → Untyped d q → ⊥
  apart d q t u = body_apart (At c blocks d) (blocks_in blocks d.file) d.form q t u

  abbrev Tells : Declaration → Option Place → Type 0
  Tells d r = TellsDeclaration (At c blocks d) (blocks_in blocks d.file) d r

  module _ (ds : List Declaration) (d : Declaration) where
    abbrev more : List Declaration
    more = ds ++ d ∷ []

    -- the place of the last one comes first, where it comes before all others
    last_first : (q : Place) → Tells d (Some q) → ((x : Declaration) (r : ℕ) → Has ds x → Untyped x r → ComesFirst q (record { file = x.file; offset = r })) → IsFirstAmong c blocks more q
    last_first q n before = record {
      declaration = d;
      has = has-last ds d;
      file = n.file;
      untyped = n.untyped;
      first = λ x r h u. elim (has-back ds d x h) [ inl old ↦ before x r old u | inr e ↦ here x r e u ];
    }
      where
        here : (x : Declaration) (r : ℕ) → d ≡ x → Untyped x r → ComesFirst q (record { file = x.file; offset = r })
        here x r e u = inr (sym n.file ∙ ap (λ (z : Declaration). z.file) e, n.first r (subst (λ (z : Declaration). Untyped z r) (sym e) u))

    -- an earlier place stays first, where it comes before that of the last one
    old_first : (p : Place) → IsFirstAmong c blocks ds p → ((r : ℕ) → Untyped d r → ComesFirst p (record { file = d.file; offset = r })) → IsFirstAmong c blocks more p
    old_first p k before = record {
      declaration = k.declaration;
      has = has-left ds (d ∷ []) k.declaration k.has;
      file = k.file;
      untyped = k.untyped;
      first = λ x r h u. elim (has-back ds d x h) [ inl old ↦ k.first x r old u | inr e ↦ subst (λ (z : Declaration). ComesFirst p (record { file = z.file; offset = r })) e (before r (subst (λ (z : Declaration). Untyped z r) (sym e) u)) ];
    }

    of_last : (q : Place) → Tells d (Some q) → (r : ℕ) → Untyped d r → ComesFirst q (record { file = d.file; offset = r })
    of_last q n r u = inr (sym n.file, n.first r u)

    by_order : (p q : Place) (b : Bool) → comes_first p q ≡ b → IsFirstAmong c blocks ds p → Tells d (Some q) → IsFirstAmong c blocks more (if b then p else q)
    by_order p q true e k n = old_first p k (λ r u. first_twice p q (record { file = d.file; offset = r }) (is_first p q e) (of_last q n r u))
    by_order p q false e k n = last_first q n (λ x r h u. first_twice q p (record { file = x.file; offset = r }) (is_behind p q e) (k.first x r h u))

    pub one_more : (found next : Option Place) → FindsIn c blocks ds found → Tells d next → FindsIn c blocks more (lesser found next)
    one_more None None k t = λ x h. elim (has-back ds d x h) [ inl old ↦ k x old | inr e ↦ subst Typed e t ]
    one_more None (Some q) k n = last_first q n (λ x r h u. absurd (apart x r (k x h) u))
    one_more (Some p) None k t = old_first p k (λ r u. absurd (apart d r t u))
    one_more (Some p) (Some q) k n = by_order p q (comes_first p q) refl k n

  pub finds_none : FindsIn c blocks [] None
  finds_none = λ d h. absurd h
