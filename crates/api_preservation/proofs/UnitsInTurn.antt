-- Units of which each comes after those that it needs have a canonical order.
use Rattle.std.proofs.Common.{◌≡◌, ◌⊎◌, ◌≤◌, ℕ, zero, suc, List, [], ◌∷◌, ◌++◌, map, length, refl, sym, ap, ◌∙◌, subst, inl, inr, arith}
use mathlib.Core.Bool.{true≢false}
use Rattle.std.specs.Ordering.{is_lt, nat_cmp}
use Rattle.std.specs.Cmp.Lexicographic.{slice_cmp}
use Rattle.go_base.specs.Lists.{Before, Has, Once}
use Rattle.go_existence.proofs.FiniteSets.{without}
use Rattle.go_existence.specs.Existence.{NotNone}
use Rattle.go_imports.proofs.Members.{has_back, has_last, has_left}
use Rattle.go_load.proofs.FolderOrder.{before_trans, not_before_itself}
use Rattle.go_reading.proofs.ListFacts.{mapped_from}
use Rattle.go_std_worlds.proofs.OwnPaths.{in_order as once_paths, unit_path}
use Rattle.go_typings.proofs.Cells.{either}
use Rattle.go_units.specs.UnitOrders.{AreInOrder, InOrder, IsMet, Stands, next, none}
use Rattle.go_units.specs.declared.unit.«Unit».{«Unit» as PackageUnit}
use Rattle.api_preservation.proofs.Decisions.{Decided, any_or, text_or}

-- each unit has a path of its own, and what it needs stands before it
pub data InTurn : List PackageUnit → Type 0 where
  none_yet : InTurn []
  one_more : {us : List PackageUnit} (u : PackageUnit) → InTurn us → (Stands us u.path → ⊥) → IsMet us u → InTurn (us ++ u ∷ [])

pub in_turn : {among : PackageUnit → Type 0} {us : List PackageUnit} → InOrder among us → InTurn us
in_turn none = none_yet
in_turn (next {u = u} o i) = one_more u (in_turn o) i.fresh i.met

-- ---- what is decided of units

pub stands_or : (us : List PackageUnit) (path : List ℕ) → Decided (Stands us path)
stands_or us path = any_or (λ (u : PackageUnit). u.path ≡ path) (λ u. text_or u.path path) us

paths_met : (us : List PackageUnit) (paths : List (List ℕ)) → Decided ((path : List ℕ) → Has paths path → Stands us path)
paths_met us [] = inl (λ path h. absurd h)
paths_met us (q ∷ qs) = elim (stands_or us q) [
  | inr never ↦ inr (λ k. never (k q (inl refl)))
  | inl s ↦ elim (paths_met us qs) [
    | inr never ↦ inr (λ k. never (λ path h. k path (inr h)))
    | inl rest ↦ inl (λ path h. elim h [ inl e ↦ subst (Stands us) e s | inr k ↦ rest path k ])
  ]
]

before_or : (x y : List ℕ) → Decided (Before x y)
before_or x y = elim (either (is_lt (slice_cmp nat_cmp x y))) [ inl b ↦ inl b | inr n ↦ inr (λ b. true≢false (sym b ∙ n)) ]

module _ (P : PackageUnit → Type 0) (decide : (u : PackageUnit) → Decided (P u)) where
  abbrev IsLeastIn : List PackageUnit → PackageUnit → Type 0
  IsLeastIn us u = (v : PackageUnit) → Has us v → P v → Before v.path u.path → ⊥

  abbrev Found : List PackageUnit → Type 0
  Found us = ((u : PackageUnit) × Has us u × P u × IsLeastIn us u) ⊎ ((u : PackageUnit) → Has us u → P u → ⊥)

  itself : (x v : PackageUnit) → x ≡ v → Before v.path x.path → ⊥
  itself x v e b = not_before_itself x.path (subst (λ (w : PackageUnit). Before w.path x.path) (sym e) b)

  -- of units with the property the one with the least path
  least_in : (us : List PackageUnit) → Found us
  least_in [] = inr (λ u h q. h)
  least_in (x ∷ us) = by (decide x) (least_in us)
    where
      by : Decided (P x) → Found us → Found (x ∷ us)
      by (inl q) (inr nobody) = inl (x, inl refl, q, λ v h r b. elim h [ inl e ↦ itself x v e b | inr k ↦ nobody v k r ])
      by (inr n) (inr nobody) = inr (λ u h r. elim h [ inl e ↦ n (subst P (sym e) r) | inr k ↦ nobody u k r ])
      by (inr n) (inl k) = inl (k.0, inr k.1, k.2, λ v h r b. elim h [ inl e ↦ n (subst P (sym e) r) | inr j ↦ k.3 v j r b ])
      by (inl q) (inl k) = elim (before_or x.path k.0.path) [
        | inl less ↦ inl (x, inl refl, q, λ v h r b. elim h [ inl e ↦ itself x v e b | inr j ↦ k.3 v j r (before_trans v.path x.path k.0.path b less) ])
        | inr not_less ↦ inl (k.0, inr k.1, k.2, λ v h r b. elim h [ inl e ↦ not_less (subst (λ (w : PackageUnit). Before w.path k.0.path) (sym e) b) | inr j ↦ k.3 v j r b ])
      ]

-- ---- the order

among_fewer : (P Q : PackageUnit → Type 0) → ((u : PackageUnit) → Q u → P u) → {us : List PackageUnit} → InOrder P us → InOrder Q us
among_fewer P Q f none = none
among_fewer P Q f (next o i) = next (among_fewer P Q f o) (record { fresh = i.fresh; met = i.met; least = λ v q. i.least v (f v q) })

stands_back : (us : List PackageUnit) (u : PackageUnit) (path : List ℕ) → Stands us path → Stands (us ++ u ∷ []) path
stands_back us u path s = (s.0, has_left us (u ∷ []) s.0 s.1, s.2)

module _ (all : List PackageUnit) where
  abbrev Ready : List PackageUnit → PackageUnit → Type 0
  Ready us u = (Stands us u.path → ⊥) × IsMet us u

  ready_or : (us : List PackageUnit) (u : PackageUnit) → Decided (Ready us u)
  ready_or us u = elim (stands_or us u.path) [
    | inl s ↦ inr (λ k. k.0 s)
    | inr fresh ↦ elim (paths_met us u.needs) [ inl met ↦ inl (fresh, met) | inr unmet ↦ inr (λ k. unmet k.1) ]
  ]

  -- where none is ready all stand
  stand_by : (standing : List PackageUnit) {us : List PackageUnit} → InTurn us → ((u : PackageUnit) → Has us u → Ready standing u → ⊥) → (u : PackageUnit) → Has us u → Stands standing u.path
  stand_by standing none_yet stuck u h = absurd h
  stand_by standing (one_more {us = us} x t fresh met) stuck u h = elim (has_back us x u h) [
    | inl old ↦ stand_by standing t (λ v k. stuck v (has_left us (x ∷ []) v k)) u old
    | inr e ↦ subst (λ (w : PackageUnit). Stands standing w.path) e (elim (stands_or standing x.path) [
      | inl s ↦ s
      | inr none_there ↦ absurd (stuck x (has_last us x) (
        none_there,
        λ path n. (
            let m = met path n in
            subst (Stands standing) m.2 (stand_by standing t (λ v k. stuck v (has_left us (x ∷ []) v k)) m.0 m.1)),
      ))
    ])
  ]

  -- the units that stand in the end
  pub record Ordered : Type 0 where
    pub units : List PackageUnit
    pub order : InOrder (Has all) units
    pub sound : (u : PackageUnit) → Has units u → Has all u
    pub stuck : (u : PackageUnit) → Has all u → Ready units u → ⊥

  abbrev Covers : List PackageUnit → List PackageUnit → Type 0
  Covers us left = (u : PackageUnit) → Has all u → (Stands us u.path → ⊥) → Has left u

  turn : (us left : List PackageUnit) → InOrder (Has all) us → ((u : PackageUnit) → Has us u → Has all u) → Covers us left
      → ((more rest : List PackageUnit) → length left ≡ suc (length rest) → InOrder (Has all) more → ((u : PackageUnit) → Has more u → Has all u) → Covers more rest → Ordered) → Ordered
  turn us left order sound covers go = elim (least_in (Ready us) (ready_or us) all) [
    | inr nobody ↦ record { units = us; order = order; sound = sound; stuck = nobody }
    | inl k ↦
        let x = k.0 in
        let rest = without left x (covers x k.1 k.2.0) in
        go (us ++ x ∷ []) rest.0 rest.1
        (next order (record { fresh = k.2.0; met = k.2.1; least = λ v h fresh met b. k.3 v h (fresh, met) b }))
        (λ u h. elim (has_back us x u h) [ inl old ↦ sound u old | inr e ↦ subst (Has all) e k.1 ])
        (λ u h fresh. elim (rest.2 u (covers u h (λ s. fresh (stands_back us x u.path s)))) [
          | inl e ↦ absurd (fresh (x, has_last us x, ap (λ (w : PackageUnit). w.path) e))
          | inr l ↦ l
        ])
  ]

  order_from : (fuel : ℕ) (us left : List PackageUnit) → length left ≤ fuel → InOrder (Has all) us → ((u : PackageUnit) → Has us u → Has all u) → Covers us left → Ordered
  order_from zero us left few order sound covers = turn us left order sound covers (λ more rest e o s c. absurd (omega (arith, few, e)))
  order_from (suc fuel) us left few order sound covers = turn us left order sound covers (λ more rest e o s c. order_from fuel more rest (omega (arith, few, e)) o s c)

  pub ordered : Ordered
  ordered = order_from (length all) [] all (omega arith) none (λ u h. absurd h) (λ u h fresh. h)

  pub in_order : (o : Ordered) → AreInOrder o.units
  in_order o = among_fewer (Has all) (Has o.units) o.sound o.order

  pub all_stand : (o : Ordered) → NotNone (InTurn all) → (u : PackageUnit) → Has all u → Stands o.units u.path
  all_stand o turns u h = elim (stands_or o.units u.path) [
    | inl s ↦ s
    | inr none_there ↦ absurd (turns (λ t. none_there (stand_by o.units t o.stuck u h)))
  ]

-- ---- how many there are

module _ {A : Type 0} where
  -- things that each stand once and are among others are no more than these
  short : (xs ys : List A) → Once xs → ((x : A) → Has xs x → Has ys x) → length xs ≤ length ys
  short [] ys once f = omega arith
  short (x ∷ xs) ys once f =
      let rest = without ys x (f x (inl refl)) in
      let l = short xs rest.0 once.1 (λ z h. elim (rest.2 z (f z (inr h))) [ inl e ↦ absurd (once.0 (subst (Has xs) (sym e) h)) | inr k ↦ k ]) in
      let e = rest.1 in omega (arith, l, e)

length_paths : (us : List PackageUnit) → length (map unit_path us) ≡ length us
length_paths [] = refl
length_paths (u ∷ us) = ap suc (length_paths us)

pub fewer_units : {among : PackageUnit → Type 0} {us : List PackageUnit} → InOrder among us → (paths : List (List ℕ)) → ((u : PackageUnit) → Has us u → Has paths u.path) → length us ≤ length paths
fewer_units {among = among} {us = us} o paths f =
    let l = short (map unit_path us) paths (once_paths among o) (λ path h. (let q = mapped_from unit_path us path h in subst (Has paths) q.2 (f q.0 q.1))) in
    let e = length_paths us in omega (arith, l, e)
