-- What bringing packages into order keeps.
use Rattle.std.proofs.Common.{◌≡◌, ℕ, zero, suc, ◌+◌, ◌<◌, ◌≤◌, List, [], ◌∷◌, ◌++◌, length, get_or, drop, drop-cons, add-one, refl, sym, ap, ◌∙◌, subst, ◌⊎◌, inl, inr, arith}
use Rattle.go_base.specs.Lists.{Has}
use Rattle.go_base.specs.Growing.{Grows}
use Rattle.go_imports.specs.Orders.{IsGraph, needs_of, IsOrder, none, next, IsReady, IsNext}
use Rattle.go_imports.specs.inner.Sorting.{row_of, Waited, Emptied, StandBefore, IsWait, WaitsFor, Settles, Placed, stands, is_ready, waiting, is_left, IsWokenBy, Sorting}
use Rattle.go_imports.specs.declared.order.Wait.{Wait}
use Rattle.go_imports.proofs.Members.{has_left, has_last, has_back, has_at, has_place, same_or, below_or}

-- what a package in the order needs stands too
pub order_closed : (graph : List (List ℕ)) {standing : List ℕ} → IsOrder graph standing → (n m : ℕ) → Has standing n → Has (needs_of graph n) m → Has standing m
order_closed graph none n m h k = absurd h
order_closed graph (next {standing = standing} {n = a} o i) n m h k =
    elim (has_back standing a n h) [
      | inl old ↦ has_left standing (a ∷ []) m (order_closed graph o n m old k)
      | inr e ↦ has_left standing (a ∷ []) m (i.ready.met m (subst (λ (w : ℕ). Has (needs_of graph w) m) (sym e) k))
    ]

placed_as : {standing ready ready2 : List ℕ} {waits waits2 : List (List Wait)} {left left2 : ℕ → Type 0} (n : ℕ) → ((x : ℕ) → Has ready x → Has ready2 x) → ((on : ℕ) (y : Wait) → Has (row_of waits on) y → Has (row_of waits2 on) y)
    → (left n → Placed standing ready2 waits2 left2 n) → Placed standing ready waits left n → Placed standing ready2 waits2 left2 n
placed_as n f g h (stands s) = stands s
placed_as n f g h (is_ready r) = is_ready (f n r)
placed_as n f g h (waiting on wait e k lacks) = waiting on wait e (g on wait k) lacks
placed_as n f g h (is_left l) = h l

module _ (graph : List (List ℕ)) where
  module _ {standing ready : List ℕ} {waits : List (List Wait)} {left left2 : ℕ → Type 0} (s : Sorting graph standing ready waits left) (n : ℕ) (is : n < length graph) (fresh : Has standing n → ⊥) (less : (k : ℕ) → left k → left2 k ⊎ (k ≡ n)) where
    settled_ready : {ready2 : List ℕ} → ((m : ℕ) → Has (needs_of graph n) m → Has standing m) → Grows (λ x. n ≡ x) ready ready2 → Sorting graph standing ready2 waits left2
    settled_ready met grows = record {
      ordered = s.ordered;
      sound = λ k h. elim (grows.sound k h) [ inl o ↦ s.sound k o | inr e ↦ subst (IsReady graph standing) e (record { is = is; fresh = fresh; met = met }) ];
      rows = s.rows;
      held = s.held;
      cover = λ k below. placed_as k grows.kept (λ on y h. h) (λ l. elim (less k l) [ inl m ↦ is_left m | inr e ↦ is_ready (grows.complete k (sym e)) ]) (s.cover k below);
    }

    settled_waiting : {waits2 : List (List Wait)} (on : ℕ) (wait : Wait) → wait.node ≡ n → WaitsFor graph standing on wait → Waited waits on wait waits2 → Sorting graph standing ready waits2 left2
    settled_waiting on wait e w more = record {
      ordered = s.ordered;
      sound = s.sound;
      rows = more.rows ∙ s.rows;
      held = λ v x h. elim (more.sound v x h) [
        | inl o ↦ s.held v x o
        | inr p ↦ subst (λ (q : ℕ × Wait). IsWait graph standing q.1 × (get_or (needs_of graph q.1.node) q.1.at 0 ≡ q.0)) (λ i. (sym p.0 i, sym p.1 i)) (w.held, w.need)
      ];
      cover = λ k below. placed_as k (λ x h. h) more.kept (λ l. elim (less k l) [ inl m ↦ is_left m | inr q ↦ waiting on wait (e ∙ sym q) more.added w.lacking ]) (s.cover k below);
    }

    pub settled : (ready2 : List ℕ) (waits2 : List (List Wait)) → Settles graph standing n ready ready2 waits waits2 → Sorting graph standing ready2 waits2 left2
    settled ready2 waits2 (inl p) = subst (λ (w : List (List Wait)). Sorting graph standing ready2 w left2) (sym p.2) (settled_ready p.0 p.1)
    settled ready2 waits2 (inr p) = subst (λ (r : List ℕ). Sorting graph standing r waits2 left2) (sym p.5) (settled_waiting p.0 p.1 p.2 p.3 p.4)

  module _ {standing rest : List ℕ} {waits : List (List Wait)} (n : ℕ) (s : Sorting graph standing (n ∷ rest) waits (λ k. ⊥)) (above : (m : ℕ) → Has rest m → n < m) where
    here : IsReady graph standing n
    here = s.sound n (inl refl)

    no_less : (m : ℕ) → IsReady graph standing m → Placed standing (n ∷ rest) waits (λ k. ⊥) m → n ≤ m
    no_less m r (stands h) = absurd (r.fresh h)
    no_less m r (is_ready (inl e)) = omega (arith, e)
    no_less m r (is_ready (inr h)) = omega (arith, above m h)
    no_less m r (waiting on wait e h lacks) =
        let held = s.held on wait h in
        absurd (lacks (r.met on (subst (λ (k : ℕ). Has (needs_of graph k) on) e (subst (Has (needs_of graph wait.node)) held.1 (has_at (needs_of graph wait.node) wait.at 0 held.0.within)))))
    no_less m r (is_left l) = absurd l

    pub next_one : IsNext graph standing n
    next_one = record { ready = here; least = λ m r. no_less m r (s.cover m r.is) }

    abbrev more : List ℕ
    more = standing ++ n ∷ []

    longer : (x : ℕ) → Has standing x → Has more x
    longer x h = has_left standing (n ∷ []) x h

    other : (m : ℕ) → Has rest m → Has more m → ⊥
    other m h k = elim (has_back standing n m k) [ inl o ↦ (s.sound m (inr h)).fresh o | inr e ↦ omega (arith, above m h, e) ]

    wait_longer : (x : Wait) → IsWait graph standing x → IsWait graph more x
    wait_longer x w = record { is = w.is; within = w.within; before = λ k below. longer (get_or (needs_of graph x.node) k 0) (w.before k below) }

    moved : (m : ℕ) → Placed standing (n ∷ rest) waits (λ k. ⊥) m → Placed more rest waits (IsWokenBy (row_of waits n)) m
    moved m (stands h) = stands (longer m h)
    moved m (is_ready (inl e)) = stands (subst (Has more) e (has_last standing n))
    moved m (is_ready (inr h)) = is_ready h
    moved m (waiting on wait e h lacks) = elim (same_or on n) [
      | inl q ↦ is_left (wait, subst (λ (k : ℕ). Has (row_of waits k) wait) q h, e)
      | inr d ↦ waiting on wait e h (λ k. elim (has_back standing n on k) [ inl o ↦ lacks o | inr q ↦ d (sym q) ])
    ]
    moved m (is_left l) = absurd l

    -- the least package that is ready stands: those that waited for it are left to settle
    pub stood : Sorting graph more rest waits (IsWokenBy (row_of waits n))
    stood = record {
      ordered = next s.ordered next_one;
      sound = λ m h. let r = s.sound m (inr h) in record { is = r.is; fresh = other m h; met = λ k q. longer k (r.met k q) };
      rows = s.rows;
      held = λ on x h. let w = s.held on x h in (wait_longer x w.0, w.1);
      cover = λ m below. moved m (s.cover m below);
    }

    pub woken_held : (x : Wait) → Has (row_of waits n) x → IsWait graph more x
    woken_held x h = wait_longer x (s.held n x h).0

    -- one that waits for the package doesn't stand, nor is it the package
    pub woken_fresh : (x : Wait) → Has (row_of waits n) x → Has more x.node → ⊥
    woken_fresh x h k =
        let held = s.held n x h in
        let needs : Has (needs_of graph x.node) n = subst (Has (needs_of graph x.node)) held.1 (has_at (needs_of graph x.node) x.at 0 held.0.within) in
        elim (has_back standing n x.node k) [
          | inl o ↦ here.fresh (order_closed graph s.ordered x.node n o needs)
          | inr e ↦ here.fresh (here.met n (subst (λ (m : ℕ). Has (needs_of graph m) n) (sym e) needs))
        ]

  -- a row that nobody waits in any more
  emptied_placed : {standing ready : List ℕ} {waits waits2 : List (List Wait)} {left : ℕ → Type 0} (n m : ℕ) → Has standing n → Emptied waits n waits2 → Placed standing ready waits left m → Placed standing ready waits2 left m
  emptied_placed n m is e (stands h) = stands h
  emptied_placed n m is e (is_ready h) = is_ready h
  emptied_placed {standing = standing} n m is e (waiting on wait q h lacks) = waiting on wait q (e.kept on wait (λ s. lacks (subst (Has standing) (sym s) is)) h) lacks
  emptied_placed n m is e (is_left l) = is_left l

  pub emptied : {standing ready : List ℕ} {waits waits2 : List (List Wait)} {left : ℕ → Type 0} (n : ℕ) → Has standing n → Emptied waits n waits2 → Sorting graph standing ready waits left → Sorting graph standing ready waits2 left
  emptied n is e s = record {
    ordered = s.ordered;
    sound = s.sound;
    rows = e.rows ∙ s.rows;
    held = λ on x h. s.held on x (e.sound on x h);
    cover = λ m below. emptied_placed n m is e (s.cover m below);
  }

  -- nothing stands yet, and all are left
  pub sorting_first : (waits : List (List Wait)) → length waits ≡ length graph → ((n : ℕ) → row_of waits n ≡ []) → Sorting graph [] [] waits (λ n. 0 ≤ n)
  sorting_first waits rows empty = record {
    ordered = none;
    sound = λ n h. absurd h;
    rows = rows;
    held = λ on x h. absurd (subst (λ (r : List Wait). Has r x) (empty on) h);
    cover = λ n below. is_left (omega arith);
  }

  left_as : {standing ready : List ℕ} {waits : List (List Wait)} {left left2 : ℕ → Type 0} (n : ℕ) → (left n → left2 n) → Placed standing ready waits left n → Placed standing ready waits left2 n
  left_as n f (stands h) = stands h
  left_as n f (is_ready h) = is_ready h
  left_as n f (waiting on wait q h lacks) = waiting on wait q h lacks
  left_as n f (is_left l) = is_left (f l)

  -- the same, where what is left is said in another way
  pub sorting_as : {standing ready : List ℕ} {waits : List (List Wait)} (left left2 : ℕ → Type 0) → ((n : ℕ) → n < length graph → left n → left2 n) → Sorting graph standing ready waits left → Sorting graph standing ready waits left2
  sorting_as left left2 f s = record { ordered = s.ordered; sound = s.sound; rows = s.rows; held = s.held; cover = λ n below. left_as n (f n below) (s.cover n below) }

-- the waits from a place on are the one there and the later ones
pub woken_less : (woken : List Wait) (i : ℕ) (d : Wait) (k : ℕ) → i < length woken → IsWokenBy (drop i woken) k → IsWokenBy (drop (i + 1) woken) k ⊎ (k ≡ (get_or woken i d).node)
woken_less woken i d k h w =
    let whole : drop i woken ≡ get_or woken i d ∷ drop (suc i) woken = drop-cons woken i d h in
    elim (subst (λ (ws : List Wait). Has ws w.0) whole w.1) [
      | inl e ↦ inr (sym w.2 ∙ ap (λ (y : Wait). y.node) (sym e))
      | inr r ↦ inl (w.0, subst (λ (m : ℕ). Has (drop m woken) w.0) (sym (add-one i)) r, w.2)
    ]

pub none_woken : (woken : List Wait) (i : ℕ) (k : ℕ) → length woken ≤ i → IsWokenBy (drop i woken) k → ⊥
none_woken [] zero k h w = w.1
none_woken [] (suc i) k h w = w.1
none_woken (y ∷ ys) zero k h w = absurd (omega (arith, h))
none_woken (y ∷ ys) (suc i) k h w = none_woken ys i k (omega (arith, h)) w

-- the needs before a place, and then those up to a later one, stand
pub stand_on : (graph : List (List ℕ)) (standing : List ℕ) (n from at : ℕ) (needs : List ℕ) → needs ≡ needs_of graph n → StandBefore graph standing n from → ((k : ℕ) → from ≤ k → k < at → Has standing (get_or needs k 0)) → StandBefore graph standing n at
stand_on graph standing n from at needs e before then k below = elim (below_or k from) [
  | inl less ↦ before k less
  | inr more ↦ subst (λ (xs : List ℕ). Has standing (get_or xs k 0)) e (then k more below)
]

pub all_met : (graph : List (List ℕ)) (standing : List ℕ) (n at : ℕ) → StandBefore graph standing n at → length (needs_of graph n) ≤ at → (m : ℕ) → Has (needs_of graph n) m → Has standing m
all_met graph standing n at before long m h = let p = has_place (needs_of graph n) m 0 h in subst (Has standing) p.2 (before p.0 (omega (arith, p.1, long)))

-- a need at a place is a package that is there
pub need_below : (graph : List (List ℕ)) (n at : ℕ) (needs : List ℕ) → IsGraph graph → needs ≡ needs_of graph n → at < length needs → get_or needs at 0 < length graph
need_below graph n at needs is e h = is n (get_or needs at 0) (subst (λ (xs : List ℕ). Has xs (get_or needs at 0)) e (has_at needs at 0 h))

-- one empty row more
pub empty_more : (rows : List (List Wait)) (row : List Wait) → row ≡ [] → ((n : ℕ) → row_of rows n ≡ []) → (n : ℕ) → row_of (rows ++ row ∷ []) n ≡ []
empty_more [] row e empty zero = e
empty_more [] row e empty (suc n) = refl
empty_more (r ∷ rows) row e empty zero = empty zero
empty_more (r ∷ rows) row e empty (suc n) = empty_more rows row e (λ m. empty (suc m)) n

-- all that are at a place or later are there or later still
pub later : (i k : ℕ) → i ≤ k → (i + 1 ≤ k) ⊎ (k ≡ i)
later i k h = elim (below_or i k) [ inl less ↦ inl (omega arith) | inr more ↦ inr (omega arith) ]

ready_by : (graph : List (List ℕ)) {standing ready : List ℕ} {waits : List (List Wait)} → ready ≡ [] → Sorting graph standing ready waits (λ k. ⊥) → (n : ℕ) → IsReady graph standing n → Placed standing ready waits (λ k. ⊥) n → ⊥
ready_by graph e s n r (stands h) = r.fresh h
ready_by graph e s n r (is_ready h) = subst (λ (ks : List ℕ). Has ks n) e h
ready_by graph e s n r (waiting on wait w h lacks) =
    let held = s.held on wait h in
    lacks (r.met on (subst (λ (k : ℕ). Has (needs_of graph k) on) w (subst (Has (needs_of graph wait.node)) held.1 (has_at (needs_of graph wait.node) wait.at 0 held.0.within))))
ready_by graph e s n r (is_left l) = l

-- where nothing is left to bring into order, no package is ready
pub none_ready : (graph : List (List ℕ)) {standing ready : List ℕ} {waits : List (List Wait)} → ready ≡ [] → Sorting graph standing ready waits (λ k. ⊥) → (n : ℕ) → IsReady graph standing n → ⊥
none_ready graph e s n r = ready_by graph e s n r (s.cover n r.is)
