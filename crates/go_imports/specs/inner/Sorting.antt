-- What the functions keep that bring packages into canonical order.
use Rattle.std.specs.Prelude.{◌≡◌, ◌≢◌, ◌<◌, ◌⊎◌, ℕ, List, [], length, get_or}
use Rattle.go_base.specs.Lists.{Has}
use Rattle.go_base.specs.Growing.{Grows}
use Rattle.go_imports.specs.Orders.{needs_of, IsOrder, IsReady}
use Rattle.go_imports.specs.declared.order.Wait.{Wait}

-- those that wait for a package
abbrev pub row_of : List (List Wait) → ℕ → List Wait
row_of waits n = get_or waits n []

-- one more waits for a package
pub record Waited (old : List (List Wait)) (on : ℕ) (wait : Wait) (new : List (List Wait)) : Type 0 where
  pub rows : length new ≡ length old
  pub kept : (u : ℕ) (y : Wait) → Has (row_of old u) y → Has (row_of new u) y
  pub added : Has (row_of new on) wait
  pub sound : (u : ℕ) (y : Wait) → Has (row_of new u) y → Has (row_of old u) y ⊎ ((u ≡ on) × (y ≡ wait))

-- none waits for a package any more
pub record Emptied (old : List (List Wait)) (on : ℕ) (new : List (List Wait)) : Type 0 where
  pub rows : length new ≡ length old
  pub kept : (u : ℕ) (y : Wait) → u ≢ on → Has (row_of old u) y → Has (row_of new u) y
  pub sound : (u : ℕ) (y : Wait) → Has (row_of new u) y → Has (row_of old u) y

module _ (graph : List (List ℕ)) (standing : List ℕ) where
  -- the needs of a package before a place stand
  abbrev pub StandBefore : ℕ → ℕ → Type 0
  StandBefore n at = (k : ℕ) → k < at → Has standing (get_or (needs_of graph n) k 0)

  -- a package waits with the needs before a place met
  pub record IsWait (wait : Wait) : Type 0 where
    pub is : wait.node < length graph
    pub within : wait.at < length (needs_of graph wait.node)
    pub before : StandBefore wait.node wait.at

  -- a package waits for its need at a place, which doesn't stand
  pub record WaitsFor (on : ℕ) (wait : Wait) : Type 0 where
    pub held : IsWait wait
    pub need : get_or (needs_of graph wait.node) wait.at 0 ≡ on
    pub lacking : Has standing on → ⊥

  -- a package is ready, or waits for the first of its needs that doesn't stand
  abbrev pub Settles : ℕ → List ℕ → List ℕ → List (List Wait) → List (List Wait) → Type 0
  Settles n ready ready2 waits waits2 =
      (((m : ℕ) → Has (needs_of graph n) m → Has standing m) × Grows (λ x. n ≡ x) ready ready2 × (waits2 ≡ waits))
      ⊎ ((on : ℕ) × (wait : Wait) × (wait.node ≡ n) × WaitsFor on wait × Waited waits on wait waits2 × (ready2 ≡ ready))

-- where a package is while packages are brought into order
pub data Placed (standing ready : List ℕ) (waits : List (List Wait)) (left : ℕ → Type 0) (n : ℕ) : Type 0 where
  stands : Has standing n → Placed standing ready waits left n
  is_ready : Has ready n → Placed standing ready waits left n
  waiting : (on : ℕ) (wait : Wait) → wait.node ≡ n → Has (row_of waits on) wait → (Has standing on → ⊥) → Placed standing ready waits left n
  is_left : left n → Placed standing ready waits left n

-- one of these waits is the package's
abbrev pub IsWokenBy : List Wait → ℕ → Type 0
IsWokenBy woken n = (x : Wait) × Has woken x × (x.node ≡ n)

-- what is kept while packages are brought into order: those that stand, those that are ready, those that wait, and those that are left to settle
pub record Sorting (graph : List (List ℕ)) (standing ready : List ℕ) (waits : List (List Wait)) (left : ℕ → Type 0) : Type 0 where
  pub ordered : IsOrder graph standing
  pub sound : (n : ℕ) → Has ready n → IsReady graph standing n
  pub rows : length waits ≡ length graph
  pub held : (on : ℕ) (x : Wait) → Has (row_of waits on) x → IsWait graph standing x × (get_or (needs_of graph x.node) x.at 0 ≡ on)
  pub cover : (n : ℕ) → n < length graph → Placed standing ready waits left n
