-- What is told on the levels of a search, by spots and by types.
use Rattle.std.proofs.Common.{◌≡◌, ℕ, zero, suc, Bool, true, false, ◌||◌, inl, inr, [], ◌∷◌, refl, sym, ap, subst, arith, if◌then◌else◌}
use Rattle.go_base.specs.Lists.{Has}
use Rattle.go_model.specs.declared.types.names.Sel.{Sel}
use Rattle.go_model.specs.declared.types.term.Field.{Field, out-Field}
use Rattle.go_model.specs.declared.types.term.Term.{Term}
use Rattle.go_model.specs.types.Selectors.{Spot, base_of, is_pointer, step, steps}
use Rattle.go_model.specs.types.Tables.{Table}
use Rattle.go_model.specs.types.Underlying.{under, fields_of}
use Rattle.go_rules.specs.Environments.{Env, Told, ToldTo}
use Rattle.go_types.proofs.go_selectors_proofs.Lists.{gather_of, gather_has}
use Rattle.go_usability.specs.inner.Levels.{embedded, further, level, ToldDown}

-- a step of a spot is one of its type
of_step : (through : Bool) (f : Field) (x : Spot) → Has (step through f) x → Has (embedded f) x.term
of_step through f x h = by (out-Field f).embedded h
  where
    by : (b : Bool) → Has (if b then record { through = through || is_pointer (out-Field f).term; term = base_of (out-Field f).term } ∷ [] else []) x → Has (if b then base_of (out-Field f).term ∷ [] else []) x.term
    by true (inl e) = inl (ap (λ (s : Spot). s.term) e)
    by true (inr n) = absurd n
    by false n = absurd n

pub steps_further : (T : Table) (at x : Spot) → Has (steps T at) x → Has (further T at.term) x.term
steps_further T at x h =
    let k = gather_of (step at.through) (fields_of (under T at.term)) x h in
    gather_has embedded (fields_of (under T at.term)) k.0 x.term k.1 (of_step at.through k.0 x k.2)

-- a step of a type is one of a spot
to_step : (through : Bool) (f : Field) (u : Term) → Has (embedded f) u → (x : Spot) × Has (step through f) x × (x.term ≡ u)
to_step through f u h = by (out-Field f).embedded h
  where
    by : (b : Bool) → Has (if b then base_of (out-Field f).term ∷ [] else []) u → (x : Spot) × Has (if b then record { through = through || is_pointer (out-Field f).term; term = base_of (out-Field f).term } ∷ [] else []) x × (x.term ≡ u)
    by true (inl e) = (record { through = through || is_pointer (out-Field f).term; term = base_of (out-Field f).term }, inl refl, e)
    by true (inr n) = absurd n
    by false n = absurd n

pub further_steps : (T : Table) (at : Spot) (u : Term) → Has (further T at.term) u → (x : Spot) × Has (steps T at) x × (x.term ≡ u)
further_steps T at u h =
    let k = gather_of embedded (fields_of (under T at.term)) u h in
    let s = to_step at.through k.0 u k.2 in
    (s.0, gather_has (step at.through) (fields_of (under T at.term)) k.0 s.0 k.1 s.1, s.2)

module _ (T : Table) where
  -- a level begins with a step
  level_first : (k : ℕ) (t u : Term) → Has (level T (suc k) t) u → (v : Term) × Has (further T t) v × Has (level T k v) u
  level_first zero t u h =
      let a = gather_of (further T) (t ∷ []) u h in
      elim a.1 [ inl e ↦ (u, subst (λ (w : Term). Has (further T w) u) (sym e) a.2, inl refl) | inr n ↦ absurd n ]
  level_first (suc k) t u h =
      let a = gather_of (further T) (level T (suc k) t) u h in
      let b = level_first k t a.0 a.1 in
      (b.0, b.1, gather_has (further T) (level T k b.0) a.0 u b.2 a.2)

  first_level : (k : ℕ) (t v u : Term) → Has (further T t) v → Has (level T k v) u → Has (level T (suc k) t) u
  first_level zero t v u s (inl e) = gather_has (further T) (t ∷ []) t u (inl refl) (subst (Has (further T t)) e s)
  first_level zero t v u s (inr n) = absurd n
  first_level (suc k) t v u s h =
      let a = gather_of (further T) (level T k v) u h in
      gather_has (further T) (level T (suc k) t) a.0 u (first_level k t v a.0 s a.1) a.2

module _ (E : Env) (s : Sel) where
  -- what is told down to a depth, from a spot
  pub down_to : (depth : ℕ) (at : Spot) → ToldDown E s depth at.term → ToldTo E s depth at
  down_to zero at h = h 0 (omega arith) at.term (inl refl)
  down_to (suc depth) at h = (
    h 0 (omega arith) at.term (inl refl),
    λ x n. down_to depth x (λ k l u i. h (suc k) (omega arith) u (first_level E.table k at.term x.term u (steps_further E.table at x n) i)),
  )

  pub to_down : (depth : ℕ) (at : Spot) → ToldTo E s depth at → ToldDown E s depth at.term
  to_down zero at h zero l u (inl e) = subst (Told E s) e h
  to_down zero at h zero l u (inr n) = absurd n
  to_down zero at h (suc k) l u i = absurd (omega arith)
  to_down (suc depth) at h zero l u (inl e) = subst (Told E s) e h.0
  to_down (suc depth) at h zero l u (inr n) = absurd n
  to_down (suc depth) at h (suc k) l u i =
      let a = level_first E.table k at.term u i in
      let b = further_steps E.table at a.0 a.1 in
      to_down depth b.0 (h.1 b.0 b.1) k (omega arith) u (subst (λ (w : Term). Has (level E.table k w) u) (sym b.2) a.2)
