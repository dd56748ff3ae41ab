-- What is found in a statement, from what is found in its header and behind it.
use Rattle.std.proofs.Common.{inl, inr, ◌≡◌, ◌⊎◌, Bool, true, false, ◌&&◌, List, sym, subst}
use Rattle.go_flat_statements.specs.Judging.{JudgesKind}
use Rattle.go_judged.specs.Judging.{Judges, JudgesTo, both}
use Rattle.go_judged.specs.declared.judged.Judged.{Judged}
use Rattle.go_judged.proofs.Joining.{no_typed, so_false, so_true}
use Rattle.go_local_scopes.specs.States.{Reaches}
use Rattle.go_local_scopes.proofs.Standing.{reached, unreached}
use Rattle.go_rules.specs.Environments.{Env}
use Rattle.go_selectors.specs.Answers.{Decides}
use Rattle.go_statement_rules.specs.Functions.{Enclosing, Run}
use Rattle.go_statement_rules.specs.Scopes.{Scopes}
use Rattle.go_statement_rules.specs.Statements.{KindLayer, Leaves}
use Rattle.go_syntax.specs.declared.statement.LiteralBlock.{LiteralBlock}
use Rattle.go_untyped_places.specs.Parts.{IsPart}
use Rattle.go_untyped_places.proofs.Surveying.{survey_as, survey_both}

pub none_reached : (T : Scopes → Type 0) (t : Scopes) (a : Bool) → a ≡ false → ((u : Scopes) → T u → ⊥) → Reaches a T t
none_reached T t true e n = absurd (no_typed e)
none_reached T t false e n = n

pub both_reached : (T : Scopes → Type 0) (U : Type 0) (t : Scopes) (a b : Bool) → a ≡ true → Decides b U → (U → T t) → ((u : Scopes) → T u → U) → Reaches (a && b) T t
both_reached T U t false b e d to from = absurd (no_typed (sym e))
both_reached T U t true true e d to from = to d
both_reached T U t true false e d to from = λ u h. d (from u h)

module _ (E : Env) (blocks : List LiteralBlock) (r : Enclosing) (s : Scopes) (k : KindLayer) where
  -- a header in the scopes as they are
  pub record Follows (H Body : Type 0) (Q R : Run → Type 0) : Type 0 where
    pub to_leaves : H → Body → Leaves E blocks r s k s
    pub of_leaves : (u : Scopes) → Leaves E blocks r s k u → H × Body
    pub to_part : (v : Run) → Q v ⊎ (H × R v) → IsPart E blocks r s k v
    pub of_part : (v : Run) → IsPart E blocks r s k v → Q v ⊎ (H × R v)

  module _ (H Body : Type 0) (Q R : Run → Type 0) (f : Follows H Body Q R) where
    pub head_failed : (h : Judged) → h.typed ≡ false → Judges E blocks H Q h → JudgesKind E blocks r s k s h
    head_failed h e j =
        let none = so_false H h.typed e j.0 in (
          none_reached (Leaves E blocks r s k) s h.typed e (λ u l. none (f.of_leaves u l).0),
          survey_as E blocks Q (IsPart E blocks r s k) h.place (λ v q. f.to_part v (inl q)) (λ v p. elim (f.of_part v p) [ inl q ↦ q | inr m ↦ absurd (none m.0) ]) j.1,
        )

    pub head_followed : (h b : Judged) → h.typed ≡ true → Judges E blocks H Q h → Judges E blocks Body R b → JudgesKind E blocks r s k s (both h b)
    head_followed h b e j i =
        let y = so_true H h.typed e j.0 in (
          both_reached (Leaves E blocks r s k) Body s h.typed b.typed e i.0 (f.to_leaves y) (λ u l. (f.of_leaves u l).1),
          survey_as E blocks (λ v. Q v ⊎ R v) (IsPart E blocks r s k) (both h b).place
              (λ v q. elim q [ inl a ↦ f.to_part v (inl a) | inr c ↦ f.to_part v (inr (y, c)) ])
              (λ v p. elim (f.of_part v p) [ inl a ↦ inl a | inr m ↦ inr m.1 ])
              (survey_both E blocks Q R h.place b.place j.1 i.1),
        )

  -- a header that leaves scopes
  pub record Opens (D Body : Scopes → Type 0) (Q : Run → Type 0) (R : Scopes → Run → Type 0) : Type 0 where
    pub once : (t u : Scopes) → D t → D u → t ≡ u
    pub leaves_in : (t : Scopes) → D t → Body t → Leaves E blocks r s k s
    pub leaves_by : (u : Scopes) → Leaves E blocks r s k u → (t : Scopes) × D t × Body t
    pub part_in : (v : Run) → Q v ⊎ ((t : Scopes) × D t × R t v) → IsPart E blocks r s k v
    pub part_by : (v : Run) → IsPart E blocks r s k v → Q v ⊎ ((t : Scopes) × D t × R t v)

  module _ (D Body : Scopes → Type 0) (Q : Run → Type 0) (R : Scopes → Run → Type 0) (o : Opens D Body Q R) (t : Scopes) where
    pub opening_failed : (h : Judged) → h.typed ≡ false → JudgesTo E blocks D t Q h → JudgesKind E blocks r s k s h
    opening_failed h e j =
        let none = unreached D t h.typed e j.0 in (
          none_reached (Leaves E blocks r s k) s h.typed e (λ u l. let w = o.leaves_by u l in none w.0 w.1),
          survey_as E blocks Q (IsPart E blocks r s k) h.place (λ v q. o.part_in v (inl q)) (λ v p. elim (o.part_by v p) [ inl q ↦ q | inr m ↦ absurd (none m.0 m.1) ]) j.1,
        )

    pub opening_followed : (h b : Judged) → h.typed ≡ true → JudgesTo E blocks D t Q h → Judges E blocks (Body t) (R t) b → JudgesKind E blocks r s k s (both h b)
    opening_followed h b e j i =
        let y = reached D t h.typed e j.0 in (
          both_reached (Leaves E blocks r s k) (Body t) s h.typed b.typed e i.0 (o.leaves_in t y) (λ u l. let w = o.leaves_by u l in subst Body (o.once w.0 t w.1 y) w.2),
          survey_as E blocks (λ v. Q v ⊎ R t v) (IsPart E blocks r s k) (both h b).place
              (λ v q. elim q [ inl a ↦ o.part_in v (inl a) | inr c ↦ o.part_in v (inr (t, y, c)) ])
              (λ v p. elim (o.part_by v p) [ inl a ↦ inl a | inr m ↦ inr (subst (λ (z : Scopes). R z v) (o.once m.0 t m.1 y) m.2) ])
              (survey_both E blocks Q (R t) h.place b.place j.1 i.1),
        )
