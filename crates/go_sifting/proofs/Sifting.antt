-- Flags of those that lead to one that fails by itself are flags of the lost declarations.
use Rattle.std.proofs.Common.{◌≡◌, ℕ, ◌<◌, Bool, true, false, ◌||◌, List, length, refl, sym, ◌∙◌, subst, ◌⊎◌, inl, inr, arith}
use Rattle.std.specs.Prelude.{not}
use Rattle.std.proofs.lemmas.Option.{slice_get_within}
use Rattle.go_base.specs.Lists.{Has}
use Rattle.go_graphs.specs.Flags.{AreFlagsOf, is_flagged}
use Rattle.go_graphs.specs.Ranks.{FallsAlong, HasRank as HasRankIn, has_rank}
use Rattle.go_graphs.specs.Walks.{LeadsBack, LeadsInto, is_end, leads_by, LeadsTo as LeadsAlong, row_of}
use Rattle.go_graphs.proofs.FallingRanks.{ranks_fall}
use Rattle.go_graphs.proofs.Flagging.{apart, either}
use Rattle.go_typings.specs.Declarations.{declarations}
use Rattle.go_typings.specs.PackageEnvironments.{Entries}
use Rattle.go_typings.specs.References.{LeadsTo, leads_here, leads_by_name, leads_by_method}
use Rattle.go_typings.specs.Sources.{PackageSource, Setting}
use Rattle.go_typings.proofs.Cells.{maybe, or_false}
use Rattle.go_soundness.specs.LostDeclarations.{Depends, HasInLength, IsLost, lost_without_entry, lost_without_rank, lost_by_length, lost_by_asks, lost_by_another}
use Rattle.go_soundness.specs.Ranks.{ComesAfter, HasRank, ranked}
use Rattle.go_soundness.specs.Settled.{AreSifted}
use Rattle.go_sifting.specs.Graphs.{IsGraphOf, Leads, Stands}
use Rattle.go_sifting.specs.declared.graph.DeclarationGraph.{DeclarationGraph}
use Rattle.go_sifting.specs.inner.Ends.{AreEnds, fails}

cleared : (b : Bool) → not b ≡ false → b ≡ true
cleared true e = refl
cleared false e = apart e

-- one of the three is why
which : (b c d : Bool) → (not b || (not c || d)) ≡ true → (b ≡ false) ⊎ ((c ≡ false) ⊎ (d ≡ true))
which false c d e = inl refl
which true false d e = inr (inl refl)
which true true d e = inr (inr e)

module _ (s : Setting) (u : PackageSource) (a : Entries) where
  rank_in : (rows : List (List ℕ)) → ((m n : ℕ) → Has (row_of rows m) n → ComesAfter s u a m n) → (m : ℕ) → HasRank s u a m → HasRankIn rows m
  rank_in rows h m (ranked k) = has_rank (λ n i. rank_in rows h n (k n (h m n i)))

  module _ (rows : List (List ℕ)) (to : (m n : ℕ) → Has (row_of rows m) n → Leads s u a m n) (of : (m n : ℕ) → Leads s u a m n → Has (row_of rows m) n) where
    leads_between : (n m : ℕ) → LeadsAlong rows m n → LeadsTo s u a m n
    leads_between n m (is_end (inl e)) = subst (λ (z : ℕ). LeadsTo s u a z n) e leads_here
    leads_between n m (is_end (inr e)) = absurd e
    leads_between n m (leads_by k h r) = elim (to m k h) [
      | inl p ↦ leads_by_name k p (leads_between n k r)
      | inr p ↦ leads_by_method k p (leads_between n k r)
    ]

    leads_along : {m n : ℕ} → LeadsTo s u a m n → LeadsAlong rows m n
    leads_along leads_here = is_end (inl refl)
    leads_along {m = m} (leads_by_name k p r) = leads_by k (of m k (inl p)) (leads_along r)
    leads_along {m = m} (leads_by_method k p r) = leads_by k (of m k (inr p)) (leads_along r)

  module _
      (g : DeclarationGraph) (standing ranks back lost : List Bool) (ends : List ℕ)
      (graph : IsGraphOf s u a g)
      (stand : AreFlagsOf (length (declarations u)) (Stands s u a) standing)
      (rank : AreFlagsOf (length g.after) (HasRankIn g.after) ranks)
      (straight : AreFlagsOf (length g.leads) (LeadsBack g.leads g.lengths) back)
      (end : AreEnds standing ranks back (length g.depends) ends)
      (leading : AreFlagsOf (length g.depends) (LeadsInto g.depends ends) lost) where
    abbrev count : ℕ
    count = length (declarations u)

    abbrev Fails : ℕ → Bool
    Fails n = fails standing ranks back n

    -- ---- what is flagged is lost

    not_standing : (n : ℕ) → n < count → is_flagged standing n ≡ false → IsLost s u a n
    not_standing n l e = elim (maybe (a n)) [
      | inl x ↦ lost_by_asks l (λ k. apart (sym (stand.complete n l (record { entry = x.0; had = x.1; meets = k })) ∙ e))
      | inr q ↦ lost_without_entry l q
    ]

    not_ranked : (n : ℕ) → n < count → is_flagged ranks n ≡ false → IsLost s u a n
    not_ranked n l e =
        let q = graph.after.size in
        lost_without_rank (λ k. apart (sym (rank.complete n (omega (arith, l, q)) (rank_in g.after (λ m i h. (graph.after.exact m i).0 h) n k)) ∙ e))

    going_back : (n : ℕ) → is_flagged back n ≡ true → IsLost s u a n
    going_back n e =
        let k = straight.sound n e in
        lost_by_length k.0 ((graph.lengths.exact n k.0).0 k.1) (leads_between g.leads (λ m i. (graph.leads.exact m i).0) (λ m i. (graph.leads.exact m i).1) n k.0 k.2)

    end_lost : (n : ℕ) → Has ends n → IsLost s u a n
    end_lost n h =
        let k = (end n).0 h in
        let q = graph.depends.size in
        let p = k.0 in
        let l : n < count = omega (arith, p, q) in
        elim (which (is_flagged standing n) (is_flagged ranks n) (is_flagged back n) k.1) [
          | inl e ↦ not_standing n l e
          | inr r ↦ elim r [ inl e ↦ not_ranked n l e | inr e ↦ going_back n e ]
        ]

    walk_lost : (n : ℕ) → LeadsInto g.depends ends n → IsLost s u a n
    walk_lost n (is_end h) = end_lost n h
    walk_lost n (leads_by m h k) = lost_by_another m ((graph.depends.exact n m).0 h) (walk_lost m k)

    -- ---- what isn't flagged has all that is asked

    within : (n : ℕ) → n < count → n < length g.depends
    within n l = let q = graph.depends.size in omega (arith, l, q)

    not_failing : (n : ℕ) → n < count → is_flagged lost n ≡ false → Fails n ≡ false
    not_failing n l e = elim (either (Fails n)) [
      | inl f ↦ apart (sym (leading.complete n (within n l) (is_end ((end n).1 (within n l, f)))) ∙ e)
      | inr f ↦ f
    ]

    kept_stands : (n : ℕ) → n < count → is_flagged lost n ≡ false → Stands s u a n
    kept_stands n l e = stand.sound n (cleared (is_flagged standing n) (or_false (not (is_flagged standing n)) (not (is_flagged ranks n) || is_flagged back n) (not_failing n l e)).0)

    kept_rest : (n : ℕ) → n < count → is_flagged lost n ≡ false → (not (is_flagged ranks n) ≡ false) × (is_flagged back n ≡ false)
    kept_rest n l e = or_false (not (is_flagged ranks n)) (is_flagged back n) (or_false (not (is_flagged standing n)) (not (is_flagged ranks n) || is_flagged back n) (not_failing n l e)).1

    abbrev falling : (rank : ℕ → ℕ) × FallsAlong g.after (is_flagged ranks) rank
    falling = ranks_fall g.after ranks rank

    falls : (m n : ℕ) → is_flagged lost m ≡ false → ComesAfter s u a m n → falling.0 n < falling.0 m
    falls m n e h =
        falling.1 m n (cleared (is_flagged ranks m) (kept_rest m (slice_get_within (declarations u) m h.0 h.1) e).0) ((graph.after.exact m n).1 h)

    no_length_back : (m n : ℕ) → is_flagged lost m ≡ false → HasInLength s u a m n → LeadsTo s u a n m → ⊥
    no_length_back m n e h r =
        let l = slice_get_within (declarations u) m h.0 h.1 in
        let q = graph.leads.size in
        apart (sym (straight.complete m (omega (arith, l, q)) (n, (graph.lengths.exact m n).1 h, leads_along g.leads (λ i j. (graph.leads.exact i j).0) (λ i j. (graph.leads.exact i j).1) r)) ∙ (kept_rest m l e).1)

    closed : (m n : ℕ) → is_flagged lost m ≡ false → Depends s u a m n → is_flagged lost n ≡ false
    closed m n e h = elim (either (is_flagged lost n)) [
      | inl f ↦ apart (sym (leading.complete m (within m (slice_get_within (declarations u) m h.0 h.1)) (leads_by n ((graph.depends.exact m n).1 h) (leading.sound n f))) ∙ e)
      | inr f ↦ f
    ]

    sifted : AreSifted s u a (is_flagged lost)
    sifted = record {
      marked = λ n l e. walk_lost n (leading.sound n e);
      entered = λ n l e. (let k = kept_stands n l e in (k.entry, k.had));
      rank = falling.0;
      falls = falls;
      straight = no_length_back;
      meets = λ n l e. (kept_stands n l e).meets;
      closed = closed;
    }

    pub all_sifted : (length lost ≡ length (declarations u)) × AreSifted s u a (is_flagged lost)
    all_sifted = (leading.size ∙ graph.depends.size, sifted)
