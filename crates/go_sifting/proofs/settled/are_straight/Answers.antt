use Rattle.std.proofs.Common.{◌<◌, ℕ, Bool, List, length, subst, sym}
use Rattle.go_graphs.specs.Walks.{LeadsBack}
use Rattle.go_sifting.specs.Orders.{AreAmong}
use Rattle.go_sifting.proofs.settled.are_straight.Goals as goal

pub returns-clause-yes : goal.returns-clause-yes
returns-clause-yes c e = record {
  starts = subst (λ (q : List Bool × List (List ℕ)). AreAmong q.0 q.1) (λ i. (c.deref.ensures.value i, c.items-lengths.ensures i)) (c.are_among.ensures.yes c.if-not-are_among.false);
  closed = subst (λ (q : List Bool × List (List ℕ)). AreAmong q.0 q.1) (λ i. (c.deref-2.ensures.value i, c.deref-3.ensures.value i)) (c.are_among-2.ensures.yes c.if-not-are_among-2.false);
  straight = subst (λ (q : List (List ℕ) × List (List ℕ)). (n : ℕ) → n < length q.0 → LeadsBack q.0 q.1 n → ⊥) (λ i. (c.deref-4.ensures.value i, c.items-lengths.ensures i)) (c.in_ok-straight.ensures.yes e);
}

pub returns-clause-no : goal.returns-clause-no
returns-clause-no c e are =
    c.in_ok-straight.ensures.no e (subst (λ (q : List (List ℕ) × List (List ℕ)). (n : ℕ) → n < length q.0 → LeadsBack q.0 q.1 n → ⊥) (λ i. (sym c.deref-4.ensures.value i, sym c.items-lengths.ensures i)) are.straight)
