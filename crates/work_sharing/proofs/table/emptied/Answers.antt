use Rattle.std.proofs.Common.{◌≡◌, ℕ, List, length, false, get_or, sym, ap, ◌∙◌, subst, arith, rules}
use mathlib.Core.Option.{some}
use lib.ListN.{get_elem?}
use Rattle.std.proofs.lemmas.List.{get_or-set_same, get_or-set_other}
use Rattle.std.specs.Prelude.{slice_set}
use Rattle.std.specs.Mem.Slots.{IsFull, slots_counts, slots_filled, slots_items}
use Rattle.work_sharing.specs.Results.{AreKept}
use Rattle.work_sharing.proofs.Kept.{kept_more, nearer}
use Rattle.work_sharing.proofs.Rows.{by_eq}
use Rattle.work_sharing.proofs.table.emptied.Goals as goal

pub loop-i-preserved : goal.loop-i-preserved
loop-i-preserved g c =
    let others = c.take-slot.ensures.others in
    let fs = slots_filled c.loop-i.closed.slots in
    let ws = slots_items c.args.closed.words in
    let xs = slots_items c.args.closed.slots in
    let kept = c.loop-i.room.items in
    let at : c.loop-i.i ≡ length kept = sym c.loop-i.invariant.len ∙ c.loop-i.room.ok.0 in
    let word : get_elem? ws (length kept) ≡ some c.word-word.result =
    subst (λ (n : ℕ). get_elem? ws n ≡ some c.word-word.result) at
    (subst (λ (l : List ℕ). get_elem? l c.loop-i.i ≡ some c.word-word.result) c.loop-i.invariant.same c.word-word.ensures) in
    let slot : get_elem? xs (length kept) ≡ some c.take-slot.result =
    subst (λ (n : ℕ). get_elem? xs n ≡ some c.take-slot.result) at
    (subst (λ l. get_elem? l c.loop-i.i ≡ some c.take-slot.result) c.loop-i.invariant.items c.take-slot.ensures.value) in
    record {
      words = subst IsFull (sym others.3) c.loop-i.invariant.words;
      same_words = search rules;
      left = λ k lo hi. ap (λ f. get_or f k false) others.1 ∙ (get_or-set_other fs c.loop-i.i k false false (λ q. omega (arith, q, lo)) ∙ c.loop-i.invariant.left k (omega (arith, lo)) (omega (arith, hi, others.2)));
      taken = λ k lt. ap (λ f. get_or f k false) others.1 ∙ by_eq k c.loop-i.i (get_or (slice_set fs c.loop-i.i false) k false ≡ false)
          (λ q. subst (λ n. get_or (slice_set fs c.loop-i.i false) n false ≡ false) (sym q) (get_or-set_same fs c.loop-i.i false false (omega (arith, c.loop-i-test.true, c.loop-i.invariant.same_len, (slots_counts c.loop-i.closed.slots).1))))
          (λ ne. get_or-set_other fs c.loop-i.i k false false ne ∙ c.loop-i.invariant.taken k (nearer k c.loop-i.i lt ne));
      same_len = search rules;
      items = search rules;
      same = search rules;
      len = search rules;
      capacity = search rules;
      kept = subst (AreKept ws xs) (sym c.in-Ok.ensures.items) (kept_more ws xs kept c.word-word.result c.take-slot.result c.filled_slot.result word slot c.filled_slot.ensures.filled c.filled_slot.ensures.other c.loop-i.invariant.kept);
    }
