use Rattle.std.proofs.Common.{◌≡◌, ◌≤◌, ◌<◌, ℕ, false, vec_len, vec_capacity, slice_index_or}
use Rattle.std.specs.Mem.Slots.{IsFull, slots_items, slots_filled, slots_len}
use Rattle.std.specs.Mem.Slots.Ownership.{Filled}
use Rattle.work_sharing.specs.Results.{AreKept}
use Rattle.work_sharing.proofs.table.emptied.Given as goal

abbrev pub invariant-loop-i : goal.invariant-loop-i
invariant-loop-i g l = record {
  words : IsFull l.closed.words;
  same_words : slots_len l.closed.words ≡ slots_len l.closed.slots;
  left : Filled (slots_filled l.closed.slots) l.i (slots_len l.closed.slots);
  taken : (k : ℕ) → k < l.i → slice_index_or (slots_filled l.closed.slots) k false ≡ false;
  same_len : slots_len l.closed.slots ≡ l.count;
  items : slots_items l.closed.slots ≡ slots_items l.fn.closed.slots;
  same : slots_items l.closed.words ≡ slots_items l.fn.closed.words;
  len : vec_len l.room ≡ l.i;
  capacity : l.count ≤ vec_capacity l.room;
  kept : AreKept (slots_items l.fn.closed.words) (slots_items l.fn.closed.slots) l.room.items;
}
