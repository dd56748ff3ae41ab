-- A folder in which no path lies has no entry, and else some.
use Rattle.std.proofs.Common.{◌∙◌, sym, ap, List, length, nat_eq}
use Rattle.go_outside.specs.declared.files.Entry.{Entry}
use Rattle.go_outside.proofs.Lists.{empty_of, some_of}
use Rattle.go_outside.proofs.ListingAnswers.{listing_told, listing_missing}
use Rattle.go_outside.proofs.memory_files.listing.list.Goals as goal

pub returns-then-is_empty-clause-entries : goal.returns-then-is_empty-clause-entries
returns-then-is_empty-clause-entries c = listing_missing c.args.pairs.now c.args.folder.now c.in_ok-entries.entries
    (empty_of c.in_ok-entries.entries (ap (λ (es : List Entry). nat_eq (length es) 0) (sym c.items.ensures) ∙ sym c.is_empty.ensures ∙ c.if-is_empty.true)) c.in_ok-entries.ensures

pub returns-clause-entries : goal.returns-clause-entries
returns-clause-entries c = (
  listing_told c.args.pairs.now c.args.folder.now c.in_ok-entries.entries c.requires c.in_ok-entries.ensures,
  some_of c.in_ok-entries.entries (ap (λ (es : List Entry). nat_eq (length es) 0) (sym c.items.ensures) ∙ sym c.is_empty.ensures ∙ c.if-is_empty.false),
)
