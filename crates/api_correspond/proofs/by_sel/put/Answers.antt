use Rattle.std.proofs.Common.{ap, ◌∙◌}
use Rattle.std.specs.BTreeMap.{get}
use Rattle.go_model.specs.types.MethodSets.{sel_order}
use Rattle.api_correspond.specs.inner.BySel.{numbers_of}
use Rattle.api_correspond.proofs.Selected.{put_places}
use Rattle.api_correspond.proofs.by_sel.put.Goals as goal

pub returns : goal.returns
returns c = λ s. ap numbers_of (c.in_ok-insert.ensures.updates.0 s) ∙ put_places c.args.sel s c.args.numbers (get sel_order c.args.places.now s)
