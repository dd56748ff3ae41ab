use Rattle.std.proofs.lemmas.Result.{on_ok_weaker}
use Rattle.go_base.specs.Lists.{Has}
use Rattle.go_declarations.specs.Listings.{declarations_of}
use Rattle.go_met.proofs.ToldBases.{alike_told}
use Rattle.go_met.specs.inner.SharedNames.{row_names, StandsTwice}
use Rattle.go_met.proofs.bases.tell_type.Goals as goal

pub returns : goal.returns
returns c =
    let ds = declarations_of c.args.declarations.now in
    on_ok_weaker c.tell_rows.result (alike_told ds (Has c.in_ok-shared.shared.keys) (StandsTwice (row_names ds c.args.rows.now)) c.args.name.now c.args.rows.now c.args.told.now.items c.tell_rows.new.told.items c.in_ok-shared.ensures) c.tell_rows.ensures
