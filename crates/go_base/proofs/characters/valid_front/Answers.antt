use Rattle.std.proofs.Common.{◌≡◌, ◌∙◌, ap, arith, length}
use Rattle.go_base.proofs.Lists.{length_take}
use Rattle.go_base.proofs.characters.valid_front.Goals as goal

pub returns-in-Ok-from_utf8-clause-longest : goal.returns-in-Ok-from_utf8-clause-longest
returns-in-Ok-from_utf8-clause-longest c n more within u =
    let valid = c.in-Err.ensures.cases.1 in
    let size : length c.in-Ok-from_utf8.text.now ≡ c.valid_up_to.result =
    ap length c.in-Ok-from_utf8.ensures.cases.0 ∙ length_take c.valid_up_to.result c.args.bytes.now (omega (arith, valid.short, c.valid_up_to.ensures)) in
    valid.longest n (omega (arith, more, size, c.valid_up_to.ensures)) u
