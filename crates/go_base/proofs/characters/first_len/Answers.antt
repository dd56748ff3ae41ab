use Rattle.std.proofs.Common.{rules, refl}
use Rattle.std.specs.Char.{encode_utf8}
use Rattle.go_base.proofs.PlainNames.{begins_plain}
use Rattle.go_base.proofs.characters.first_len.Goals as goal

pub returns-in-Some-clause-some : goal.returns-in-Some-clause-some
unfolding encode_utf8
returns-in-Some-clause-some c =
    begins_plain c.args.alphabet c.in-Some.b.now c.args.bytes.now (c.if-is_plain.ensures.ascii refl) (c.if-is_plain.ensures.named refl) (search rules) (search rules)
