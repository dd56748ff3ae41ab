use Rattle.go_reading.proofs.OneReading.{one_reading}
use Rattle.go_reading.proofs.laws.one_reading.Goals as goal

pub returns : goal.returns
returns c = λ p files a b k l.
    one_reading c.one_header.ensures.header c.one_header.ensures.cause c.one_header.ensures.either c.one_list.ensures.one c.one_list.ensures.one_offset c.one_list.ensures.not_both c.one_tree.ensures.same p files a b k l
