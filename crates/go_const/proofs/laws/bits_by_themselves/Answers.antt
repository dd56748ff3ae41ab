use Rattle.go_const.proofs.Bits.{and_bits, and_not_bits, complement_bits, or_bits, xor_bits}
use Rattle.go_const.proofs.laws.bits_by_themselves.Goals as goal

pub returns : goal.returns
returns c = record { and = and_bits; or = or_bits; xor = xor_bits; and_not = and_not_bits; complement = complement_bits }
