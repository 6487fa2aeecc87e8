use Rattle.std.proofs.lemmas.Nat.{or_lt, xor_lt}
use Rattle.pg_num.specs.Numbers.{width_bits}
use Rattle.pg_num.proofs.bitwise.bits.Goals as goal

pub returns-in-Or-clause-in_range : goal.returns-in-Or-clause-in_range
returns-in-Or-clause-in_range c = λ w a b. or_lt (width_bits w) c.args.a c.args.b a b

pub returns-in-Xor-clause-in_range : goal.returns-in-Xor-clause-in_range
returns-in-Xor-clause-in_range c = λ w a b. xor_lt (width_bits w) c.args.a c.args.b a b
