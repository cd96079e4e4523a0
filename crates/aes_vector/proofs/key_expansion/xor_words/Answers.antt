use Rattle.std.proofs.Common.{sym, arith}
use Rattle.fips_197.specs.Bytes.{xor_bytes}
use Rattle.aes_vector.proofs.ScheduleBytes.{four_bytes}
use Rattle.aes_vector.proofs.key_expansion.xor_words.Goals as goal

pub returns : goal.returns
unfolding xor_bytes
returns c = sym (λ i. xor_bytes (four_bytes c.args.x (omega arith) i) (four_bytes c.args.y (omega arith) i))
