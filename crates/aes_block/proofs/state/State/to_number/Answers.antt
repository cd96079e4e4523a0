use Rattle.std.proofs.Common.{sym, arith}
use Rattle.aes_block.specs.Words.{word_bytes, state_bytes}
use Rattle.fips_197.proofs.Numbers.{to_be_bytes-words}
use Rattle.aes_block.proofs.state.State.to_number.Goals as goal

pub returns : goal.returns
unfolding word_bytes state_bytes
returns c =
    let s = c.args.self in
    sym (to_be_bytes-words _ s.0 s.1 s.2 s.3 (omega arith) (omega arith) (omega arith) (omega arith))
