use Rattle.std.proofs.Common.{refl}
use Rattle.fips_197.specs.Cipher.{add_round_key}
use Rattle.aes_block.proofs.RoundWords.{state_bytes-xor}
use Rattle.aes_block.proofs.state.State.add_round_key.Goals as goal

pub returns : goal.returns
unfolding add_round_key
returns c = state_bytes-xor c.args.self c.args.key _ refl refl refl refl
