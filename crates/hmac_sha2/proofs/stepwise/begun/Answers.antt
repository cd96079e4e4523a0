use Rattle.std.proofs.Common.{subst, take}
use Rattle.hmac_sha2.proofs.XorBytes.{take-padded}
use Rattle.hmac_sha2.proofs.stepwise.begun.Goals as goal

pub returns : goal.returns
returns g c =
    let size = g.D.HashFunction.BLOCK_SIZE in
    let block = c.xor_into.new.sum in
    let taken = subst (λ n. g.D.Digest.holds c.new_with_prefix.result (take n block)) c.BLOCK_SIZE.ensures c.new_with_prefix.ensures in
    subst (g.D.Digest.holds c.new_with_prefix.result)
    (take-padded c.args.key.now block c.args.pad size 128 c.xor_into.ensures c.requires g.met.D.HashFunction.block_fits) taken
