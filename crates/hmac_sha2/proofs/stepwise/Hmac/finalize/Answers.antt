use Rattle.std.proofs.Common.{◌∙◌, ap, ◌++◌}
use Rattle.hmac_sha2.specs.Hmac.{hmac, outer_pad, padded_key}
use Rattle.hmac_sha2.proofs.stepwise.Hmac.finalize.Goals as goal

pub returns : goal.returns
unfolding hmac
returns g c = λ key message h.
    let hash = g.D.HashFunction.hash in
    let size = g.D.HashFunction.BLOCK_SIZE in
    let inner = c.as_bytes.ensures ∙ g.met.D.HashFunction.digest_is_hash _ _ (c.finalize-digest.ensures _ h.inner) in
    g.met.D.HashFunction.digest_is_hash _ _ (c.finalize.ensures _ (c.update.ensures _ h.outer))
    ∙ ap (λ d. hash (padded_key hash size outer_pad key ++ d)) inner
