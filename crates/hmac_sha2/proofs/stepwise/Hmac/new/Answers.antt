use Rattle.std.proofs.Common.{◌≡◌, ◌∙◌, ap, subst, sym, ℕ, List, [], length, replicate, ◌≤◌, ◌<◌, arith}
use Rattle.std.proofs.lemmas.List.{append-nil}
use Rattle.hmac_sha2.specs.Hmac.{zero_padded, xor_strings, inner_pad, outer_pad, block_key, padded_key}
use Rattle.hmac_sha2.specs.Stepwise.{HoldsMessage}
use Rattle.hmac_sha2.specs.declared.stepwise.Hmac.{Hmac}
use Rattle.hmac_sha2.proofs.Keys.{block_key-short, block_key-long}
use Rattle.hmac_sha2.proofs.stepwise.Hmac.new.Goals as goal

-- two hashers begun with K0 under the pads
holds-begun : {D : Type 0} (holds : D → List ℕ → Type 0) (hash : List ℕ → List ℕ) (size : ℕ) (h : Hmac D) (key k0 : List ℕ)
    → k0 ≡ block_key hash size key
    → holds h.inner (xor_strings k0 (replicate size inner_pad)) → holds h.outer (xor_strings k0 (replicate size outer_pad))
    → HoldsMessage holds hash size h key []
unfolding padded_key
holds-begun holds hash size h key k0 is inner outer = record {
  inner = subst (holds h.inner) (ap (λ b. xor_strings b (replicate size inner_pad)) is ∙ sym (append-nil _)) inner;
  outer = subst (holds h.outer) (ap (λ b. xor_strings b (replicate size outer_pad)) is) outer;
}

pub returns-then-key-BLOCK_SIZE : goal.returns-then-key-BLOCK_SIZE
returns-then-key-BLOCK_SIZE g c =
    let hash = g.D.HashFunction.hash in
    let size = g.D.HashFunction.BLOCK_SIZE in
    let short : length c.args.key.now ≤ size = omega (arith, c.BLOCK_SIZE.ensures) in
    holds-begun _ hash size _ c.args.key.now _
    (sym (block_key-short hash size c.args.key.now short)) c.under.ensures.inner c.under.ensures.outer

pub returns-else-key-BLOCK_SIZE : goal.returns-else-key-BLOCK_SIZE
returns-else-key-BLOCK_SIZE g c =
    let hash = g.D.HashFunction.hash in
    let size = g.D.HashFunction.BLOCK_SIZE in
    let long : size < length c.args.key.now = omega (arith, c.BLOCK_SIZE.ensures) in
    let digest = c.as_bytes.ensures ∙ g.met.D.HashFunction.digest_is_hash _ _ c.digest.ensures in
    holds-begun _ hash size _ c.args.key.now _ (ap (zero_padded size) digest ∙ sym (block_key-long hash size c.args.key.now long))
    c.under-else-key-BLOCK_SIZE.ensures.inner c.under-else-key-BLOCK_SIZE.ensures.outer
