use Rattle.std.proofs.Common.{◌≡◌, ◌≤◌, map, bit_xor, ap, ◌∙◌, arith, below_more}
use Rattle.std.proofs.lemmas.Simd.{map-map}
use Rattle.fips_197.specs.Cipher.{round_key}
use Rattle.aes_vector.specs.Halves.{basis}
use Rattle.aes_vector.proofs.StoredRoundKeys.{IsBlock-part}
use Rattle.aes_vector.proofs.prepared.prepared.Goals as goal

pub middle-preserved : goal.middle-preserved
middle-preserved c =
    let w = c.args.schedule.now in
    let r = c.middle.r in
    let next = c.store-in-middle.new.keys in
    record {
      first = c.store-in-middle.ensures.others 0 (omega arith) (omega arith) ∙ c.middle.invariant.first;
      so_far = below_more (λ q. 1 ≤ q → round_key next q ≡ map (λ b. basis (bit_xor b 0x63)) (round_key w q)) r
          (λ q lt low. c.store-in-middle.ensures.others q (omega arith) (omega arith) ∙ c.middle.invariant.so_far q lt low)
          (λ low. c.store-in-middle.ensures.here ∙ c.in_tables.ensures ∙ ap (map basis) (c.with_constant-key.ensures
          ∙ ap (map (λ b. bit_xor b 0x63)) c.round_key-in-middle.ensures) ∙ map-map basis (λ b. bit_xor b 0x63) (round_key w r));
    }

pub returns : goal.returns
returns c =
    let w = c.args.schedule.now in
    let n = c.args.rounds in
    record {
      blocks = λ r le. IsBlock-part w r c.are_bytes.ensures (omega arith);
      first = c.store-2.ensures.others 0 (omega arith) (omega arith) ∙ c.middle.invariant.first;
      middle = λ r low lt. c.store-2.ensures.others r (omega arith) (omega arith) ∙ c.middle.invariant.so_far r (omega arith) low;
      last = c.store-2.ensures.here ∙ c.with_constant.ensures ∙ ap (map (λ b. bit_xor b 0x63)) c.round_key-2.ensures;
    }
