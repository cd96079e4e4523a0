-- CBC decrypted over data and one more part, from what was kept of the data.
use Rattle.std.proofs.Common.{◌≡◌, ℕ, ◌+◌, ◌-◌, ◌*◌, ◌/◌, ◌<◌, ◌≤◌, List, [], ◌++◌, length, take, drop, ap, sym, subst, ◌∙◌, arith}
use Rattle.std.proofs.Math.Seq.{take-add}
use Rattle.std.proofs.lemmas.List.{take-append-le, drop_at, length-append}
use Rattle.std.proofs.lemmas.List.Elements.{All-append, All-nil}
use Rattle.fips_197.specs.Bytes.{AreBytes, IsBlock}
use Rattle.fips_197.specs.KeyExpansion.{IsKey}
use Rattle.aes_modes.specs.Blocks.{first_blocks}
use Rattle.aes_modes.specs.Modes.{chained, cbc_block, cbc_blocks}
use Rattle.aes_modes.proofs.Texts.{first_blocks-append}
use Rattle.aes_modes.proofs.Chains.{chained-append, chained-add, cbc_block-append, cbc_blocks-add}
use Rattle.streams_model.specs.Flows.{blocks_done}
use Rattle.streams_model.specs.CbcFlows.{IsCbcDecrypted}
use Rattle.streams_model.proofs.Pieces.{joined, whole_held, count_held}

module _ (key iv given taken piece chain kept out : List ℕ) (q n : ℕ) (at : 16 * q ≤ length taken)
    (size : length given ≡ 16 * q) (back : cbc_blocks key iv given q ≡ take (16 * q) taken)
    (c : chain ≡ chained key iv given q) (k : kept ≡ drop (16 * q) taken) where
  more_chain : chained key chain out n ≡ chained key iv (given ++ out) (q + n)
  more_chain =
      (λ t. chained key ((c ∙ sym (chained-append key iv given out q (omega arith))) t) (sym (drop_at given out (16 * q) size) t) n)
      ∙ sym (chained-add key iv (given ++ out) q n)

  more_back : cbc_blocks key chain out n ≡ take (16 * n) (kept ++ piece)
      → cbc_blocks key iv (given ++ out) (q + n) ≡ take (16 * (q + n)) (taken ++ piece)
  more_back b =
      let sum : 16 * q + 16 * n ≡ 16 * (q + n) = omega arith in
      let all : List ℕ = given ++ out in
      let first : cbc_blocks key iv all q ≡ take (16 * q) (taken ++ piece) =
      first_blocks-append (cbc_block key iv) (cbc_block-append key iv) given out q (omega arith) ∙ back
      ∙ sym (take-append-le (16 * q) taken piece at) in
      let later : cbc_blocks key (chained key iv all q) (drop (16 * q) all) n ≡ take (16 * n) (drop (16 * q) (taken ++ piece)) =
      (λ t. cbc_blocks key (((chained-append key iv given out q (omega arith)) ∙ sym c) t) (drop_at given out (16 * q) size t) n)
      ∙ b ∙ ap (take (16 * n)) (joined taken piece kept q at k) in
      cbc_blocks-add key iv all q n ∙ (λ t. first t ++ later t)
      ∙ sym (take-add (16 * q) (16 * n) (taken ++ piece)) ∙ ap (λ m. take m (taken ++ piece)) sum

-- one more part
module _ (key iv given taken piece chain kept out all after : List ℕ) (held n total len : ℕ) (le : held ≤ 1)
    (g : IsCbcDecrypted (record { iv = iv; key = key; held = held; taken = taken; given = given }))
    (c : chain ≡ chained key iv given (blocks_done held taken)) (k : kept ≡ drop (16 * blocks_done held taken) taken)
    (l : len ≡ length kept) (t : total ≡ len + length piece - held) (is : n ≡ total / 16)
    (a : after ≡ taken ++ piece) (o : all ≡ given ++ out) where
  at : 16 * blocks_done held taken ≤ length taken
  at = whole_held held taken piece kept after n total len le k l t is a

  count : blocks_done held taken + n ≡ blocks_done held after
  count = count_held held taken piece kept after n total len le k l t is a

  pub chain_further : (next : List ℕ) → next ≡ chained key chain out n → next ≡ chained key iv all (blocks_done held after)
  chain_further next e =
      e ∙ more_chain key iv given taken piece chain kept out (blocks_done held taken) n at g.size g.back c k
      ∙ (λ i. chained key iv (sym o i) (count i))

  pub cbc_further_back : length out ≡ 16 * n → cbc_blocks key chain out n ≡ take (16 * n) (kept ++ piece) → AreBytes out
      → IsCbcDecrypted (record { iv = iv; key = key; held = held; taken = after; given = all })
  cbc_further_back size back bytes = record {
    size = ap length o ∙ length-append given out ∙ omega (arith, g.size, size, count);
    back = (λ i. cbc_blocks key iv (o i) (sym count i))
        ∙ more_back key iv given taken piece chain kept out (blocks_done held taken) n at g.size g.back c k back
        ∙ (λ i. take (16 * count i) (sym a i));
    block = g.block;
    bytes = subst AreBytes (sym o) (All-append (λ b. b < 256) given out g.bytes bytes);
    is_key = g.is_key;
  }

-- where nothing was taken
module _ (key start taken given chain : List ℕ) (held : ℕ) (i : chain ≡ start) (t : taken ≡ []) (g : given ≡ []) where
  none_done : blocks_done held [] ≡ 0
  none_done = omega arith

  pub cbc_begun_back : IsKey key → IsBlock start
      → IsCbcDecrypted (record { iv = start; key = key; held = held; taken = taken; given = given })
  unfolding first_blocks
  cbc_begun_back is_key block =
      let none : blocks_done held taken ≡ 0 = ap (blocks_done held) t ∙ none_done in
      record {
        size = ap length g ∙ ap (λ n. 16 * n) (sym none);
        back = (λ j. cbc_blocks key start given (none j)) ∙ (λ j. take (16 * sym none j) taken);
        block = block;
        bytes = subst AreBytes (sym g) (All-nil (λ b. b < 256));
        is_key = is_key;
      }

  pub begun_chain_back : chain ≡ chained key start given (blocks_done held taken)
  unfolding chained
  begun_chain_back =
      let none : blocks_done held taken ≡ 0 = ap (blocks_done held) t ∙ none_done in
      i ∙ (λ j. chained key start given (sym none j))
