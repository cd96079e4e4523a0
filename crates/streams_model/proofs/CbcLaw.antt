-- CBC encrypted over data and one more part, from what was kept of the data.
use Rattle.std.proofs.Common.{◌≡◌, ℕ, ◌+◌, ◌*◌, ◌/◌, ◌≤◌, List, [], ◌++◌, length, drop, ap, sym, ◌∙◌}
use Rattle.aes_modes.specs.Blocks.{first_blocks}
use Rattle.aes_modes.specs.Modes.{chained, cbc_block, cbc_blocks}
use Rattle.aes_modes.proofs.Texts.{first_blocks-append}
use Rattle.aes_modes.proofs.Chains.{chained-append, chained-add, cbc_block-append, cbc_blocks-add}
use Rattle.streams_model.specs.CbcFlows.{IsCbcEncrypted}
use Rattle.streams_model.proofs.Pieces.{joined, whole, count_after, size_after}

module _ (key iv taken piece chain kept : List ℕ) (q n : ℕ) (at : 16 * q ≤ length taken) (c : chain ≡ chained key iv taken q)
    (k : kept ≡ drop (16 * q) taken) where
  next_chain : chained key chain (kept ++ piece) n ≡ chained key iv (taken ++ piece) (q + n)
  next_chain =
      (λ t. chained key ((c ∙ sym (chained-append key iv taken piece q at)) t) (joined taken piece kept q at k t) n)
      ∙ sym (chained-add key iv (taken ++ piece) q n)

  next_blocks : cbc_blocks key iv taken q ++ cbc_blocks key chain (kept ++ piece) n ≡ cbc_blocks key iv (taken ++ piece) (q + n)
  next_blocks =
      (λ t. sym (first_blocks-append (cbc_block key iv) (cbc_block-append key iv) taken piece q at) t
      ++ cbc_blocks key ((c ∙ sym (chained-append key iv taken piece q at)) t) (joined taken piece kept q at k t) n)
      ∙ sym (cbc_blocks-add key iv (taken ++ piece) q n)

-- where nothing was taken
module _ (key iv start taken given : List ℕ) (is : iv ≡ start) (t : taken ≡ []) (g : given ≡ []) where
  pub begun_chain : iv ≡ chained key start taken (length taken / 16)
  unfolding chained
  begun_chain = is ∙ ap (λ l. chained key start l (length l / 16)) (sym t)

  pub cbc_begun : IsCbcEncrypted (record { iv = start; key = key; held = 0; taken = taken; given = given })
  unfolding first_blocks
  cbc_begun = record {
    size = ap length g ∙ ap (λ l. 16 * (length l / 16)) (sym t);
    out = g ∙ ap (λ l. cbc_blocks key start l (length l / 16)) (sym t);
  }

-- one more part
module _ (key iv taken piece chain kept after : List ℕ) (n len : ℕ)
    (c : chain ≡ chained key iv taken (length taken / 16)) (k : kept ≡ drop (16 * (length taken / 16)) taken)
    (l : len ≡ length kept) (is : n ≡ (len + length piece) / 16) (a : after ≡ taken ++ piece) where
  pub chain_after : (next : List ℕ) → next ≡ chained key chain (kept ++ piece) n → next ≡ chained key iv after (length after / 16)
  chain_after next e =
      e ∙ next_chain key iv taken piece chain kept (length taken / 16) n (whole taken piece kept after n len k l is a) c k
      ∙ (λ t. chained key iv (sym a t) (count_after taken piece kept after n len k l is a t))

  pub cbc_further : (given out all : List ℕ) → IsCbcEncrypted (record { iv = iv; key = key; held = 0; taken = taken; given = given })
      → length out ≡ 16 * n → out ≡ cbc_blocks key chain (kept ++ piece) n → all ≡ given ++ out
      → IsCbcEncrypted (record { iv = iv; key = key; held = 0; taken = after; given = all })
  cbc_further given out all g size e o = record {
    size = size_after taken piece kept after n len k l is a given out all g.size size o;
    out = o ∙ (λ t. g.out t ++ e t)
        ∙ next_blocks key iv taken piece chain kept (length taken / 16) n (whole taken piece kept after n len k l is a) c k
        ∙ (λ t. cbc_blocks key iv (sym a t) (count_after taken piece kept after n len k l is a t));
  }
