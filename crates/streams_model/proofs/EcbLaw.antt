-- ECB over data and one more part, from what was kept of the data.
use Rattle.std.proofs.Common.{◌≡◌, ℕ, ◌+◌, ◌*◌, ◌/◌, ◌≤◌, List, [], ◌++◌, length, take, drop, ap, sym, subst, ◌∙◌, arith, ◌<◌}
use Rattle.std.proofs.Math.Seq.{take-add}
use Rattle.std.proofs.lemmas.List.{take-append-le, drop_at}
use Rattle.std.proofs.lemmas.List.Elements.{All-append, All-nil}
use Rattle.fips_197.specs.Bytes.{AreBytes}
use Rattle.fips_197.specs.Encrypt.{encrypted_block}
use Rattle.fips_197.specs.KeyExpansion.{IsKey}
use Rattle.aes_modes.specs.Blocks.{first_blocks}
use Rattle.aes_modes.specs.Modes.{ecb_block, ecb_blocks}
use Rattle.aes_modes.proofs.Texts.{first_blocks-add, first_blocks-alike, first_blocks-append, block_of-drop}
use Rattle.aes_modes.proofs.Chains.{ecb_block-append}
use Rattle.streams_model.specs.EcbFlows.{IsEcbEncrypted, IsEcbDecrypted}
use Rattle.streams_model.proofs.Pieces.{joined, whole, count_after, size_after}

ecb_block-drop : (key text : List ℕ) (q i : ℕ) → ecb_block key text (q + i) ≡ ecb_block key (drop (16 * q) text) i
unfolding ecb_block
ecb_block-drop key text q i = ap (encrypted_block key) (sym (block_of-drop text q i))

ecb_blocks-add : (key text : List ℕ) (q i : ℕ)
    → ecb_blocks key text (q + i) ≡ ecb_blocks key text q ++ ecb_blocks key (drop (16 * q) text) i
ecb_blocks-add key text q i =
    first_blocks-add (ecb_block key text) q i
    ∙ ap (λ l. ecb_blocks key text q ++ l)
    (first_blocks-alike (λ j. ecb_block key text (q + j)) (ecb_block key (drop (16 * q) text)) i (λ j _. ecb_block-drop key text q j))

-- one more part
module _ (key given taken piece kept out all after : List ℕ) (n len : ℕ)
    (k : kept ≡ drop (16 * (length taken / 16)) taken) (l : len ≡ length kept) (is : n ≡ (len + length piece) / 16)
    (a : after ≡ taken ++ piece) (o : all ≡ given ++ out) (size : length out ≡ 16 * n) where
  abbrev pub q : ℕ
  q = length taken / 16

  pub ecb_further : IsEcbEncrypted (record { iv = []; key = key; held = 0; taken = taken; given = given })
      → out ≡ ecb_blocks key (kept ++ piece) n
      → IsEcbEncrypted (record { iv = []; key = key; held = 0; taken = after; given = all })
  ecb_further g value =
      let at : 16 * q ≤ length taken = whole taken piece kept after n len k l is a in
      let count : q + n ≡ length after / 16 = count_after taken piece kept after n len k l is a in
      let first : given ≡ ecb_blocks key (taken ++ piece) q =
      g.out ∙ sym (first_blocks-append (ecb_block key) (ecb_block-append key) taken piece q at) in
      let later : out ≡ ecb_blocks key (drop (16 * q) (taken ++ piece)) n =
      value ∙ ap (λ x. ecb_blocks key x n) (joined taken piece kept q at k) in
      record {
        size = size_after taken piece kept after n len k l is a given out all g.size size o;
        out = o ∙ (λ t. first t ++ later t) ∙ sym (ecb_blocks-add key (taken ++ piece) q n) ∙ (λ t. ecb_blocks key (sym a t) (count t));
      }

  pub ecb_further_back : IsEcbDecrypted (record { iv = []; key = key; held = 0; taken = taken; given = given })
      → ecb_blocks key out n ≡ take (16 * n) (kept ++ piece) → AreBytes out
      → IsEcbDecrypted (record { iv = []; key = key; held = 0; taken = after; given = all })
  ecb_further_back g back bytes =
      let both : List ℕ = given ++ out in
      let at : 16 * q ≤ length taken = whole taken piece kept after n len k l is a in
      let count : q + n ≡ length after / 16 = count_after taken piece kept after n len k l is a in
      let sum : 16 * q + 16 * n ≡ 16 * (q + n) = omega arith in
      let first : ecb_blocks key both q ≡ take (16 * q) (taken ++ piece) =
      first_blocks-append (ecb_block key) (ecb_block-append key) given out q (omega (arith, g.size)) ∙ g.back
      ∙ sym (take-append-le (16 * q) taken piece at) in
      let later : ecb_blocks key (drop (16 * q) both) n ≡ take (16 * n) (drop (16 * q) (taken ++ piece)) =
      ap (λ x. ecb_blocks key x n) (drop_at given out (16 * q) g.size) ∙ back ∙ ap (take (16 * n)) (joined taken piece kept q at k) in
      record {
        size = size_after taken piece kept after n len k l is a given out all g.size size o;
        back = (λ i. ecb_blocks key (o i) (sym count i))
            ∙ ecb_blocks-add key both q n ∙ (λ t. first t ++ later t)
            ∙ sym (take-add (16 * q) (16 * n) (taken ++ piece)) ∙ ap (λ m. take m (taken ++ piece)) sum
            ∙ (λ i. take (16 * count i) (sym a i));
        bytes = subst AreBytes (sym o) (All-append (λ b. b < 256) given out g.bytes bytes);
        is_key = g.is_key;
      }

-- where nothing was taken
module _ (key taken given : List ℕ) (t : taken ≡ []) (g : given ≡ []) where
  begun_size : length given ≡ 16 * (length taken / 16)
  begun_size = ap length g ∙ ap (λ l. 16 * (length l / 16)) (sym t)

  pub ecb_begun : IsEcbEncrypted (record { iv = []; key = key; held = 0; taken = taken; given = given })
  unfolding first_blocks
  ecb_begun = record { size = begun_size; out = g ∙ ap (λ l. ecb_blocks key l (length l / 16)) (sym t) }

  pub ecb_begun_back : IsKey key → IsEcbDecrypted (record { iv = []; key = key; held = 0; taken = taken; given = given })
  unfolding first_blocks
  ecb_begun_back is_key = record {
    size = begun_size;
    back = (λ j. ecb_blocks key (g j) (length (t j) / 16)) ∙ ap (λ l. take (16 * (length l / 16)) l) (sym t);
    bytes = subst AreBytes (sym g) (All-nil (λ b. b < 256));
    is_key = is_key;
  }
