-- The whole blocks of a text under counters, and what is behind them.
use Rattle.std.proofs.Common.{◌≡◌, ℕ, ◌+◌, ◌-◌, ◌*◌, ◌/◌, List, length, drop, ap, ◌∙◌, arith}
use Rattle.std.specs.Int.{w128, to_be_bytes}
use Rattle.std.proofs.lemmas.List.{length-drop}
use Rattle.fips_197.specs.Bytes.{xor_bytes}
use Rattle.fips_197.specs.KeyExpansion.{IsKey}
use Rattle.fips_197.specs.Encrypt.{encrypted_block}
use Rattle.fips_197.specs.Texts.{block_of}
use Rattle.aes_modes.specs.Blocks.{first_blocks}
use Rattle.aes_modes.proofs.CountedTexts.{counted-size}
use Rattle.streams_model.specs.Countings.{number_block}

pub record IsWholeCounted (key : List ℕ) (number : ℕ) (text out rest : List ℕ) : Type 0 where
  pub is : out ≡ first_blocks (number_block key number text) (length text / 16)
  pub size : length out ≡ 16 * (length text / 16)
  pub behind : rest ≡ drop (16 * (length text / 16)) text
  pub left : length rest ≡ length text - 16 * (length text / 16)

pub whole_counted : (key : List ℕ) (number n : ℕ) (text out rest : List ℕ) → IsKey key → n ≡ length text / 16
    → out ≡ first_blocks (λ i. xor_bytes (block_of text i) (encrypted_block key (to_be_bytes w128 (number + i)))) n
    → rest ≡ drop (16 * n) text → IsWholeCounted key number text out rest
unfolding number_block
whole_counted key number n text out rest is_key count is behind =
    let out_is = is ∙ ap (first_blocks (number_block key number text)) count in
    let rest_is = behind ∙ ap (λ k. drop (16 * k) text) count in
    record {
      is = out_is;
      size = ap length out_is ∙ counted-size key text number (length text / 16) is_key (omega arith);
      behind = rest_is;
      left = ap length rest_is ∙ length-drop (16 * (length text / 16)) text;
    }
