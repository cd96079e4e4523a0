-- CTR in parts (SP 800-38A, 6.5).
use Rattle.std.specs.Prelude.{ℕ, ◌+◌, List, [], ◌++◌}
use Rattle.std.specs.Int.{w128, to_be_bytes}
use Rattle.fips_197.specs.Bytes.{xor_bytes}
use Rattle.fips_197.specs.Encrypt.{encrypted_block}
use Rattle.fips_197.specs.Texts.{block_of}
use Rattle.aes_modes.specs.Blocks.{first_blocks, blocks_begun}
use Rattle.aes_modes.specs.Modes.{ctr_encrypted}

-- how many low bits count, the counter block that it begins with, the key and the data taken
pub record Counting : Type 0 where
  pub bits : ℕ
  pub start : List ℕ
  pub key : List ℕ
  pub taken : List ℕ

abbrev pub begun_counting : ℕ → List ℕ → List ℕ → Counting
begun_counting bits start key = record { bits = bits; start = start; key = key; taken = [] }

abbrev pub counted_further : Counting → List ℕ → Counting
counted_further c piece = record c { taken = c.taken ++ piece }

-- the output for the data taken
abbrev pub ctr_output : Counting → List ℕ
ctr_output c = ctr_encrypted c.key c.bits c.start c.taken

-- a text under counters that are a number and the next ones
unfoldable pub number_block : List ℕ → ℕ → List ℕ → ℕ → List ℕ
number_block key number text i = xor_bytes (block_of text i) (encrypted_block key (to_be_bytes w128 (number + i)))

abbrev pub numbered : List ℕ → ℕ → List ℕ → List ℕ
numbered key number text = first_blocks (number_block key number text) (blocks_begun text)
