-- The modes of SP 800-38A, by block number. Blocks are counted from 0, and those of the standard from 1.
use Rattle.std.specs.Prelude.{ℕ, zero, suc, ◌/◌, List, length}
use Rattle.fips_197.specs.Bytes.{xor_bytes}
use Rattle.fips_197.specs.Encrypt.{encrypted_block}
use Rattle.fips_197.specs.Texts.{block_of}
use Rattle.aes_modes.specs.Blocks.{first_blocks, blocks_begun}
use Rattle.aes_modes.specs.Counter.{counter_block}
use Rattle.aes_modes.specs.Padding.{padded}

-- ---- ECB (6.1): C_j = CIPH_K(P_j)

-- block i of the cipher text
unfoldable pub ecb_block : List ℕ → List ℕ → ℕ → List ℕ
ecb_block key text i = encrypted_block key (block_of text i)

-- the first n blocks of the cipher text
abbrev pub ecb_blocks : List ℕ → List ℕ → ℕ → List ℕ
ecb_blocks key text n = first_blocks (ecb_block key text) n

-- a text of whole blocks, encrypted
abbrev pub ecb_encrypted : List ℕ → List ℕ → List ℕ
ecb_encrypted key text = ecb_blocks key text (length text / 16)

-- ---- CBC (6.2): C_1 = CIPH_K(P_1 ⊕ IV), and C_j = CIPH_K(P_j ⊕ C_(j-1)) for the further ones

-- what block n is added to: the initialization vector, and then the block before of the cipher text
unfoldable pub chained : List ℕ → List ℕ → List ℕ → ℕ → List ℕ
chained key iv text zero = iv
chained key iv text (suc n) = encrypted_block key (xor_bytes (block_of text n) (chained key iv text n))

-- block i of the cipher text
abbrev pub cbc_block : List ℕ → List ℕ → List ℕ → ℕ → List ℕ
cbc_block key iv text i = chained key iv text (suc i)

-- the first n blocks of the cipher text
abbrev pub cbc_blocks : List ℕ → List ℕ → List ℕ → ℕ → List ℕ
cbc_blocks key iv text n = first_blocks (cbc_block key iv text) n

-- a text of whole blocks, encrypted
abbrev pub cbc_encrypted : List ℕ → List ℕ → List ℕ → List ℕ
cbc_encrypted key iv text = cbc_blocks key iv text (length text / 16)

-- a text with its padding, encrypted
abbrev pub cbc_pad_encrypted : List ℕ → List ℕ → List ℕ → List ℕ
cbc_pad_encrypted key iv text = cbc_encrypted key iv (padded text)

-- ---- CTR (6.5): C_j = P_j ⊕ O_j, where O_j = CIPH_K(T_j), of which a shorter last block takes the
-- first bytes

-- the output block O of block i
unfoldable pub output_block : List ℕ → ℕ → List ℕ → ℕ → List ℕ
output_block key m start i = encrypted_block key (counter_block m start i)

-- block i of the cipher text
unfoldable pub ctr_block : List ℕ → ℕ → List ℕ → List ℕ → ℕ → List ℕ
ctr_block key m start text i = xor_bytes (block_of text i) (output_block key m start i)

-- the first n blocks of the cipher text
abbrev pub ctr_blocks : List ℕ → ℕ → List ℕ → List ℕ → ℕ → List ℕ
ctr_blocks key m start text n = first_blocks (ctr_block key m start text) n

-- a text of any length, encrypted
abbrev pub ctr_encrypted : List ℕ → ℕ → List ℕ → List ℕ → List ℕ
ctr_encrypted key m start text = ctr_blocks key m start text (blocks_begun text)
