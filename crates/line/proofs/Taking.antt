-- The words of an application stay its own.
use Rattle.std.proofs.Common.{◌≡◌, ℕ, zero, suc, ◌+◌, ◌/◌, refl}
use Rattle.std.specs.Int.{w32, to_le_bytes}
use Rattle.rand_core.specs.Steps.{word_bytes}
use Rattle.rand_chacha.specs.ChaCha.{ChaCha, next_word}
use Rattle.line.specs.Words.{taken}

bytes_stream : (k : ℕ) (words : ChaCha) → (word_bytes (to_le_bytes w32) (next_word 10) k words).1.stream ≡ words.stream
unfolding word_bytes
bytes_stream zero words = refl
bytes_stream (suc k) words = bytes_stream k words

pub taken_stream : (n : ℕ) (words : ChaCha) → (taken n words).1.stream ≡ words.stream
taken_stream n words = bytes_stream ((n + 3) / 4) words
