-- A stored key against the definition's.
use Rattle.std.proofs.Common.{◌≡◌, ℕ, ◌+◌, ◌-◌, ◌*◌, ◌/◌, ◌<◌, ◌≤◌, List, length, take, ap, refl, sym, subst, ◌∙◌, arith}
use Rattle.std.proofs.lemmas.List.{take-take}
use Rattle.std.proofs.lemmas.List.Elements.{All-take}
use Rattle.fips_197.specs.Bytes.{IsBlock}
use Rattle.fips_197.specs.Cipher.{round_key, cipher}
use Rattle.fips_197.specs.KeyExpansion.{IsKeyLength, IsKey, word_count, round_count, key_expansion}
use Rattle.fips_197.specs.InverseCipher.{inverse_mix_columns}
use Rattle.fips_197.specs.Encrypt.{encrypted_block}
use Rattle.aes_block.specs.Words.{words_bytes}
use Rattle.aes_block.specs.StoredKey.{scheduled_key_bytes, IsExpanded}
use Rattle.aes_block.specs.declared.Key.TheInside.{Inside}
use Rattle.fips_197.proofs.KeySchedules.{round_count-bounds, IsBlock-round_key}
use Rattle.fips_197.proofs.ScheduleParts.{same_round_key, same_cipher, expanded_words-front}
use Rattle.aes_block.proofs.WordsInRow.{AreBytes-words_bytes}

-- ---- what a stored key is and does

pub IsKey-stored : (k : Inside) → IsExpanded k → IsKey (scheduled_key_bytes k)
unfolding scheduled_key_bytes
IsKey-stored k h = record {
  size = h.size;
  bytes = All-take (λ b. b < 256) (4 * (k.rounds - 6)) (words_bytes k.schedule)
      (AreBytes-words_bytes k.schedule);
}

pub rounds-bounds : (k : Inside) → IsExpanded k → (10 ≤ k.rounds) × (k.rounds ≤ 14)
rounds-bounds k h =
    let bounds = round_count-bounds (scheduled_key_bytes k) h.size in
    (omega (arith, h.rounds, bounds), omega (arith, h.rounds, bounds))

pub size-stored : (k : Inside) → IsExpanded k → 4 * (k.rounds - 6) ≡ length (scheduled_key_bytes k)
unfolding round_count word_count
size-stored k h = omega (arith, h.rounds, h.size)

pub IsBlock-stored : (k : Inside) (r : ℕ) → IsExpanded k → r ≤ k.rounds → IsBlock (round_key (words_bytes k.schedule) r)
IsBlock-stored k r h le =
    subst IsBlock (sym (same_round_key (words_bytes k.schedule) (key_expansion (scheduled_key_bytes k)) k.rounds r h.schedule le))
    (IsBlock-round_key (scheduled_key_bytes k) r (IsKey-stored k h) (omega (arith, h.rounds)))

pub encrypted-stored : (k : Inside) (b : List ℕ) → IsExpanded k → cipher (words_bytes k.schedule) k.rounds b
    ≡ encrypted_block (scheduled_key_bytes k) b
unfolding encrypted_block
encrypted-stored k b h =
    same_cipher (words_bytes k.schedule) (key_expansion (scheduled_key_bytes k)) b k.rounds h.schedule
    ∙ ap (λ n. cipher (key_expansion (scheduled_key_bytes k)) n b) h.rounds

-- ---- a key that is made

pub key_bytes-made : (k : Inside) (key : List ℕ) → IsKeyLength (length key) → k.rounds ≡ length key / 4 + 6
    → take (16 * (round_count key + 1)) (words_bytes k.schedule) ≡ key_expansion key → scheduled_key_bytes k ≡ key
unfolding scheduled_key_bytes round_count word_count key_expansion
key_bytes-made k key h rounds schedule =
    let m : ℕ = length key / 4 in
    let n : 4 * (k.rounds - 6) ≡ length key = omega arith in
    ap (λ j. take j (words_bytes k.schedule)) n
    ∙ sym (take-take (length key) (16 * (m + 6 + 1)) (words_bytes k.schedule) (omega arith))
    ∙ ap (take (length key)) schedule ∙ expanded_words-front key m (4 * (m + 6 + 1) - m)

rounds-made : (key : List ℕ) → length key / 4 + 6 ≡ round_count key
unfolding round_count word_count
rounds-made key = refl

pub IsExpanded-made : (k : Inside) (key : List ℕ) → IsKeyLength (length key) → k.rounds ≡ length key / 4 + 6
    → take (16 * (round_count key + 1)) (words_bytes k.schedule) ≡ key_expansion key
    → ((r : ℕ) → 1 ≤ r → r < k.rounds → round_key (words_bytes k.inverse_schedule) r
    ≡ inverse_mix_columns (round_key (words_bytes k.schedule) r))
    → IsExpanded k
IsExpanded-made k key h rounds schedule inverse =
    let e = key_bytes-made k key h rounds schedule in
    record {
      size = subst (λ l. IsKeyLength (length l)) (sym e) h;
      rounds = rounds ∙ rounds-made key ∙ ap round_count (sym e);
      schedule = ap (λ n. take (16 * (n + 1)) (words_bytes k.schedule)) (rounds ∙ rounds-made key) ∙ schedule
          ∙ ap key_expansion (sym e);
      inverse_schedule = inverse;
    }
