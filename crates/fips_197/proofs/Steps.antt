-- The steps of a round take blocks to blocks, and each has its inverse.
use Rattle.std.proofs.Common.{◌≡◌, ℕ, ◌+◌, ◌-◌, ◌*◌, ◌%◌, ◌<◌, List, [], ◌∷◌, length, map, ap, refl, sym, subst, ◌∙◌}
use Rattle.std.proofs.lemmas.List.{length-map}
use Rattle.std.proofs.lemmas.List.Elements.{All-map, All-head, All-tail}
use Rattle.fips_197.specs.Bytes.{AreBytes, IsBlock, xor_bytes}
use Rattle.fips_197.specs.SBox.{s_box, inverse_s_box}
use Rattle.fips_197.specs.State.{byte_at, state}
use Rattle.fips_197.specs.Cipher.{substitute_bytes, shift_rows, mix_polynomial, mix_columns, add_round_key, round, last_round}
use Rattle.fips_197.specs.InverseCipher.{inverse_shift_rows, inverse_substitute_bytes, inverse_mix_polynomial, inverse_mix_columns, inverse_round, inverse_last_round}
use Rattle.fips_197.proofs.SBoxLaws.{s_box-lt, inverse_s_box-lt, s_box-inverse_s_box, inverse_s_box-s_box}
use Rattle.fips_197.proofs.Blocks.{AreBytes-at, IsBlock-state, IsBlock-xor_bytes, by_bytes}
use Rattle.fips_197.proofs.WordProducts.{IsBlock-multiply_columns, multiply_columns-xor, multiply_columns-undone, mix-undoes-inverse, inverse-undoes-mix}

-- ---- the S-box at each byte

AreBytes-map : (f : ℕ → ℕ) (s : List ℕ) → ((x : ℕ) → x < 256 → f x < 256) → AreBytes s → AreBytes (map f s)
AreBytes-map f s keeps bytes = All-map (λ b. b < 256) f s (λ k d lt. keeps _ (bytes k d lt))

pub AreBytes-substitute_bytes : (s : List ℕ) → AreBytes s → AreBytes (substitute_bytes s)
unfolding substitute_bytes
AreBytes-substitute_bytes s bytes = AreBytes-map s_box s s_box-lt bytes

pub length-substitute_bytes : (s : List ℕ) → length (substitute_bytes s) ≡ length s
unfolding substitute_bytes
length-substitute_bytes s = length-map s s_box

IsBlock-map : (f : ℕ → ℕ) (s : List ℕ) → ((x : ℕ) → x < 256 → f x < 256) → IsBlock s → IsBlock (map f s)
IsBlock-map f s keeps block = record { size = length-map s f ∙ block.size; bytes = AreBytes-map f s keeps block.bytes }

-- f undoes g at each byte
map-undone : (f g : ℕ → ℕ) → ((x : ℕ) → x < 256 → f (g x) ≡ x) → (s : List ℕ) → AreBytes s → map f (map g s) ≡ s
map-undone f g undoes [] bytes = refl
map-undone f g undoes (x ∷ s) bytes =
    let here = undoes x (All-head (λ b. b < 256) x s bytes) in
    λ i. here i ∷ map-undone f g undoes s (All-tail (λ b. b < 256) x s bytes) i

-- ---- the rows

IsBlock-shift_rows : (s : List ℕ) → IsBlock s → IsBlock (shift_rows s)
unfolding shift_rows byte_at
IsBlock-shift_rows s block = IsBlock-state (λ r c. byte_at s r ((c + r) % 4))
    (λ r c. AreBytes-at s block.bytes (r + 4 * ((c + r) % 4)))

IsBlock-inverse_shift_rows : (s : List ℕ) → IsBlock s → IsBlock (inverse_shift_rows s)
unfolding inverse_shift_rows byte_at
IsBlock-inverse_shift_rows s block = IsBlock-state (λ r c. byte_at s r ((c + 4 - r) % 4))
    (λ r c. AreBytes-at s block.bytes (r + 4 * ((c + 4 - r) % 4)))

shift_rows-undone : (s : List ℕ) → IsBlock s → shift_rows (inverse_shift_rows s) ≡ s
unfolding shift_rows inverse_shift_rows state byte_at
shift_rows-undone s block = sym (by_bytes s block.size)

inverse_shift_rows-undone : (s : List ℕ) → IsBlock s → inverse_shift_rows (shift_rows s) ≡ s
unfolding shift_rows inverse_shift_rows state byte_at
inverse_shift_rows-undone s block = sym (by_bytes s block.size)

-- where the bytes are moved and where each is changed are one
shift_rows-map : (f : ℕ → ℕ) (s : List ℕ) → IsBlock s → shift_rows (map f s) ≡ map f (shift_rows s)
unfolding shift_rows state byte_at
shift_rows-map f s block = subst (λ l. shift_rows (map f l) ≡ map f (shift_rows l)) (sym (by_bytes s block.size)) refl

inverse_shift_rows-map : (f : ℕ → ℕ) (s : List ℕ) → IsBlock s → inverse_shift_rows (map f s) ≡ map f (inverse_shift_rows s)
unfolding inverse_shift_rows state byte_at
inverse_shift_rows-map f s block = subst (λ l. inverse_shift_rows (map f l) ≡ map f (inverse_shift_rows l))
    (sym (by_bytes s block.size)) refl

-- ---- both together

-- the state before MixColumns
unfoldable pub shifted : List ℕ → List ℕ
shifted s = shift_rows (substitute_bytes s)

unfoldable pub unshifted : List ℕ → List ℕ
unshifted s = inverse_shift_rows (inverse_substitute_bytes s)

pub IsBlock-shifted : (s : List ℕ) → IsBlock s → IsBlock (shifted s)
unfolding shifted substitute_bytes
IsBlock-shifted s block = IsBlock-shift_rows (substitute_bytes s) (IsBlock-map s_box s s_box-lt block)

pub IsBlock-unshifted : (s : List ℕ) → IsBlock s → IsBlock (unshifted s)
unfolding unshifted inverse_substitute_bytes
IsBlock-unshifted s block = IsBlock-inverse_shift_rows (inverse_substitute_bytes s)
    (IsBlock-map inverse_s_box s inverse_s_box-lt block)

pub shifted-unshifted : (s : List ℕ) → IsBlock s → shifted (unshifted s) ≡ s
unfolding shifted unshifted substitute_bytes inverse_substitute_bytes
shifted-unshifted s block =
    let t : List ℕ = map inverse_s_box s in
    let boxed : IsBlock t = IsBlock-map inverse_s_box s inverse_s_box-lt block in
    ap shift_rows (sym (inverse_shift_rows-map s_box t boxed)
    ∙ ap inverse_shift_rows (map-undone s_box inverse_s_box s_box-inverse_s_box s block.bytes))
    ∙ shift_rows-undone s block

pub unshifted-shifted : (s : List ℕ) → IsBlock s → unshifted (shifted s) ≡ s
unfolding shifted unshifted substitute_bytes inverse_substitute_bytes
unshifted-shifted s block =
    let t : List ℕ = map s_box s in
    let boxed : IsBlock t = IsBlock-map s_box s s_box-lt block in
    ap inverse_shift_rows (sym (shift_rows-map inverse_s_box t boxed)
    ∙ ap shift_rows (map-undone inverse_s_box s_box inverse_s_box-s_box s block.bytes))
    ∙ inverse_shift_rows-undone s block

-- ---- the columns

pub IsBlock-mix_columns : (s : List ℕ) → IsBlock s → IsBlock (mix_columns s)
unfolding mix_columns
IsBlock-mix_columns s block = IsBlock-multiply_columns mix_polynomial s block

pub IsBlock-inverse_mix_columns : (s : List ℕ) → IsBlock s → IsBlock (inverse_mix_columns s)
unfolding inverse_mix_columns
IsBlock-inverse_mix_columns s block = IsBlock-multiply_columns inverse_mix_polynomial s block

pub mix_columns-xor : (s t : List ℕ) → IsBlock s → IsBlock t → mix_columns (xor_bytes s t)
    ≡ xor_bytes (mix_columns s) (mix_columns t)
unfolding mix_columns
mix_columns-xor s t hs ht = multiply_columns-xor mix_polynomial s t hs ht

pub inverse_mix_columns-xor : (s t : List ℕ) → IsBlock s → IsBlock t
    → inverse_mix_columns (xor_bytes s t) ≡ xor_bytes (inverse_mix_columns s) (inverse_mix_columns t)
unfolding inverse_mix_columns
inverse_mix_columns-xor s t hs ht = multiply_columns-xor inverse_mix_polynomial s t hs ht

pub mix_columns-undone : (s : List ℕ) → IsBlock s → mix_columns (inverse_mix_columns s) ≡ s
unfolding mix_columns inverse_mix_columns
mix_columns-undone s block = multiply_columns-undone mix_polynomial inverse_mix_polynomial s mix-undoes-inverse block

pub inverse_mix_columns-undone : (s : List ℕ) → IsBlock s → inverse_mix_columns (mix_columns s) ≡ s
unfolding mix_columns inverse_mix_columns
inverse_mix_columns-undone s block = multiply_columns-undone inverse_mix_polynomial mix_polynomial s inverse-undoes-mix block

-- ---- the rounds

pub IsBlock-add_round_key : (s k : List ℕ) → IsBlock s → IsBlock k → IsBlock (add_round_key s k)
unfolding add_round_key
IsBlock-add_round_key s k hs hk = IsBlock-xor_bytes s k hs hk

pub IsBlock-round : (k s : List ℕ) → IsBlock k → IsBlock s → IsBlock (round k s)
unfolding round shifted
IsBlock-round k s hk hs = IsBlock-add_round_key (mix_columns (shifted s)) k
    (IsBlock-mix_columns (shifted s) (IsBlock-shifted s hs)) hk

pub IsBlock-last_round : (k s : List ℕ) → IsBlock k → IsBlock s → IsBlock (last_round k s)
unfolding last_round shifted
IsBlock-last_round k s hk hs = IsBlock-add_round_key (shifted s) k (IsBlock-shifted s hs) hk

pub IsBlock-inverse_round : (k s : List ℕ) → IsBlock k → IsBlock s → IsBlock (inverse_round k s)
unfolding inverse_round unshifted
IsBlock-inverse_round k s hk hs =
    IsBlock-add_round_key (inverse_mix_columns (unshifted s)) k
    (IsBlock-inverse_mix_columns (unshifted s) (IsBlock-unshifted s hs)) hk

pub IsBlock-inverse_last_round : (k s : List ℕ) → IsBlock k → IsBlock s → IsBlock (inverse_last_round k s)
unfolding inverse_last_round unshifted
IsBlock-inverse_last_round k s hk hs = IsBlock-add_round_key (unshifted s) k (IsBlock-unshifted s hs) hk
