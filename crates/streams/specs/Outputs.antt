-- What each call with data returns, as a function of all data taken: in the direction of decrypting by the cipher
-- alone, as the text that it encrypts to the data (SP 800-38A, 6; PKCS #11 v3.1, 5.8 and 5.10).
use Rattle.std.specs.Prelude.{ℕ, zero, suc, ◌==◌, Bool, not, ◌&&◌, if◌then◌else◌, List, [], ◌∷◌, ◌++◌, length, take, drop, Option, Some, None}
use Rattle.std.specs.Option.{option_map, unwrap_or}
use Rattle.std.specs.Str.{bytes_eq}
use Rattle.aes_modes.specs.declared.direction.Direction.{Direction}
use Rattle.aes_modes.specs.declared.direction.Direction.TheVariants.{Encrypt, Decrypt}
use Rattle.streams.specs.Streamed.{Streamed}
use Rattle.streams.specs.Lengths.{length_so_far, is_of_no_text}
use Rattle.streams.specs.Right.{encrypted, whole_encrypted}

-- ---- the text that is encrypted to another

abbrev pub or_else : Option (List ℕ) → Option (List ℕ) → Option (List ℕ)
or_else None other = other
or_else (Some text) other = Some text

-- what is given for the first number below n for which something is
unfoldable pub first_below : ℕ → (ℕ → Option (List ℕ)) → Option (List ℕ)
first_below zero f = None
first_below (suc n) f = or_else (first_below n f) (f n)

-- the first text of at most n bytes that passes a test
unfoldable pub first_text : ℕ → (List ℕ → Bool) → Option (List ℕ)
first_text zero test = if test [] then Some [] else None
first_text (suc n) test = if test [] then Some [] else first_below 256
    (λ b. option_map (λ bytes. b ∷ bytes) (first_text n (λ bytes. test (b ∷ bytes))))

-- what a text is encrypted or decrypted to: its cipher text, or the text of such a length that the mode encrypts to it, if there is one
abbrev pub turned : Direction → (List ℕ → List ℕ) → (ℕ → Bool) → List ℕ → Option (List ℕ)
turned Encrypt mode fits text = Some (mode text)
turned Decrypt mode fits text = first_text (length text) (λ x. fits (length x) && bytes_eq (mode x) text)

-- ---- the output

-- how much of the data is worked on before its end is known
abbrev pub worked_on : Streamed → ℕ
worked_on s = length_so_far s.mechanism s.direction (length s.taken)

-- what that much is encrypted or decrypted to
abbrev pub output_so_far : Streamed → List ℕ
output_so_far s = unwrap_or (turned s.direction (encrypted s.mechanism s.key) (λ n. n == worked_on s) (take (worked_on s) s.taken)) []

-- what all data is encrypted or decrypted to; none where no text is encrypted to it, since its padding is wrong
abbrev pub whole_output : Streamed → Option (List ℕ)
whole_output s = turned s.direction (whole_encrypted s.mechanism s.key) (λ n. not (is_of_no_text s.mechanism Encrypt n)) s.taken

abbrev pub with_data : Streamed → List ℕ → Streamed
with_data s more = record s { taken = s.taken ++ more }

-- an Update returns what its data adds to the output
abbrev pub update_output : Streamed → List ℕ → List ℕ
update_output s piece = drop (length s.given) (output_so_far (with_data s piece))

-- and the last call with data the final part
abbrev pub last_output : Streamed → List ℕ → Option (List ℕ)
last_output s more = option_map (drop (length s.given)) (whole_output (with_data s more))
