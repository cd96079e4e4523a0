-- Formats of bytes. A format is one definition for both directions: how a value is encoded, which
-- values have an encoding, and how a value is decoded from the front of some bytes.
use Rattle.std.specs.Prelude.{◌≡◌, ℕ, zero, suc, ◌<◌, ◌^◌, List, [], ◌∷◌, ◌++◌, length, take, drop, Option, Some, None, nat_lt, ◌==◌, if◌then◌else◌}
use Rattle.std.specs.List.{flat_map, AllByRecursion}
use Rattle.std.specs.Int.{Width, w16, w32, w64, byte_len, from_be_bytes, to_be_bytes}

infixl 10 ◌>>=◌
abbrev pub ◌>>=◌ : {A B : Type 0} → Option A → (A → Option B) → Option B
(Some x) >>= f = f x
None >>= f = None

pub record Format (A : Type 0) : Type 1 where
  pub encode : A → List ℕ
  pub Fits : A → Type 0
  -- the value at the front, and the bytes after it
  pub decode : List ℕ → Option (A × List ℕ)

-- a number of a fixed width below a limit, big-endian
abbrev pub number : Width → ℕ → Format ℕ
number w limit = record {
  encode = to_be_bytes w;
  Fits = λ n. n < limit;
  decode = λ bytes. if nat_lt (length bytes) (byte_len w) then None else Some
      (from_be_bytes w (take (byte_len w) bytes), drop (byte_len w) bytes);
}

abbrev pub number16 : Format ℕ
number16 = number w16 (2 ^ 16)

abbrev pub number32 : Format ℕ
number32 = number w32 (2 ^ 32)

abbrev pub number64 : Format ℕ
number64 = number w64 (2 ^ 64)

-- the first n bytes, and those after them
abbrev pub first_bytes : ℕ → List ℕ → Option (List ℕ × List ℕ)
first_bytes n bytes = if nat_lt (length bytes) n then None else Some (take n bytes, drop n bytes)

-- n bytes as they are
abbrev pub fixed : ℕ → Format (List ℕ)
fixed n = record { encode = λ bytes. bytes; Fits = λ bytes. length bytes ≡ n; decode = first_bytes n }

-- a length in 32 bits, and that many bytes
abbrev pub byte_string : Format (List ℕ)
byte_string = record {
  encode = λ bytes. to_be_bytes w32 (length bytes) ++ bytes;
  Fits = λ bytes. length bytes < 2 ^ 32;
  decode = λ bytes. number32.decode bytes >>= λ n. first_bytes n.0 n.1;
}

-- one after the other
abbrev pub pair : {A B : Type 0} → Format A → Format B → Format (A × B)
pair a b = record {
  encode = λ x. a.encode x.0 ++ b.encode x.1;
  Fits = λ x. a.Fits x.0 × b.Fits x.1;
  decode = λ bytes. a.decode bytes >>= λ x. b.decode x.1 >>= λ y. Some ((x.0, y.0), y.1);
}

-- the same bytes for another type, each of whose values is one of the first
abbrev pub mapped : {A B : Type 0} → Format A → (A → B) → (B → A) → Format B
mapped c to from = record {
  encode = λ y. c.encode (from y);
  Fits = λ y. c.Fits (from y);
  decode = λ bytes. c.decode bytes >>= λ x. Some (to x.0, x.1);
}

-- the same bytes for another type, which has only some values of the first
abbrev pub narrowed : {A B : Type 0} → Format A → (A → Option B) → (B → A) → Format B
narrowed c to from = record {
  encode = λ y. c.encode (from y);
  Fits = λ y. c.Fits (from y);
  decode = λ bytes. c.decode bytes >>= λ x. to x.0 >>= λ y. Some (y, x.1);
}

-- a byte 0, or a byte 1 and a value
abbrev pub encode_optional : {A : Type 0} → Format A → Option A → List ℕ
encode_optional c None = 0 ∷ []
encode_optional c (Some x) = 1 ∷ c.encode x

abbrev pub Fits-optional : {A : Type 0} → Format A → Option A → Type 0
Fits-optional c None = Unit {0}
Fits-optional c (Some x) = c.Fits x

abbrev pub decode_optional : {A : Type 0} → Format A → List ℕ → Option (Option A × List ℕ)
decode_optional c [] = None
decode_optional c (zero ∷ rest) = Some (None, rest)
decode_optional c (suc zero ∷ rest) = c.decode rest >>= λ x. Some (Some x.0, x.1)
decode_optional c (suc (suc b) ∷ rest) = None

abbrev pub optional : {A : Type 0} → Format A → Format (Option A)
optional c = record { encode = encode_optional c; Fits = Fits-optional c; decode = decode_optional c }

-- a number below a limit
abbrev pub limited : ℕ → Format ℕ → Format ℕ
limited limit c = record {
  encode = c.encode;
  Fits = λ n. (n < limit) × c.Fits n;
  decode = λ bytes. c.decode bytes >>= λ n. if nat_lt n.0 limit then Some n else None;
}

-- so many values, one after the other
unfoldable pub decode_many : {A : Type 0} → Format A → ℕ → List ℕ → Option (List A × List ℕ)
decode_many c zero bytes = Some ([], bytes)
decode_many c (suc n) bytes = c.decode bytes >>= λ x. decode_many c n x.1 >>= λ y. Some (x.0 ∷ y.0, y.1)

-- a count, and so many values
abbrev pub counted : {A : Type 0} → Format ℕ → Format A → Format (List A)
counted count c = record {
  encode = λ xs. count.encode (length xs) ++ flat_map c.encode xs;
  Fits = λ xs. count.Fits (length xs) × AllByRecursion c.Fits xs;
  decode = λ bytes. count.decode bytes >>= λ n. decode_many c n.0 n.1;
}

-- a count in 32 bits below a limit, and so many values
abbrev pub list_below : {A : Type 0} → ℕ → Format A → Format (List A)
list_below limit c = counted (limited limit number32) c

-- a value, and nothing after it
abbrev pub whole : {A : Type 0} → Format A → List ℕ → Option A
whole c bytes = c.decode bytes >>= λ x. if length x.1 == 0 then Some x.0 else None
