-- What is read is spelled so, and what is spelled is read complete, whatever follows.
use Rattle.std.proofs.Common.{◌≡◌, ℕ, zero, suc, ◌+◌, ◌^◌, ◌<◌, ◌≤◌, Bool, true, false, cond, ltb, eqb, List, [], ◌∷◌, ◌++◌, length, get_or, take, drop, Option, Some, None, refl, sym, ap, subst, ◌∙◌, append_assoc, arith, inl, inr}
use Rattle.std.specs.Int.{Width, w16, w32, w64, byte_len, from_be_bytes, to_be_bytes}
use Rattle.std.specs.List.{flat_map, AllByRecursion}
use Rattle.std.proofs.lemmas.Bool.{cases_lt, ltb-false, le-ltb, ltb-true, lt-ltb}
use Rattle.std.proofs.lemmas.List.{take_at, drop_at, take-append-drop, length-append, length-take, get_or-drop, get_or-take, get_or_past, append-nil, nil_from_length}
use Rattle.std.proofs.lemmas.List.Concat.{flat_map-cons}
use Rattle.std.proofs.lemmas.Bool.{eqb-true}
use Rattle.std.proofs.lemmas.Nat.{be_bytes_2, from_be_bytes-to_be_bytes_2, be_bytes_4, be_bytes_8, from_be_bytes-to_be_bytes_4, from_be_bytes-to_be_bytes_8}
use Rattle.ck_types.specs.Format.{Format, ◌>>=◌, number, number16, number32, number64, first_bytes, fixed, byte_string, pair, mapped, narrowed, optional, encode_optional, Fits-optional, decode_optional, limited, decode_many, counted, list_below, whole}

abbrev pub IsBytes : List ℕ → Type 0
IsBytes bytes = (i : ℕ) → get_or bytes i 0 < 256

pub IsBytes-drop : (n : ℕ) (bytes : List ℕ) → IsBytes bytes → IsBytes (drop n bytes)
IsBytes-drop n bytes h i = rw get_or-drop (h (n + i))

pub IsBytes-take : (n : ℕ) (bytes : List ℕ) → IsBytes bytes → IsBytes (take n bytes)
IsBytes-take n bytes h i =
    elim (cases_lt i n) [
      | inl lt ↦ rw (get_or-take n bytes i 0 lt) (h i)
      | inr le ↦ rw (get_or_past (take n bytes) i 0 (omega (arith, length-take n bytes))) (omega arith)
    ]

pub rest_bytes : (b : ℕ) (bytes : List ℕ) → IsBytes (b ∷ bytes) → IsBytes bytes
rest_bytes b bytes h i = h (suc i)

-- the value of a step that did not fail
pub bind_some : {A B : Type 0} (r : Option A) (f : A → Option B) (y : B) → (r >>= f) ≡ Some y → (x : A) × (r ≡ Some x) × (f x ≡ Some y)
bind_some (Some x) f y e = (x, refl, e)
bind_some None f y e = absurd cc

pub unless_ok : {A : Type 0} (b : Bool) (x y : A) → cond b None (Some x) ≡ Some y → (b ≡ false) × (x ≡ y)
unless_ok true x y e = absurd cc
unless_ok false x y e = (refl, cc)

pub when_ok : {A : Type 0} (b : Bool) (o : Option A) (y : A) → cond b o None ≡ Some y → (b ≡ true) × (o ≡ Some y)
when_ok true o y e = (refl, e)
when_ok false o y e = absurd cc

pub some_is : {A : Type 0} (x y : A) → Some x ≡ Some y → x ≡ y
some_is x y e = cc

-- what was taken from the front
pub record Takes (bytes text rest : List ℕ) : Type 0 where
  pub parts : bytes ≡ text ++ rest
  pub rest_fits : IsBytes rest

pub takes_then : (a x b y c : List ℕ) → Takes a x b → Takes b y c → Takes a (x ++ y) c
takes_then a x b y c p q = record {
  parts = p.parts ∙ ap (λ (t : List ℕ). x ++ t) q.parts ∙ sym (append_assoc x y c);
  rest_fits = q.rest_fits;
}

pub takes_more : (b : ℕ) (bytes text rest : List ℕ) → Takes bytes text rest → Takes (b ∷ bytes) (b ∷ text) rest
takes_more b bytes text rest p = record { parts = ap (λ (t : List ℕ). b ∷ t) p.parts; rest_fits = p.rest_fits }

-- The two laws of a format. Together they say that each value has one encoding, which no other
-- encoding begins with.
pub record IsCanonical {A : Type 0} (c : Format A) : Type 0 where
  -- What is decoded is encoded by the bytes that were taken, and fits.
  pub sound : (bytes : List ℕ) (x : A) (rest : List ℕ) → IsBytes bytes → c.decode bytes ≡ Some (x, rest)
      → Takes bytes (c.encode x) rest × c.Fits x
  -- What fits is decoded from its encoding, whatever follows.
  pub complete : (x : A) (rest : List ℕ) → c.Fits x → c.decode (c.encode x ++ rest) ≡ Some (x, rest)

-- ---- numbers

pub record IsWide (w : Width) (limit : ℕ) : Type 0 where
  pub len : (n : ℕ) → length (to_be_bytes w n) ≡ byte_len w
  pub back : (bytes : List ℕ) → length bytes ≡ byte_len w → IsBytes bytes → to_be_bytes w (from_be_bytes w bytes) ≡ bytes
  pub again : (n : ℕ) → n < limit → from_be_bytes w (to_be_bytes w n) ≡ n
  pub below : (bytes : List ℕ) → IsBytes bytes → from_be_bytes w bytes < limit

pub wide32 : IsWide w32 (2 ^ 32)
wide32 = record {
  len = λ n. refl;
  back = λ bytes len fits. be_bytes_4 bytes _ len fits refl;
  again = λ n lt. from_be_bytes-to_be_bytes_4 n lt;
  below = λ bytes fits. omega (arith, fits 0, fits 1, fits 2, fits 3);
}

pub wide16 : IsWide w16 (2 ^ 16)
wide16 = record {
  len = λ n. refl;
  back = λ bytes len fits. be_bytes_2 bytes _ len fits refl;
  again = λ n lt. from_be_bytes-to_be_bytes_2 n lt;
  below = λ bytes fits. omega (arith, fits 0, fits 1);
}

pub wide64 : IsWide w64 (2 ^ 64)
wide64 = record {
  len = λ n. refl;
  back = λ bytes len fits. be_bytes_8 bytes _ len fits refl;
  again = λ n lt. from_be_bytes-to_be_bytes_8 n lt;
  below = λ bytes fits. omega (arith, fits 0, fits 1, fits 2, fits 3, fits 4, fits 5, fits 6, fits 7);
}

number_sound : (w : Width) (limit : ℕ) (wide : IsWide w limit) (bytes : List ℕ) (n : ℕ) (rest : List ℕ) → IsBytes bytes
    → (number w limit).decode bytes ≡ Some (n, rest) → Takes bytes (to_be_bytes w n) rest × (n < limit)
number_sound w limit wide bytes n rest fits e =
    let g = unless_ok (ltb (length bytes) (byte_len w)) (from_be_bytes w (take (byte_len w) bytes), drop (byte_len w) bytes) (n, rest) e in
    let long : byte_len w ≤ length bytes = ltb-false _ _ g.0 in
    let n-is : from_be_bytes w (take (byte_len w) bytes) ≡ n = ap (λ (p : ℕ × List ℕ). p.0) g.1 in
    let rest-is : drop (byte_len w) bytes ≡ rest = ap (λ (p : ℕ × List ℕ). p.1) g.1 in
    let front : to_be_bytes w n ≡ take (byte_len w) bytes =
    rw (← n-is) (wide.back (take (byte_len w) bytes) (omega (arith, length-take (byte_len w) bytes))
    (IsBytes-take (byte_len w) bytes fits)) in (
      record {
        parts = rw (front, ← rest-is) (sym (take-append-drop (byte_len w) bytes));
        rest_fits = rw (← rest-is) (IsBytes-drop (byte_len w) bytes fits);
      },
      rw (← n-is) (wide.below (take (byte_len w) bytes) (IsBytes-take (byte_len w) bytes fits)),
    )

number_complete : (w : Width) (limit : ℕ) (wide : IsWide w limit) (n : ℕ) (rest : List ℕ) → n < limit
    → (number w limit).decode (to_be_bytes w n ++ rest) ≡ Some (n, rest)
number_complete w limit wide n rest lt =
    let len = wide.len n in
    let long : ltb (length (to_be_bytes w n ++ rest)) (byte_len w) ≡ false =
    le-ltb _ _ (omega (arith, length-append (to_be_bytes w n) rest)) in
    rw (long, take_at (to_be_bytes w n) rest (byte_len w) len, drop_at (to_be_bytes w n) rest (byte_len w) len, wide.again n lt) refl

pub number_canonical : (w : Width) (limit : ℕ) → IsWide w limit → IsCanonical (number w limit)
number_canonical w limit wide = record { sound = number_sound w limit wide; complete = number_complete w limit wide }

pub number64_canonical : IsCanonical number64
number64_canonical = number_canonical w64 (2 ^ 64) wide64

pub number16_canonical : IsCanonical number16
number16_canonical = number_canonical w16 (2 ^ 16) wide16

pub number32_canonical : IsCanonical number32
number32_canonical = number_canonical w32 (2 ^ 32) wide32

-- ---- so many bytes

pub first_bytes_sound : (n : ℕ) (bytes text rest : List ℕ) → IsBytes bytes → first_bytes n bytes ≡ Some (text, rest)
    → Takes bytes text rest × (length text ≡ n)
first_bytes_sound n bytes text rest fits e =
    let g = unless_ok (ltb (length bytes) n) (take n bytes, drop n bytes) (text, rest) e in
    let long : n ≤ length bytes = ltb-false _ _ g.0 in
    let len : length (take n bytes) ≡ n = omega (arith, length-take n bytes) in
    subst (λ (p : List ℕ × List ℕ). Takes bytes p.0 p.1 × (length p.0 ≡ n)) g.1
    (record { parts = sym (take-append-drop n bytes); rest_fits = IsBytes-drop n bytes fits }, len)

pub first_bytes_complete : (text rest : List ℕ) → first_bytes (length text) (text ++ rest) ≡ Some (text, rest)
first_bytes_complete text rest =
    let long : ltb (length (text ++ rest)) (length text) ≡ false = le-ltb _ _ (omega (arith, length-append text rest)) in
    rw (long, take_at text rest (length text) refl, drop_at text rest (length text) refl) refl

pub fixed_canonical : (n : ℕ) → IsCanonical (fixed n)
fixed_canonical n = record {
  sound = first_bytes_sound n;
  complete = λ text rest len. subst (λ (k : ℕ). first_bytes k (text ++ rest) ≡ Some (text, rest)) len (first_bytes_complete text rest);
}

byte_string_sound : (bytes text rest : List ℕ) → IsBytes bytes → byte_string.decode bytes ≡ Some (text, rest)
    → Takes bytes (byte_string.encode text) rest × (length text < 2 ^ 32)
byte_string_sound bytes text rest fits e =
    let b = bind_some (number32.decode bytes) (λ n. first_bytes n.0 n.1) (text, rest) e in
    let t = number32_canonical.sound bytes b.0.0 b.0.1 fits b.1 in
    let s = first_bytes_sound b.0.0 b.0.1 text rest t.0.rest_fits b.2 in
    (rw s.1 (takes_then bytes (to_be_bytes w32 b.0.0) b.0.1 text rest t.0 s.0), rw s.1 t.1)

byte_string_complete : (text rest : List ℕ) → length text < 2 ^ 32
    → byte_string.decode (byte_string.encode text ++ rest) ≡ Some (text, rest)
byte_string_complete text rest lt =
    ap byte_string.decode (append_assoc (to_be_bytes w32 (length text)) text rest)
    ∙ rw (number32_canonical.complete (length text) (text ++ rest) lt) (first_bytes_complete text rest)

pub byte_string_canonical : IsCanonical byte_string
byte_string_canonical = record { sound = byte_string_sound; complete = byte_string_complete }

-- ---- pairs and other types

pub pair_canonical : {A B : Type 0} (a : Format A) (b : Format B) → IsCanonical a → IsCanonical b → IsCanonical (pair a b)
pair_canonical {A} {B} a b p q = record {
  sound = λ bytes x rest fits e.
      let s = bind_some (a.decode bytes) (λ y. b.decode y.1 >>= λ z. Some ((y.0, z.0), z.1)) (x, rest) e in
      let t = bind_some (b.decode s.0.1) (λ z. Some ((s.0.0, z.0), z.1)) (x, rest) s.2 in
      let one = p.sound bytes s.0.0 s.0.1 fits s.1 in
      let two = q.sound s.0.1 t.0.0 t.0.1 one.0.rest_fits t.1 in
      let made : (A × B) × List ℕ = ((s.0.0, t.0.0), t.0.1) in
      subst (λ (y : (A × B) × List ℕ). Takes bytes (a.encode y.0.0 ++ b.encode y.0.1) y.1 × (a.Fits y.0.0 × b.Fits y.0.1))
      (some_is made (x, rest) t.2)
      (takes_then bytes (a.encode s.0.0) s.0.1 (b.encode t.0.0) t.0.1 one.0 two.0, (one.1, two.1));
  complete = λ x rest fits.
      ap (pair a b).decode (append_assoc (a.encode x.0) (b.encode x.1) rest)
      ∙ rw (p.complete x.0 (b.encode x.1 ++ rest) fits.0, q.complete x.1 rest fits.1) refl;
}

pub mapped_canonical : {A B : Type 0} (c : Format A) (to : A → B) (from : B → A) → ((x : A) → from (to x) ≡ x)
    → ((y : B) → to (from y) ≡ y) → IsCanonical c → IsCanonical (mapped c to from)
mapped_canonical {A} {B} c to from there back p = record {
  sound = λ bytes y rest fits e.
      let s = bind_some (c.decode bytes) (λ x. Some (to x.0, x.1)) (y, rest) e in
      let t = p.sound bytes s.0.0 s.0.1 fits s.1 in
      let made : B × List ℕ = (to s.0.0, s.0.1) in
      let at_x : Takes bytes (c.encode (from (to s.0.0))) s.0.1 × c.Fits (from (to s.0.0)) =
      subst (λ (x : A). Takes bytes (c.encode x) s.0.1 × c.Fits x) (sym (there s.0.0)) t in
      subst (λ (z : B × List ℕ). Takes bytes (c.encode (from z.0)) z.1 × c.Fits (from z.0)) (some_is made (y, rest) s.2) at_x;
  complete = λ y rest fits. rw (p.complete (from y) rest fits, back y) refl;
}

pub narrowed_canonical : {A B : Type 0} (c : Format A) (to : A → Option B) (from : B → A)
    → ((x : A) (y : B) → to x ≡ Some y → from y ≡ x) → ((y : B) → to (from y) ≡ Some y) → IsCanonical c → IsCanonical (narrowed c to from)
narrowed_canonical {A} {B} c to from there back p = record {
  sound = λ bytes y rest fits e.
      let s = bind_some (c.decode bytes) (λ x. to x.0 >>= λ z. Some (z, x.1)) (y, rest) e in
      let u = bind_some (to s.0.0) (λ z. Some (z, s.0.1)) (y, rest) s.2 in
      let t = p.sound bytes s.0.0 s.0.1 fits s.1 in
      let at_x : Takes bytes (c.encode (from u.0)) s.0.1 × c.Fits (from u.0) =
      subst (λ (x : A). Takes bytes (c.encode x) s.0.1 × c.Fits x) (sym (there s.0.0 u.0 u.1)) t in
      subst (λ (z : B × List ℕ). Takes bytes (c.encode (from z.0)) z.1 × c.Fits (from z.0)) (some_is (u.0, s.0.1) (y, rest) u.2) at_x;
  complete = λ y rest fits. rw (p.complete (from y) rest fits, back y) refl;
}

-- ---- a value behind a flag

optional_sound : {A : Type 0} (c : Format A) → IsCanonical c → (bytes : List ℕ) (o : Option A) (rest : List ℕ) → IsBytes bytes
    → decode_optional c bytes ≡ Some (o, rest) → Takes bytes (encode_optional c o) rest × Fits-optional c o
optional_sound c p [] o rest fits e = absurd cc
optional_sound {A} c p (zero ∷ bytes) o rest fits e =
    subst (λ (x : Option A × List ℕ). Takes (0 ∷ bytes) (encode_optional c x.0) x.1 × Fits-optional c x.0)
    (some_is (None, bytes) (o, rest) e) (record { parts = refl; rest_fits = rest_bytes 0 bytes fits }, tt)
optional_sound {A} c p (suc zero ∷ bytes) o rest fits e =
    let b = bind_some (c.decode bytes) (λ x. Some (Some x.0, x.1)) (o, rest) e in
    let t = p.sound bytes b.0.0 b.0.1 (rest_bytes 1 bytes fits) b.1 in
    subst (λ (x : Option A × List ℕ). Takes (1 ∷ bytes) (encode_optional c x.0) x.1 × Fits-optional c x.0)
    (some_is (Some b.0.0, b.0.1) (o, rest) b.2)
    (record { parts = ap (λ (w : List ℕ). 1 ∷ w) t.0.parts; rest_fits = t.0.rest_fits }, t.1)
optional_sound c p (suc (suc b) ∷ bytes) o rest fits e = absurd cc

optional_complete : {A : Type 0} (c : Format A) → IsCanonical c → (o : Option A) (rest : List ℕ) → Fits-optional c o
    → decode_optional c (encode_optional c o ++ rest) ≡ Some (o, rest)
optional_complete c p None rest h = refl
optional_complete c p (Some x) rest h = rw (p.complete x rest h) refl

pub optional_canonical : {A : Type 0} (c : Format A) → IsCanonical c → IsCanonical (optional c)
optional_canonical c p = record { sound = optional_sound c p; complete = optional_complete c p }

-- ---- a number below a limit

pub limited_canonical : (limit : ℕ) (c : Format ℕ) → IsCanonical c → IsCanonical (limited limit c)
limited_canonical limit c p = record {
  sound = λ bytes n rest fits e.
      let a = bind_some (c.decode bytes) (λ m. cond (ltb m.0 limit) (Some m) None) (n, rest) e in
      let g = when_ok (ltb a.0.0 limit) (Some a.0) (n, rest) a.2 in
      let t = p.sound bytes a.0.0 a.0.1 fits a.1 in
      let below : a.0.0 < limit = ltb-true _ _ g.0 in
      subst (λ (m : ℕ × List ℕ). Takes bytes (c.encode m.0) m.1 × ((m.0 < limit) × c.Fits m.0)) (some_is a.0 (n, rest) g.1)
      (t.0, (below, t.1));
  complete = λ n rest fits.
      let below : ltb n limit ≡ true = lt-ltb _ _ fits.0 in
      rw (p.complete n rest fits.1, below) refl;
}

-- ---- a count, and so many values

pub many_sound : {A : Type 0} (c : Format A) → IsCanonical c → (n : ℕ) (bytes : List ℕ) (xs : List A) (rest : List ℕ)
    → IsBytes bytes → decode_many c n bytes ≡ Some (xs, rest) → Takes bytes (flat_map c.encode xs) rest × (length xs ≡ n)
    × AllByRecursion c.Fits xs
unfolding decode_many
many_sound {A} c p zero bytes xs rest fits e =
    subst (λ (y : List A × List ℕ). Takes bytes (flat_map c.encode y.0) y.1 × (length y.0 ≡ 0) × AllByRecursion c.Fits y.0)
    (some_is ([], bytes) (xs, rest) e) (record { parts = refl; rest_fits = fits }, refl, tt)
many_sound {A} c p (suc n) bytes xs rest fits e =
    let a = bind_some (c.decode bytes) (λ x. decode_many c n x.1 >>= λ y. Some (x.0 ∷ y.0, y.1)) (xs, rest) e in
    let b = bind_some (decode_many c n a.0.1) (λ y. Some (a.0.0 ∷ y.0, y.1)) (xs, rest) a.2 in
    let first = p.sound bytes a.0.0 a.0.1 fits a.1 in
    let second = many_sound c p n a.0.1 b.0.0 b.0.1 first.0.rest_fits b.1 in
    let two = takes_then bytes (c.encode a.0.0) a.0.1 (flat_map c.encode b.0.0) b.0.1 first.0 second.0 in
    let made : List A × List ℕ = (a.0.0 ∷ b.0.0, b.0.1) in
    subst (λ (y : List A × List ℕ). Takes bytes (flat_map c.encode y.0) y.1 × (length y.0 ≡ suc n) × AllByRecursion c.Fits y.0)
    (some_is made (xs, rest) b.2) (rw flat_map-cons two, ap suc second.1, (first.1, second.2))

pub many_complete : {A : Type 0} (c : Format A) → IsCanonical c → (xs : List A) (rest : List ℕ) → AllByRecursion c.Fits xs
    → decode_many c (length xs) (flat_map c.encode xs ++ rest) ≡ Some (xs, rest)
unfolding decode_many
many_complete c p [] rest fits = refl
many_complete c p (x ∷ xs) rest fits =
    let regrouped : flat_map c.encode (x ∷ xs) ++ rest ≡ c.encode x ++ (flat_map c.encode xs ++ rest) =
    ap (λ (y : List ℕ). y ++ rest) (flat_map-cons c.encode x xs) ∙ append_assoc (c.encode x) (flat_map c.encode xs) rest in
    ap (decode_many c (suc (length xs))) regrouped
    ∙ rw (p.complete x (flat_map c.encode xs ++ rest) fits.0, many_complete c p xs rest fits.1) refl

pub counted_canonical : {A : Type 0} (count : Format ℕ) (c : Format A) → IsCanonical count → IsCanonical c → IsCanonical (counted count c)
counted_canonical {A} count c q p = record {
  sound = λ bytes xs rest fits e.
      let a = bind_some (count.decode bytes) (λ n. decode_many c n.0 n.1) (xs, rest) e in
      let t = q.sound bytes a.0.0 a.0.1 fits a.1 in
      let m = many_sound c p a.0.0 a.0.1 xs rest t.0.rest_fits a.2 in (
        subst (λ (k : ℕ). Takes bytes (count.encode k ++ flat_map c.encode xs) rest) (sym m.1)
            (takes_then bytes (count.encode a.0.0) a.0.1 (flat_map c.encode xs) rest t.0 m.0),
        (subst count.Fits (sym m.1) t.1, m.2),
      );
  complete = λ xs rest fits.
      ap (counted count c).decode (append_assoc (count.encode (length xs)) (flat_map c.encode xs) rest)
      ∙ rw (q.complete (length xs) (flat_map c.encode xs ++ rest) fits.0) (many_complete c p xs rest fits.1);
}

pub list_below_canonical : {A : Type 0} (limit : ℕ) (c : Format A) → IsCanonical c → IsCanonical (list_below limit c)
list_below_canonical limit c p = counted_canonical (limited limit number32) c (limited_canonical limit number32 number32_canonical) p

-- ---- all of the bytes

pub whole_sound : {A : Type 0} (c : Format A) → IsCanonical c → (bytes : List ℕ) (x : A) → IsBytes bytes → whole c bytes ≡ Some x
    → (bytes ≡ c.encode x) × c.Fits x
whole_sound {A} c p bytes x fits e =
    let a = bind_some (c.decode bytes) (λ y. cond (eqb (length y.1) 0) (Some y.0) None) x e in
    let g = when_ok (eqb (length a.0.1) 0) (Some a.0.0) x a.2 in
    let t = p.sound bytes a.0.0 a.0.1 fits a.1 in
    let nothing : a.0.1 ≡ [] = nil_from_length a.0.1 (eqb-true _ _ g.0) in
    let parts : bytes ≡ c.encode a.0.0 = t.0.parts ∙ ap (λ (r : List ℕ). c.encode a.0.0 ++ r) nothing ∙ append-nil (c.encode a.0.0) in
    subst (λ (y : A). (bytes ≡ c.encode y) × c.Fits y) (some_is a.0.0 x g.1) (parts, t.1)

pub whole_complete : {A : Type 0} (c : Format A) → IsCanonical c → (x : A) → c.Fits x → whole c (c.encode x) ≡ Some x
whole_complete c p x fits =
    let e : c.decode (c.encode x) ≡ Some (x, []) = ap c.decode (sym (append-nil (c.encode x))) ∙ p.complete x [] fits in
    rw e refl
