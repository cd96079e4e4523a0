-- The stored form is canonical: each record has one, and bytes that are no record's aren't decoded.
use Rattle.std.proofs.Common.{◌≡◌, ℕ, ◌<◌, Bool, true, cond, eqb, leb, List, [], ◌∷◌, Some, None, Ok, Err, Result, IfOk, is_some, refl, sym, ap, subst}
use Rattle.std.proofs.lemmas.Bool.{eqb-true, eq-eqb}
use Rattle.ck_types.specs.Format.{Format, number32, fixed, pair, mapped, narrowed, optional}
use Rattle.ck_types.specs.Canonical.{IsBytes, IsCanonical, Takes, takes_more, rest_bytes, bind_some, when_ok, some_is, number32_canonical, fixed_canonical, pair_canonical, mapped_canonical, narrowed_canonical, optional_canonical, whole_sound, whole_complete}
use Rattle.pin_record.specs.declared.fault.DecodeFault.{DecodeFault}
use Rattle.pin_record.specs.declared.version.Version.{Version}
use Rattle.pin_record.specs.declared.version.Version.TheVariants.{One, Two}
use Rattle.pin_record.specs.Verifiers.{PinVerifier, is_rounds, old_rounds}
use Rattle.pin_record.specs.Records.{TokenRecord, tries_fit, is_coherent}
use Rattle.pin_record.specs.Stored.{byte, restricted, headed, verifier_form, old_parts_form, old_verifier_form, verifier_form_in, version_number, tries_form, pin_form, flag_byte, Parts, parts_form, parts_of, record_of, record_form, IsRecord, stored_record_form, record_stored, IsOldRecord, old_record_form, record_stored_in, record_old_stored, DecodesRecord}

byte_sound : (bytes : List ℕ) (n : ℕ) (rest : List ℕ) → IsBytes bytes → byte.decode bytes ≡ Some (n, rest)
    → Takes bytes (n ∷ []) rest × (n < 256)
byte_sound [] n rest fits e = absurd cc
byte_sound (b ∷ bytes) n rest fits e =
    subst (λ (p : ℕ × List ℕ). Takes (b ∷ bytes) (p.0 ∷ []) p.1 × (p.0 < 256)) (some_is (b, bytes) (n, rest) e)
    (record { parts = refl; rest_fits = rest_bytes b bytes fits }, fits 0)

byte_canonical : IsCanonical byte
byte_canonical = record { sound = byte_sound; complete = λ n rest fits. refl }

restricted_canonical : {A : Type 0} (test : A → Bool) (c : Format A) → IsCanonical c → IsCanonical (restricted test c)
restricted_canonical {A} test c p = record {
  sound = λ bytes x rest fits e.
      let a = bind_some (c.decode bytes) (λ y. cond (test y.0) (Some y) None) (x, rest) e in
      let g = when_ok (test a.0.0) (Some a.0) (x, rest) a.2 in
      let t = p.sound bytes a.0.0 a.0.1 fits a.1 in
      subst (λ (y : A × List ℕ). Takes bytes (c.encode y.0) y.1 × ((test y.0 ≡ true) × c.Fits y.0)) (some_is a.0 (x, rest) g.1)
      (t.0, (g.0, t.1));
  complete = λ x rest fits. rw (p.complete x rest fits.1, fits.0) refl;
}

headed_sound : {A : Type 0} (head : ℕ) (c : Format A) → IsCanonical c → (bytes : List ℕ) (x : A) (rest : List ℕ) → IsBytes bytes
    → (headed head c).decode bytes ≡ Some (x, rest) → Takes bytes (head ∷ c.encode x) rest × c.Fits x
headed_sound head c p [] x rest fits e = absurd cc
headed_sound head c p (b ∷ bytes) x rest fits e =
    let g = when_ok (eqb b head) (c.decode bytes) (x, rest) e in
    let t = p.sound bytes x rest (rest_bytes b bytes fits) g.1 in
    (subst (λ (n : ℕ). Takes (b ∷ bytes) (n ∷ c.encode x) rest) (eqb-true b head g.0) (takes_more b bytes (c.encode x) rest t.0), t.1)

headed_canonical : {A : Type 0} (head : ℕ) (c : Format A) → IsCanonical c → IsCanonical (headed head c)
headed_canonical head c p = record {
  sound = headed_sound head c p;
  complete = λ x rest fits. rw (eq-eqb head head refl) (p.complete x rest fits);
}

verifier_form_canonical : IsCanonical verifier_form
verifier_form_canonical =
    mapped_canonical (pair (fixed 16) (pair (restricted is_rounds number32) (fixed 32)))
    (λ p. record { salt = p.0; rounds = p.1.0; key = p.1.1 }) (λ v. (v.salt, (v.rounds, v.key))) (λ x. refl) (λ y. refl)
    (pair_canonical (fixed 16) (pair (restricted is_rounds number32) (fixed 32)) (fixed_canonical 16)
    (pair_canonical (restricted is_rounds number32) (fixed 32) (restricted_canonical is_rounds number32 number32_canonical)
    (fixed_canonical 32)))

old_parts_form_canonical : IsCanonical old_parts_form
old_parts_form_canonical = pair_canonical (fixed 16) (fixed 32) (fixed_canonical 16) (fixed_canonical 32)

old_verifier : List ℕ × List ℕ → PinVerifier
old_verifier p = record { salt = p.0; rounds = old_rounds; key = p.1 }

old_verifier_form_canonical : IsCanonical old_verifier_form
old_verifier_form_canonical = record {
  sound = λ bytes v rest fits e.
      let s = bind_some (old_parts_form.decode bytes) (λ p. Some (record { salt = p.0.0; rounds = old_rounds; key = p.0.1 }, p.1))
      (v, rest) e in
      let t = old_parts_form_canonical.sound bytes s.0.0 s.0.1 fits s.1 in
      subst (λ (x : PinVerifier × List ℕ). Takes bytes (old_verifier_form.encode x.0) x.1 × old_verifier_form.Fits x.0)
      (some_is (record { salt = s.0.0.0; rounds = old_rounds; key = s.0.0.1 }, s.0.1) (v, rest) s.2) (t.0, (refl, t.1));
  complete = λ v rest fits.
      rw (old_parts_form_canonical.complete (v.salt, v.key) rest fits.1)
      (ap (λ n. Some (record { salt = v.salt; rounds = n; key = v.key }, rest)) (sym fits.0));
}

verifier_form_in_canonical : (version : Version) → IsCanonical (verifier_form_in version)
verifier_form_in_canonical One = old_verifier_form_canonical
verifier_form_in_canonical Two = verifier_form_canonical

pin_form_canonical : (version : Version) → IsCanonical (pin_form version)
pin_form_canonical version =
    restricted_canonical tries_fit
    (mapped (pair (optional (verifier_form_in version)) tries_form) (λ p. record { verifier = p.0; tries = p.1 })
    (λ p. (p.verifier, p.tries)))
    (mapped_canonical (pair (optional (verifier_form_in version)) tries_form) (λ p. record { verifier = p.0; tries = p.1 })
    (λ p. (p.verifier, p.tries)) (λ x. refl) (λ y. refl)
    (pair_canonical (optional (verifier_form_in version)) tries_form
    (optional_canonical (verifier_form_in version) (verifier_form_in_canonical version))
    (restricted_canonical (λ n. leb n 10) byte byte_canonical)))

parts_form_canonical : (version : Version) → IsCanonical (parts_form version)
parts_form_canonical version =
    let pin = pin_form version in
    let canonical = pin_form_canonical version in
    pair_canonical byte (pair (fixed 32) (pair pin pin)) byte_canonical
    (pair_canonical (fixed 32) (pair pin pin) (fixed_canonical 32) (pair_canonical pin pin canonical canonical))

parts_of-record_of : (x : Parts) (r : TokenRecord) → record_of x ≡ Some r → parts_of r ≡ x
parts_of-record_of x r e =
    let made : TokenRecord = record { label = x.1.0; so = x.1.1.0; user = x.1.1.1 } in
    let g = when_ok (eqb x.0 (flag_byte (is_some x.1.1.0.verifier))) (Some made) r e in
    let byte-is : x.0 ≡ flag_byte (is_some x.1.1.0.verifier) = eqb-true _ _ g.0 in
    subst (λ (y : TokenRecord). parts_of y ≡ x) (some_is made r g.1) (ap (λ (n : ℕ). let p : Parts = (n, x.1) in p) (sym byte-is))

record_of-parts_of : (r : TokenRecord) → record_of (parts_of r) ≡ Some r
record_of-parts_of r = rw (eq-eqb (flag_byte (is_some r.so.verifier)) (flag_byte (is_some r.so.verifier)) refl) refl

pub record_form_canonical : (version : Version) → IsCanonical (record_form version)
record_form_canonical version =
    headed_canonical (version_number version) (restricted is_coherent (narrowed (parts_form version) record_of parts_of))
    (restricted_canonical is_coherent (narrowed (parts_form version) record_of parts_of)
    (narrowed_canonical (parts_form version) record_of parts_of parts_of-record_of record_of-parts_of (parts_form_canonical version)))

-- what is decoded is a record, and the bytes are its stored form
pub record_stored-sound : (bytes : List ℕ) → IsBytes bytes → (r : Result TokenRecord DecodeFault) → DecodesRecord r (record_stored bytes)
    → IfOk r (λ x. IsRecord x × (bytes ≡ stored_record_form x))
unfolding record_stored_in
record_stored-sound bytes fits (Ok x) e = let s = whole_sound (record_form Two) (record_form_canonical Two) bytes x fits e in (s.1, s.0)
record_stored-sound bytes fits (Err fault) e = tt

pub record_stored-complete : (r : TokenRecord) → IsRecord r → record_stored (stored_record_form r) ≡ Some r
unfolding record_stored_in
record_stored-complete r is = whole_complete (record_form Two) (record_form_canonical Two) r is

-- and what an older token stored
pub record_old_stored-sound : (bytes : List ℕ) → IsBytes bytes → (r : Result TokenRecord DecodeFault)
    → DecodesRecord r (record_old_stored bytes) → IfOk r (λ x. IsOldRecord x × (bytes ≡ old_record_form x))
unfolding record_stored_in
record_old_stored-sound bytes fits (Ok x) e = let s = whole_sound (record_form One) (record_form_canonical One) bytes x fits e in (s.1, s.0)
record_old_stored-sound bytes fits (Err fault) e = tt

pub record_old_stored-complete : (r : TokenRecord) → IsOldRecord r → record_old_stored (old_record_form r) ≡ Some r
unfolding record_stored_in
record_old_stored-complete r is = whole_complete (record_form One) (record_form_canonical One) r is
