-- What a payload decodes to is encoded so, and what is encoded is decoded.
use Rattle.std.proofs.Common.{◌≡◌, ℕ, ◌<◌, ◌≤◌, ◌^◌, Bool, true, false, cond, ltb, List, ◌++◌, length, take, drop, Option, Some, None, Result, Ok, Err, refl, sym, ap, subst, ◌∙◌, arith}
use Rattle.std.specs.Prelude.{IfOk}
use Rattle.std.specs.Int.{w16, to_be_bytes, from_be_bytes}
use Rattle.std.proofs.lemmas.Bool.{ltb-false, le-ltb}
use Rattle.std.proofs.lemmas.List.{take_at, drop_at, take-append-drop, length-append, length-take}
use Rattle.std.proofs.lemmas.Nat.{be_bytes_2, from_be_bytes-to_be_bytes_2}
use Rattle.ck_types.specs.Canonical.{IsBytes, IsBytes-take, IsBytes-drop}
use Rattle.ck_calls.specs.declared.function.Function.{Function}
use Rattle.ck_calls.specs.declared.function.Function.TheVariants as functions
use Rattle.ck_calls.specs.declared.call.Call.{Call}
use Rattle.ck_calls.specs.Functions.{function_number, function_of, function_at}
use Rattle.wire.specs.declared.fault.WireFault.{WireFault}
use Rattle.wire.specs.declared.fault.WireFault.TheVariants as faults
use Rattle.wire.specs.Requests.{encode_fields, Fits-fields, decode_fields}
use Rattle.wire.specs.Messages.{most, call_payload, HasFrame, Reads, or_malformed, said_in, call_in}
use Rattle.wire.proofs.Requests.{fields_sound, fields_complete, function_at-number, function_at-again}

first_two : (bytes : List ℕ) (n : ℕ) → IsBytes bytes → 2 ≤ length bytes → n ≡ from_be_bytes w16 (take 2 bytes)
    → bytes ≡ to_be_bytes w16 n ++ drop 2 bytes
first_two bytes n fits long e =
    let front : to_be_bytes w16 n ≡ take 2 bytes =
    rw e (be_bytes_2 (take 2 bytes) _ (omega (arith, length-take 2 bytes)) (IsBytes-take 2 bytes fits) refl) in
    subst (λ (x : List ℕ). bytes ≡ x ++ drop 2 bytes) (sym front) (sym (take-append-drop 2 bytes))

below_16 : (f : Function) → function_number f < 2 ^ 16
below_16 functions.GetTokenInfo = omega arith
below_16 _ = omega arith

pub or_malformed-ok : {X : Type 0} (o : Option X) (x : X) → or_malformed o ≡ Ok x → o ≡ Some x
or_malformed-ok (Some y) x e = let same : y ≡ x = cc in ap Some same
or_malformed-ok None x e = absurd cc

pub unless_fault : {A : Type 0} (b : Bool) (f : WireFault) (r : Result A WireFault) (x : A) → cond b (Err f) r ≡ Ok x → (b ≡ false)
    × (r ≡ Ok x)
unless_fault true f r x e = absurd cc
unless_fault false f r x e = (refl, e)

said_of-sound : (o : Option Function) (n : ℕ) (bytes : List ℕ) (c : Call) → IsBytes bytes → function_at n ≡ o
    → said_in o bytes ≡ Ok c → (bytes ≡ encode_fields c) × Fits-fields c × (function_number (function_of c) ≡ n)
unfolding said_in
said_of-sound (Some f) n bytes c fits at e =
    let t = fields_sound f bytes c fits (or_malformed-ok (decode_fields f bytes) c e) in
    (t.0, t.1, ap function_number t.2 ∙ function_at-number n f at)
said_of-sound None n bytes c fits at e = absurd cc

call_in-sound : (bytes : List ℕ) (c : Call) → IsBytes bytes → call_in bytes ≡ Ok c → HasFrame c × (bytes ≡ call_payload c)
unfolding call_in
call_in-sound bytes c fits e =
    let said = said_in (function_at (from_be_bytes w16 (take 2 bytes))) (drop 2 bytes) in
    let g = unless_fault (ltb most (length bytes)) faults.TooLong (cond (ltb (length bytes) 2) (Err faults.Malformed) said) c e in
    let h = unless_fault (ltb (length bytes) 2) faults.Malformed said c g.1 in
    let short : length bytes ≤ most = ltb-false _ _ g.0 in
    let long : 2 ≤ length bytes = ltb-false _ _ h.0 in
    let t = said_of-sound (function_at (from_be_bytes w16 (take 2 bytes))) (from_be_bytes w16 (take 2 bytes)) (drop 2 bytes) c
    (IsBytes-drop 2 bytes fits) refl h.1 in
    let parts : bytes ≡ call_payload c =
    first_two bytes (function_number (function_of c)) fits long t.2
    ∙ ap (λ (r : List ℕ). to_be_bytes w16 (function_number (function_of c)) ++ r) t.0 in
    ((t.1, subst (λ (b : List ℕ). length b ≤ most) parts short), parts)

call_in-parts : (front rest : List ℕ) → length front ≡ 2 → length (front ++ rest) ≤ most
    → call_in (front ++ rest) ≡ said_in (function_at (from_be_bytes w16 front)) rest
unfolding call_in
call_in-parts front rest two fits =
    let few_bytes : ltb most (length (front ++ rest)) ≡ false = le-ltb _ _ fits in
    let long : ltb (length (front ++ rest)) 2 ≡ false = le-ltb _ _ (omega (arith, length-append front rest)) in
    rw (few_bytes, long, take_at front rest 2 two, drop_at front rest 2 two) refl

pub call_in-complete : (c : Call) → HasFrame c → call_in (call_payload c) ≡ Ok c
unfolding said_in
call_in-complete c has =
    let n = function_number (function_of c) in
    call_in-parts (to_be_bytes w16 n) (encode_fields c) refl has.1
    ∙ ap (λ (k : ℕ). said_in (function_at k) (encode_fields c)) (from_be_bytes-to_be_bytes_2 n (below_16 (function_of c)))
    ∙ ap (λ (o : Option Function). said_in o (encode_fields c)) (function_at-again (function_of c))
    ∙ ap or_malformed (fields_complete c has.0)

pub is_found : (bytes : List ℕ) (r : Result Call WireFault) → IsBytes bytes → Reads r (call_in bytes)
    → IfOk r (λ c. HasFrame c × (bytes ≡ call_payload c))
is_found bytes (Ok c) fits given = call_in-sound bytes c fits given
is_found bytes (Err e) fits given = tt
