-- What the payload of a reply decodes to is encoded so, and what is encoded is decoded.
use Rattle.std.proofs.Common.{◌≡◌, ℕ, ◌≤◌, Bool, true, false, cond, ltb, eqb, List, [], ◌++◌, length, Option, Some, None, Result, Ok, Err, refl, sym, ap, subst, ◌∙◌, lit<}
use Rattle.std.specs.Prelude.{IfOk, ◌||◌}
use Rattle.std.proofs.lemmas.Bool.{ltb-false, le-ltb, eqb-true}
use Rattle.std.proofs.lemmas.List.{append-nil, nil_from_length}
use Rattle.ck_types.specs.declared.rv.Rv.{Rv}
use Rattle.ck_types.specs.declared.rv.Rv.TheVariants as rv
use Rattle.ck_types.specs.Numbers.{rv_number}
use Rattle.ck_types.specs.Numbered.{return_code, return_code_canonical}
use Rattle.ck_types.specs.Format.{Format, ◌>>=◌, number64, byte_string, pair, whole}
use Rattle.ck_types.specs.Canonical.{IsCanonical, IsBytes, bind_some, some_is, when_ok, number64_canonical, byte_string_canonical, whole_sound, whole_complete}
use Rattle.ck_calls.specs.declared.function.Function.{Function}
use Rattle.ck_calls.specs.declared.reply.Output.{Output}
use Rattle.ck_calls.specs.declared.reply.Output.TheVariants.{Length, Data}
use Rattle.ck_calls.specs.declared.reply.Reply.{Reply}
use Rattle.ck_calls.specs.declared.reply.Reply.TheVariants as replies
use Rattle.ck_calls.specs.Fields.{token_info, token_info_canonical, mechanism_info, mechanism_info_canonical, session_info, session_info_canonical, numbers, numbers_canonical, output, output_canonical, attribute_values, attribute_values_canonical}
use Rattle.ck_calls.specs.Functions.{function_at}
use Rattle.wire.specs.declared.fault.WireFault.{WireFault}
use Rattle.wire.specs.declared.fault.WireFault.TheVariants as faults
use Rattle.ck_calls.specs.declared.shape.Shape.{Shape}
use Rattle.ck_calls.specs.declared.shape.Shape.TheVariants as shapes
use Rattle.wire.specs.Messages.{most, Reads, or_malformed}
use Rattle.ck_calls.specs.Rows.{shape_of}
use Rattle.ck_calls.specs.Shapes.{carries}
use Rattle.wire.specs.Replies.{reply_payload, Fits-reply, HasShape, IsReplyAt, too_small, decode_carried, decode_after, decode_reply, reply_said, reply_in}
use Rattle.wire.proofs.Requests.{function_at-number, function_at-again}
use Rattle.wire.proofs.Messages.{or_malformed-ok, unless_fault}

-- what is to be shown of a reply that was decoded after a code
pub record IsSound (s : Shape) (code : Rv) (bytes : List ℕ) (reply : Reply) : Type 0 where
  pub payload : return_code.encode code ++ bytes ≡ reply_payload reply
  pub shape : HasShape s reply
  pub fits : Fits-reply reply

ok_fits : return_code.Fits rv.Ok
ok_fits = lit< tt

or_second : (a b : Bool) → a ≡ false → (a || b) ≡ true → b ≡ true
or_second true b h e = absurd cc
or_second false b h e = e

small_fits : return_code.Fits rv.BufferTooSmall
small_fits = lit< tt

-- a reply that is made of fields which are all of the bytes, with CKR_OK
made_sound : {A : Type 0} (c : Format A) (to : A → Reply) (s : Shape) (code : Rv) → IsCanonical c → rv_number code ≡ rv_number rv.Ok
    → ((x : A) → reply_payload (to x) ≡ (pair return_code c).encode (rv.Ok, x))
    → ((x : A) → (pair return_code c).Fits (rv.Ok, x) → Fits-reply (to x)) → ((x : A) → HasShape s (to x))
    → (bytes : List ℕ) (reply : Reply) → IsBytes bytes → (whole c bytes >>= λ x. Some (to x)) ≡ Some reply → IsSound s code bytes reply
made_sound c to s code p ok encodes fits_to shape bytes reply fits e =
    let a = bind_some (whole c bytes) (λ x. Some (to x)) reply e in
    let t = whole_sound c p bytes a.0 fits a.1 in
    subst (λ (y : Reply). IsSound s code bytes y) (some_is (to a.0) reply a.2) (record {
      payload = ap (λ (front : List ℕ). front ++ bytes) (ap number64.encode ok)
          ∙ ap (λ (rest : List ℕ). return_code.encode rv.Ok ++ rest) t.0 ∙ sym (encodes a.0);
      shape = shape a.0;
      fits = fits_to a.0 (ok_fits, t.1);
    })

-- what data calls return with one of their two codes
output_sound : (code : Rv) (x : Output) (bytes : List ℕ) (reply : Reply) → carries shapes.Output code ≡ true
    → bytes ≡ output.encode x → output.Fits x → (b : Bool) → eqb (rv_number code) (rv_number rv.Ok) ≡ b
    → cond b (Some (replies.Output x)) (too_small x) ≡ Some reply → IsSound shapes.Output code bytes reply
output_sound code x bytes reply carried spelled fits true ok e =
    subst (λ (y : Reply). IsSound shapes.Output code bytes y) (some_is (replies.Output x) reply e) (record {
      payload = ap (λ (front : List ℕ). front ++ bytes) (ap number64.encode (eqb-true _ _ ok))
          ∙ ap (λ (rest : List ℕ). return_code.encode rv.Ok ++ rest) spelled;
      shape = refl;
      fits = (ok_fits, fits);
    })
output_sound code (Data d) bytes reply carried spelled fits false ok e = absurd cc
output_sound code (Length n) bytes reply carried spelled fits false ok e =
    let small : rv_number code ≡ rv_number rv.BufferTooSmall = eqb-true _ _ (or_second _ _ ok carried) in
    subst (λ (y : Reply). IsSound shapes.Output code bytes y) (some_is (replies.BufferTooSmall n) reply e) (record {
      payload = ap (λ (front : List ℕ). front ++ bytes) (ap number64.encode small)
          ∙ ap (λ (rest : List ℕ). return_code.encode rv.BufferTooSmall ++ rest) spelled;
      shape = refl;
      fits = (small_fits, fits);
    })

carried_sound : (s : Shape) (code : Rv) (bytes : List ℕ) (reply : Reply) → carries s code ≡ true → return_code.Fits code
    → IsBytes bytes → decode_carried s code bytes ≡ Some reply → IsSound s code bytes reply
carried_sound shapes.Code code bytes reply carried good fits e = absurd cc
carried_sound shapes.TokenInfo code bytes reply carried good fits e =
    made_sound token_info (λ x. replies.TokenInfo x) shapes.TokenInfo code token_info_canonical (eqb-true _ _ carried) (λ x. refl)
    (λ x h. h) (λ x. refl) bytes reply fits e
carried_sound shapes.MechanismList code bytes reply carried good fits e =
    made_sound numbers (λ x. replies.MechanismList x) shapes.MechanismList code numbers_canonical (eqb-true _ _ carried) (λ x. refl)
    (λ x h. h) (λ x. refl) bytes reply fits e
carried_sound shapes.MechanismInfo code bytes reply carried good fits e =
    made_sound mechanism_info (λ x. replies.MechanismInfo x) shapes.MechanismInfo code mechanism_info_canonical
    (eqb-true _ _ carried) (λ x. refl) (λ x h. h) (λ x. refl) bytes reply fits e
carried_sound shapes.Session code bytes reply carried good fits e =
    made_sound number64 (λ x. replies.Session x) shapes.Session code number64_canonical (eqb-true _ _ carried) (λ x. refl)
    (λ x h. h) (λ x. refl) bytes reply fits e
carried_sound shapes.SessionInfo code bytes reply carried good fits e =
    made_sound session_info (λ x. replies.SessionInfo x) shapes.SessionInfo code session_info_canonical (eqb-true _ _ carried)
    (λ x. refl) (λ x h. h) (λ x. refl) bytes reply fits e
carried_sound shapes.Object code bytes reply carried good fits e =
    made_sound number64 (λ x. replies.Object x) shapes.Object code number64_canonical (eqb-true _ _ carried) (λ x. refl) (λ x h. h)
    (λ x. refl) bytes reply fits e
carried_sound shapes.ObjectSize code bytes reply carried good fits e =
    made_sound number64 (λ x. replies.ObjectSize x) shapes.ObjectSize code number64_canonical (eqb-true _ _ carried) (λ x. refl)
    (λ x h. h) (λ x. refl) bytes reply fits e
carried_sound shapes.AttributeValues code bytes reply carried good fits e =
    let a = bind_some (whole attribute_values bytes) (λ x. Some (replies.AttributeValues code x)) reply e in
    let t = whole_sound attribute_values attribute_values_canonical bytes a.0 fits a.1 in
    subst (λ (y : Reply). IsSound shapes.AttributeValues code bytes y) (some_is (replies.AttributeValues code a.0) reply a.2) (record {
      payload = ap (λ (rest : List ℕ). return_code.encode code ++ rest) t.0;
      shape = refl;
      fits = (carried, (good, t.1));
    })
carried_sound shapes.Objects code bytes reply carried good fits e =
    made_sound numbers (λ x. replies.Objects x) shapes.Objects code numbers_canonical (eqb-true _ _ carried) (λ x. refl) (λ x h. h)
    (λ x. refl) bytes reply fits e
carried_sound shapes.Output code bytes reply carried good fits e =
    let a = bind_some (whole output bytes)
    (λ x. cond (eqb (rv_number code) (rv_number rv.Ok)) (Some (replies.Output x)) (too_small x)) reply e in
    let t = whole_sound output output_canonical bytes a.0 fits a.1 in
    output_sound code a.0 bytes reply carried t.0 t.1 (eqb (rv_number code) (rv_number rv.Ok)) refl a.2
carried_sound shapes.Random code bytes reply carried good fits e =
    made_sound byte_string (λ x. replies.Random x) shapes.Random code byte_string_canonical (eqb-true _ _ carried) (λ x. refl)
    (λ x h. h) (λ x. refl) bytes reply fits e

after_sound : (s : Shape) (code : Rv) (bytes : List ℕ) (reply : Reply) → return_code.Fits code → IsBytes bytes → (b : Bool)
    → carries s code ≡ b
    → cond b (decode_carried s code bytes) (cond (eqb (length bytes) 0) (Some (replies.Code code)) None) ≡ Some reply
    → IsSound s code bytes reply
after_sound s code bytes reply good fits true carried e = carried_sound s code bytes reply carried good fits e
after_sound s code bytes reply good fits false carried e =
    let g = when_ok (eqb (length bytes) 0) (Some (replies.Code code)) reply e in
    let nothing : bytes ≡ [] = nil_from_length bytes (eqb-true _ _ g.0) in
    subst (λ (y : Reply). IsSound s code bytes y) (some_is (replies.Code code) reply g.1) (record {
      payload = ap (λ (rest : List ℕ). return_code.encode code ++ rest) nothing ∙ append-nil (return_code.encode code);
      shape = carried;
      fits = good;
    })

reply_sound : (s : Shape) (bytes : List ℕ) (reply : Reply) → IsBytes bytes → decode_reply s bytes ≡ Some reply
    → (bytes ≡ reply_payload reply) × HasShape s reply × Fits-reply reply
reply_sound s bytes reply fits e =
    let a = bind_some (return_code.decode bytes) (λ x. decode_after s x.0 x.1) reply e in
    let t = return_code_canonical.sound bytes a.0.0 a.0.1 fits a.1 in
    let p = after_sound s a.0.0 a.0.1 reply t.1 t.0.rest_fits (carries s a.0.0) refl a.2 in
    (t.0.parts ∙ p.payload, p.shape, p.fits)

-- ---- the other way

after_code : (s : Shape) (code : Rv) (rest : List ℕ) → return_code.Fits code
    → decode_reply s (return_code.encode code ++ rest) ≡ decode_after s code rest
after_code s code rest good = rw (return_code_canonical.complete code rest good) refl

code_complete : (s : Shape) (code : Rv) → return_code.Fits code → carries s code ≡ false
    → decode_reply s (return_code.encode code) ≡ Some (replies.Code code)
code_complete s code good plain =
    ap (decode_reply s) (sym (append-nil (return_code.encode code))) ∙ after_code s code [] good ∙ rw plain refl

made_complete : {A : Type 0} (c : Format A) (to : A → Reply) (s : Shape) → IsCanonical c
    → ((bytes : List ℕ) → decode_after s rv.Ok bytes ≡ (whole c bytes >>= λ x. Some (to x)))
    → (x : A) → (pair return_code c).Fits (rv.Ok, x) → (t : Shape) → t ≡ s
    → decode_reply t ((pair return_code c).encode (rv.Ok, x)) ≡ Some (to x)
made_complete c to s p after x fits t same =
    subst (λ (u : Shape). decode_reply u ((pair return_code c).encode (rv.Ok, x)) ≡ Some (to x)) (sym same)
    (after_code s rv.Ok (c.encode x) fits.0 ∙ after (c.encode x) ∙ rw (whole_complete c p x fits.1) refl)

small_complete : (bytes : List ℕ) (n : ℕ) → whole output bytes ≡ Some (Length n)
    → decode_after shapes.Output rv.BufferTooSmall bytes ≡ Some (replies.BufferTooSmall n)
small_complete bytes n e = rw e refl

pub reply_complete : (t : Shape) (reply : Reply) → HasShape t reply → Fits-reply reply → decode_reply t (reply_payload reply) ≡ Some reply
reply_complete t (replies.Code code) plain fits = code_complete t code fits plain
reply_complete t (replies.TokenInfo x) same fits =
    made_complete token_info (λ x. replies.TokenInfo x) shapes.TokenInfo token_info_canonical (λ b. refl) x fits t same
reply_complete t (replies.MechanismList x) same fits =
    made_complete numbers (λ x. replies.MechanismList x) shapes.MechanismList numbers_canonical (λ b. refl) x fits t same
reply_complete t (replies.MechanismInfo x) same fits =
    made_complete mechanism_info (λ x. replies.MechanismInfo x) shapes.MechanismInfo mechanism_info_canonical (λ b. refl) x fits t same
reply_complete t (replies.Session x) same fits =
    made_complete number64 (λ x. replies.Session x) shapes.Session number64_canonical (λ b. refl) x fits t same
reply_complete t (replies.SessionInfo x) same fits =
    made_complete session_info (λ x. replies.SessionInfo x) shapes.SessionInfo session_info_canonical (λ b. refl) x fits t same
reply_complete t (replies.Object x) same fits =
    made_complete number64 (λ x. replies.Object x) shapes.Object number64_canonical (λ b. refl) x fits t same
reply_complete t (replies.ObjectSize x) same fits =
    made_complete number64 (λ x. replies.ObjectSize x) shapes.ObjectSize number64_canonical (λ b. refl) x fits t same
reply_complete t (replies.AttributeValues code x) same fits =
    subst (λ (u : Shape). decode_reply u (reply_payload (replies.AttributeValues code x)) ≡ Some (replies.AttributeValues code x))
    (sym same)
    (after_code shapes.AttributeValues code (attribute_values.encode x) fits.1.0
    ∙ rw (fits.0, whole_complete attribute_values attribute_values_canonical x fits.1.1) refl)
reply_complete t (replies.Objects x) same fits =
    made_complete numbers (λ x. replies.Objects x) shapes.Objects numbers_canonical (λ b. refl) x fits t same
reply_complete t (replies.Output x) same fits =
    made_complete output (λ x. replies.Output x) shapes.Output output_canonical (λ b. refl) x fits t same
reply_complete t (replies.BufferTooSmall n) same fits =
    subst (λ (u : Shape). decode_reply u (reply_payload (replies.BufferTooSmall n)) ≡ Some (replies.BufferTooSmall n)) (sym same)
    (after_code shapes.Output rv.BufferTooSmall (output.encode (Length n)) fits.0
    ∙ small_complete (output.encode (Length n)) n (whole_complete output output_canonical (Length n) fits.1))
reply_complete t (replies.Random x) same fits =
    made_complete byte_string (λ x. replies.Random x) shapes.Random byte_string_canonical (λ b. refl) x fits t same

-- ---- payloads

said_sound : (o : Option Function) (n : ℕ) (bytes : List ℕ) (reply : Reply) → IsBytes bytes → length bytes ≤ most
    → function_at n ≡ o → reply_said o bytes ≡ Ok reply → IsReplyAt n reply × (bytes ≡ reply_payload reply)
unfolding reply_said
said_sound (Some f) n bytes reply fits short at e =
    let t = reply_sound (shape_of f) bytes reply fits (or_malformed-ok (decode_reply (shape_of f) bytes) reply e) in
    ((f, function_at-number n f at, record { shape = t.1; fits = t.2; short = subst (λ (b : List ℕ). length b ≤ most) t.0 short }), t.0)
said_sound None n bytes reply fits short at e = absurd cc

reply_in-sound : (n : ℕ) (bytes : List ℕ) (reply : Reply) → IsBytes bytes → reply_in n bytes ≡ Ok reply → IsReplyAt n reply
    × (bytes ≡ reply_payload reply)
unfolding reply_in
reply_in-sound n bytes reply fits e =
    let g = unless_fault (ltb most (length bytes)) faults.TooLong (reply_said (function_at n) bytes) reply e in
    said_sound (function_at n) n bytes reply fits (ltb-false _ _ g.0) refl g.1

pub reply_in-complete : (n : ℕ) (reply : Reply) → IsReplyAt n reply → reply_in n (reply_payload reply) ≡ Ok reply
unfolding reply_in reply_said
reply_in-complete n reply at =
    let at_n : function_at n ≡ Some at.0 = ap function_at (sym at.1) ∙ function_at-again at.0 in
    let short : ltb most (length (reply_payload reply)) ≡ false = le-ltb _ _ at.2.short in
    rw (short, at_n) (ap or_malformed (reply_complete (shape_of at.0) reply at.2.shape at.2.fits))

pub reply_found : (n : ℕ) (bytes : List ℕ) (r : Result Reply WireFault) → IsBytes bytes → Reads r (reply_in n bytes)
    → IfOk r (λ reply. IsReplyAt n reply × (bytes ≡ reply_payload reply))
reply_found n bytes (Ok reply) fits given = reply_in-sound n bytes reply fits given
reply_found n bytes (Err e) fits given = tt
