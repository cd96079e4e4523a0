-- What is output, as a function of all data taken.
use Rattle.std.proofs.Common.{◌≡◌, ◌≢◌, ℕ, ◌≤◌, ◌-◌, ◌%◌, false, ◌==◌, ◌&&◌, not, Bool, List, [], ◌++◌, length, take, drop, Some, None, Result, Ok, Err, IfOk, option_map, unwrap_or, bytes_eq, ap, refl, sym, subst, ◌∙◌, arith, eqb-true, eq-eqb}
use Rattle.std.proofs.lemmas.Bool.{and_from, and_parts, not_from_false, not_from_true, not-true}
use Rattle.std.proofs.lemmas.List.{length-take-le, append_assoc, drop_at, take_all, length-append}
use Rattle.std.proofs.lemmas.Slice.Eq.{bytes_eq-Decides}
use Rattle.fips_197.specs.Bytes.{AreBytes}
use Rattle.fips_197.specs.KeyExpansion.{IsKey}
use Rattle.aes_modes.specs.Modes.{cbc_pad_encrypted}
use Rattle.aes_modes.specs.declared.direction.Direction.{Direction}
use Rattle.aes_modes.specs.declared.direction.Direction.TheVariants.{Encrypt, Decrypt}
use Rattle.streams.specs.declared.mechanism.Mechanism.{Mechanism}
use Rattle.streams.specs.declared.mechanism.Mechanism.TheVariants.{Ecb, Cbc, CbcPad, Ctr}
use Rattle.streams.specs.Streamed.{Streamed, after_piece}
use Rattle.streams.specs.Lengths.{length_so_far, is_of_no_text}
use Rattle.streams.specs.Right.{encrypted, whole_encrypted, IsRight, IsFinalPart, IsOnlyRest, IsText}
use Rattle.streams.specs.Outputs.{output_so_far, whole_output, update_output, last_output}
use Rattle.streams_model.specs.Flows.{Flow}
use Rattle.streams_model.specs.EcbFlows.{IsEcbDecrypted}
use Rattle.streams_model.specs.CbcFlows.{IsCbcDecrypted}
use Rattle.streams_model.specs.Countings.{Counting, ctr_output}
use Rattle.streams.specs.States.{of_flow, of_counting}
use Rattle.streams.proofs.RightLaw.{ecb_right_back, cbc_right_back, ctr_right_back, with_nothing, ecb_only_rest, cbc_only_rest, ctr_only_rest}
use Rattle.streams.proofs.FirstTexts.{first_text-only, first_text-none}

-- ---- lengths

so_far-le : (m : Mechanism) (d : Direction) (n : ℕ) → length_so_far m d n ≤ n
so_far-le Ecb d n = omega arith
so_far-le (Cbc iv) d n = omega arith
so_far-le (CbcPad iv) Encrypt n = omega arith
so_far-le (CbcPad iv) Decrypt n = omega arith
so_far-le (Ctr bits start) d n = omega arith

-- ---- all that is output

module _ (m : Mechanism) (key taken given : List ℕ) where
  abbrev pub there : Streamed
  there = record { mechanism = m; direction = Encrypt; key = key; taken = taken; given = given }

  abbrev pub back : Streamed
  back = record { mechanism = m; direction = Decrypt; key = key; taken = taken; given = given }

  abbrev pub done : ℕ
  done = length_so_far m Decrypt (length taken)

  pub so_far_there : IsRight there → output_so_far there ≡ given
  so_far_there r = ap (λ n. encrypted m key (take n taken)) (sym r.size) ∙ sym r.turned

  pub so_far_back : IsRight back → AreBytes given → output_so_far back ≡ given
  so_far_back r bytes =
      let size : length (take done taken) ≡ done = length-take-le done taken (so_far-le m Decrypt (length taken)) in
      let count = r.size in
      let text : encrypted m key given ≡ take done taken = r.turned ∙ ap (λ n. take n taken) r.size in
      ap (λ o. unwrap_or o [])
      (first_text-only (length (take done taken))
      (λ x. (length x == done) && bytes_eq (encrypted m key x) (take done taken)) given bytes (omega (arith, size, count))
      (and_from (length given == done) (bytes_eq (encrypted m key given) (take done taken)) (eq-eqb (length given) done r.size)
      ((bytes_eq-Decides (encrypted m key given) (take done taken)).1 text))
      (λ x hx e.
      let both = and_parts (length x == done) (bytes_eq (encrypted m key x) (take done taken)) e in
      r.only x hx (eqb-true (length x) done both.0 ∙ sym r.size)
      ((bytes_eq-Decides (encrypted m key x) (take done taken)).0 both.1 ∙ ap (λ n. take n taken) (sym r.size))))

  pub whole_there : (out : List ℕ) → IsFinalPart there out → whole_output there ≡ Some (given ++ out)
  whole_there out rest = ap Some (sym rest)

  abbrev pub is_the_text : List ℕ → Bool
  is_the_text x = not (is_of_no_text m Encrypt (length x)) && bytes_eq (whole_encrypted m key x) taken

  pub whole_back : (out : List ℕ) → IsFinalPart back out → IsOnlyRest back out → AreBytes (given ++ out) → IsText m (given ++ out)
      → length (given ++ out) ≤ length taken → whole_output back ≡ Some (given ++ out)
  whole_back out rest only bytes text le =
      first_text-only (length taken) is_the_text (given ++ out) bytes le
      (and_from (not (is_of_no_text m Encrypt (length (given ++ out)))) (bytes_eq (whole_encrypted m key (given ++ out)) taken)
      (not_from_false (is_of_no_text m Encrypt (length (given ++ out))) text)
      ((bytes_eq-Decides (whole_encrypted m key (given ++ out)) taken).1 rest))
      (λ x hx e.
      let both = and_parts (not (is_of_no_text m Encrypt (length x))) (bytes_eq (whole_encrypted m key x) taken) e in
      only x hx (not-true (is_of_no_text m Encrypt (length x)) both.0) ((bytes_eq-Decides (whole_encrypted m key x) taken).0 both.1))

  pub whole_none : ((x : List ℕ) → AreBytes x → whole_encrypted m key x ≢ taken) → whole_output back ≡ None
  whole_none none =
      first_text-none (length taken) is_the_text
      (λ x hx e.
      let both = and_parts (not (is_of_no_text m Encrypt (length x))) (bytes_eq (whole_encrypted m key x) taken) e in
      none x hx ((bytes_eq-Decides (whole_encrypted m key x) taken).0 both.1))

  -- where nothing is added
  pub whole_ended : (out : List ℕ) → out ≡ [] → whole_encrypted m key given ≡ taken → IsOnlyRest back out → AreBytes given → IsText m given
      → length given ≤ length taken → whole_output back ≡ Some (given ++ out)
  whole_ended out none rest only bytes text le =
      let same : given ≡ given ++ out = with_nothing given out none in
      whole_back out (ap (whole_encrypted m key) (sym same) ∙ rest) only (subst AreBytes same bytes) (subst (IsText m) same text)
      (subst (λ x. length x ≤ length taken) same le)

-- ---- each mechanism, decrypted to the end

pub IfOk-both : {T E : Type 0} (r : Result T E) (P Q : T → Type 0) → IfOk r P → IfOk r Q → IfOk r (λ x. P x × Q x)
IfOk-both (Ok x) P Q p q = (p, q)
IfOk-both (Err y) P Q p q = tt

whole_blocks : (n : ℕ) → n % 16 ≡ 0 → not (n % 16 == 0) ≡ false
whole_blocks n e = not_from_true (n % 16 == 0) (eq-eqb (n % 16) 0 e)

pub ecb_whole : (f : Flow) (waiting : ℕ) (out : List ℕ) → IsEcbDecrypted f → waiting ≡ length f.taken - length f.given → waiting ≡ 0
    → out ≡ []
    → whole_output (of_flow Ecb Decrypt f) ≡ Some (f.given ++ out)
ecb_whole f waiting out h w none empty =
    let size = h.size in
    let r = ecb_right_back f h in
    whole_ended Ecb f.key f.taken f.given out empty (r.turned ∙ take_all (length f.given) f.taken (omega (arith, w, none)))
    (ecb_only_rest f waiting out h w none empty) h.bytes (whole_blocks (length f.given) (omega (arith, size))) (omega (arith, size))

pub cbc_whole : (f : Flow) (waiting : ℕ) (out : List ℕ) → f.held ≡ 0 → IsCbcDecrypted f → waiting ≡ length f.taken - length f.given
    → waiting ≡ 0 → out ≡ []
    → whole_output (of_flow (Cbc f.iv) Decrypt f) ≡ Some (f.given ++ out)
cbc_whole f waiting out held h w none empty =
    let size = h.size in
    let r = cbc_right_back f held h in
    whole_ended (Cbc f.iv) f.key f.taken f.given out empty (r.turned ∙ take_all (length f.given) f.taken (omega (arith, w, none)))
    (cbc_only_rest f waiting out h w none empty) h.bytes (whole_blocks (length f.given) (omega (arith, size))) (omega (arith, size))

pub cbc_pad_whole : (f : Flow) (out : List ℕ) → IsRight (of_flow (CbcPad f.iv) Decrypt f)
    → cbc_pad_encrypted f.key f.iv (f.given ++ out) ≡ f.taken
    → ((x : List ℕ) → AreBytes x → cbc_pad_encrypted f.key f.iv x ≡ f.taken → x ≡ f.given ++ out) → AreBytes (f.given ++ out)
    → length out ≤ length f.taken - length f.given → whole_output (of_flow (CbcPad f.iv) Decrypt f) ≡ Some (f.given ++ out)
cbc_pad_whole f out r e only bytes le =
    let size = r.size in
    whole_back (CbcPad f.iv) f.key f.taken f.given out e (λ x hx text same. only x hx same) bytes refl
    (omega (arith, le, size, length-append f.given out))

pub ctr_whole : (c : Counting) (out : List ℕ) → IsKey c.key → AreBytes (ctr_output c) → out ≡ []
    → whole_output (of_counting Decrypt c) ≡ Some (ctr_output c ++ out)
ctr_whole c out is_key bytes empty =
    let r = ctr_right_back c is_key in
    let size = r.size in
    whole_ended (Ctr c.bits c.start) c.key c.taken (ctr_output c) out empty
    (r.turned ∙ take_all (length (ctr_output c)) c.taken (omega (arith, size)))
    (ctr_only_rest c out is_key empty) bytes refl (omega (arith, size))

-- ---- what a call adds

module _ (s after : Streamed) (piece out : List ℕ) (a : after ≡ after_piece s piece out) where
  pub update_is : output_so_far after ≡ after.given → out ≡ update_output s piece
  update_is e =
      sym (drop_at s.given out (length s.given) refl)
      ∙ ap (drop (length s.given)) (sym (ap (λ t. t.given) a) ∙ sym e ∙ ap output_so_far a)

  module _ (rest all : List ℕ) (j : all ≡ out ++ rest) where
    joined : (s.given ++ out) ++ rest ≡ s.given ++ all
    joined = append_assoc s.given out rest ∙ ap (λ x. s.given ++ x) (sym j)

    pub last_is : whole_output after ≡ Some (after.given ++ rest) → last_output s piece ≡ Some all
    last_is e =
        ap (option_map (drop (length s.given))) (ap whole_output (sym a) ∙ e ∙ ap (λ t. Some (t.given ++ rest)) a ∙ ap Some joined)
        ∙ ap Some (drop_at s.given all (length s.given) refl)
