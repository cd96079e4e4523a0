-- What the output is, in the words of the modes over whole texts.
use Rattle.std.proofs.Common.{◌≡◌, ℕ, ◌==◌, not, false, ◌+◌, ◌%◌, ◌-◌, ◌*◌, ◌/◌, ◌≤◌, List, [], ◌++◌, length, take, drop, ap, sym, ◌∙◌, arith}
use Rattle.std.proofs.lemmas.Bool.{eqb-true, not-false}
use Rattle.std.proofs.lemmas.List.{append-nil, take_all, take-append-drop, length-take-le}
use Rattle.fips_197.specs.Bytes.{AreBytes, IsBlock}
use Rattle.fips_197.specs.KeyExpansion.{IsKey}
use Rattle.aes_modes.specs.Blocks.{first_blocks}
use Rattle.aes_modes.specs.Modes.{ecb_block, cbc_block, cbc_encrypted, output_block, ctr_encrypted}
use Rattle.aes_modes.specs.declared.direction.Direction.TheVariants.{Encrypt, Decrypt}
use Rattle.aes_modes.proofs.Texts.{first_blocks-append}
use Rattle.aes_modes.proofs.Chains.{ecb_block-append, cbc_block-append}
use Rattle.aes_modes.proofs.Only.{ecb_encrypted-only, cbc_encrypted-only}
use Rattle.aes_modes.proofs.CounterTexts.{IsBlock-output_block, length-ctr_encrypted, ctr_encrypted-twice}
use Rattle.streams.specs.declared.mechanism.Mechanism.TheVariants.{Ecb, Cbc, CbcPad}
use Rattle.streams_model.specs.Flows.{Flow, blocks_done}
use Rattle.streams_model.specs.EcbFlows.{IsEcbEncrypted, IsEcbDecrypted}
use Rattle.streams_model.specs.CbcFlows.{IsCbcEncrypted, IsCbcDecrypted}
use Rattle.streams_model.specs.Countings.{Counting, ctr_output}
use Rattle.streams.specs.States.{of_flow, of_counting}
use Rattle.streams.specs.Right.{IsRight, IsOnlyRest}

module _ (mode : List ℕ → ℕ → List ℕ) (local : (xs ys : List ℕ) (i : ℕ) → 16 * i + 16 ≤ length xs → mode (xs ++ ys) i ≡ mode xs i)
    (taken given : List ℕ) (n : ℕ) (size : length given ≡ 16 * n) (le : 16 * n ≤ length taken) where
  -- the first blocks of a text are those of its beginning
  beginning : first_blocks (mode taken) n ≡ first_blocks (mode (take (16 * n) taken)) (length (take (16 * n) taken) / 16)
  beginning =
      let start : length (take (16 * n) taken) ≡ 16 * n = length-take-le (16 * n) taken le in
      let count : n ≡ length (take (16 * n) taken) / 16 = omega (arith, start) in
      ap (λ x. first_blocks (mode x) n) (sym (take-append-drop (16 * n) taken))
      ∙ first_blocks-append mode local (take (16 * n) taken) (drop (16 * n) taken) n (omega (arith, start))
      ∙ ap (first_blocks (mode (take (16 * n) taken))) count

  there : given ≡ first_blocks (mode taken) n
      → given ≡ first_blocks (mode (take (length given) taken)) (length (take (length given) taken) / 16)
  there out = out ∙ beginning ∙ ap (λ m. first_blocks (mode (take m taken)) (length (take m taken) / 16)) (sym size)

  back_again : first_blocks (mode given) n ≡ take (16 * n) taken → first_blocks (mode given) (length given / 16) ≡ take (length given) taken
  back_again back =
      let count : length given / 16 ≡ n = omega (arith, size) in
      ap (first_blocks (mode given)) count ∙ back ∙ ap (λ m. take m taken) (sym size)

pub ecb_right : (f : Flow) → IsEcbEncrypted f → IsRight (of_flow Ecb Encrypt f)
ecb_right f h =
    let turned = there (ecb_block f.key) (ecb_block-append f.key) f.taken f.given (length f.taken / 16) h.size (omega arith) h.out in
    record { size = h.size; turned = turned; only = λ x _ _ e. e ∙ sym turned }

pub cbc_right : (f : Flow) → IsCbcEncrypted f → IsRight (of_flow (Cbc f.iv) Encrypt f)
cbc_right f h =
    let turned = there (cbc_block f.key f.iv) (cbc_block-append f.key f.iv) f.taken f.given (length f.taken / 16) h.size
    (omega arith) h.out in
    record { size = h.size; turned = turned; only = λ x _ _ e. e ∙ sym turned }

pub cbc_pad_right : (f : Flow) → IsCbcEncrypted f → IsRight (of_flow (CbcPad f.iv) Encrypt f)
cbc_pad_right f h =
    let turned = there (cbc_block f.key f.iv) (cbc_block-append f.key f.iv) f.taken f.given (length f.taken / 16) h.size
    (omega arith) h.out in
    record { size = h.size; turned = turned; only = λ x _ _ e. e ∙ sym turned }

pub ecb_right_back : (f : Flow) → IsEcbDecrypted f → IsRight (of_flow Ecb Decrypt f)
ecb_right_back f h =
    let turned = back_again (ecb_block f.key) (ecb_block-append f.key) f.taken f.given (length f.taken / 16) h.size (omega arith) h.back in
    let size = h.size in
    record {
      size = size;
      turned = turned;
      only = λ x bytes same e. ecb_encrypted-only f.key h.is_key x f.given bytes h.bytes (omega (arith, same, size))
          (omega (arith, size)) (e ∙ sym turned);
    }

cbc_turned : (f : Flow) → IsCbcDecrypted f → cbc_encrypted f.key f.iv f.given ≡ take (length f.given) f.taken
cbc_turned f h = back_again (cbc_block f.key f.iv) (cbc_block-append f.key f.iv) f.taken f.given (blocks_done f.held f.taken) h.size
    (omega arith) h.back

cbc_only : (f : Flow) → IsCbcDecrypted f → (x : List ℕ) → AreBytes x → length x ≡ length f.given
    → cbc_encrypted f.key f.iv x ≡ take (length f.given) f.taken → x ≡ f.given
cbc_only f h x bytes same e =
    let size = h.size in
    cbc_encrypted-only f.key h.is_key f.iv x f.given h.block bytes h.bytes (omega (arith, same, size)) (omega (arith, size))
    (e ∙ sym (cbc_turned f h))

pub cbc_right_back : (f : Flow) → f.held ≡ 0 → IsCbcDecrypted f → IsRight (of_flow (Cbc f.iv) Decrypt f)
cbc_right_back f none h = record {
  size = h.size ∙ ap (λ m. 16 * ((length f.taken - m) / 16)) none ∙ omega arith;
  turned = cbc_turned f h;
  only = cbc_only f h;
}

pub cbc_pad_right_back : (f : Flow) → f.held ≡ 1 → IsCbcDecrypted f → IsRight (of_flow (CbcPad f.iv) Decrypt f)
cbc_pad_right_back f one h = record {
  size = h.size ∙ ap (λ m. 16 * ((length f.taken - m) / 16)) one;
  turned = cbc_turned f h;
  only = cbc_only f h;
}

module _ (c : Counting) (is_key : IsKey c.key) where
  ctr_blocks : (i : ℕ) → IsBlock (output_block c.key c.bits c.start i)
  ctr_blocks i = IsBlock-output_block c.key c.bits c.start i is_key

  ctr_size : length (ctr_output c) ≡ length c.taken
  ctr_size = length-ctr_encrypted c.key c.bits c.start ctr_blocks c.taken

  ctr_all : take (length (ctr_output c)) c.taken ≡ c.taken
  ctr_all = take_all (length (ctr_output c)) c.taken (omega (arith, ctr_size))

  pub ctr_right : IsRight (of_counting Encrypt c)
  ctr_right =
      let turned = ap (ctr_encrypted c.key c.bits c.start) (sym ctr_all) in
      record { size = ctr_size; turned = turned; only = λ x _ _ e. e ∙ sym turned }

  ctr_only : (x : List ℕ) → ctr_encrypted c.key c.bits c.start x ≡ c.taken → x ≡ ctr_output c
  ctr_only x e = sym (ctr_encrypted-twice c.key c.bits c.start ctr_blocks x) ∙ ap (ctr_encrypted c.key c.bits c.start) e

  pub ctr_right_back : IsRight (of_counting Decrypt c)
  ctr_right_back = record {
    size = ctr_size;
    turned = ctr_encrypted-twice c.key c.bits c.start ctr_blocks c.taken ∙ sym ctr_all;
    only = λ x _ _ e. ctr_only x (e ∙ ctr_all);
  }

-- ---- the end, where nothing is buffered and nothing is added

is_whole : (x : List ℕ) → not (length x % 16 == 0) ≡ false → length x % 16 ≡ 0
is_whole x text = eqb-true (length x % 16) 0 (not-false (length x % 16 == 0) text)

pub with_nothing : (given out : List ℕ) → out ≡ [] → given ≡ given ++ out
with_nothing given out none = sym (append-nil given) ∙ ap (λ x. given ++ x) (sym none)

pub ecb_only_rest : (f : Flow) (waiting : ℕ) (out : List ℕ) → IsEcbDecrypted f → waiting ≡ length f.taken - length f.given
    → waiting ≡ 0 → out ≡ []
    → IsOnlyRest (of_flow Ecb Decrypt f) out
ecb_only_rest f waiting out h w none empty x bytes text e =
    let size = h.size in
    let all : take (length f.given) f.taken ≡ f.taken = take_all (length f.given) f.taken (omega (arith, w, none)) in
    let r = ecb_right_back f h in
    ecb_encrypted-only f.key h.is_key x f.given bytes h.bytes (is_whole x text) (omega (arith, size)) (e ∙ sym (r.turned ∙ all))
    ∙ with_nothing f.given out empty

pub cbc_only_rest : (f : Flow) (waiting : ℕ) (out : List ℕ) → IsCbcDecrypted f → waiting ≡ length f.taken - length f.given
    → waiting ≡ 0 → out ≡ []
    → IsOnlyRest (of_flow (Cbc f.iv) Decrypt f) out
cbc_only_rest f waiting out h w none empty x bytes text e =
    let size = h.size in
    let all : take (length f.given) f.taken ≡ f.taken = take_all (length f.given) f.taken (omega (arith, w, none)) in
    cbc_encrypted-only f.key h.is_key f.iv x f.given h.block bytes h.bytes (is_whole x text) (omega (arith, size))
    (e ∙ sym (cbc_turned f h ∙ all))
    ∙ with_nothing f.given out empty

pub ctr_only_rest : (c : Counting) (out : List ℕ) → IsKey c.key → out ≡ [] → IsOnlyRest (of_counting Decrypt c) out
ctr_only_rest c out is_key empty x bytes text e = ctr_only c is_key x e ∙ with_nothing (ctr_output c) out empty
