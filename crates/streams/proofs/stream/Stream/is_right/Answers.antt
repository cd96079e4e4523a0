use Rattle.std.proofs.Common.{◌≡◌, ◌∙◌, ap, sym, subst}
use Rattle.streams_model.specs.Countings.{ctr_output}
use Rattle.streams.specs.Right.{IsRight}
use Rattle.streams.specs.Outputs.{output_so_far}
use Rattle.streams.specs.States.{streamed}
use Rattle.streams.specs.Streamed.{Streamed}
use Rattle.streams.specs.declared.mechanism.Mechanism.TheVariants.{Ecb, Cbc, CbcPad, Ctr}
use Rattle.streams.proofs.OutputLaw.{so_far_there, so_far_back}
use Rattle.streams.proofs.RightLaw.{ecb_right, ecb_right_back, cbc_right, cbc_right_back, cbc_pad_right, cbc_pad_right_back, ctr_right, ctr_right_back}
use Rattle.streams.proofs.stream.Stream.is_right.Goals as goal

pub returns-in-EcbEncrypt-clause-right : goal.returns-in-EcbEncrypt-clause-right
returns-in-EcbEncrypt-clause-right c =
    subst IsRight (ap streamed (sym c.in-EcbEncrypt.is) ∙ c.self.view_is) (ecb_right c.in-EcbEncrypt.stream c.gives.ensures)

pub returns-in-EcbDecrypt-clause-right : goal.returns-in-EcbDecrypt-clause-right
returns-in-EcbDecrypt-clause-right c =
    subst IsRight (ap streamed (sym c.in-EcbDecrypt.is) ∙ c.self.view_is)
    (ecb_right_back c.in-EcbDecrypt.stream c.gives-in-EcbDecrypt.ensures)

pub returns-in-CbcEncrypt-clause-right : goal.returns-in-CbcEncrypt-clause-right
returns-in-CbcEncrypt-clause-right c =
    subst IsRight (ap streamed (sym c.in-CbcEncrypt.is) ∙ c.self.view_is) (cbc_right c.in-CbcEncrypt.stream c.gives-in-CbcEncrypt.ensures)

pub returns-in-CbcDecrypt-clause-right : goal.returns-in-CbcDecrypt-clause-right
returns-in-CbcDecrypt-clause-right c =
    subst IsRight (ap streamed (sym c.in-CbcDecrypt.is) ∙ c.self.view_is)
    (cbc_right_back c.in-CbcDecrypt.stream (rw c.in-CbcDecrypt.is at c.self.invariant.held) c.gives-in-CbcDecrypt.ensures)

pub returns-in-CbcPadEncrypt-clause-right : goal.returns-in-CbcPadEncrypt-clause-right
returns-in-CbcPadEncrypt-clause-right c =
    subst IsRight (ap streamed (sym c.in-CbcPadEncrypt.is) ∙ c.self.view_is)
    (cbc_pad_right c.in-CbcPadEncrypt.stream c.gives-in-CbcPadEncrypt.ensures)

pub returns-in-CbcPadDecrypt-clause-right : goal.returns-in-CbcPadDecrypt-clause-right
returns-in-CbcPadDecrypt-clause-right c =
    subst IsRight (ap streamed (sym c.in-CbcPadDecrypt.is) ∙ c.self.view_is)
    (cbc_pad_right_back c.in-CbcPadDecrypt.stream (rw c.in-CbcPadDecrypt.is at c.self.invariant.held) c.gives-in-CbcPadDecrypt.ensures)

pub returns-in-CtrEncrypt-clause-right : goal.returns-in-CtrEncrypt-clause-right
returns-in-CtrEncrypt-clause-right c =
    subst IsRight (ap streamed (sym c.in-CtrEncrypt.is) ∙ c.self.view_is)
    (ctr_right c.in-CtrEncrypt.stream c.gives-in-CtrEncrypt.ensures.key)

pub returns-in-CtrDecrypt-clause-right : goal.returns-in-CtrDecrypt-clause-right
returns-in-CtrDecrypt-clause-right c =
    subst IsRight (ap streamed (sym c.in-CtrDecrypt.is) ∙ c.self.view_is)
    (ctr_right_back c.in-CtrDecrypt.stream c.gives-in-CtrDecrypt.ensures.key)

pub returns-in-EcbEncrypt-clause-value : goal.returns-in-EcbEncrypt-clause-value
returns-in-EcbEncrypt-clause-value c =
    let f = c.in-EcbEncrypt.stream in
    subst (λ (s : Streamed). output_so_far s ≡ s.given) (ap streamed (sym c.in-EcbEncrypt.is) ∙ c.self.view_is)
    (so_far_there Ecb f.key f.taken f.given (ecb_right f c.gives.ensures))

pub returns-in-EcbDecrypt-clause-value : goal.returns-in-EcbDecrypt-clause-value
returns-in-EcbDecrypt-clause-value c =
    let f = c.in-EcbDecrypt.stream in
    subst (λ (s : Streamed). output_so_far s ≡ s.given) (ap streamed (sym c.in-EcbDecrypt.is) ∙ c.self.view_is)
    (so_far_back Ecb f.key f.taken f.given (ecb_right_back f c.gives-in-EcbDecrypt.ensures) c.gives-in-EcbDecrypt.ensures.bytes)

pub returns-in-CbcEncrypt-clause-value : goal.returns-in-CbcEncrypt-clause-value
returns-in-CbcEncrypt-clause-value c =
    let f = c.in-CbcEncrypt.stream in
    subst (λ (s : Streamed). output_so_far s ≡ s.given) (ap streamed (sym c.in-CbcEncrypt.is) ∙ c.self.view_is)
    (so_far_there (Cbc f.iv) f.key f.taken f.given (cbc_right f c.gives-in-CbcEncrypt.ensures))

pub returns-in-CbcDecrypt-clause-value : goal.returns-in-CbcDecrypt-clause-value
returns-in-CbcDecrypt-clause-value c =
    let f = c.in-CbcDecrypt.stream in
    subst (λ (s : Streamed). output_so_far s ≡ s.given) (ap streamed (sym c.in-CbcDecrypt.is) ∙ c.self.view_is)
    (so_far_back (Cbc f.iv) f.key f.taken f.given
    (cbc_right_back f (rw c.in-CbcDecrypt.is at c.self.invariant.held) c.gives-in-CbcDecrypt.ensures)
    c.gives-in-CbcDecrypt.ensures.bytes)

pub returns-in-CbcPadEncrypt-clause-value : goal.returns-in-CbcPadEncrypt-clause-value
returns-in-CbcPadEncrypt-clause-value c =
    let f = c.in-CbcPadEncrypt.stream in
    subst (λ (s : Streamed). output_so_far s ≡ s.given) (ap streamed (sym c.in-CbcPadEncrypt.is) ∙ c.self.view_is)
    (so_far_there (CbcPad f.iv) f.key f.taken f.given (cbc_pad_right f c.gives-in-CbcPadEncrypt.ensures))

pub returns-in-CbcPadDecrypt-clause-value : goal.returns-in-CbcPadDecrypt-clause-value
returns-in-CbcPadDecrypt-clause-value c =
    let f = c.in-CbcPadDecrypt.stream in
    subst (λ (s : Streamed). output_so_far s ≡ s.given) (ap streamed (sym c.in-CbcPadDecrypt.is) ∙ c.self.view_is)
    (so_far_back (CbcPad f.iv) f.key f.taken f.given
    (cbc_pad_right_back f (rw c.in-CbcPadDecrypt.is at c.self.invariant.held) c.gives-in-CbcPadDecrypt.ensures)
    c.gives-in-CbcPadDecrypt.ensures.bytes)

pub returns-in-CtrEncrypt-clause-value : goal.returns-in-CtrEncrypt-clause-value
returns-in-CtrEncrypt-clause-value c =
    let f = c.in-CtrEncrypt.stream in
    subst (λ (s : Streamed). output_so_far s ≡ s.given) (ap streamed (sym c.in-CtrEncrypt.is) ∙ c.self.view_is)
    (so_far_there (Ctr f.bits f.start) f.key f.taken (ctr_output f) (ctr_right f c.gives-in-CtrEncrypt.ensures.key))

pub returns-in-CtrDecrypt-clause-value : goal.returns-in-CtrDecrypt-clause-value
returns-in-CtrDecrypt-clause-value c =
    let f = c.in-CtrDecrypt.stream in
    subst (λ (s : Streamed). output_so_far s ≡ s.given) (ap streamed (sym c.in-CtrDecrypt.is) ∙ c.self.view_is)
    (so_far_back (Ctr f.bits f.start) f.key f.taken (ctr_output f)
    (ctr_right_back f c.gives-in-CtrDecrypt.ensures.key) c.gives-in-CtrDecrypt.ensures.bytes)
