use Rattle.std.proofs.Common.{◌≡◌, ◌∙◌, ◌++◌, Some, None, ap, sym, subst}
use Rattle.std.proofs.lemmas.Result.{IfOk-weaker}
use Rattle.streams.specs.Right.{IsRight, IsOnlyRest}
use Rattle.streams.specs.Outputs.{whole_output}
use Rattle.streams.specs.States.{streamed}
use Rattle.streams.specs.Streamed.{Streamed}
use Rattle.streams.specs.declared.mechanism.Mechanism.TheVariants.{CbcPad}
use Rattle.streams.proofs.OutputLaw.{IfOk-both, whole_none, ecb_whole, cbc_whole, cbc_pad_whole, ctr_whole}
use Rattle.streams.proofs.RightLaw.{ecb_only_rest, cbc_only_rest, ctr_only_rest}
use Rattle.streams.proofs.stream.Stream.finish.Goals as goal

pub returns-in-EcbDecrypt-clause-only : goal.returns-in-EcbDecrypt-clause-only
returns-in-EcbDecrypt-clause-only c =
    IfOk-weaker c.nothing_more-in-EcbDecrypt.result _ _
    (λ out nothing. subst (λ (s : Streamed). IsOnlyRest s out.items) (ap streamed (sym c.in-EcbDecrypt.is) ∙ c.self.view_is)
    (ecb_only_rest c.in-EcbDecrypt.stream c.waiting-in-EcbDecrypt.result out.items c.gives.ensures
    c.waiting-in-EcbDecrypt.ensures.value nothing.1 nothing.0))
    c.nothing_more-in-EcbDecrypt.ensures.nothing

pub returns-in-CbcDecrypt-clause-only : goal.returns-in-CbcDecrypt-clause-only
returns-in-CbcDecrypt-clause-only c =
    IfOk-weaker c.nothing_more-in-CbcDecrypt.result _ _
    (λ out nothing. subst (λ (s : Streamed). IsOnlyRest s out.items) (ap streamed (sym c.in-CbcDecrypt.is) ∙ c.self.view_is)
    (cbc_only_rest c.in-CbcDecrypt.stream c.waiting-in-CbcDecrypt.result out.items c.gives-in-CbcDecrypt.ensures
    c.waiting-in-CbcDecrypt.ensures.value nothing.1 nothing.0))
    c.nothing_more-in-CbcDecrypt.ensures.nothing

pub returns-in-CtrDecrypt-clause-only : goal.returns-in-CtrDecrypt-clause-only
returns-in-CtrDecrypt-clause-only c =
    subst (λ (s : Streamed). IsOnlyRest s c.new-in-CtrDecrypt.result.items) (ap streamed (sym c.in-CtrDecrypt.is) ∙ c.self.view_is)
    (ctr_only_rest c.in-CtrDecrypt.stream c.new-in-CtrDecrypt.result.items c.gives-in-CtrDecrypt.ensures.key
    c.new-in-CtrDecrypt.ensures.items)

pub returns-in-EcbDecrypt-clause-value : goal.returns-in-EcbDecrypt-clause-value
returns-in-EcbDecrypt-clause-value c =
    IfOk-weaker c.nothing_more-in-EcbDecrypt.result _ _
    (λ out nothing. subst (λ (s : Streamed). whole_output s ≡ Some (s.given ++ out.items))
    (ap streamed (sym c.in-EcbDecrypt.is) ∙ c.self.view_is)
    (ecb_whole c.in-EcbDecrypt.stream c.waiting-in-EcbDecrypt.result out.items c.gives.ensures c.waiting-in-EcbDecrypt.ensures.value
    nothing.1 nothing.0))
    c.nothing_more-in-EcbDecrypt.ensures.nothing

pub returns-in-CbcDecrypt-clause-value : goal.returns-in-CbcDecrypt-clause-value
returns-in-CbcDecrypt-clause-value c =
    IfOk-weaker c.nothing_more-in-CbcDecrypt.result _ _
    (λ out nothing. subst (λ (s : Streamed). whole_output s ≡ Some (s.given ++ out.items))
    (ap streamed (sym c.in-CbcDecrypt.is) ∙ c.self.view_is)
    (cbc_whole c.in-CbcDecrypt.stream c.waiting-in-CbcDecrypt.result out.items
    (rw c.in-CbcDecrypt.is at c.self.invariant.held) c.gives-in-CbcDecrypt.ensures c.waiting-in-CbcDecrypt.ensures.value
    nothing.1 nothing.0))
    c.nothing_more-in-CbcDecrypt.ensures.nothing

pub returns-in-CbcPadDecrypt-clause-value : goal.returns-in-CbcPadDecrypt-clause-value
returns-in-CbcPadDecrypt-clause-value c =
    let same = ap streamed (sym c.in-CbcPadDecrypt.is) ∙ c.self.view_is in
    let e = c.unpadded_block.ensures in
    let right = subst IsRight (sym same) c.is_right.ensures.right in
    IfOk-weaker c.unpadded_block.result _ _
    (λ out h. subst (λ (s : Streamed). whole_output s ≡ Some (s.given ++ out.items)) same
    (cbc_pad_whole c.in-CbcPadDecrypt.stream out.items right h.0 h.1.0 h.1.1.0 h.1.1.1))
    (IfOk-both c.unpadded_block.result _ _ e.value
    (IfOk-both c.unpadded_block.result _ _ e.only (IfOk-both c.unpadded_block.result _ _ e.bytes e.size)))

pub returns-in-CbcPadDecrypt-clause-bad_pad_value : goal.returns-in-CbcPadDecrypt-clause-bad_pad_value
returns-in-CbcPadDecrypt-clause-bad_pad_value c = λ bad.
    let f = c.in-CbcPadDecrypt.stream in
    subst (λ (s : Streamed). whole_output s ≡ None) (ap streamed (sym c.in-CbcPadDecrypt.is) ∙ c.self.view_is)
    (whole_none (CbcPad f.iv) f.key f.taken f.given (c.unpadded_block.ensures.bad_pad bad))

pub returns-in-CtrDecrypt-clause-value : goal.returns-in-CtrDecrypt-clause-value
returns-in-CtrDecrypt-clause-value c =
    subst (λ (s : Streamed). whole_output s ≡ Some (s.given ++ c.new-in-CtrDecrypt.result.items))
    (ap streamed (sym c.in-CtrDecrypt.is) ∙ c.self.view_is)
    (ctr_whole c.in-CtrDecrypt.stream c.new-in-CtrDecrypt.result.items c.gives-in-CtrDecrypt.ensures.key
    c.gives-in-CtrDecrypt.ensures.bytes c.new-in-CtrDecrypt.ensures.items)
