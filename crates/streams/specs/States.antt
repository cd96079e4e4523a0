-- What contracts see of a stream's states.
use Rattle.std.specs.Prelude.{◌≡◌}
use Rattle.aes_modes.specs.declared.direction.Direction.{Direction}
use Rattle.aes_modes.specs.declared.direction.Direction.TheVariants.{Encrypt, Decrypt}
use Rattle.streams_model.specs.Countings.{Counting, ctr_output}
use Rattle.streams_model.specs.Flows.{Flow}
use Rattle.streams.specs.Streamed.{Streamed}
use Rattle.streams.specs.declared.mechanism.Mechanism.{Mechanism}
use Rattle.streams.specs.declared.mechanism.Mechanism.TheVariants.{Ecb, Cbc, CbcPad, Ctr}
use Rattle.streams.specs.declared.state.State.{State}
use Rattle.streams.specs.declared.state.State.TheVariants.{EcbEncrypt, EcbDecrypt, CbcEncrypt, CbcDecrypt, CbcPadEncrypt, CbcPadDecrypt, CtrEncrypt, CtrDecrypt}

abbrev pub of_flow : Mechanism → Direction → Flow → Streamed
of_flow mechanism direction f = record { mechanism = mechanism; direction = direction; key = f.key; taken = f.taken; given = f.given }

abbrev pub of_counting : Direction → Counting → Streamed
of_counting direction c = record {
  mechanism = Ctr c.bits c.start;
  direction = direction;
  key = c.key;
  taken = c.taken;
  given = ctr_output c;
}

abbrev pub streamed : State → Streamed
streamed (EcbEncrypt f) = of_flow Ecb Encrypt f
streamed (EcbDecrypt f) = of_flow Ecb Decrypt f
streamed (CbcEncrypt f) = of_flow (Cbc f.iv) Encrypt f
streamed (CbcDecrypt f) = of_flow (Cbc f.iv) Decrypt f
streamed (CbcPadEncrypt f) = of_flow (CbcPad f.iv) Encrypt f
streamed (CbcPadDecrypt f) = of_flow (CbcPad f.iv) Decrypt f
streamed (CtrEncrypt c) = of_counting Encrypt c
streamed (CtrDecrypt c) = of_counting Decrypt c

-- where a padding is to be taken off, a byte at least stays buffered
abbrev pub HoldsPaddingBack : State → Type 0
HoldsPaddingBack (CbcDecrypt f) = f.held ≡ 0
HoldsPaddingBack (CbcPadDecrypt f) = f.held ≡ 1
HoldsPaddingBack _ = Unit {0}
