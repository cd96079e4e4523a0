use Rattle.std.proofs.Common.{◌∙◌, ap, length}
use Rattle.aes_modes.specs.Modes.{ctr_encrypted}
use Rattle.aes_modes.proofs.CounterTexts.{IsBlock-output_block, length-ctr_encrypted, ctr_encrypted-twice}
use Rattle.aes_modes.proofs.Turned.{IsTurned-both, IsTurned-only}
use Rattle.aes_modes.proofs.counter_mode.ctr.Goals as goal

pub returns-clause-length : goal.returns-clause-length
returns-clause-length c =
    let key = c.args.key.now in
    let bits = c.args.bits in
    let start = c.args.start in
    ap length c.in_ok-encrypted-in-Encrypt.ensures
    ∙ length-ctr_encrypted key bits start (λ i. IsBlock-output_block key bits start i c.is_key.ensures) c.args.text.now

pub returns-clause-value : goal.returns-clause-value
returns-clause-value c =
    let key = c.args.key.now in
    let bits = c.args.bits in
    let start = c.args.start in
    let is = c.in_ok-encrypted-in-Encrypt.ensures in
    IsTurned-both c.args.direction (ctr_encrypted key bits start) c.args.text.now _ is
    (ap (ctr_encrypted key bits start) is
    ∙ ctr_encrypted-twice key bits start (λ i. IsBlock-output_block key bits start i c.is_key.ensures) c.args.text.now)

pub returns-clause-only : goal.returns-clause-only
returns-clause-only c =
    let key = c.args.key.now in
    let bits = c.args.bits in
    let start = c.args.start in
    IsTurned-only c.args.direction (ctr_encrypted key bits start) c.args.text.now _ c.in_ok-encrypted-in-Encrypt.ensures
    (ctr_encrypted-twice key bits start (λ i. IsBlock-output_block key bits start i c.is_key.ensures))
