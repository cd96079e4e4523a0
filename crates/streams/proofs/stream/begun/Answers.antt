use Rattle.std.proofs.Common.{◌∙◌, ap, sym}
use Rattle.aes_modes.specs.declared.direction.Direction.TheVariants.{Encrypt, Decrypt}
use Rattle.aes_modes.specs.Blocks.{first_blocks}
use Rattle.streams.specs.States.{of_counting}
use Rattle.streams.specs.Streamed.{started_stream}
use Rattle.streams.proofs.stream.begun.Goals as goal

pub returns-in-Encrypt-direction-3-clause-state :
    goal.returns-in-Encrypt-direction-3-clause-state
unfolding first_blocks
returns-in-Encrypt-direction-3-clause-state c =
    ap (of_counting Encrypt) c.new-in-Encrypt-direction-3.ensures
    ∙ (λ t. started_stream (sym c.in-Ctr.is t) (sym c.in-Encrypt-direction-3.is t) c.args.key)

pub returns-in-Decrypt-direction-3-clause-state :
    goal.returns-in-Decrypt-direction-3-clause-state
unfolding first_blocks
returns-in-Decrypt-direction-3-clause-state c =
    ap (of_counting Decrypt) c.new-in-Decrypt-direction-3.ensures
    ∙ (λ t. started_stream (sym c.in-Ctr.is t) (sym c.in-Decrypt-direction-3.is t) c.args.key)
