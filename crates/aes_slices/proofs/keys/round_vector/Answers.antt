use Rattle.aes_slices.proofs.keys.round_vector.Goals as goal

pub returns : goal.returns
returns c = c.round_key.ensures.value
