use Rattle.fips_197.specs.KeyExpansion.{rotate_word}
use Rattle.aes_vector.proofs.key_expansion.substituted_rotated_word.Goals as goal

pub returns : goal.returns
unfolding rotate_word
returns c = c.substituted_word.ensures
