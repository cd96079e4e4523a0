use Rattle.std.proofs.Common.{[], ◌∷◌, get_or, ap, sym, ◌∙◌, arith}
use Rattle.fips_197.specs.Cipher.{substitute_bytes}
use Rattle.aes_vector.proofs.ScheduleBytes.{four_bytes}
use Rattle.aes_vector.proofs.key_expansion.substituted_word.Goals as goal

pub returns : goal.returns
unfolding substitute_bytes
returns c =
    let e = c.substituted.ensures in
    (λ i. get_or (e i) 0 0 ∷ get_or (e i) 1 0 ∷ get_or (e i) 2 0 ∷ get_or (e i) 3 0 ∷ [])
    ∙ sym (ap substitute_bytes (four_bytes c.args.w (omega arith)))
