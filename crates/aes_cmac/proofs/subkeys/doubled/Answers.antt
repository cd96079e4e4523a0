use Rattle.std.proofs.Common.{◌∙◌, arith}
use Rattle.aes_cmac.proofs.Doubled.{doubled-both}
use Rattle.aes_cmac.proofs.subkeys.doubled.Goals as goal

pub returns : goal.returns
returns c =
    c.to_be_bytes.ensures
    ∙ doubled-both c.args.block c.from_be_bytes-number.result c.from_be_bytes-number.ensures (omega arith)
