use Rattle.std.proofs.Common.{◌∙◌, arith}
use Rattle.aes_kw.proofs.Numbers.{number-added}
use Rattle.aes_kw.proofs.registers.with_number.Goals as goal

pub returns : goal.returns
returns c =
    c.to_be_bytes.ensures
    ∙ number-added c.args.check c.from_be_bytes.result c.args.t (omega arith) c.are_bytes.ensures c.from_be_bytes.ensures
