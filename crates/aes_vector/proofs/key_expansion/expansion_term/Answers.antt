use Rattle.std.proofs.Common.{◌∙◌, sym}
use Rattle.fips_197.specs.Bytes.{xor_bytes}
use Rattle.fips_197.proofs.ExpansionTerms.{at_multiple, at_fourth, at_other, at_short_key}
use Rattle.aes_vector.proofs.key_expansion.expansion_term.Goals as goal
use Rattle.aes_vector.proofs.key_expansion.expansion_term.Goals.{else-this-gt6-via-then-this-gt6+else-i-eq4, else-this-gt6-via-else-this-gt6}

pub returns-then-i-eq0 : goal.returns-then-i-eq0
returns-then-i-eq0 g c =
    c.xor_words.ensures ∙ (λ i. xor_bytes (c.substituted_rotated_word.ensures i) (c.round_constant.ensures i))
    ∙ sym (at_multiple g.row.NK c.args.i c.args.before c.if-i-eq0.true)

pub returns-then-i-eq4 : goal.returns-then-i-eq4
returns-then-i-eq4 g c =
    c.substituted_word.ensures ∙ sym
    (at_fourth g.row.NK c.args.i c.args.before c.if-i-eq0.false c.if-this-gt6.true c.if-i-eq4.true)

pub returns-else-this-gt6 : goal.returns-else-this-gt6
returns-else-this-gt6 g c = elim c.else-this-gt6.branch [
  | else-this-gt6-via-then-this-gt6+else-i-eq4 w ↦ sym
      (at_other g.row.NK c.args.i c.args.before c.if-i-eq0.false w.if-i-eq4.false)
  | else-this-gt6-via-else-this-gt6 w ↦ sym
      (at_short_key g.row.NK c.args.i c.args.before c.if-i-eq0.false w.if-this-gt6.false)
]
