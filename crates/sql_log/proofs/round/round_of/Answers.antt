use Rattle.std.proofs.Common.{◌∙◌, ap, false, refl, subst, sym, IsTrue, List}
use Rattle.sqlite_wal.specs.Format.{be32, IsSigned}
use Rattle.sql_log.proofs.FrameLemmas.{head_is}
use Rattle.sql_log.proofs.round.round_of.Goals as goal

pub returns-then-is_signed-clause-round : goal.returns-then-is_signed-clause-round
returns-then-is_signed-clause-round c = c.number_at.ensures ∙ ap (λ (h : List _). be32 h 12) (head_is c.args.log.now)

pub returns-then-is_signed-clause-signed : goal.returns-then-is_signed-clause-signed
returns-then-is_signed-clause-signed c = subst IsSigned (head_is c.args.log.now) (c.if-is_signed.ensures.0 refl)

pub returns-else-is_signed-clause-none : goal.returns-else-is_signed-clause-none
returns-else-is_signed-clause-none c = λ none long signed. let h : IsTrue false =
    c.if-is_signed.ensures.1 (subst IsSigned (sym (head_is c.args.log.now)) signed) in absurd (cc)
