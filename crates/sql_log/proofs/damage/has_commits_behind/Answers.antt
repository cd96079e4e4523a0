use Rattle.std.proofs.Common.{refl, sym, ◌≤◌, inl, inr, arith, subst, ◌∙◌, ap, false, IsTrue, List}
use Rattle.std.proofs.lemmas.List.{length-take-le}
use Rattle.sqlite_wal.specs.Format.{be32, IsSigned}
use Rattle.sqlite_wal.specs.Recovery.{header}
use Rattle.sql_log.specs.Damage.{IsBroken, IsPlainlyBroken}
use Rattle.sql_log.proofs.FrameLemmas.{head_is}
use Rattle.sql_log.proofs.damage.has_commits_behind.Goals as goal

pub slice_bounds-head-end : goal.slice_bounds-head-end
slice_bounds-head-end c = sym (length-take-le 32 c.args.log.now (omega (arith, c.if-log.false)))

pub is_signed-requires : goal.is_signed-requires
is_signed-requires c = length-take-le 32 c.args.log.now (omega (arith, c.if-log.false))

pub returns-then-size-le65536-clause-sound : goal.returns-then-size-le65536-clause-sound
returns-then-size-le65536-clause-sound c =
    λ is. inl (subst (λ n. IsBroken n c.args.log.now)
    (c.number_at-size.ensures ∙ ap (λ (h : List _). be32 h 8) (head_is c.args.log.now)) (c.is_broken.ensures.sound is))

pub returns-then-log-ne0-clause-sound : goal.returns-then-log-ne0-clause-sound
returns-then-log-ne0-clause-sound c = λ is. inr (record {
  unsigned = λ signed. let h : IsTrue false = c.if-is_signed.ensures.1 (subst IsSigned (sym (head_is c.args.log.now)) signed) in
      absurd (cc);
  shown = c.if-log-ne0.true;
  behind = c.is_beheaded.ensures.sound is;
})

pub returns-then-size-le65536-clause-found : goal.returns-then-size-le65536-clause-found
returns-then-size-le65536-clause-found c = λ it. elim it [
  | inl signed ↦ c.is_broken.ensures.found
      (subst (λ n. IsPlainlyBroken n c.args.log.now)
      (sym (c.number_at-size.ensures ∙ ap (λ (h : List _). be32 h 8) (head_is c.args.log.now))) signed.2)
  | inr beheaded ↦ absurd (beheaded.unsigned (subst IsSigned (head_is c.args.log.now) (c.if-is_signed.ensures.0 refl)))
]

pub returns-else-size-le65536-clause-found : goal.returns-else-size-le65536-clause-found
returns-else-size-le65536-clause-found c = λ it. elim it [
  | inl signed ↦
      let size = c.number_at-size.ensures ∙ ap (λ (h : List _). be32 h 8) (head_is c.args.log.now) in
      let much = c.if-size-le65536.false in
      let few : be32 (header c.args.log.now) 8 ≤ 65536 = signed.1 in
      absurd (omega (arith, size, few, much))
  | inr beheaded ↦ absurd (beheaded.unsigned (subst IsSigned (head_is c.args.log.now) (c.if-is_signed.ensures.0 refl)))
]

pub returns-then-log-ne0-clause-found : goal.returns-then-log-ne0-clause-found
returns-then-log-ne0-clause-found c = λ it. elim it [
  | inl signed ↦ let h : IsTrue false = c.if-is_signed.ensures.1 (subst IsSigned (sym (head_is c.args.log.now)) signed.0) in absurd (cc)
  | inr beheaded ↦ c.is_beheaded.ensures.found beheaded.few beheaded.behind
]

pub returns-else-log-ne0-clause-found : goal.returns-else-log-ne0-clause-found
returns-else-log-ne0-clause-found c = λ it. elim it [
  | inl signed ↦ let h : IsTrue false = c.if-is_signed.ensures.1 (subst IsSigned (sym (head_is c.args.log.now)) signed.0) in absurd (cc)
  | inr beheaded ↦ absurd (beheaded.shown c.if-log-ne0.false)
]
