use Rattle.std.proofs.Common.{◌≡◌, ◌∙◌, ap, sym, suc, ◌+◌, ◌++◌, [], arith, rules}
use Rattle.std.proofs.lemmas.List.{drop_all, append-nil}
use Rattle.hmac_sha2.specs.Hmac.{xor_strings, hmac256}
use Rattle.hmac_sha2.specs.Pbkdf2.{iterate, block}
use Rattle.hmac_sha2.specs.Stepwise.{HoldsMessage256}
use Rattle.hmac_sha2.proofs.Iterates.{block-suc, pbkdf2-block}
use Rattle.hmac_sha2.proofs.key_derivation.pbkdf2.Goals as goal

pub rounds-init : goal.rounds-init
unfolding iterate block
rounds-init c =
    let password = c.args.password.now in
    let salt = c.args.salt.now in
    let begun : HoldsMessage256 c.unwrap-first.result password [] = search rules in
    let first = c.finalize-iterate.ensures password _ (c.update-2.ensures password _ (c.update.ensures password [] begun)) in
    record { last = first; total = first }

pub rounds-preserved : goal.rounds-preserved
unfolding iterate
rounds-preserved c =
    let password = c.args.password.now in
    let salt = c.args.salt.now in
    let n = c.rounds._round in
    let next : suc n ≡ n + 1 = omega arith in
    let last = c.tag_from-iterate.ensures password c.new-start.ensures ∙ ap (hmac256 password) c.rounds.invariant.last in
    let total = c.xor_into.ensures ∙ ap (λ l. xor_strings c.rounds.sum c.tag_from-iterate.result ++ l) (drop_all _ c.rounds.sum (omega arith))
    ∙ append-nil _
    ∙ (λ i. xor_strings (c.rounds.invariant.total i) (last i))
    ∙ sym (block-suc hmac256 password salt n 1 c.rounds.auto._round) in
    record { last = last ∙ ap (iterate hmac256 password salt 1) next; total = total ∙ ap (λ m. block hmac256 password salt m 1) next }

pub returns : goal.returns
returns c =
    let password = c.args.password.now in
    let salt = c.args.salt.now in
    let end : c.rounds._round ≡ c.args.rounds = omega arith in
    c.rounds.invariant.total ∙ ap (λ m. block hmac256 password salt m 1) end ∙ sym (pbkdf2-block password salt c.args.rounds c.requires)
