use Rattle.std.proofs.Common.{◌≡◌, true, false, rules, refl, sym, ◌∙◌}
use Rattle.keep.specs.Contents.{with_record}
use Rattle.pin_record.specs.Records.{with_tries}
use Rattle.model_session_answers.specs.Login.{may_log_in}
use Rattle.model_session_answers.specs.Pins.{is_charged}
use Rattle.serve_base.specs.Shown.{view_of}
use Rattle.serve_base.proofs.Gaves.{gave-change}
use Rattle.serve_base.proofs.Refusals.{does-is}
use Rattle.serve_sessions.proofs.LoggingIn.{gives-logged-in, right-refused}
use Rattle.serve_sessions.proofs.login.log_in.Goals as goal

pub returns-then-not-may_log_in : goal.returns-then-not-may_log_in
returns-then-not-may_log_in g c = record {
  serves = λ sure k h fits.
      let d = c.args.desk.now in
      let same = c.get_record-record.ensures k h in
      let charged : is_charged c.get_record-record.result c.args.who c.args.under_way ≡ true = search rules in
      let ended : c.end_check-ended.result ≡ with_tries c.get_record-record.result c.args.who c.args.under_way = search rules in
      let may : may_log_in (view_of k d) c.args.who ≡ false = sym (c.may_log_in.ensures.value k) ∙ c.if-not-may_log_in.true in
      does-is _ _ _ k _ _ d d c.store_record.result (right-refused k d c.args.under_way c.args.who (rw same at charged) may)
      (rw (ended, same) at (c.store_record.ensures.serves sure k h fits));
  counts = search rules;
  cause = search rules;
  plain = c.store_record.ensures.plain;
  stays = c.store_record.ensures.stays;
  refused = c.store_record.ensures.refused;
  short = search rules;
}

pub returns : goal.returns
returns g c = record {
  serves = λ sure k h fits.
      let d = c.args.desk.now in
      let same = c.get_record-record.ensures k h in
      let charged : is_charged c.get_record-record.result c.args.who c.args.under_way ≡ true = search rules in
      let ended : c.end_check-ended.result ≡ with_tries c.get_record-record.result c.args.who c.args.under_way = search rules in
      let may : may_log_in (view_of k d) c.args.who ≡ true = sym (c.may_log_in.ensures.value k) ∙ c.if-not-may_log_in.false in
      rw c.login.ensures (gave-change _ _ _ k _ _ _ _ (with_record (with_tries k.token_record c.args.who c.args.under_way) k)
      (rw (ended, same) at (c.in_ok-set_record.ensures.has k h)) (rw (ended, same) at (c.in_ok-set_record.ensures.wrote.leaves k h))
      (gives-logged-in k d c.args.under_way c.args.who (rw same at charged) may
      (c.may_log_in.ensures.public c.if-not-may_log_in.false) c.may_log_in.ensures.discreet fits));
  counts = search rules;
  cause = search rules;
  plain = refl;
  stays = tt;
  refused = λ is. absurd cc;
  short = search rules;
}
