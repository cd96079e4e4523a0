use Rattle.std.proofs.Common.{◌≡◌, rules, true, sym, ◌∙◌}
use Rattle.ck_mechanisms.specs.Table.{mech_key_type as key_type_for}
use Rattle.attrs.specs.Masking.{is_secret_key}
use Rattle.attrs.specs.Objects.{class_of, flag, key_type_of}
use Rattle.model_views.specs.Checked.{is_of_type}
use Rattle.model_answers.specs.OperationInit.{permission}
use Rattle.serve_operations.specs.Beginning.{kind_of}
use Rattle.serve_operations.proofs.Beginning.{begins-at}
use Rattle.serve_operations.proofs.init.begin_under.Goals as goal

pub returns : goal.returns
returns c =
    let o = c.args.key.now in
    let secret : is_secret_key (class_of o) ≡ true = sym c.is_secret_key.ensures ∙ c.if-not-is_secret_key.false in
    let of : is_of_type (key_type_for c.args.mech_type) (key_type_of o) ≡ true =
    rw c.key_type_of.ensures at (sym c.is_of_type.ensures ∙ c.if-not-is_of_type.false) in
    let may : flag o (permission (kind_of c.args.chosen)) ≡ true =
    rw (c.permission.ensures, c.kind.ensures) at (sym c.flag.ensures ∙ c.if-not-flag.false) in
    record {
      serves = λ k fits. rw c.put.ensures (begins-at k c.args.desk.now c.args.session c.args.mech_type c.args.chosen o secret of may fits);
      cause = search rules;
      short = search rules;
    }
