use Rattle.std.proofs.Common.{◌≡◌, false, not, length, map, refl, sym, ap, ◌∙◌, arith}
use Rattle.std.specs.Prelude.{nat_le}
use Rattle.ck_types.specs.declared.attr_type.AttrType.TheVariants as attr
use Rattle.ck_types.specs.declared.constants.TheConstants.{MAX_SESSION_OBJECTS}
use Rattle.attrs.specs.Objects.{flag}
use Rattle.guard.specs.Access.{is_visible}
use Rattle.lists.proofs.ListLemmas.{length-map}
use Rattle.model_answers.specs.CreateObject.{adds_session_object, adds_where}
use Rattle.serve_base.specs.Shown.{session_object, view_of}
use Rattle.serve_base.proofs.Gaves.{gave-is, gave-quiet}
use Rattle.serve_base.proofs.NewObjects.{gives-added_own}
use Rattle.serve_base.proofs.adding.add_object.Goals as goal

pub returns : goal.returns
returns g c =
    let token : flag c.args.object attr.Token ≡ false = sym c.flag-is_token.ensures ∙ c.if-is_token.false in
    let seen : not (is_visible c.args.state c.args.object) ≡ false = ap not (sym c.visible.ensures.access ∙ c.if-not-visible.false) in
    let room : nat_le MAX_SESSION_OBJECTS (length (map session_object c.args.desk.now.own)) ≡ false =
    ap (nat_le MAX_SESSION_OBJECTS) (length-map session_object c.args.desk.now.own) ∙ sym c.has_all_objects.ensures
    ∙ c.if-has_all_objects.false in
    record {
      serves = λ sure k h fits.
          let is : adds_where (view_of k c.args.desk.now) c.args.session c.args.state c.args.object
          ≡ adds_session_object (view_of k c.args.desk.now) c.args.session c.args.object = rw (token, seen, room) refl in
          gave-is _ _ (adds_session_object (view_of k c.args.desk.now) c.args.session c.args.object) _ k _ _ _ _ is
          (gave-quiet _ _ _ k _ _ _ _ h (λ l may. may) refl
          (gives-added_own k c.args.desk.now c.add_own.new.self c.args.session c.in_ok-add_own.field-0 c.args.object fits
          c.in_ok-add_own.ensures.handle c.in_ok-add_own.ensures.added));
      counts = record { steady = λ s. s; doubt = omega arith; failures = omega arith; tried = omega arith; bounded = omega arith };
      cause = λ is. absurd (cc);
      plain = refl;
      stays = tt;
      refused = λ is. absurd (cc);
      short = λ _. tt;
    }
