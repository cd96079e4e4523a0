use Rattle.std.proofs.Common.{◌≡◌, ◌∙◌, sym, subst, true, false}
use Rattle.ck_types.specs.declared.attr_type.AttrType.TheVariants as attr
use Rattle.attrs.specs.Objects.{IsObject, flag}
use Rattle.attrs.specs.declared.fault.DecodeFault.TheVariants.{Form}
use Rattle.keep_sql_model.proofs.Bytes.{as_old_stored, no_form, old_object_bytes, one_object}
use Rattle.keep_sql.proofs.rows.decode_old_object.Goals as goal

pub returns-then-flag-clause-ok : goal.returns-then-flag-clause-ok
returns-then-flag-clause-ok c = (
  subst IsObject c.object.view_is c.object.invariant,
  sym c.flag.ensures
      ∙ c.if-flag.true,
  c.in-Ok.ensures.found.1,
  old_object_bytes _ _ c.in-Ok.ensures.found.0,
)

pub returns-else-flag-clause-form : goal.returns-else-flag-clause-form
returns-else-flag-clause-form c = λ o valid token plain is _.
    let same : c.in-Ok.object ≡ o = one_object o c.in-Ok.object (c.in-Ok.ensures.only o valid plain (as_old_stored o _ is)) in
    let set : flag c.in-Ok.object attr.Token ≡ true = rw same token in
    let unset : flag c.in-Ok.object attr.Token ≡ false = sym c.flag.ensures ∙ c.if-flag.false in
    absurd (cc)

pub returns-in-Err-clause-form : goal.returns-in-Err-clause-form
returns-in-Err-clause-form c =
    λ o valid token plain is same. no_form c.in-Err.fault o (c.in-Err.ensures.only o valid plain (as_old_stored o _ is))
    (let fault : c.in-Err.fault ≡ Form = cc in fault)
