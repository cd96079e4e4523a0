use Rattle.std.proofs.Common.{◌≡◌, ◌∙◌, sym, subst, true, false}
use Rattle.ck_types.specs.declared.attr_type.AttrType.TheVariants as attr
use Rattle.attrs.specs.Objects.{IsObject, flag}
use Rattle.attrs.specs.declared.fault.DecodeFault.TheVariants.{Form}
use Rattle.keep_sql_model.proofs.Bytes.{as_stored, object_bytes, one_object, no_form}
use Rattle.keep_sql.proofs.rows.decode_object.Goals as goal

pub returns-then-flag-clause-ok : goal.returns-then-flag-clause-ok
returns-then-flag-clause-ok c =
    (subst IsObject c.object.view_is c.object.invariant, sym c.flag.ensures ∙ c.if-flag.true, object_bytes _ _ c.in-Ok.ensures.found)

pub returns-then-flag-clause-found : goal.returns-then-flag-clause-found
returns-then-flag-clause-found c = λ o valid is. one_object o c.in-Ok.object (c.in-Ok.ensures.only o valid (as_stored o _ is))

pub returns-else-flag-clause-form : goal.returns-else-flag-clause-form
returns-else-flag-clause-form c = λ o valid token is _.
    let same : c.in-Ok.object ≡ o = one_object o c.in-Ok.object (c.in-Ok.ensures.only o valid (as_stored o _ is)) in
    let set : flag c.in-Ok.object attr.Token ≡ true = rw same token in
    let unset : flag c.in-Ok.object attr.Token ≡ false = sym c.flag.ensures ∙ c.if-flag.false in
    absurd (cc)

pub returns-in-Err-clause-form : goal.returns-in-Err-clause-form
returns-in-Err-clause-form c =
    λ o valid token is same. no_form c.in-Err.fault o (c.in-Err.ensures.only o valid (as_stored o _ is))
    (let fault : c.in-Err.fault ≡ Form = cc in fault)
