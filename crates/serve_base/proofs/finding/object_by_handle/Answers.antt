use Rattle.std.proofs.Common.{sym, ◌∙◌}
use Rattle.serve_base.proofs.Listing.{kept-found, own-found, missing-gone, missing-hidden, missing-none}
use Rattle.serve_base.proofs.finding.object_by_handle.Goals as goal

pub returns-then-sees-clause-found : goal.returns-then-sees-clause-found
returns-then-sees-clause-found g c = λ sure k h fits.
    kept-found k c.args.desk.now _ c.args.handle c.id_of.ensures.table c.in-Some.id c.in-Some-2.object
    (sym c.id_of.ensures.id ∙ c.in-Some.is)
    (sym (c.in_ok-object-in-Some.ensures.object sure k h) ∙ c.in-Some-2.is)
    (rw c.logged_in.ensures.login at (sym c.sees.ensures ∙ c.if-sees.true))

-- no token object is seen under the handle
pub returns-in_ok-own_copy-in-Some-2-clause-found : goal.returns-in_ok-own_copy-in-Some-2-clause-found
returns-in_ok-own_copy-in-Some-2-clause-found g c = λ sure k h fits.
    let is = sym c.id_of.ensures.id ∙ c.in-Some.is in
    let there = sym (c.in_ok-object-in-Some.ensures.object sure k h) ∙ c.in-Some-2.is in
    own-found k c.args.desk.now _ c.args.handle c.id_of.ensures.table
    (missing-hidden k c.args.desk.now _ c.args.handle c.id_of.ensures.table c.in-Some.id c.in-Some-2.object h.sound is there
    (rw c.logged_in.ensures.login at (sym c.sees.ensures ∙ c.if-sees.false)))
    c.in_ok-own_copy-in-Some-2.field-0 c.in_ok-own_copy-in-Some-2.ensures

pub returns-in_ok-own_copy-in-None-2-clause-found : goal.returns-in_ok-own_copy-in-None-2-clause-found
returns-in_ok-own_copy-in-None-2-clause-found g c = λ sure k h fits.
    let is = sym c.id_of.ensures.id ∙ c.in-Some.is in
    let gone = sym (c.in_ok-object-in-Some.ensures.object sure k h) ∙ c.in-None-2.is in
    own-found k c.args.desk.now _ c.args.handle c.id_of.ensures.table
    (missing-gone k c.args.desk.now _ c.args.handle c.id_of.ensures.table c.in-Some.id is gone)
    c.in_ok-own_copy-in-None-2.field-0 c.in_ok-own_copy-in-None-2.ensures

pub returns-in_ok-own_copy-in-None-clause-found : goal.returns-in_ok-own_copy-in-None-clause-found
returns-in_ok-own_copy-in-None-clause-found g c = λ sure k h fits.
    own-found k c.args.desk.now _ c.args.handle c.id_of.ensures.table
    (missing-none k c.args.desk.now _ c.args.handle c.id_of.ensures.table (sym c.id_of.ensures.id ∙ c.in-None.is))
    c.in_ok-own_copy-in-None.field-0 c.in_ok-own_copy-in-None.ensures
