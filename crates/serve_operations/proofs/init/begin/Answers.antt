use Rattle.std.proofs.Common.{◌≡◌, Ok, is_none, sym, ◌∙◌, ap, subst}
use Rattle.precede.specs.declared.condition.Condition.TheVariants.{NoKey}
use Rattle.keep.specs.Contents.{Contents}
use Rattle.sessions.specs.Sessions.{session_at}
use Rattle.model_views.specs.Answering.{Replies, object_at, refuses_by}
use Rattle.model_answers.specs.OperationInit.{operation_init}
use Rattle.serve_base.specs.Found.{IsFound}
use Rattle.serve_base.specs.Shown.{view_of}
use Rattle.serve_base.proofs.Reading.{done-read, done-row, done-row-first, row-of}
use Rattle.serve_base.proofs.InSession.{in_session}
use Rattle.serve_operations.specs.Beginning.{by_key}
use Rattle.serve_operations.proofs.Beginning.{alone-key, begins_by, choice-is, init-is, quiet-key}
use Rattle.serve_operations.proofs.init.begin.Goals as goal
use Rattle.serve_operations.proofs.init.begin.Goals.{After-choose}

-- what is left to test is by what was chosen
chosen : (g : _) (c : After-choose g) (x : Contents)
    → operation_init c.args.kind (view_of x c.args.desk.now) c.args.session c.args.mechanism.now c.args.key
    ≡ begins_by (view_of x c.args.desk.now) c.args.session c.choose.result (object_at (view_of x c.args.desk.now) c.args.key)
chosen g c x =
    let v = view_of x c.args.desk.now in
    let s = in_session _ _ c.state.result _ c.state.ensures c.in_ok-ok_or.ensures.ok_part in
    ap (λ m. operation_init c.args.kind v c.args.session m c.args.key) c.in-Some.is
    ∙ init-is v c.args.session c.args.key (ap is_none s.1) c.in-Some.mechanism c.args.kind c.choose.result
    (sym c.choose.ensures)

pub returns-in_err-mech_type-clause-done : goal.returns-in_err-mech_type-clause-done
returns-in_err-mech_type-clause-done g c =
    let d = c.args.desk.now in
    let row = c.in_err-mech_type.field-0.0 in
    done-row-first g.K.Keep.terms (λ x. Replies x)
    (λ v. operation_init c.args.kind v c.args.session c.args.mechanism.now c.args.key) c.args.store.now d
    c.from_residual-in_err-mech_type.result row c.from_residual-in_err-mech_type.ensures.1
    (λ x. chosen g (goal.at.returns-in_err-mech_type-clause-done g c).After-choose x
    ∙ ap (λ r. begins_by (view_of x d) c.args.session r (object_at (view_of x d) c.args.key)) c.in_err-mech_type.was)

pub returns-in_err-found-clause-done : goal.returns-in_err-found-clause-done
returns-in_err-found-clause-done g c =
    let d = c.args.desk.now in
    let row = c.in_err-found.field-0.0 in
    done-row g.K.Keep.terms (λ x. Replies x)
    (λ v. operation_init c.args.kind v c.args.session c.args.mechanism.now c.args.key) c.args.store.now c.object_by_handle.new.store d
    c.from_residual-in_err-found.result row c.from_residual-in_err-found.ensures.1
    c.object_by_handle.ensures.same c.object_by_handle.ensures.ids c.object_by_handle.ensures.counts
    (λ sure x h fits.
    let v = view_of x d in
    let found = subst (λ o. IsFound x d c.args.key o) c.in_err-found.ensures.ok_part (c.in_ok-object_by_handle.ensures.found sure x h fits) in
    chosen g (goal.at.returns-in_err-found-clause-done g c).After-choose x
    ∙ ap (λ r. begins_by v c.args.session r (object_at v c.args.key)) c.in_ok-mech_type.was
    ∙ ap (begins_by v c.args.session (Ok (c.in_ok-mech_type.mech_type, c.in_ok-mech_type.chosen))) found
    ∙ ap (refuses_by v) (sym (row-of c.in_ok-object_by_handle.field-0 NoKey row c.in_err-found.ensures.value)))

pub begin_under-requires : goal.begin_under-requires
begin_under-requires g c = choice-is c.args.kind (session_at c.args.desk.now.sessions.sessions c.args.session) c.in-Some.mechanism
    c.in_ok-mech_type.mech_type c.in_ok-mech_type.chosen (sym c.choose.ensures ∙ c.in_ok-mech_type.was)

pub returns-clause-done : goal.returns-clause-done
returns-clause-done g c =
    let d = c.args.desk.now in
    let o = c.in_ok-found.found.object in
    let mech_type = c.in_ok-mech_type.mech_type in
    let x = c.in_ok-mech_type.chosen in
    done-read g.K.Keep.terms (λ x. Replies x) (λ v. operation_init c.args.kind v c.args.session c.args.mechanism.now c.args.key)
    (λ v. by_key mech_type x v c.args.session o)
    c.args.store.now c.object_by_handle.new.store d c.begin_under.new.desk c.begin_under.result c.object_by_handle.ensures.same c.object_by_handle.ensures.ids
    c.object_by_handle.ensures.counts
    (λ v. (quiet-key mech_type x c.args.session o v).0)
    (λ v. (quiet-key mech_type x c.args.session o v).1)
    (λ v. (alone-key mech_type x c.args.session o v).leaves)
    (λ sure y h fits.
    let v = view_of y d in
    let found = subst (λ z. IsFound y d c.args.key z) c.in_ok-found.ensures.ok_part (c.in_ok-object_by_handle.ensures.found sure y h fits) in
    chosen g (goal.at.returns-clause-done g c).After-choose y
    ∙ ap (λ r. begins_by v c.args.session r (object_at v c.args.key)) c.in_ok-mech_type.was
    ∙ ap (begins_by v c.args.session (Ok (mech_type, x))) found.0)
    c.begin_under.ensures
