use Rattle.std.proofs.Common.{◌-◌, [], length, true, ap, refl}
use Rattle.model_views.specs.Checked.{state_in}
use Rattle.templates.specs.declared.making.Making.TheVariants.{Unwrap}
use Rattle.templates.specs.Faults.{template_fault}
use Rattle.model_answers.specs.UnwrapKey.{unwrap_key, unwraps}
use Rattle.model_answers.proofs.Proper.UnwrapKey.{fair-unwraps}
use Rattle.model_answers.proofs.Standing.{alone-stays, alone-unwrap}
use Rattle.serve_base.specs.Shown.{said_of, view_of}
use Rattle.serve_keys.specs.Objects.{object_in}
use Rattle.serve_base.proofs.Reading.{done-read}
use Rattle.serve_keys.proofs.Reading.{found-is}
use Rattle.serve_keys.proofs.unwrap_key.serve.Goals as goal

pub returns-clause-done : goal.returns-clause-done
returns-clause-done g c =
    let k = c.in_ok-key.key in
    let n = length c.args.wrapped.bytes - 8 in
    done-read g.K.Keep.terms said_of
    (λ v. unwrap_key v c.args.session c.args.wrapped.mechanism c.args.wrapped.unwrapping_key c.args.wrapped.bytes c.args.template c.args.random.now)
    (λ v. unwraps v c.args.session c.args.wrapped.mechanism (object_in k) c.args.wrapped.bytes c.args.template c.args.random.now
    (state_in v c.args.session) (template_fault (Unwrap n) (state_in v c.args.session) [] c.args.template))
    c.args.store.now c.object_by_handle.new.store c.args.desk.now c.ask_unwrapped.new.desk c.ask_unwrapped.result
    c.object_by_handle.ensures.same c.object_by_handle.ensures.ids c.object_by_handle.ensures.counts
    (λ v. (fair-unwraps {quiet = true} v c.args.session c.args.wrapped.mechanism
    (object_in k) c.args.wrapped.bytes c.args.template c.args.random.now).still refl)
    (λ v. (fair-unwraps {quiet = true} v c.args.session c.args.wrapped.mechanism
    (object_in k) c.args.wrapped.bytes c.args.template c.args.random.now).plain)
    (λ v.
    let state = state_in v c.args.session in
    let fault = template_fault (Unwrap n) state [] c.args.template in
    alone-stays v (unwraps v c.args.session c.args.wrapped.mechanism
    (object_in k) c.args.wrapped.bytes c.args.template c.args.random.now state fault)
    (alone-unwrap v v c.args.session c.args.wrapped.mechanism (object_in k) c.args.wrapped.bytes c.args.template c.args.random.now state fault))
    (λ sure x h fits.
    let d = c.args.desk.now in
    let v = view_of x d in
    let found = c.in_ok-key.ensures.found sure x h fits in
    ap (λ o. unwraps v c.args.session c.args.wrapped.mechanism o c.args.wrapped.bytes c.args.template c.args.random.now
    (state_in v c.args.session) (template_fault (Unwrap n) (state_in v c.args.session) [] c.args.template))
    (found-is x d c.args.wrapped.unwrapping_key k found))
    c.ask_unwrapped.ensures.serves
