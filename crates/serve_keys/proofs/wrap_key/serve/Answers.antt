use Rattle.std.proofs.Common.{◌∙◌, ap, refl}
use Rattle.model_views.specs.Answering.{object_at}
use Rattle.model_answers.specs.WrapKey.{wrap_key, wraps}
use Rattle.model_answers.proofs.Proper.WrapKey.{fair-wraps}
use Rattle.model_answers.proofs.Standing.{alone-stays, alone-wrap}
use Rattle.serve_base.specs.Shown.{said_of, view_of}
use Rattle.serve_keys.specs.Objects.{object_in}
use Rattle.serve_base.proofs.Reading.{done-read}
use Rattle.serve_keys.proofs.Reading.{found-is}
use Rattle.serve_keys.proofs.wrap_key.serve.Goals as goal

pub returns-clause-done : goal.returns-clause-done
returns-clause-done g c =
    let w = c.in_ok-wrapping_key.wrapping_key in
    let k = c.in_ok-wrapping_key.key in
    done-read g.K.Keep.terms said_of
    (λ v. wrap_key v c.args.session c.args.mechanism c.args.wrapping_key c.args.key c.args.buffer_len)
    (λ v. wraps v c.args.session c.args.mechanism (object_in w) (object_in k) c.args.buffer_len)
    c.args.store.now c.find_both.new.store c.args.desk.now c.ask_wrapped.new.desk c.ask_wrapped.result
    c.find_both.ensures.same c.find_both.ensures.ids c.find_both.ensures.counts
    (λ v. (fair-wraps v c.args.session c.args.mechanism (object_in w) (object_in k) c.args.buffer_len).still refl)
    (λ v. (fair-wraps v c.args.session c.args.mechanism (object_in w) (object_in k) c.args.buffer_len).plain)
    (λ v. alone-stays v (wraps v c.args.session c.args.mechanism (object_in w) (object_in k) c.args.buffer_len)
    (alone-wrap v v c.args.session c.args.mechanism (object_in w) (object_in k) c.args.buffer_len))
    (λ sure x h fits.
    let d = c.args.desk.now in
    let found = c.in_ok-wrapping_key.ensures.found sure x h fits in
    ap (λ o. wraps (view_of x d) c.args.session c.args.mechanism o (object_at (view_of x d) c.args.key) c.args.buffer_len)
    (found-is x d c.args.wrapping_key w found.0)
    ∙ ap (λ o. wraps (view_of x d) c.args.session c.args.mechanism (object_in w) o c.args.buffer_len) (found-is x d c.args.key k found.1))
    c.ask_wrapped.ensures.serves
