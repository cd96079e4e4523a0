use Rattle.std.proofs.Common.{◌≡◌, ℕ, Some, None, refl, sym, ◌∙◌, ap}
use Rattle.ck_types.specs.declared.rv.Rv.TheVariants as rv
use Rattle.ck_types.specs.declared.user_type.UserType.{UserType}
use Rattle.ck_types.specs.declared.user_type.UserType.TheVariants.{So, User}
use Rattle.ck_calls.specs.declared.reply.Output.TheVariants.{Data}
use Rattle.ck_calls.specs.declared.reply.Reply.TheVariants.{Code, Output}
use Rattle.keep.specs.Contents.{Contents}
use Rattle.mech.specs.declared.outcome.Outcome.TheVariants as out
use Rattle.ops.specs.declared.place.MacPlace.TheVariants as place
use Rattle.ops.specs.Operations.{operation_of, mac_of}
use Rattle.model_views.specs.TaskResults.{Unwrapped}
use Rattle.model_views.specs.Answering.{answered, becomes, replies, with_operation, with_mac}
use Rattle.model_session_answers.specs.Login.{right_pin}
use Rattle.model_session_answers.specs.SetPin.{pin_changed}
use Rattle.model_worlds.specs.Worlds.{reveals_checks, reveals_login}
use Rattle.model_answers.specs.CipherInit.{place_for}
use Rattle.model_answers.specs.UnwrapKey.{unwrapped_result}
use Rattle.serve_base.specs.Shown.{objects_of, view_of}
use Rattle.serve_sessions.specs.Recording.{right_reveal}
use Rattle.serve_operations.proofs.Ciphering as ciphering
use Rattle.serve_operations.proofs.Signing as signing
use Rattle.token.specs.Endings.{under_way_of}
use Rattle.token.proofs.Endings.{ends-as, done-at-desk, done-is, done-over}
use Rattle.token.proofs.ending.serve_outcome.Goals as goal

-- ---- a cipher's

pub returns-in-Piece : goal.returns-in-Piece
returns-in-Piece g c =
    let s = c.args.session in
    let x = out.Piece c.in-Piece.output c.in-Piece.stream in
    let p = place_for c.in-Piece.stream.direction in
    let o = Some (operation_of c.in-Piece.stream) in
    let reply = Output (Data c.in-Piece.output) in
    rw (c.in-Piece.is, c.update_done.ensures.reply, c.update_done.ensures.left)
    (ends-as g.K.Keep.terms s x c.args.others.now c.args.store.now _ c.args.desk.now _ _
    (done-at-desk g.K.Keep.terms (λ v. becomes reply
    (with_operation v s p o)) c.args.store.now c.args.desk.now _ reply c.requires refl (λ v. refl)
    (λ k fits. ciphering.gives-with k c.args.desk.now s p o reply fits) (λ few. few)))

pub returns-in-Rest : goal.returns-in-Rest
returns-in-Rest g c =
    let s = c.args.session in
    let x = out.Rest c.in-Rest.direction c.in-Rest.output in
    let p = place_for c.in-Rest.direction in
    let reply = Output (Data c.in-Rest.output) in
    rw (c.in-Rest.is, c.final_done.ensures.reply, c.final_done.ensures.left)
    (ends-as g.K.Keep.terms s x c.args.others.now c.args.store.now _ c.args.desk.now _ _
    (done-at-desk g.K.Keep.terms (λ v. becomes reply
    (with_operation v s p None)) c.args.store.now c.args.desk.now _ reply c.requires refl (λ v. refl)
    (λ k fits. ciphering.gives-with k c.args.desk.now s p None reply fits) (λ few. few)))

pub returns-in-BadPadding : goal.returns-in-BadPadding
returns-in-BadPadding g c =
    let s = c.args.session in
    let x = out.BadPadding c.in-BadPadding.direction in
    let p = place_for c.in-BadPadding.direction in
    let reply = Code rv.EncryptedDataInvalid in
    rw (c.in-BadPadding.is, c.bad_padding.ensures.reply, c.bad_padding.ensures.left)
    (ends-as g.K.Keep.terms s x c.args.others.now c.args.store.now _ c.args.desk.now _ _
    (done-at-desk g.K.Keep.terms (λ v. becomes reply
    (with_operation v s p None)) c.args.store.now c.args.desk.now _ reply c.requires refl (λ v. refl)
    (λ k fits. ciphering.gives-with k c.args.desk.now s p None reply fits) (λ few. tt)))

-- ---- a message's

pub returns-in-Taken : goal.returns-in-Taken
returns-in-Taken g c =
    let s = c.args.session in
    let x = out.Taken c.in-Taken.place c.in-Taken.mac in
    let o = Some (mac_of c.in-Taken.mac) in
    let reply = Code rv.Ok in
    rw (c.in-Taken.is, c.update_done-in-Taken.ensures.reply, c.update_done-in-Taken.ensures.left)
    (ends-as g.K.Keep.terms s x c.args.others.now c.args.store.now _ c.args.desk.now _ _
    (done-at-desk g.K.Keep.terms (λ v. becomes reply
    (with_mac v s c.in-Taken.place o)) c.args.store.now c.args.desk.now _ reply c.requires refl (λ v. refl)
    (λ k fits. signing.gives-with k c.args.desk.now s c.in-Taken.place o reply fits) (λ few. tt)))

pub returns-in-Signature : goal.returns-in-Signature
returns-in-Signature g c =
    let s = c.args.session in
    let x = out.Signature c.in-Signature.signature in
    let reply = Output (Data c.in-Signature.signature) in
    rw (c.in-Signature.is, c.sign_done.ensures.reply, c.sign_done.ensures.left)
    (ends-as g.K.Keep.terms s x c.args.others.now c.args.store.now _ c.args.desk.now _ _
    (done-at-desk g.K.Keep.terms (λ v. becomes reply
    (with_mac v s place.Sign None)) c.args.store.now c.args.desk.now _ reply c.requires refl (λ v. refl)
    (λ k fits. signing.gives-with k c.args.desk.now s place.Sign None reply fits) (λ few. few)))

pub returns-in-RightSignature : goal.returns-in-RightSignature
returns-in-RightSignature g c =
    let s = c.args.session in
    let reply = Code rv.Ok in
    rw (c.in-RightSignature.is, c.verify_done.ensures.reply, c.verify_done.ensures.left)
    (ends-as g.K.Keep.terms s out.RightSignature c.args.others.now c.args.store.now _ c.args.desk.now _ _
    (done-at-desk g.K.Keep.terms (λ v. becomes reply
    (with_mac v s place.Verify None)) c.args.store.now c.args.desk.now _ reply c.requires refl (λ v. refl)
    (λ k fits. signing.gives-with k c.args.desk.now s place.Verify None reply fits) (λ few. tt)))

pub returns-in-WrongSignature : goal.returns-in-WrongSignature
returns-in-WrongSignature g c =
    let s = c.args.session in
    let reply = Code rv.SignatureInvalid in
    rw (c.in-WrongSignature.is, c.verify_done-in-WrongSignature.ensures.reply, c.verify_done-in-WrongSignature.ensures.left)
    (ends-as g.K.Keep.terms s out.WrongSignature c.args.others.now c.args.store.now _ c.args.desk.now _ _
    (done-at-desk g.K.Keep.terms (λ v. becomes reply
    (with_mac v s place.Verify None)) c.args.store.now c.args.desk.now _ reply c.requires refl (λ v. refl)
    (λ k fits. signing.gives-with k c.args.desk.now s place.Verify None reply fits) (λ few. tt)))

-- ---- a key's

pub returns-in-Wrapped : goal.returns-in-Wrapped
returns-in-Wrapped g c =
    let reply = Output (Data c.in-Wrapped.bytes) in
    rw (c.in-Wrapped.is) (ends-as g.K.Keep.terms c.args.session
    (out.Wrapped c.in-Wrapped.bytes) c.args.others.now c.args.store.now _ c.args.desk.now _ _
    (done-at-desk g.K.Keep.terms (λ v. replies v reply) c.args.store.now c.args.desk.now c.args.desk.now reply c.requires refl
    (λ v. refl) (λ k fits. record { says = refl; view = refl; changes = refl; fits = fits }) (λ few. few)))

pub returns-in-Unwrapped : goal.returns-in-Unwrapped
returns-in-Unwrapped g c =
    rw (c.in-Unwrapped.is) (ends-as g.K.Keep.terms c.args.session
    (out.Unwrapped c.in-Unwrapped.object) c.args.others.now c.args.store.now _ c.args.desk.now _ _
    (done-over g.K.Keep.terms (λ k v. unwrapped_result v c.args.session
    (Unwrapped c.in-Unwrapped.object)) c.args.store.now _ c.args.desk.now _ _ c.requires c.unwrapped.ensures))

-- what the login reveals is that of the pending call
right-is : (who : UserType) (n : ℕ) (k : Contents) → right_reveal who n k ≡ reveals_login (objects_of k) who n
right-is So n k = refl
right-is User n k = refl

pub returns-in-RightPin : goal.returns-in-RightPin
returns-in-RightPin g c =
    let d = c.args.desk.now in
    let who = c.in-RightPin.who in
    let n = c.checks.result in
    rw (c.in-RightPin.is) (ends-as g.K.Keep.terms c.args.session (out.RightPin who) c.args.others.now c.args.store.now _ d _ _
    (done-is g.K.Keep.terms 1 (λ k v. right_pin (answered v) who
    (reveals_login (objects_of k) who (under_way_of c.args.others.now who)))
    (λ k v. right_pin (answered v) who (right_reveal who n k)) c.args.store.now _ d _ _
    (λ k. ap (right_pin (answered (view_of k d)) who)
    (ap (reveals_login (objects_of k) who) (sym c.checks.ensures) ∙ sym (right-is who n k)))
    (done-over g.K.Keep.terms (λ k v. right_pin v who (right_reveal who n k)) c.args.store.now _ d _ _ c.requires c.log_in.ensures)))

pub returns-in-PinChanged : goal.returns-in-PinChanged
returns-in-PinChanged g c =
    let d = c.args.desk.now in
    let who = c.in-PinChanged.who in
    let made = c.in-PinChanged.verifier in
    let n = c.checks-in-PinChanged.result in
    rw (c.in-PinChanged.is) (ends-as g.K.Keep.terms c.args.session (out.PinChanged who made) c.args.others.now c.args.store.now _ d _ _
    (done-is g.K.Keep.terms 1 (λ k v. pin_changed (answered v) who made (reveals_checks (under_way_of c.args.others.now who)))
    (λ k v. pin_changed (answered v) who made (reveals_checks n)) c.args.store.now _ d _ _
    (λ k. ap (λ m. pin_changed (answered (view_of k d)) who made (reveals_checks m)) (sym c.checks-in-PinChanged.ensures))
    (done-over g.K.Keep.terms (λ k v. pin_changed v who made (reveals_checks n)) c.args.store.now _ d _ _ c.requires c.store_pin-in-PinChanged.ensures)))
