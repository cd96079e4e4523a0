-- What every result is: a reply that is no resource error and returns no job. It ends its pending call, and the record is
-- seen as it becomes.
use Rattle.std.proofs.Common.{◌≡◌, Bool, true, false, cond, [], None, refl, ◌∙◌, ap}
use Rattle.ck_types.specs.declared.rv.Rv.{Rv}
use Rattle.ck_types.specs.declared.rv.Rv.TheVariants.{Ok}
use Rattle.ck_calls.specs.declared.reply.Reply.{Reply}
use Rattle.ck_calls.specs.declared.reply.Reply.TheVariants.{Code}
use Rattle.pin_record.specs.Records.{TokenRecord}
use Rattle.model_views.specs.Views.{View, mask, mask_record}
use Rattle.model_views.specs.Changes.{Records, Resets, recorded}
use Rattle.model_views.specs.Answering.{Replies, Answer, shown, refuses, answered, pin_checked_in}
use Rattle.model_views.specs.Refusals.{resource_error_in, resource_error}
use Rattle.model_session_answers.specs.Pins.{stores, resets}

pub record IsOver (v : View) (a : Answer) : Type 0 where
  pub plain : resource_error_in a.says ≡ None
  pub unasking : pin_checked_in a.says ≡ None
  pub over : a.view.question ≡ None
  pub shows : a.view.token_record ≡ recorded a.change v.token_record

pub over-if : (v : View) (b : Bool) {x y : Answer} → IsOver v x → IsOver v y → IsOver v (cond b x y)
over-if v true p q = p
over-if v false p q = q

pub over-refused : (v : View) (code : Rv) → resource_error (Code code) ≡ None → IsOver v (refuses (answered v) code)
over-refused v code is = record { plain = is; unasking = refl; over = refl; shows = refl }

pub over-stores : (v u : View) (reply : Reply) (r : TokenRecord) → resource_error reply ≡ None → u.question ≡ None
    → IsOver v (stores reply r u)
over-stores v u reply r is none = record { plain = is; unasking = refl; over = none; shows = refl }

pub over-resets : (v : View) (r : TokenRecord) → IsOver v (resets r (answered v))
over-resets v r = record { plain = refl; unasking = refl; over = refl; shows = refl }

-- ---- what is revealed of a new record

pub blind-stores : (reply : Reply) (r s : TokenRecord) (u v : View) → mask_record r ≡ mask_record s → mask u ≡ mask v
    → shown (stores reply r u) ≡ shown (stores reply s v)
blind-stores reply r s u v same views =
    let f : TokenRecord → View → Answer =
    λ x w. record { says = Replies reply; view = record w { token_record = x }; change = Records x } in
    ap (λ x. f x (mask u)) same ∙ ap (f (mask_record s)) views

pub blind-resets : (r s : TokenRecord) (u v : View) → mask_record r ≡ mask_record s → mask u ≡ mask v
    → shown (resets r u) ≡ shown (resets s v)
blind-resets r s u v same views =
    let f : TokenRecord → View → Answer =
    λ x w. record { says = Replies (Code Ok); view = record w { token_record = x; tokens = [] }; change = Resets x } in
    ap (λ x. f x (mask u)) same ∙ ap (f (mask_record s)) views
