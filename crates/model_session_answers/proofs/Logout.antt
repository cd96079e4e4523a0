-- C_Logout.
use Rattle.std.proofs.Common.{◌≡◌, ℕ, true, not, List, [], ◌∷◌, map, None, refl, ◌∙◌, ap}
use Rattle.std.specs.Prelude.{filter}
use Rattle.ck_types.specs.declared.attr_type.AttrType.TheVariants as attr
use Rattle.ck_types.specs.declared.rv.Rv.TheVariants.{Ok}
use Rattle.ck_calls.specs.declared.function.Function.TheVariants.{Logout}
use Rattle.ck_calls.specs.declared.reply.Reply.TheVariants.{Code}
use Rattle.precede.specs.declared.condition.Condition.TheVariants.{NoSession}
use Rattle.attrs.specs.Objects.{flag}
use Rattle.attrs.specs.MaskingLaws.{flag-mask}
use Rattle.sessions.specs.declared.Session.{Session}
use Rattle.sessions.specs.Sessions.{busy_with}
use Rattle.lists.proofs.ListLemmas.{filter-map, filter-equal}
use Rattle.model_views.specs.Views.{SessionObject, seen_by}
use Rattle.model_session_answers.specs.Logout.{logged_out, logout_row, logout}
use Rattle.model_views.proofs.Masks.{seen-tokens}
use Rattle.model_views.proofs.Checks.{Condition, Operations, no_operations, View, mask, mask_session, mask_session_object, mask_object, becomes, tokens-twice, own-twice, question-twice, record-twice, IsProper, blind-becomes, fair, proper-checked, row-session}

row-mask : (s : ℕ) (v : View) (row : Condition) → logout_row (mask v) s row ≡ logout_row v s row
row-mask s v NoSession = row-session v s
row-mask s v _ = refl

public-own : (es : List SessionObject)
    → filter (λ e. not (flag e.object attr.Private)) (map mask_session_object es)
    ≡ map mask_session_object (filter (λ e. not (flag e.object attr.Private)) es)
public-own es =
    filter-map (λ (e : SessionObject). not (flag e.object attr.Private)) mask_session_object es
    ∙ ap (map mask_session_object)
    (filter-equal (λ (e : SessionObject). not (flag (mask_object e.object) attr.Private)) (λ e. not (flag e.object attr.Private)) es
    (λ e. ap not (flag-mask e.object attr.Private (λ e. cc))))

idle-mask : (ss : List (Session Operations))
    → map mask_session (map (busy_with no_operations) (map mask_session ss)) ≡ map mask_session (map (busy_with no_operations) ss)
idle-mask [] = refl
idle-mask (s ∷ ss) = ap (λ xs. mask_session (busy_with no_operations s) ∷ xs) (idle-mask ss)

logged_out-mask : (v : View) → mask (logged_out (mask v)) ≡ mask (logged_out v)
logged_out-mask v =
    rw (
      seen-tokens None v.tokens,
      tokens-twice (seen_by None v.tokens),
      public-own v.own,
      own-twice (filter (λ e. not (flag e.object attr.Private)) v.own),
      idle-mask v.sessions.sessions,
      question-twice v.question,
      record-twice v.token_record,
    ) refl

pub proper-logout : (s : ℕ) → IsProper (λ v r. logout v s) true
proper-logout s =
    proper-checked Logout (λ v. logout_row v s) (λ v. becomes (Code Ok) (logged_out v)) (row-mask s)
    (λ v. blind-becomes (Code Ok) (logged_out (mask v)) (logged_out v) (logged_out-mask v))
    (λ v. fair v {a = becomes (Code Ok) (logged_out v)} refl refl refl refl refl)
