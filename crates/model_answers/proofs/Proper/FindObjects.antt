-- C_FindObjects and C_FindObjectsFinal.
use Rattle.std.proofs.Common.{◌≡◌, ℕ, true, List, [], Option, Some, None, refl, ◌∙◌, ap}
use Rattle.std.specs.Prelude.{take, drop, is_none, ◌==◌}
use Rattle.std.specs.Option.{option_map, unwrap_or}
use Rattle.ck_types.specs.declared.rv.Rv.TheVariants.{Ok}
use Rattle.ck_calls.specs.declared.function.Function.TheVariants.{FindObjects, FindObjectsFinal}
use Rattle.ck_calls.specs.declared.reply.Reply.TheVariants.{Code, Objects}
use Rattle.precede.specs.declared.condition.Condition.TheVariants.{NoSession, NoOperation}
use Rattle.sessions.specs.declared.Session.{Session}
use Rattle.sessions.specs.Sessions.{SessionTable, session_at}
use Rattle.ops.specs.Operations.{Operations, search_in, searching_in, with_search}
use Rattle.lists.proofs.ListLemmas.{find-map}
use Rattle.model_views.specs.Views.{mask_operations, mask_sessions}
use Rattle.model_views.proofs.Masks.{operation-twice, mac-twice, busy-mask}
use Rattle.model_answers.specs.FindObjects.{search_row, answered_at_once, gives_found, find_objects, find_objects_final}
use Rattle.model_views.proofs.Checks.{Condition, View, mask, mask_session, shown, session_of, becomes, tokens-twice, own-twice, sessions-twice, question-twice, record-twice, session-mask, IsProper, blind-becomes, fair, proper-checked, row-session}

-- ---- the search of a session, as it is seen

pub search-mask : (v : View) (s : ℕ) → search_in (session_of (mask v) s) ≡ search_in (session_of v s)
search-mask v s = ap search_in (session-mask v s) ∙ of (session_of v s) where
  of : (o : Option (Session Operations)) → search_in (option_map mask_session o) ≡ search_in o
  of None = refl
  of (Some x) = refl

search-twice : (ops : Operations) (search : Option (List ℕ))
    → mask_operations (record (mask_operations ops) { find = search }) ≡ mask_operations (record ops { find = search })
search-twice ops search = rw (operation-twice ops.encrypt, operation-twice ops.decrypt, mac-twice ops.sign, mac-twice ops.verify) refl

pub searching-mask : (t : SessionTable Operations) (s : ℕ) (search : Option (List ℕ))
    → mask_sessions (with_search (mask_sessions t) s search) ≡ mask_sessions (with_search t s search)
searching-mask t s search =
    ap (λ o. mask_sessions (searching_in (mask_sessions t) s o search))
    (find-map (λ (x : Session Operations). x.handle == s) mask_session t.sessions)
    ∙ of (session_at t.sessions s) where
      of : (o : Option (Session Operations))
          → mask_sessions (searching_in (mask_sessions t) s (option_map mask_session o) search) ≡ mask_sessions (searching_in t s o search)
      of None = ap (λ ss. record { sessions = ss; login = t.login; next_number = t.next_number }) (sessions-twice t.sessions)
      of (Some x) =
          ap (λ ss. record { sessions = ss; login = t.login; next_number = t.next_number })
          (busy-mask s (record (mask_operations x.work) { find = search }) (record x.work { find = search })
          (search-twice x.work search) t.sessions)

view-mask : (v : View) (s : ℕ) (search : Option (List ℕ))
    → mask (record (mask v) { sessions = with_search (mask_sessions v.sessions) s search })
    ≡ mask (record v { sessions = with_search v.sessions s search })
view-mask v s search = rw (
  searching-mask v.sessions s search,
  tokens-twice v.tokens,
  own-twice v.own,
  question-twice v.question,
  record-twice v.token_record,
) refl

-- ---- the calls

row-mask : (s : ℕ) (v : View) (row : Condition) → search_row (mask v) s row ≡ search_row v s row
row-mask s v NoSession = row-session v s
row-mask s v NoOperation = ap is_none (search-mask v s)
row-mask s v _ = refl

blind-gives : (s count : ℕ) (v : View)
    → shown (gives_found (mask v) s count (unwrap_or (search_in (session_of (mask v) s)) []))
    ≡ shown (gives_found v s count (unwrap_or (search_in (session_of v s)) []))
blind-gives s count v =
    let all : List ℕ = unwrap_or (search_in (session_of v s)) [] in
    ap (λ o. shown (gives_found (mask v) s count (unwrap_or o []))) (search-mask v s)
    ∙ blind-becomes (Objects (take count all))
    (record (mask v) { sessions = with_search (mask_sessions v.sessions) s (Some (drop count all)) })
    (record v { sessions = with_search v.sessions s (Some (drop count all)) }) (view-mask v s (Some (drop count all)))

pub proper-find_objects : (s max_count : ℕ) → IsProper (λ v r. find_objects v s max_count) true
proper-find_objects s max_count =
    proper-checked FindObjects (λ v. search_row v s)
    (λ v. gives_found v s (answered_at_once max_count) (unwrap_or (search_in (session_of v s)) [])) (row-mask s)
    (blind-gives s (answered_at_once max_count))
    (λ v. fair v {a = gives_found v s (answered_at_once max_count)
    (unwrap_or (search_in (session_of v s)) [])} refl refl refl refl refl)

pub proper-find_objects_final : (s : ℕ) → IsProper (λ v r. find_objects_final v s) true
proper-find_objects_final s =
    proper-checked FindObjectsFinal (λ v. search_row v s)
    (λ v. becomes (Code Ok) (record v { sessions = with_search v.sessions s None })) (row-mask s)
    (λ v. blind-becomes (Code Ok) (record (mask v) { sessions = with_search (mask_sessions v.sessions) s None })
    (record v { sessions = with_search v.sessions s None }) (view-mask v s None))
    (λ v. fair v {a = becomes (Code Ok) (record v { sessions = with_search v.sessions s None })} refl refl refl refl refl)
