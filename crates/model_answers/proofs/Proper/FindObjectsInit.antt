-- C_FindObjectsInit: a match is one of the object without what is masked, so what is found is too.
use Rattle.std.proofs.Common.{◌≡◌, ℕ, ◌+◌, Bool, true, false, cond, List, [], ◌∷◌, ◌++◌, map, Some, refl, ◌∙◌, ap}
use Rattle.std.specs.Prelude.{◌&&◌, filter, is_none, is_some}
use Rattle.std.specs.Option.{unwrap_or}
use Rattle.ck_types.specs.declared.rv.Rv.TheVariants.{Ok}
use Rattle.ck_calls.specs.declared.function.Function.TheVariants.{FindObjectsInit}
use Rattle.ck_calls.specs.declared.reply.Reply.TheVariants.{Code}
use Rattle.find.specs.Matching.{template_matches}
use Rattle.find.specs.MatchingLaws.{template_matches-mask}
use Rattle.precede.specs.declared.condition.Condition.TheVariants.{NoSession, OperationActive}
use Rattle.ops.specs.Operations.{with_search}
use Rattle.lists.proofs.ListLemmas.{filter-map, filter-equal, map-map}
use Rattle.model_views.specs.Views.{TokenObject, SessionObject, mask_sessions}
use Rattle.model_answers.specs.FindObjectsInit.{find_init_row, takes_handle, with_handles, next_after, tokens_found, own_found, found, handled, searches, find_objects_init}
use Rattle.model_answers.proofs.Proper.FindObjects.{search-mask, searching-mask}
use Rattle.model_views.proofs.Checks.{Entry, Condition, View, mask, mask_object, mask_token_object, mask_session_object, tokens-twice, own-twice, question-twice, record-twice, IsProper, blind-becomes, fair, proper-checked, row-session}

row-mask : (s : ℕ) (v : View) (row : Condition) → find_init_row (mask v) s row ≡ find_init_row v s row
row-mask s v NoSession = row-session v s
row-mask s v OperationActive = ap is_some (search-mask v s)
row-mask s v _ = refl

module _ (template : List Entry) where
  takes-mask : (t : TokenObject) → takes_handle template (mask_token_object t) ≡ takes_handle template t
  takes-mask t = ap (λ b. b && is_none t.handle) (template_matches-mask template t.object)

  handles-mask : (next : ℕ) (ts : List TokenObject)
      → with_handles template next (map mask_token_object ts) ≡ map mask_token_object (with_handles template next ts)
  handles-mask next [] = refl
  handles-mask next (t ∷ ts) =
      ap (λ b. cond b (record { object = mask_object t.object; handle = Some next }
      ∷ with_handles template (next + 1) (map mask_token_object ts))
      (mask_token_object t ∷ with_handles template next (map mask_token_object ts))) (takes-mask t)
      ∙ step (takes_handle template t) (handles-mask (next + 1) ts) (handles-mask next ts) where
        step : (b : Bool) → with_handles template (next + 1) (map mask_token_object ts)
            ≡ map mask_token_object (with_handles template (next + 1) ts)
            → with_handles template next (map mask_token_object ts) ≡ map mask_token_object (with_handles template next ts)
            → cond b (record { object = mask_object t.object; handle = Some next }
            ∷ with_handles template (next + 1) (map mask_token_object ts))
            (mask_token_object t ∷ with_handles template next (map mask_token_object ts))
            ≡ map mask_token_object (cond b (record { object = t.object; handle = Some next } ∷ with_handles template (next + 1) ts)
            (t ∷ with_handles template next ts))
        step true more same = ap (λ xs. record { object = mask_object t.object; handle = Some next } ∷ xs) more
        step false more same = ap (λ xs. mask_token_object t ∷ xs) same

  next-mask : (next : ℕ) (ts : List TokenObject) → next_after template next (map mask_token_object ts) ≡ next_after template next ts
  next-mask next [] = refl
  next-mask next (t ∷ ts) =
      ap (λ b. cond b (next_after template (next + 1) (map mask_token_object ts))
      (next_after template next (map mask_token_object ts))) (takes-mask t)
      ∙ step (takes_handle template t) (next-mask (next + 1) ts) (next-mask next ts) where
        step : (b : Bool) → next_after template (next + 1) (map mask_token_object ts) ≡ next_after template (next + 1) ts
            → next_after template next (map mask_token_object ts) ≡ next_after template next ts
            → cond b (next_after template (next + 1) (map mask_token_object ts))
            (next_after template next (map mask_token_object ts)) ≡ cond b (next_after template (next + 1) ts) (next_after template next ts)
        step true more same = more
        step false more same = same

  tokens_found-mask : (ts : List TokenObject) → tokens_found template (map mask_token_object ts) ≡ tokens_found template ts
  tokens_found-mask ts =
      ap (map (λ (t : TokenObject). unwrap_or t.handle 0)) (
      filter-map (λ (t : TokenObject). template_matches template t.object) mask_token_object ts
      ∙ ap (map mask_token_object) (filter-equal (λ (t : TokenObject). template_matches template (mask_object t.object))
      (λ t. template_matches template t.object) ts (λ t. template_matches-mask template t.object)))
      ∙ map-map mask_token_object (λ (t : TokenObject). unwrap_or t.handle 0) (filter (λ t. template_matches template t.object) ts)

  own_found-mask : (es : List SessionObject) → own_found template (map mask_session_object es) ≡ own_found template es
  own_found-mask es =
      ap (map (λ (e : SessionObject). e.handle)) (
      filter-map (λ (e : SessionObject). template_matches template e.object) mask_session_object es
      ∙ ap (map mask_session_object)
      (filter-equal (λ (e : SessionObject). template_matches template (mask_object e.object))
      (λ e. template_matches template e.object) es (λ e. template_matches-mask template e.object)))
      ∙ map-map mask_session_object (λ (e : SessionObject). e.handle) (filter (λ e. template_matches template e.object) es)

  found-mask : (v : View) → found template (handled template (mask v)) ≡ found template (handled template v)
  found-mask v =
      let seen : List TokenObject = with_handles template v.next_handle v.tokens in
      ap (λ ts. tokens_found template ts ++ own_found template (map mask_session_object v.own)) (handles-mask v.next_handle v.tokens)
      ∙ ap (λ ns. ns ++ own_found template (map mask_session_object v.own)) (tokens_found-mask seen)
      ∙ ap (λ ns. tokens_found template seen ++ ns) (own_found-mask v.own)

  searches-mask : (s : ℕ) (v : View) → mask (searches (mask v) s template).view ≡ mask (searches v s template).view
  searches-mask s v =
      let seen : List TokenObject = with_handles template v.next_handle v.tokens in
      let all : List ℕ = found template (handled template v) in
      let of : List ℕ → List TokenObject → ℕ → View =
      λ ns ts next. mask (record (mask v) {
        tokens = ts;
        next_handle = next;
        sessions = with_search (mask_sessions v.sessions) s (Some ns);
      }) in
      ap (λ ns. of ns (with_handles template v.next_handle (map mask_token_object v.tokens))
      (next_after template v.next_handle (map mask_token_object v.tokens))) (found-mask v)
      ∙ ap (λ ts. of all ts (next_after template v.next_handle (map mask_token_object v.tokens))) (handles-mask v.next_handle v.tokens)
      ∙ ap (λ next. of all (map mask_token_object seen) next) (next-mask v.next_handle v.tokens)
      ∙ rw (
        searching-mask v.sessions s (Some all),
        tokens-twice seen,
        own-twice v.own,
        question-twice v.question,
        record-twice v.token_record,
      ) refl

pub proper-find_objects_init : (s : ℕ) (template : List Entry) → IsProper (λ v r. find_objects_init v s template) true
proper-find_objects_init s template =
    proper-checked FindObjectsInit (λ v. find_init_row v s) (λ v. searches v s template) (row-mask s)
    (λ v. blind-becomes (Code Ok) (searches (mask v) s template).view (searches v s template).view (searches-mask template s v))
    (λ v. fair v {a = searches v s template} refl refl refl refl refl)
