-- C_GetTokenInfo.
use Rattle.std.proofs.Common.{◌≡◌, ℕ, true, cond, List, [], ◌∷◌, map, refl, ◌+◌}
use Rattle.std.specs.List.{count_by, fold}
use Rattle.lists.proofs.ListLemmas.{length-map}
use Rattle.ck_calls.specs.declared.function.Function.TheVariants.{GetTokenInfo}
use Rattle.sessions.specs.declared.Session.{Session}
use Rattle.model_session_answers.specs.OpenSession.{slot_row}
use Rattle.model_session_answers.specs.GetTokenInfo.{told_token_info, get_token_info}
use Rattle.model_views.proofs.Checks.{Operations, View, mask, mask_session, shown, replies, IsProper, blind-reply, fair, proper-checked, set-masked}

counted-mask : (n : ℕ) (ss : List (Session Operations))
    → fold (λ a (x : Session Operations). a + cond x.read_write 1 0) n (map mask_session ss) ≡ fold (λ a x. a + cond x.read_write 1 0) n ss
counted-mask n [] = refl
counted-mask n (s ∷ ss) = counted-mask (n + cond s.read_write 1 0) ss

read-write-mask : (ss : List (Session Operations)) → count_by (λ s. s.read_write) (map mask_session ss) ≡ count_by (λ s. s.read_write) ss
read-write-mask ss = counted-mask 0 ss

blind-info : (v : View) → shown (replies (mask v) (told_token_info (mask v))) ≡ shown (replies v (told_token_info v))
blind-info v = rw (
  set-masked v.token_record.so.verifier,
  set-masked v.token_record.user.verifier,
  length-map mask_session v.sessions.sessions,
  read-write-mask v.sessions.sessions,
) (blind-reply v (told_token_info v))

pub proper-get_token_info : (slot : ℕ) → IsProper (λ v r. get_token_info v slot) true
proper-get_token_info slot =
    proper-checked GetTokenInfo (λ v. slot_row slot) (λ v. replies v (told_token_info v)) (λ v row. refl)
    blind-info (λ v. fair v {a = replies v (told_token_info v)} refl refl refl refl refl)
