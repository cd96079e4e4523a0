-- The operations of a session that sign and verify.
use Rattle.std.proofs.Common.{◌≡◌, ℕ, true, false, List, [], length, Option, Some, None, refl}
use Rattle.std.specs.Prelude.{is_none, is_some, ◌&&◌, ◌==◌}
use Rattle.std.specs.Option.{unwrap_or}
use Rattle.ck_calls.specs.declared.reply.Reply.{Reply}
use Rattle.macs.specs.Authentication.{Authentication}
use Rattle.macs.specs.Tags.{tag_length}
use Rattle.precede.specs.declared.condition.Condition.TheVariants.{DataTaken, SignatureLength}
use Rattle.keep.specs.Contents.{Contents}
use Rattle.sessions.specs.declared.Session.{Session}
use Rattle.sessions.specs.Sessions.{session_at}
use Rattle.ops.specs.declared.place.Kind.TheVariants.{Mac}
use Rattle.ops.specs.declared.place.MacPlace.{MacPlace}
use Rattle.ops.specs.declared.place.MacPlace.TheVariants.{Sign, Verify}
use Rattle.ops.specs.Operations.{MacOperation, Operations, mac_in, mac_of, mac_placed_in, table_with_mac as in_sessions}
use Rattle.desk.specs.Desks.{DeskState}
use Rattle.model_views.specs.Views.{View, Signs, Takes, Verifies}
use Rattle.model_views.specs.Answering.{Replies, asks, becomes, session_of, with_mac}
use Rattle.model_answers.specs.Mac.{mac_has_taken, mac_update, mac_update_function, sign, sign_function, verify, verify_function}
use Rattle.model_answers.specs.OperationInit.{operation_ends}
use Rattle.serve_base.specs.Asking.{asks_within}
use Rattle.serve_base.specs.Shown.{view_of, Fits, GivesAnswer}

-- an operation begins, continues or ends
module _ (c : Contents) (d : DeskState) (session : ℕ) (place : MacPlace) (operation : Option MacOperation) (reply : Reply) where
  login-stays : (in_sessions d.sessions session place operation).login ≡ d.sessions.login
  login-stays = at (session_at d.sessions.sessions session) where
    at : (s : Option (Session Operations)) → (mac_placed_in d.sessions session s place operation).login ≡ d.sessions.login
    at None = refl
    at (Some s) = refl

  pub gives-with : Fits c d.handles.entries
      → GivesAnswer (becomes reply (with_mac (view_of c d) session place operation)) d.sessions.login c (Replies reply) c
      (record d { sessions = in_sessions d.sessions session place operation })
  gives-with fits = record { says = refl; view = rw login-stays refl; changes = refl; fits = fits }

-- a place of an operation is in a session
in_session-at : (o : Option (Session Operations)) (place : MacPlace) (x : MacOperation) → mac_in o place ≡ Some x → is_none o ≡ false
in_session-at None place x is = let k : None ≡ Some x = is in cc
in_session-at (Some s) place x is = refl

-- ---- the last data

module _ (v : View) (session : ℕ) (a : Authentication) (all : Option (List ℕ)) where
  module _ (buffer_len : Option ℕ) (under_way : mac_in (session_of v session) Sign ≡ Some (mac_of a)) where
    there : is_none (session_of v session) ≡ false
    there = in_session-at (session_of v session) Sign (mac_of a) under_way

    pub sign-late : (is_some all && mac_has_taken (mac_of a)) ≡ true
        → sign v session all buffer_len ≡ operation_ends (Mac Sign) v session DataTaken
    sign-late late = at all late where
      at : (all : Option (List ℕ)) → (is_some all && mac_has_taken (mac_of a)) ≡ true
          → sign v session all buffer_len ≡ operation_ends (Mac Sign) v session DataTaken
      at None late = let k : false ≡ true = late in cc
      at (Some input) late = rw (there, under_way, late) refl

    pub sign-asks : (is_some all && mac_has_taken (mac_of a)) ≡ false
        → sign v session all buffer_len
        ≡ asks_within (sign_function all) session (Signs (mac_of a) (unwrap_or all [])) (tag_length a.mechanism) buffer_len v
    sign-asks fresh = at all fresh where
      at : (all : Option (List ℕ)) → (is_some all && mac_has_taken (mac_of a)) ≡ false
          → sign v session all buffer_len
          ≡ asks_within (sign_function all) session (Signs (mac_of a) (unwrap_or all [])) (tag_length a.mechanism) buffer_len v
      at None fresh = rw (there, under_way) refl
      at (Some input) fresh = rw (there, under_way, fresh) refl

  module _ (signature : List ℕ) (under_way : mac_in (session_of v session) Verify ≡ Some (mac_of a)) where
    there-verify : is_none (session_of v session) ≡ false
    there-verify = in_session-at (session_of v session) Verify (mac_of a) under_way

    pub verify-late : (is_some all && mac_has_taken (mac_of a)) ≡ true
        → verify v session all signature ≡ operation_ends (Mac Verify) v session DataTaken
    verify-late late = at all late where
      at : (all : Option (List ℕ)) → (is_some all && mac_has_taken (mac_of a)) ≡ true
          → verify v session all signature ≡ operation_ends (Mac Verify) v session DataTaken
      at None late = let k : false ≡ true = late in cc
      at (Some input) late = rw (there-verify, under_way, late) refl

    module _ (fresh : (is_some all && mac_has_taken (mac_of a)) ≡ false) where
      pub verify-odd : (length signature == tag_length a.mechanism) ≡ false
          → verify v session all signature ≡ operation_ends (Mac Verify) v session SignatureLength
      verify-odd odd = at all fresh where
        at : (all : Option (List ℕ)) → (is_some all && mac_has_taken (mac_of a)) ≡ false
            → verify v session all signature ≡ operation_ends (Mac Verify) v session SignatureLength
        at None fresh = rw (there-verify, under_way, odd) refl
        at (Some input) fresh = rw (there-verify, under_way, fresh, odd) refl

      pub verify-asks : (length signature == tag_length a.mechanism) ≡ true
          → verify v session all signature
          ≡ asks v (verify_function all) session (Verifies (mac_of a) (unwrap_or all []) signature)
      verify-asks fits = at all fresh where
        at : (all : Option (List ℕ)) → (is_some all && mac_has_taken (mac_of a)) ≡ false
            → verify v session all signature
            ≡ asks v (verify_function all) session (Verifies (mac_of a) (unwrap_or all []) signature)
        at None fresh = rw (there-verify, under_way, fits) refl
        at (Some input) fresh = rw (there-verify, under_way, fresh, fits) refl

-- a part is taken
pub update-asks : (v : View) (session : ℕ) (place : MacPlace) (a : Authentication)
    → mac_in (session_of v session) place ≡ Some (mac_of a) → (input : List ℕ)
    → mac_update place v session input ≡ asks v (mac_update_function place) session (Takes place (mac_of a) input)
update-asks v session Sign a under_way input = rw (in_session-at (session_of v session) Sign (mac_of a) under_way, under_way) refl
update-asks v session Verify a under_way input = rw (in_session-at (session_of v session) Verify (mac_of a) under_way, under_way) refl
