-- The clients of one worker, each at its place: which applications they are of, and what each of them gave and took.
use Rattle.std.specs.Prelude.{◌≡◌, ◌≢◌, ℕ, ◌+◌, ◌*◌, ◌^◌, ◌<◌, ◌⊎◌, List, [], ◌∷◌, length, map, true, Some, None, slice_get}
use Rattle.ck_calls.specs.declared.reply.Reply.{Reply}
use Rattle.hall_log.specs.Lists.{of}
use Rattle.ck_calls.specs.declared.app_call.AppCall.{AppCall}
use Rattle.line.specs.Words.{words_for}
use Rattle.line_places.specs.declared.client.Client.{Client}
use Rattle.line_places.specs.declared.place.Place.{Place}

-- ---- applications

-- of the t-th client at place j of n places, of worker s
abbrev pub app_at : ℕ → ℕ → ℕ → ℕ → ℕ
app_at s n j t = s + 4 * (j + n * t)

-- the calls of one application, in order
abbrev pub calls_of : ℕ → List AppCall → List AppCall
calls_of app calls = of app (map (λ (c : AppCall). (c.app, c)) calls)

-- ---- lives

module _ {R W : Type 0} where
  abbrev pub IsAmong : Client R W → List (Client R W) → Type 0
  IsAmong c [] = ⊥
  IsAmong c (x ∷ xs) = (c ≡ x) ⊎ IsAmong c xs

  pub record IsClientAt (places : List (Place R W)) (j : ℕ) (c : Client R W) : Type 0 where
    pub place : Place R W
    pub at : slice_get places j ≡ Some place
    pub client : place.client ≡ Some c

  -- nobody is at this place, and one may come
  pub record IsFree (places : List (Place R W)) (j : ℕ) : Type 0 where
    pub place : Place R W
    pub at : slice_get places j ≡ Some place
    pub none : place.client ≡ None
    pub turns : place.turn < 2 ^ 55

  -- a client that there is or was
  abbrev pub IsLife : List (Place R W) → List (Client R W) → Client R W → Type 0
  IsLife places past c = IsAmong c past ⊎ ((j : ℕ) × IsClientAt places j c)

  -- an application whose client was there, and is there no more
  abbrev pub HasGone : List (Client R W) → ℕ → Type 0
  HasGone past app = (c : Client R W) × IsAmong c past × (c.app ≡ app)

  -- the client at this place, which owes its application a reply
  pub record IsOwed (places : List (Place R W)) (j app : ℕ) : Type 0 where
    pub client : Client R W
    pub is : IsClientAt places j client
    pub owed : client.is_owed ≡ true
    pub app_is : client.app ≡ app

  -- it had this turn at a place, which has come to a later one
  pub record WasAt (s : ℕ) (places : List (Place R W)) (c : Client R W) : Type 0 where
    pub j : ℕ
    pub t : ℕ
    pub place : Place R W
    pub at : slice_get places j ≡ Some place
    pub later : t < place.turn
    pub app : c.app ≡ app_at s (length places) j t

  -- A client that is there is of another application than all others, and one that was there had an earlier turn. The words of each are
  -- those of its application under the one seed. Of all calls and replies, those of its application are its own. An application
  -- without a client has none.
  pub record PlacesKeep (seed : List ℕ) (s : ℕ) (places : List (Place R W)) (past : List (Client R W)) (asked : List AppCall)
      (told : List (ℕ × Reply)) : Type 0 where
    pub now : (j : ℕ) (p : Place R W) (c : Client R W) → slice_get places j ≡ Some p → p.client ≡ Some c
        → (c.app ≡ app_at s (length places) j p.turn) × (p.turn < 2 ^ 55)
    pub before : (c : Client R W) → IsAmong c past → WasAt s places c
    pub words : (c : Client R W) → IsLife places past c → c.first.value ≡ words_for seed c.app
    pub parts : (c : Client R W) → IsLife places past c → (calls_of c.app asked ≡ c.asked.items) × (of c.app told ≡ c.told.items)
    pub others : (app : ℕ) → ((c : Client R W) → IsLife places past c → c.app ≢ app) → (calls_of app asked ≡ []) × (of app told ≡ [])
