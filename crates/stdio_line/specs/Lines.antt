-- What a line does with the messages that it reads, and what it answers.
use Rattle.std.specs.Prelude.{◌≡◌, ℕ, ◌+◌, ◌≤◌, List, [], ◌∷◌, ◌++◌, map, length, Option, Ok, Err}
use Rattle.rand_chacha.specs.ChaCha.{ChaCha}
use Rattle.ck_calls.specs.declared.call.Call.{Call as CallType}
use Rattle.ck_calls.specs.declared.reply.Reply.{Reply}
use Rattle.ck_calls.specs.Need.{random_bytes}
use Rattle.keep.specs.Keeping.{Terms}
use Rattle.model_worlds.specs.declared.event.Event.{Event}
use Rattle.model_worlds.specs.declared.event.Event.TheVariants.{Call, Finish, Gone}
use Rattle.model_worlds.specs.Worlds.{World, Move, event_of, goes, after, replies}
use Rattle.token.specs.States.{HasIds, HasJobs, TokenState, Shows, Lasting, MayLeave, LeftAfter, AccountsFor, blames}
use Rattle.line.specs.Words.{taken}
use Rattle.line.specs.Turns.{Message, words_past, words_after, refusal_of}

-- ---- what is done

-- what an application does; of the random bytes of a call their list alone counts
pub data Act : Type 0 where
  Calls : (call : CallType) (random : List ℕ) → Act
  Finishes : Act
  Leaves : Act

abbrev pub act_of : Event → ℕ × Act
act_of (Call app call random) = (app, Calls call random.items)
act_of (Finish app) = (app, Finishes)
act_of (Gone app) = (app, Leaves)

-- A call is made with the random bytes that it takes, and the result of its job is taken at once; where it has no job, that is
-- passed over. What is no call does nothing and takes no random bytes.
abbrev pub acts_of : ℕ → ChaCha → Message → List (ℕ × Act)
acts_of app words (Ok call) = (app, Calls call (taken (random_bytes call) words).0) ∷ (app, Finishes) ∷ []
acts_of app words (Err fault) = []

-- and messages in turn
abbrev pub acts : ℕ → ChaCha → List Message → List (ℕ × Act)
acts app words [] = []
acts app words (m ∷ ms) = acts_of app words m ++ acts app (words_past words m) ms

-- ---- what is answered

abbrev pub count_calls : List Message → ℕ
count_calls [] = 0
count_calls (Ok call ∷ ms) = count_calls ms + 1
count_calls (Err fault ∷ ms) = count_calls ms

-- the answers to messages, where the calls among them got these in turn
abbrev pub answers : List Message → List (ℕ × Reply) → List Reply
answers [] told = []
answers (Ok call ∷ ms) [] = []
answers (Ok call ∷ ms) (t ∷ told) = t.1 ∷ answers ms told
answers (Err fault ∷ ms) told = refusal_of fault ∷ answers ms told

-- ---- runs

-- From w these acts took place, each as it goes or refused by a resource error, and this was returned. The token refines the
-- world after them, and no call is pending. A crash leaves the changes that were acknowledged, and perhaps one that was tried
-- since, whole. What each application gets and sees of it follows from the moves by the token's laws.
pub record Moved (showing : World → Type 0) (prior left : Option Lasting → Type 0) (w : World) (done : List (ℕ × Act))
    (told : List (ℕ × Reply)) : Type 0 where
  pub moves : List Move
  pub took : map (λ m. act_of (event_of m)) moves ≡ done
  pub tells : replies w moves ≡ told
  pub shows : showing (after w moves)
  pub idle : HasJobs (after w moves) []
  pub leaves : (l : Option Lasting) → left l → LeftAfter prior w moves l

-- The run of a line over messages: its calls were made in order by the one application, each got one reply, and the messages
-- were answered so.
pub record IsLine (showing : World → Type 0) (prior left : Option Lasting → Type 0) (app : ℕ) (w : World) (words : ChaCha)
    (ms : List Message) (said : List Reply) : Type 0 where
  pub told : List (ℕ × Reply)
  pub moved : Moved showing prior left w (acts app words ms) told
  pub each : length told ≡ count_calls ms
  pub answered : said ≡ answers ms told

-- ---- two states of a token

-- Over a steady keeper with two ids for each call, one at the call and one at its result, no answer is CKR_DEVICE_ERROR.
abbrev pub SparesIds : {K : Type 0} → Terms K → TokenState K → TokenState K → List Message → List Reply → Type 0
SparesIds terms old new ms said = (count : ℕ) → HasIds terms old [] (count + (count_calls ms + count_calls ms)) → (blames said ≡ 0)
    × HasIds terms new [] count

module _ {K : Type 0} (terms : Terms K) where
  -- What a token and the words of an application became while these messages were answered so. No fault of the disk is forgotten,
  -- and for each CKR_DEVICE_ERROR a failure of the keeper was counted. While there was no fault of the disk, this is a line's run
  -- from each world that the token refined.
  pub record Leads (app : ℕ) (old new : TokenState K) (words_old words_new : ChaCha) (ms : List Message) (said : List Reply) : Type 0 where
    pub one_each : length said ≡ length ms
    pub words : words_new ≡ words_after words_old ms
    pub remembers : terms.doubt old.store.keep ≤ terms.doubt new.store.keep
    pub failures : terms.failures old.store.keep ≤ terms.failures new.store.keep
    pub accounts : AccountsFor (terms.failures old.store.keep) (terms.failures new.store.keep) said
    pub ids : SparesIds terms old new ms said
    pub run : terms.doubt new.store.keep ≡ 0 → (w : World) → Shows terms old w → HasJobs w []
        → IsLine (Shows terms new) (MayLeave terms old) (MayLeave terms new) app w words_old ms said

  -- and then the application disconnected
  pub record LeadsAway (app : ℕ) (old new : TokenState K) (words_old words_new : ChaCha) (ms : List Message)
      (said : List Reply) : Type 0 where
    pub one_each : length said ≡ length ms
    pub words : words_new ≡ words_after words_old ms
    pub accounts : AccountsFor (terms.failures old.store.keep) (terms.failures new.store.keep) said
    pub ids : SparesIds terms old new ms said
    pub run : terms.doubt new.store.keep ≡ 0 → (w : World) → Shows terms old w
        → IsLine (λ v. Shows terms new (goes v (Gone app))) (MayLeave terms old) (MayLeave terms new) app w words_old ms said
