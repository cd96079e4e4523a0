-- What is known of bytes where they are written, and of calls where they are put.
use Rattle.std.specs.Prelude.{◌≡◌, ℕ, ◌≤◌, List, [], ◌∷◌, ◌++◌, length}
use Rattle.std.specs.List.{flat_map, AllByRecursion}
use Rattle.door.specs.Ends.{HasGiven}
use Rattle.wire.specs.Messages.{frame, most}
use Rattle.model_worlds.specs.Traces.{replies_to}
use Rattle.hall_log.specs.Lists.{of}
use Rattle.ck_calls.specs.declared.app_call.AppCall.{AppCall}
use Rattle.hall_log.specs.Histories.{Exchange, History}
use Rattle.hall.specs.Histories.{told_in}
use Rattle.line_places.specs.Due.{Due}
use Rattle.line.specs.Turns.{asks, messages}
use Rattle.line.specs.Words.{words_for}
use Rattle.line_places.specs.Standing.{ask_in}
use Rattle.hall_sockets.specs.Calling.{called_by, called_in}

-- A call was read of its application's connection: the bytes that its reader has given begin with the frames of payloads. The calls
-- among these, with the words of the application under the seed from the first on, are those that its seat put for it, and then this one.
pub record IsRead (given : ℕ → List ℕ → Type 0) (seed : List ℕ) (before : List Exchange) (c : AppCall) : Type 0 where
  pub read : List ℕ
  pub payloads : List (List ℕ)
  pub rest : List ℕ
  pub has : HasGiven given c.app read
  pub each : AllByRecursion (λ p. length p ≤ most) payloads
  pub read_is : read ≡ flat_map frame payloads ++ rest
  pub asked : of c.app (called_by before) ++ ask_in c ∷ [] ≡ asks (words_for seed c.app) (messages payloads)

-- These bytes may be written to an application's connection by this history, after those that its writer took. All of them together begin
-- what is due to it (`Due`): its reader has given frames whose calls are those that the history has of the application, with its
-- words, and what is due is the frames of the answers that the history has to them, in order, with those to what is no call at their places.
pub record MayWrite (given : ℕ → List ℕ → Type 0) (seed : List ℕ) (app : ℕ) (history : History) (taken bytes : List ℕ) : Type 0 where
  pub read : List ℕ
  pub lacking : List ℕ
  pub has : HasGiven given app read
  pub due : Due (words_for seed app) read (of app (called_in history)) (replies_to app (told_in history)) ((taken ++ bytes) ++ lacking)

-- the seed, in what never changes of a seat
abbrev pub seed_in : List ℕ → List ℕ
seed_in [] = []
seed_in (number ∷ seed) = seed

-- A log's name is of a seat, of which this never changes, and whose sockets give so: a call that was read counts as read.
pub record IsNameOf (given : ℕ → List ℕ → Type 0) (named_given : ℕ → List ℕ → Type 0) (named_seed : List ℕ)
    (was_read : List Exchange → AppCall → Type 0) (fixed : List ℕ) : Type 0 where
  pub seed : named_seed ≡ seed_in fixed
  pub gives : (app : ℕ) (bytes : List ℕ) → given app bytes → named_given app bytes
  pub reads : (before : List Exchange) (c : AppCall) → ∥ IsRead named_given named_seed before c ∥₁ → was_read before c
