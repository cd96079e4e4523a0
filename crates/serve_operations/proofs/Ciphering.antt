-- The operations of a session that encrypt and decrypt.
use Rattle.std.proofs.Common.{◌≡◌, ℕ, Bool, true, false, List, [], length, Option, Some, None, Bor, Result, Ok, Err, inl, inr, ◌⊎◌, refl, sym, ◌∙◌, ap}
use Rattle.std.specs.Prelude.{is_none, is_some, ◌&&◌, option_map, IsErrOf, IfErr, ◌↔◌}
use Rattle.std.specs.Option.{option_copied, unwrap_or}
use Rattle.ck_calls.specs.declared.reply.Reply.{Reply}
use Rattle.aes_modes.specs.declared.direction.Direction.{Direction}
use Rattle.aes_modes.specs.declared.direction.Direction.TheVariants.{Encrypt, Decrypt}
use Rattle.aes_modes.specs.declared.fault.ModeFault.{ModeFault}
use Rattle.aes_modes.specs.declared.fault.ModeFault.TheVariants.{LenRange, CounterEnd as CountersEnd}
use Rattle.streams.specs.declared.part.Part.{Part}
use Rattle.streams.specs.declared.part.Part.TheVariants.{Update, Last}
use Rattle.streams.specs.Lengths.{wanted, refuses_length, ends_counters}
use Rattle.streams.specs.Streamed.{Streamed}
use Rattle.precede.specs.declared.condition.Condition.TheVariants.{CounterEnd, DataLength, DataTaken}
use Rattle.keep.specs.Contents.{Contents}
use Rattle.sessions.specs.declared.Session.{Session}
use Rattle.sessions.specs.Sessions.{session_at}
use Rattle.desk.specs.Desks.{DeskState}
use Rattle.ops.specs.declared.place.Kind.TheVariants.{Cipher}
use Rattle.ops.specs.declared.place.Place.{Place}
use Rattle.ops.specs.Operations.{Operation, Operations, operation_in, operation_of, placed_in, table_with_operation as in_sessions}
use Rattle.model_views.specs.Views.{View, Ciphers}
use Rattle.model_views.specs.Answering.{Replies, becomes, session_of, with_operation}
use Rattle.model_answers.specs.CipherInit.{place_for}
use Rattle.model_answers.specs.Cipher.{update_function, last_function, has_taken, cipher_update, cipher_last}
use Rattle.model_answers.specs.OperationInit.{operation_ends}
use Rattle.serve_base.specs.Shown.{view_of, Fits, GivesAnswer}
use Rattle.serve_base.specs.Asking.{asks_within}
use Rattle.serve_operations.specs.Steps.{refused_row}

-- an operation begins, continues or ends
module _ (c : Contents) (d : DeskState) (session : ℕ) (place : Place) (operation : Option Operation) (reply : Reply) where
  login-stays : (in_sessions d.sessions session place operation).login ≡ d.sessions.login
  login-stays = at (session_at d.sessions.sessions session) where
    at : (s : Option (Session Operations)) → (placed_in d.sessions session s place operation).login ≡ d.sessions.login
    at None = refl
    at (Some s) = refl

  pub gives-with : Fits c d.handles.entries
      → GivesAnswer (becomes reply (with_operation (view_of c d) session place operation)) d.sessions.login c (Replies reply) c
      (record d { sessions = in_sessions d.sessions session place operation })
  gives-with fits = record { says = refl; view = rw login-stays refl; changes = refl; fits = fits }

-- a place of an operation is in a session
in_session-at : (o : Option (Session Operations)) (place : Place) (x : Operation) → operation_in o place ≡ Some x → is_none o ≡ false
in_session-at None place x is = let k : None ≡ Some x = is in cc
in_session-at (Some s) place x is = refl

pub under-way : (r : Option (Bor Streamed)) (o : Option Operation) (s : Bor Streamed)
    → option_map operation_of (option_copied r) ≡ o → r ≡ Some s → o ≡ Some (operation_of s.now)
under-way r o s is some = sym is ∙ ap (λ r. option_map operation_of (option_copied r)) some

-- ---- the checks of the calls that take data

not-true : (b : Bool) → (b ≡ true → ⊥) → b ≡ false
not-true b never = at b never where
  at : (b : Bool) → (b ≡ true → ⊥) → b ≡ false
  at true never = absurd (never refl)
  at false never = refl

-- what is returned by the checks of lengths and counters
abbrev pub IsTested : Option ModeFault → Streamed → Part → List ℕ → Type 0
IsTested None s part input = (ends_counters s input ≡ false) × (refuses_length part s (length input) ≡ false)
IsTested (Some fault) s part input =
    ((fault ≡ LenRange) × (ends_counters s input ≡ false) × (refuses_length part s (length input) ≡ true))
    ⊎ ((fault ≡ CountersEnd) × (ends_counters s input ≡ true))

abbrev pub fault_in : Result ℕ ModeFault → Option ModeFault
fault_in (Ok buffer_len) = None
fault_in (Err fault) = Some fault

module _ (s : Streamed) (part : Part) (input : List ℕ) where
  pub tested : (r : Result ℕ ModeFault) → (IsErrOf r LenRange ↔ (refuses_length part s (length input) ≡ true))
      → (IsErrOf r CountersEnd ↔ (ends_counters s input ≡ true)) → IfErr r (λ fault. (fault ≡ LenRange) ⊎ (fault ≡ CountersEnd))
      → IsTested (fault_in r) s part input
  tested (Ok buffer_len) odd over faults = (
    not-true (ends_counters s input) (λ e. (let k : Ok buffer_len ≡ Err CountersEnd = over.1 e in cc)),
    not-true (refuses_length part s (length input)) (λ e. (let k : Ok buffer_len ≡ Err LenRange = odd.1 e in cc)),
  )
  tested (Err fault) odd over faults = elim faults [
    | inl is ↦ inl (
      is,
      not-true (ends_counters s input)
          (λ e. (let k : Err LenRange ≡ Err CountersEnd = ap Err (sym is) ∙ over.1 e in cc)),
      odd.0 (ap Err is),
    )
    | inr is ↦ inr (is, over.0 (ap Err is))
  ]

module _ (v : View) (session : ℕ) (d : Direction) (s : Streamed)
    (under_way : operation_in (session_of v session) (place_for d) ≡ Some (operation_of s)) where
  there : is_none (session_of v session) ≡ false
  there = in_session-at (session_of v session) (place_for d) (operation_of s) under_way

  module _ (all : Option (List ℕ)) (buffer_len : Option ℕ) where
    pub last-late : (is_some all && has_taken (operation_of s)) ≡ true
        → cipher_last d v session all buffer_len ≡ operation_ends (Cipher d) v session DataTaken
    last-late late = at d all under_way late where
      at : (d : Direction) (all : Option (List ℕ)) → operation_in (session_of v session) (place_for d) ≡ Some (operation_of s)
          → (is_some all && has_taken (operation_of s)) ≡ true
          → cipher_last d v session all buffer_len ≡ operation_ends (Cipher d) v session DataTaken
      at d None is late = let k : false ≡ true = late in cc
      at Encrypt (Some input) is late = rw (there, is, late) refl
      at Decrypt (Some input) is late = rw (there, is, late) refl

    module _ (fresh : (is_some all && has_taken (operation_of s)) ≡ false) where
      pub last-refused : (fault : ModeFault) → IsTested (Some fault) s Last (unwrap_or all [])
          → cipher_last d v session all buffer_len ≡ operation_ends (Cipher d) v session (refused_row d fault)
      last-refused fault told = elim told [
        | inl odd ↦ rw odd.0 (at-length d all under_way fresh odd.1 odd.2)
        | inr over ↦ rw over.0 (at-counters d all under_way fresh over.1)
      ] where
        at-length : (d : Direction) (all : Option (List ℕ))
            → operation_in (session_of v session) (place_for d) ≡ Some (operation_of s)
            → (is_some all && has_taken (operation_of s)) ≡ false → ends_counters s (unwrap_or all []) ≡ false
            → refuses_length Last s (length (unwrap_or all [])) ≡ true
            → cipher_last d v session all buffer_len ≡ operation_ends (Cipher d) v session (refused_row d LenRange)
        at-length Encrypt None is fresh counted odd = rw (there, is, counted, odd) refl
        at-length Decrypt None is fresh counted odd = rw (there, is, counted, odd) refl
        at-length Encrypt (Some input) is fresh counted odd = rw (there, is, fresh, counted, odd) refl
        at-length Decrypt (Some input) is fresh counted odd = rw (there, is, fresh, counted, odd) refl

        at-counters : (d : Direction) (all : Option (List ℕ))
            → operation_in (session_of v session) (place_for d) ≡ Some (operation_of s)
            → (is_some all && has_taken (operation_of s)) ≡ false → ends_counters s (unwrap_or all []) ≡ true
            → cipher_last d v session all buffer_len ≡ operation_ends (Cipher d) v session DataLength
        at-counters Encrypt None is fresh over = rw (there, is, over) refl
        at-counters Decrypt None is fresh over = rw (there, is, over) refl
        at-counters Encrypt (Some input) is fresh over = rw (there, is, fresh, over) refl
        at-counters Decrypt (Some input) is fresh over = rw (there, is, fresh, over) refl

      pub last-asks : IsTested None s Last (unwrap_or all [])
          → cipher_last d v session all buffer_len
          ≡ asks_within (last_function d all) session (Ciphers Last (operation_of s) (unwrap_or all []))
          (wanted Last s (length (unwrap_or all []))) buffer_len v
      last-asks told = at d all under_way fresh told.0 told.1 where
        at : (d : Direction) (all : Option (List ℕ)) → operation_in (session_of v session) (place_for d) ≡ Some (operation_of s)
            → (is_some all && has_taken (operation_of s)) ≡ false → ends_counters s (unwrap_or all []) ≡ false
            → refuses_length Last s (length (unwrap_or all [])) ≡ false
            → cipher_last d v session all buffer_len
            ≡ asks_within (last_function d all) session (Ciphers Last (operation_of s) (unwrap_or all []))
            (wanted Last s (length (unwrap_or all []))) buffer_len v
        at Encrypt None is fresh counted even = rw (there, is, counted, even) refl
        at Decrypt None is fresh counted even = rw (there, is, counted, even) refl
        at Encrypt (Some input) is fresh counted even = rw (there, is, fresh, counted, even) refl
        at Decrypt (Some input) is fresh counted even = rw (there, is, fresh, counted, even) refl

  module _ (input : List ℕ) (buffer_len : Option ℕ) where
    pub update-over : ends_counters s input ≡ true
        → cipher_update d v session input buffer_len ≡ operation_ends (Cipher d) v session CounterEnd
    update-over over = at d under_way where
      at : (d : Direction) → operation_in (session_of v session) (place_for d) ≡ Some (operation_of s)
          → cipher_update d v session input buffer_len ≡ operation_ends (Cipher d) v session CounterEnd
      at Encrypt is = rw (there, is, over) refl
      at Decrypt is = rw (there, is, over) refl

    pub update-asks : IsTested None s Update input
        → cipher_update d v session input buffer_len
        ≡ asks_within (update_function d) session (Ciphers Update (operation_of s) input) (wanted Update s (length input)) buffer_len v
    update-asks told = at d under_way where
      at : (d : Direction) → operation_in (session_of v session) (place_for d) ≡ Some (operation_of s)
          → cipher_update d v session input buffer_len
          ≡ asks_within (update_function d) session (Ciphers Update (operation_of s) input) (wanted Update s (length input)) buffer_len v
      at Encrypt is = rw (there, is, told.0) refl
      at Decrypt is = rw (there, is, told.0) refl
