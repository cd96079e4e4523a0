-- What a seat's licence permits, and which calls were read.
use Rattle.std.proofs.Common.{◌≡◌, inl, inr, ⊎_elim, ℕ, ◌%◌, nat_eq, cond, Bool, true, false, List, [], ◌∷◌, ◌++◌, sym, refl, ap, ◌∙◌, subst, append_assoc, append-nil, Some, None}
use Rattle.std.specs.List.{flat_map, AllByRecursion}
use Rattle.std.proofs.Math.Logic.{∥∥₁_map₂}
use Rattle.rand_chacha.specs.ChaCha.{ChaCha}
use Rattle.ck_calls.specs.declared.reply.Reply.{Reply}
use Rattle.door.specs.Ends.{HasGiven, Reading, Writing}
use Rattle.mech.specs.declared.job.Job.{Job}
use Rattle.mech.specs.declared.done.Done.{Done}
use Rattle.serve_base.specs.declared.out.Out.TheVariants.{Reply as OutReply, Ask as AskOut}
use Rattle.serve_base.specs.Short.{IsShort, IsShortTask}
use Rattle.serve_base.specs.Shown.{task_of}
use Rattle.model_worlds.specs.Traces.{replies_to}
use Rattle.hall_log.specs.Lists.{of}
use Rattle.ck_calls.specs.declared.app_call.AppCall.{AppCall}
use Rattle.hall_log.specs.declared.event.Event.TheVariants.{Call as CallEvent, Finish as FinishEvent}
use Rattle.hall_log.specs.Histories.{AllOwn, Exchange, History}
use Rattle.hall_log.specs.Suiting.{HistorySuits, Suits}
use Rattle.hall_log.proofs.Lists.{of_here}
use Rattle.hall.specs.Histories.{told_in}
use Rattle.hall.specs.SeatEvents.{asked_in, heard_in, IsAwaitedReply}
use Rattle.hall.proofs.Turns.{asked_in-append}
use Rattle.line.specs.Connecting.{refusal_frame}
use Rattle.line_places.specs.Due.{AnswerLaw, Due, RefuseLaw}
use Rattle.line.specs.Permits.{IsGiven}
use Rattle.line.specs.Turns.{Ask, asks, messages, reply_frame}
use Rattle.line.specs.Whole.{Account, LeaveLaw, Owes}
use Rattle.line.specs.Words.{words_for}
use Rattle.line_places.specs.declared.client.Client.{Client}
use Rattle.line_places.specs.Keeping.{IsLife, PlacesKeep, calls_of}
use Rattle.line_places.specs.Permitting.{MayGoOnAt, MayTakeAt}
use Rattle.line_places.specs.Standing.{Stands, StandsBy, ask_in, asks_in}
use Rattle.line_places.specs.Tying.{Tied}
use Rattle.line_places.proofs.Doing.{one-client}
use Rattle.hall_sockets.specs.declared.seat.SocketSeat.{SocketSeat}
use Rattle.hall_sockets.specs.Calling.{called, called_by, called_in}
use Rattle.hall_sockets.specs.Staying.{MayGoOnFrom, SeatStandsAfter, WaitsFor}
use Rattle.hall_sockets.specs.Telling.{calls_in}
use Rattle.hall_sockets.specs.Writing.{IsRead, MayWrite}
use Rattle.hall_sockets.proofs.Calling.{asks-calls, called-own, life-app, told-own}
use Rattle.hall_sockets.proofs.Standing.{asked-by, heard-by, owed-by}

map3 : {A B C D : Type 0} → ∥ A ∥₁ → ∥ B ∥₁ → ∥ C ∥₁ → (A → B → C → D) → ∥ D ∥₁
map3 {A} {B} {C} {D} a b c f = let both : ∥ A × B ∥₁ = ∥∥₁_map₂ a b (λ x y. (x, y)) in ∥∥₁_map₂ both c (λ xy z. f xy.0 xy.1 z)

-- what the client of a seat has given and taken
abbrev IsKept : {S L C : Type 0} → SocketSeat S L C → Type 0
IsKept seat = PlacesKeep seat.clients.seed seat.clients.number seat.clients.places.items seat.clients.past.items seat.clients.asked.items
    seat.clients.told.items

-- ---- a reply is short

all-back : {A : Type 0} (P : A → Type 0) (xs ys : List A) → AllByRecursion P (xs ++ ys) → AllByRecursion P ys
all-back P [] ys all = all
all-back P (x ∷ xs) ys all = all-back P xs ys all.1

of-suits : (s : ℕ) (history : History) → HistorySuits history → AllByRecursion (λ x. Suits x.0 x.1) (of s history)
of-suits s [] suited = tt
of-suits s (x ∷ xs) suited = by (nat_eq x.0 s) (of-suits s xs suited.1) where
  by : (b : Bool) → AllByRecursion (λ x. Suits x.0 x.1) (of s xs) → AllByRecursion (λ x. Suits x.0 x.1) (cond b (x.1 ∷ of s xs) (of s xs))
  by true rest = (suited.0, rest)
  by false rest = rest

abbrev first-told : Reply → List (ℕ × Reply) → Reply
first-told reply [] = reply
first-told reply (x ∷ xs) = x.1

same-reply : (a b : ℕ) (x y : Reply) → ◌≡◌ {A = List (ℕ × Reply)} ((a, x) ∷ []) ((b, y) ∷ []) → x ≡ y
same-reply a b x y e = ap (first-told x) e

-- the reply to a short call is short
short-reply : {S L C : Type 0} (given : ℕ → List ℕ → Type 0) (seat : SocketSeat S L C) (history : History) (app : ℕ) (reply : Reply)
    → IsAwaitedReply (WaitsFor given seat) (of seat.clients.number history) app reply → HistorySuits history → IsShort reply
short-reply given seat history app reply turn suited =
    let short = turn.waits_for.4 in
    let all = of-suits seat.clients.number history suited in
    let here = all-back (λ x. Suits x.0 x.1) turn.before turn.more (subst (AllByRecursion (λ x. Suits x.0 x.1)) turn.now_is all) in
    ⊎_elim
    (λ (t : (r : Reply) × (turn.more ≡ (CallEvent turn.call, Some (OutReply r)) ∷ [])).
    let suits = subst (AllByRecursion (λ x. Suits x.0 x.1)) t.1 here in
    subst IsShort (same-reply turn.call.app app t.0 reply (sym (ap heard_in t.1) ∙ turn.heard)) (suits.0 short))
    (λ (t : (j : Job) × (d : Done) × (r : Reply) × (d.job.value ≡ j)
    × (turn.more ≡ (CallEvent turn.call, Some (AskOut j)) ∷ (FinishEvent turn.call.app d, Some (OutReply r)) ∷ [])).
    let suits = subst (AllByRecursion (λ x. Suits x.0 x.1)) t.4 here in
    subst IsShort (same-reply turn.call.app app t.2 reply (sym (ap heard_in t.4) ∙ turn.heard))
    (suits.1.0 (subst (λ j. IsShortTask (task_of j.work.value)) (sym t.3) (suits.0 short))))
    turn.turn

module _ (named_given given : ℕ → List ℕ → Type 0) (gives : (app : ℕ) (bytes : List ℕ) → given app bytes → named_given app bytes) where
  -- what a client read, its reader has given
  has-read : (c : Client Reading Writing) → Tied given (λ r. r) (λ w. w) c → HasGiven named_given c.app c.connection.read
  has-read c t = ⊎_elim (λ (none : c.reader.inner.gave ≡ []). inl (t.read ∙ none))
      (λ (g : given c.reader.inner.app c.reader.inner.gave). inr
      (gives c.app c.connection.read (subst (λ (z : ℕ × List ℕ). given z.0 z.1) (λ i. (t.reader i, sym t.read i)) g))) t.has

  -- and so it has with what it reads now
  has-more : (c : Client Reading Writing) (more : List ℕ) → Tied given (λ r. r) (λ w. w) c → IsGiven given c.reader.inner more
      → HasGiven named_given c.app (c.connection.read ++ more)
  has-more c more t is = ⊎_elim
      (λ (none : more ≡ []). subst (HasGiven named_given c.app)
      (sym (ap (λ l. c.connection.read ++ l) none ∙ append-nil c.connection.read)) (has-read c t))
      (λ (g : given c.reader.inner.app (c.reader.inner.gave ++ more)). inr
      (gives c.app (c.connection.read ++ more)
      (subst (λ (z : ℕ × List ℕ). given z.0 z.1) (λ i. (t.reader i, sym t.read i ++ more)) g))) is

  module _ (seed : List ℕ) (history : History) where
    -- part of what is due to a client may be written
    may-part : (c : Client Reading Writing) → Tied given (λ r. r) (λ w. w) c → (read out front bytes rest : List ℕ)
        → HasGiven named_given c.app read
        → Due (words_for seed c.app) read (of c.app (called_in history)) (replies_to c.app (told_in history))
        (c.connection.written ++ out) → out ≡ (front ++ bytes) ++ rest
        → MayWrite named_given seed c.writer.inner.app history (c.writer.inner.took ++ front) bytes
    may-part c t read out front bytes rest has due is =
        let took = c.writer.inner.took in
        let whole : c.connection.written ++ out ≡ ((took ++ front) ++ bytes) ++ rest =
        ap (λ l. l ++ out) t.written ∙ ap (λ l. took ++ l) is ∙ sym (append_assoc took (front ++ bytes) rest)
        ∙ ap (λ l. l ++ rest) (sym (append_assoc took front bytes)) in
        subst (λ app. MayWrite named_given seed app history (took ++ front) bytes) (sym t.writer) (record {
          read = read;
          lacking = rest;
          has = has;
          due = subst (Due (words_for seed c.app) read (of c.app (called_in history)) (replies_to c.app (told_in history))) whole due;
        })

    module _ {S L C : Type 0} (seat : SocketSeat S L C) (seeded : seed ≡ seat.clients.seed) (own : AllOwn history) (P : Type 0)
        (p : P) where
      first-is : (c : Client Reading Writing) → IsLife seat.clients.places.items seat.clients.past.items c → IsKept seat
          → c.first.value ≡ words_for seed c.app
      first-is c life k = k.words c life ∙ ap (λ s. words_for s c.app) (sym seeded)

      mine : (c : Client Reading Writing) → IsLife seat.clients.places.items seat.clients.past.items c → IsKept seat
          → c.app % 4 ≡ seat.clients.number
      mine c life k = life-app seat.clients.seed seat.clients.number seat.clients.places.items seat.clients.past.items
          seat.clients.asked.items seat.clients.told.items seat.clients.worker k c life

      -- the refusals of what is no call may be written
      pub may-go-on : RefuseLaw → SeatStandsAfter given seat (of seat.clients.number history) → (j : ℕ)
          → MayGoOnAt given (λ app taken bytes. P × ∥ MayWrite named_given seed app history taken bytes ∥₁) (λ r. r)
          (λ w. w) seat.clients.places.items j
      may-go-on refuse stands j c at owed going payloads more held each split is front bytes rest parts_is = (
        p,
        map3 seat.clients.kept stands.2 c.stands (λ k all h.
            let life : IsLife seat.clients.places.items seat.clients.past.items c = inr (j, at) in
            let parts = k.parts c life in
            let account : Account c.first.value c.connection (asks_in c.asked.items) c.told.items =
            subst (λ e. StandsBy e c.first.value c.connection c.asked.items c.told.items) going
            (subst (λ b. Stands c.first.value c.connection b c.asked.items c.told.items) owed h) in
            let due = refuse c.first.value c.connection (asks_in c.asked.items) c.told.items payloads more held account each split in
            may-part c (all c life) (c.connection.read ++ more)
            (c.connection.pending ++ flat_map refusal_frame payloads) front bytes rest (has-more c more (all c life) is)
            (subst (λ (z : ChaCha × List Ask × List Reply × List ℕ). Due z.0 (c.connection.read ++ more) z.1 z.2 z.3)
            (λ i. (
              first-is c life k i,
              (ap asks_in (sym parts.0) ∙ called-own seat seat.clients.number history own stands.0 c.app (mine c life k)) i,
              (sym parts.1 ∙ told-own seat seat.clients.number history own seat.clients.told.items stands.1 c.app (mine c life k)) i,
              append_assoc c.connection.written c.connection.pending (flat_map refusal_frame payloads) i,
            )) due)
            parts_is),
      )

      -- and so may the reply to the call that is owed one
      pub may-take : AnswerLaw → HistorySuits history → (app : ℕ) (reply : Reply)
          → IsAwaitedReply (WaitsFor given seat) (of seat.clients.number history) app reply
          → MayTakeAt (λ app taken bytes. P × ∥ MayWrite named_given seed app history taken bytes ∥₁)
          (λ w. w) seat.clients.places.items seat.called_place reply
      may-take answer suited app reply turn c at going = (
        short-reply given seat history app reply turn suited,
        λ front bytes rest parts_is.
            let now = of seat.clients.number history in
            let owed = owed-by given seat now app reply turn in
            let same : owed.client ≡ c = one-client seat.clients.places.items seat.called_place owed.is.place at.place owed.client c
            owed.is.at at.at owed.is.client at.client in
            let named : c.app ≡ app = sym (ap (λ x. x.app) same) ∙ owed.app_is in (
              p,
              map3 seat.clients.kept turn.waits_for.3 c.stands (λ k all h.
                  let life : IsLife seat.clients.places.items seat.clients.past.items c = inr (seat.called_place, at) in
                  let parts = k.parts c life in
                  let owes : Owes c.first.value c.connection (asks_in c.asked.items) c.told.items =
                  subst (λ b. Stands c.first.value c.connection b c.asked.items c.told.items)
                  (sym (ap (λ x. x.is_owed) same) ∙ owed.owed) h in
                  let due = answer c.first.value c.connection reply (asks_in c.asked.items) c.told.items owes in
                  let told : c.told.items ++ reply ∷ [] ≡ replies_to c.app (told_in history) =
                  ap (λ l. l ++ reply ∷ []) (sym parts.1) ∙ sym (of_here seat.clients.told.items c.app reply)
                  ∙ ap (λ a. of c.app (seat.clients.told.items ++ (a, reply) ∷ [])) named
                  ∙ told-own seat seat.clients.number history own (seat.clients.told.items ++ (app, reply) ∷ [])
                  (heard-by given seat now app reply turn) c.app (mine c life k) in
                  may-part c (all c life) c.connection.read (c.connection.pending ++ reply_frame reply) front bytes rest
                  (has-read c (all c life))
                  (subst (λ (z : ChaCha × List Ask × List Reply × List ℕ). Due z.0 c.connection.read z.1 z.2 z.3)
                  (λ i. (
                    first-is c life k i,
                    (ap asks_in (sym parts.0) ∙ called-own seat seat.clients.number history own
                        (asked-by given seat now app reply turn) c.app (mine c life k)) i,
                    told i,
                    append_assoc c.connection.written c.connection.pending (reply_frame reply) i,
                  )) due)
                  parts_is),
            ),
      )

    -- however it stays meanwhile
    pub may-from : {S L C : Type 0} (seat : SocketSeat S L C) → seed ≡ seat.clients.seed → AllOwn history → (P : Type 0) → P
        → RefuseLaw → SeatStandsAfter given seat (of seat.clients.number history)
        → MayGoOnFrom given (λ app taken bytes. P × ∥ MayWrite named_given seed app history taken bytes ∥₁) seat
    may-from seat seeded own P p refuse stands now stays j = may-go-on now (seeded ∙ sym stays.1) own P p refuse (
      stays.5 ∙ stands.0 ∙ ap (λ n. asked_in (of n history)) (sym stays.0),
      stays.4 ∙ stands.1
          ∙ ap (λ n. heard_in (of n history)) (sym stays.0),
      stays.6 stands.2,
    ) j

  -- ---- a call was read

  called-more : (xs : List Exchange) (c : AppCall) → called_by (xs ++ (CallEvent c, None) ∷ []) ≡ called_by xs ++ (c.app, ask_in c) ∷ []
  called-more [] c = refl
  called-more (x ∷ xs) c = ap (λ l. called x.0 ++ l) (called-more xs c)
      ∙ sym (append_assoc (called x.0) (called_by xs) ((c.app, ask_in c) ∷ []))

  pub was-read : {S L C : Type 0} → LeaveLaw → (seed : List ℕ) (seat : SocketSeat S L C) → seed ≡ seat.clients.seed
      → (before : List Exchange) (c : AppCall) → WaitsFor given seat before c → ∥ IsRead named_given seed before c ∥₁
  was-read leave seed seat seeded before c waits =
      let owed = waits.2 in
      let it = owed.client in
      map3 seat.clients.kept waits.3 it.stands (λ k all h.
      let life : IsLife seat.clients.places.items seat.clients.past.items it = inr (seat.called_place, owed.is) in
      let parts = k.parts it life in
      let t = all it life in
      let lived = leave it.first.value it.connection (asks_in it.asked.items) it.told.items
      (subst (λ b. Stands it.first.value it.connection b it.asked.items it.told.items) owed.owed h) in
      let more = before ++ (CallEvent c, None) ∷ [] in
      let asked : calls_in (asked_in more) ≡ seat.clients.asked.items =
      ap calls_in (asked_in-append before ((CallEvent c, None) ∷ []) ∙ sym waits.0) ∙ seat.calls in
      record {
        read = it.connection.read;
        payloads = lived.payloads;
        rest = lived.rest;
        has = subst (λ app. HasGiven named_given app it.connection.read) owed.app_is (has-read it t);
        each = lived.each;
        read_is = lived.read;
        asked = sym (of_here (called_by before) c.app (ask_in c)) ∙ ap (of c.app) (sym (called-more before c))
            ∙ sym (asks-calls c.app more) ∙ ap (λ l. asks_in (calls_of c.app l)) asked
            ∙ ap (λ a. asks_in (calls_of a seat.clients.asked.items)) (sym owed.app_is) ∙ ap asks_in parts.0 ∙ lived.asked_are
            ∙ ap (λ w. asks w (messages lived.payloads))
            (k.words it life ∙ ap (λ s. words_for s it.app) (sym seeded) ∙ ap (words_for seed) owed.app_is);
      })
