-- One event more in a history.
use Rattle.std.proofs.Common.{◌+◌, ◌≡◌, ℕ, ◌%◌, List, [], ◌∷◌, ◌++◌, map, sym, refl, ap, ◌∙◌, subst, inl, inr, append_assoc, append-nil, arith, Option, Some, None}
use Rattle.std.proofs.lemmas.List.{map-append}
use Rattle.std.proofs.lemmas.Bool.{cases_eq}
use Rattle.ck_calls.specs.declared.reply.Reply.{Reply as ReplyType}
use Rattle.lists.proofs.ListLemmas.{map-push}
use Rattle.mech.specs.declared.job.Job.{Job}
use Rattle.model_worlds.specs.Worlds.{World, event_of, happens, after, replies}
use Rattle.model_worlds.proofs.Told.{is_told}
use Rattle.model_worlds.proofs.Tries.{sound-run}
use Rattle.serve_base.specs.declared.out.Out.{Out}
use Rattle.token.specs.States.{HasJobs, asked_by, jobs_of, AccountsFor, Lasting, LeftAfter, blames}
use Rattle.token.proofs.States.{accounts-more, accounts-none, after-append, blames-more, left-append, left-more}
use Rattle.hall_log.specs.Lists.{of, last}
use Rattle.hall_log.specs.declared.event.Event.{Event}
use Rattle.hall_log.proofs.Lists.{of-append, of_here, of_else, last_snoc}
use Rattle.hall_log.specs.Histories.{Exchange, event_app, History}
use Rattle.hall_log.specs.Putting.{Follows, IsProper, pending}
use Rattle.hall_log.specs.Suiting.{HistorySuits, Suits}
use Rattle.hall.specs.Terms.{MachineTerms}
use Rattle.hall.specs.Histories.{Allowed, AllProper, Counts, HasServed, IsHistory, RunSoFar, Spends, SpendsOver, EventTakesPlace, TellsEvent, Unfolds, as_event, ids_by, ids_in, model_events, move_in, moved_by, moves_in, own_job, replies_in, told_by, told_in, waiting}
use Rattle.hall.proofs.PendingJobs.{allowed_after, event_moved_by, jobs_after, other_after, out_after, own_after, tells_is}
use Rattle.hall.proofs.Turns.{proper_front}

-- ---- a history that is one longer

told_in-append : (ts : History) (t : ℕ × Exchange) → told_in (ts ++ t ∷ []) ≡ told_in ts ++ told_by (event_app t.1.0) t.1.1
told_in-append [] t = append-nil (told_by (event_app t.1.0) t.1.1)
told_in-append (x ∷ xs) t = ap (λ l. told_by (event_app x.1.0) x.1.1 ++ l) (told_in-append xs t)
    ∙ sym (append_assoc (told_by (event_app x.1.0) x.1.1) (told_in xs) (told_by (event_app t.1.0) t.1.1))

ids_in-append : (ts : History) (t : ℕ × Exchange) → ids_in (ts ++ t ∷ []) ≡ ids_in ts + ids_by t.1.0
ids_in-append [] t = omega arith
ids_in-append (x ∷ xs) t = let more = ids_in-append xs t in omega (arith, more)

HistorySuits-append : (ts : History) (t : ℕ × Exchange) → HistorySuits ts → Suits t.1.0 t.1.1 → HistorySuits (ts ++ t ∷ [])
HistorySuits-append [] t a b = (b, tt)
HistorySuits-append (x ∷ xs) t a b = (a.0, HistorySuits-append xs t a.1 b)

unfolds-append : (w : World) (ts : History) (t : ℕ × Exchange) → Unfolds w ts → TellsEvent (after w (moves_in ts)) t.1.0 t.1.1
    → Unfolds w (ts ++ t ∷ [])
unfolds-append w [] t u tells = (tells, tt)
unfolds-append w (x ∷ xs) t u tells = (u.0, unfolds-append (happens w (move_in x.1)) xs t u.1 tells)

-- the front of a history of proper seats is one
proper_before : (ts : History) (t : ℕ × Exchange) → AllProper (ts ++ t ∷ []) → AllProper ts
proper_before ts t proper s =
    proper_front s (of s ts) (of s (t ∷ [])) (subst (λ (l : List Exchange). IsProper s l) (of-append s ts (t ∷ [])) (proper s))

-- the last event follows what its seat did before
proper_last : (ts : History) (s : ℕ) (d : Exchange) → AllProper (ts ++ (s, d) ∷ []) → Follows (last (of s ts)) d.0 × (event_app d.0 % 4 ≡ s)
proper_last ts s d proper = let p = proper s (of s ts) d [] (of_here ts s d) in (p.0, p.1)

-- ---- the run goes on

module _ (showing showing' : World → Type 0) (prior left left' : Option Lasting → Type 0) (w : World) (ts : History) (s : ℕ)
    (e : Event) (o : Option Out) where
  waits_more : (out : List (ℕ × Job)) (v : World) → ((a : ℕ) → jobs_of a out ≡ waiting a (last (of (a % 4) ts)))
      → Follows (last (of s ts)) e → event_app e % 4 ≡ s → TellsEvent v e o
      → (a : ℕ) → jobs_of a (out_after e o out) ≡ waiting a (last (of (a % 4) (ts ++ (s, (e, o)) ∷ [])))
  waits_more out v waits follows own tells a = elim (cases_eq (a % 4) s) [
    | inl is ↦
        let now : last (of (a % 4) (ts ++ (s, (e, o)) ∷ [])) ≡ Some (e, o) =
        ap (λ n. last (of n (ts ++ (s, (e, o)) ∷ []))) is ∙ ap last (of_here ts s (e, o)) ∙ last_snoc (of s ts) (e, o) in
        own_after v out (last (of s ts)) e o a follows (waits a ∙ ap (λ n. waiting a (last (of n ts))) is) tells ∙ ap (waiting a) (sym now)
    | inr differ ↦ other_after out e o a (λ is. differ (ap (λ n. n % 4) is ∙ own)) ∙ waits a
        ∙ ap (λ l. waiting a (last l)) (sym (of_else ts (a % 4) s (e, o) (λ x. differ (sym x))))
  ]

  pub run_more : ((v : World) → showing v → Allowed v e → EventTakesPlace showing' left left' v e o) → Follows (last (of s ts)) e
      → event_app e % 4 ≡ s
      → RunSoFar showing prior left w ts → RunSoFar showing' prior left' w (ts ++ (s, (e, o)) ∷ [])
  run_more turn follows own so =
      let v = after w (moves_in ts) in
      let m = moved_by (as_event e) o in
      let owns : jobs_of (event_app e) so.out ≡ waiting (event_app e) (last (of s ts)) =
      so.waits (event_app e) ∙ ap (λ n. waiting (event_app e) (last (of n ts))) own in
      let takes : EventTakesPlace showing' left left' v e o =
      turn v so.shows (allowed_after v so.out so.jobs (last (of s ts)) e follows owns) in
      let moves : moves_in (ts ++ (s, (e, o)) ∷ []) ≡ moves_in ts ++ m ∷ [] = map-push (λ x. move_in x.1) ts (s, (e, o)) in
      let next : after w (moves_in (ts ++ (s, (e, o)) ∷ [])) ≡ happens v m = ap (after w) moves ∙ after-append w (moves_in ts) m in
      record {
        unfolds = unfolds-append w ts (s, (e, o)) so.unfolds takes.tells;
        shows = subst showing' (sym next) takes.shows;
        leaves = λ l may. subst (λ ms. LeftAfter prior w ms l) (sym moves)
            (left-append prior w (moves_in ts) m l
            (left-more left (LeftAfter prior w (moves_in ts)) v m l (so.leaves l) (takes.leaves l may)));
        out = out_after e o so.out;
        jobs = subst (λ u. HasJobs u (out_after e o so.out)) (sym next)
            (jobs_after v so.out so.jobs (last (of s ts)) e o follows owns takes.tells);
        waits = waits_more so.out v so.waits follows own takes.tells;
      }

pub run_none : (showing : World → Type 0) (prior : Option Lasting → Type 0) (w : World) → showing w → HasJobs w []
    → RunSoFar showing prior prior w []
run_none showing prior w sh idle = record {
  unfolds = tt;
  shows = sh;
  leaves = λ l may. may;
  out = [];
  jobs = idle;
  waits = λ app. refl;
}

-- ---- a whole history is a run of the token's

took_is : (ts : History) → map event_of (moves_in ts) ++ [] ≡ model_events ts
took_is [] = refl
took_is (x ∷ xs) = let a = event_moved_by (as_event x.1.0) x.1.1 in let b = took_is xs in λ i. a i ∷ b i

pub replied_is : (w : World) (ts : History) → Unfolds w ts → told_in ts ≡ replies w (moves_in ts)
replied_is w [] u = refl
replied_is w (x ∷ xs) u = let a = sym (tells_is w x.1.0 x.1.1 u.0) in let b = replied_is (happens w (move_in x.1)) xs u.1 in λ i. a i ++ b i

no_jobs : (w : World) (out : List (ℕ × Job)) → HasJobs w out → ((app : ℕ) → jobs_of app out ≡ []) → HasJobs w []
no_jobs w out h none app = ap (map asked_by) (sym (none app)) ∙ h app

pub history_is : (showing : World → Type 0) (prior left : Option Lasting → Type 0) (w : World) (ts : History)
    → ((s : ℕ) → pending (last (of s ts)) ≡ None)
    → RunSoFar showing prior left w ts → IsHistory showing prior left w ts
history_is showing prior left w ts settled so =
    let replied = replied_is w ts so.unfolds in
    record {
      unfolds = so.unfolds;
      run = record {
        moves = moves_in ts;
        took = took_is ts;
        replied = replied;
        shows = so.shows;
        jobs = no_jobs (after w (moves_in ts)) so.out so.jobs (λ app. so.waits app ∙ ap (own_job app) (settled (app % 4)));
        leaves = so.leaves;
        private = λ app. is_told app w (moves_in ts);
        tries = λ s sound. sound-run s w (moves_in ts) sound;
      };
      moves = refl;
    }

-- ---- what has been served

module _ {T : Type 0} (terms : MachineTerms T) where
  -- what a machine that has ids to spare is known by
  abbrev pub SpareLaw : Type 0
  SpareLaw = (m : T) (w : World) (count : ℕ) → terms.spare m w count → (terms.doubt m ≡ 0) × terms.shows m w

  -- one event more while there are ids
  spends_more : (m n k : T) (ts : History) (s : ℕ) (e : Event) (o : Option Out) → HasServed terms m n ts
      → SpareLaw
      → ((w : World) → Allowed w e → Spends (terms.spare n) (terms.spare k) w e o) → AllProper (ts ++ (s, (e, o)) ∷ [])
      → SpendsOver terms m k (ts ++ (s, (e, o)) ∷ [])
  spends_more m n k ts s e o was law spends proper w count has idle =
      let front = proper_before ts (s, (e, o)) proper in
      let f = proper_last ts s (e, o) proper in
      let v = after w (moves_in ts) in
      let all : count + ids_in (ts ++ (s, (e, o)) ∷ []) ≡ (count + ids_by e) + ids_in ts = let more =
      ids_in-append ts (s, (e, o)) in omega (arith, more) in
      let had : terms.spare m w ((count + ids_by e) + ids_in ts) = subst (λ (n : ℕ). terms.spare m w n) all has in
      let so_far = was.spends front w (count + ids_by e) had idle in
      let so = was.runs (law n v (count + ids_by e) so_far.1).0 w (law m w ((count + ids_by e) + ids_in ts) had).1 idle front in
      let owns : jobs_of (event_app e) so.out ≡ waiting (event_app e) (last (of s ts)) =
      so.waits (event_app e) ∙ ap (λ n. waiting (event_app e) (last (of n ts))) f.1 in
      let last_one = spends v (allowed_after v so.out so.jobs (last (of s ts)) e f.0 owns) count so_far.1 in
      let moves : moves_in (ts ++ (s, (e, o)) ∷ []) ≡ moves_in ts ++ moved_by (as_event e) o ∷ [] =
      map-push (λ x. move_in x.1) ts (s, (e, o)) in
      let next : after w (moves_in (ts ++ (s, (e, o)) ∷ [])) ≡ happens v (moved_by (as_event e) o) =
      ap (after w) moves ∙ after-append w (moves_in ts) (moved_by (as_event e) o) in
      let told : replies_in (told_in (ts ++ (s, (e, o)) ∷ [])) ≡ replies_in (told_in ts) ++ replies_in (told_by (event_app e) o) =
      ap replies_in (told_in-append ts (s, (e, o))) ∙ map-append (λ r. r.1) (told_in ts) (told_by (event_app e) o) in (
        subst (λ (l : List ReplyType). blames l ≡ 0) (sym told)
            (blames-more (replies_in (told_in ts)) (replies_in (told_by (event_app e) o)) 0 so_far.0 last_one.0),
        subst (λ (u : World). terms.spare k u count) (sym next) last_one.1,
      )

  spends_none : (m : T) → SpendsOver terms m m []
  spends_none m w count has idle = (refl, subst (λ (n : ℕ). terms.spare m w n) (omega arith) has)

  pub served_more : (m n k : T) (ts : History) (s : ℕ) (e : Event) (o : Option Out)
      → HasServed terms m n ts → Suits e o
      → Counts (terms.doubt n) (terms.doubt k) (terms.failures n) (terms.failures k) (replies_in (told_by (event_app e) o))
      → (terms.doubt k ≡ 0 → (w : World) → terms.shows n w → Allowed w e
      → EventTakesPlace (terms.shows k) (terms.leaves n) (terms.leaves k) w e o) → SpareLaw
      → ((w : World) → Allowed w e → Spends (terms.spare n) (terms.spare k) w e o)
      → HasServed terms m k (ts ++ (s, (e, o)) ∷ [])
  served_more m n k ts s e o was suits counts turn law spends = record {
    suited = HistorySuits-append ts (s, (e, o)) was.suited suits;
    counts = record {
      doubt = let a = was.counts.doubt in let b = counts.doubt in omega (arith, a, b);
      failures = let a = was.counts.failures in let b = counts.failures in omega (arith, a, b);
      accounts = subst (λ (l : List ReplyType). AccountsFor (terms.failures m) (terms.failures k) l)
          (sym (ap replies_in (told_in-append ts (s, (e, o))) ∙ map-append (λ r. r.1) (told_in ts) (told_by (event_app e) o)))
          (accounts-more (terms.failures m) (terms.failures n) (terms.failures k) (replies_in (told_in ts))
          (replies_in (told_by (event_app e) o)) was.counts.accounts counts.accounts counts.failures);
    };
    runs = λ sure w sh idle proper.
        let honest : terms.doubt n ≡ 0 = let b = counts.doubt in omega (arith, b, sure) in
        let f = proper_last ts s (e, o) proper in
        run_more (terms.shows n) (terms.shows k) (terms.leaves m) (terms.leaves n) (terms.leaves k) w ts s e o (turn sure) f.0 f.1
        (was.runs honest w sh idle (proper_before ts (s, (e, o)) proper));
    spends = spends_more m n k ts s e o was law spends;
  }

  pub served_none : (m : T) → HasServed terms m m []
  served_none m = record {
    suited = tt;
    counts = record {
      doubt = omega arith;
      failures = omega arith;
      accounts = accounts-none (terms.failures m) (terms.failures m) (omega arith);
    };
    runs = λ sure w sh idle proper. run_none (terms.shows m) (terms.leaves m) w sh idle;
    spends = λ proper. spends_none m;
  }
