-- A run goes on by one event.
use Rattle.std.proofs.Common.{◌≡◌, ℕ, List, [], ◌∷◌, ◌++◌, map, Option, inl, inr, refl, sym, ◌∙◌, ap, append_assoc}
use Rattle.ck_calls.specs.declared.reply.Reply.{Reply}
use Rattle.mech.specs.declared.job.Job.{Job}
use Rattle.model_worlds.specs.declared.event.Event.{Event}
use Rattle.model_worlds.specs.Worlds.{World, Move, Goes, Refuses, event_of, happens, reply_to, after, replies}
use Rattle.model_runs.specs.Applications.{HasJobs}
use Rattle.model_runs.specs.Runs.{Lasting, LeftBy, LeftAfter, RunAdvances, IsRun}
use Rattle.lists.proofs.IndexLemmas.{append_nil}
use Rattle.model_worlds.proofs.Told.{is_told}
use Rattle.model_worlds.proofs.Tries.{sound-run}

pub after-append : (w : World) (ms : List Move) (m : Move) → after w (ms ++ m ∷ []) ≡ happens (after w ms) m
after-append w [] m = refl
after-append w (x ∷ ms) m = after-append (happens w x) ms m

events-append : (ms : List Move) (m : Move) → map event_of (ms ++ m ∷ []) ≡ map event_of ms ++ event_of m ∷ []
events-append [] m = refl
events-append (x ∷ ms) m = ap (λ es. event_of x ∷ es) (events-append ms m)

replies-append : (w : World) (ms : List Move) (m : Move) → replies w (ms ++ m ∷ []) ≡ replies w ms ++ reply_to (after w ms) m
replies-append w [] m = append_nil (reply_to w m)
replies-append w (x ∷ ms) m = ap (λ rs. reply_to w x ++ rs) (replies-append (happens w x) ms m)
    ∙ sym (append_assoc (reply_to w x) (replies (happens w x) ms) (reply_to (after (happens w x) ms) m))

pub left-append : (prior : Option Lasting → Type 0) (w : World) (ms : List Move) (m : Move) (x : Option Lasting)
    → LeftBy (LeftAfter prior w ms) (after w ms) m x → LeftAfter prior w (ms ++ m ∷ []) x
left-append prior w [] m x l = l
left-append prior w (y ∷ ms) m x l = left-append (LeftBy prior w y) (happens w y) ms m x l

-- what could be left before may be known to be less
pub left-more : (p q : Option Lasting → Type 0) (w : World) (m : Move) (x : Option Lasting) → (p x → q x) → LeftBy p w m x → LeftBy q w m x
left-more p q w (Goes event) x f (inl l) = inl (f l.0, l.1)
left-more p q w (Goes event) x f (inr l) = inr l
left-more p q w (Refuses event fault) x f (inl l) = inl (f l)
left-more p q w (Refuses event fault) x f (inr l) = inr l

pub nothing_yet : (shows : World → Type 0) (prior : Option Lasting → Type 0) (w : World) (events : List Event)
    (out : List (ℕ × Job)) → shows w → HasJobs w out → IsRun shows prior prior w events [] events out
nothing_yet shows prior w events out s h =
    record {
      moves = [];
      took = refl;
      replied = refl;
      shows = s;
      jobs = h;
      leaves = λ x l. l;
      private = λ app. is_told app w [];
      tries = λ s sound. sound-run s w [] sound;
    }

pub one_more : (sure : Type 0) (shows shows' : World → Type 0) (prior left left' : Option Lasting → Type 0) (w : World)
    (events rest rest' : List Event) (said said' : List (ℕ × Reply)) (out out' : List (ℕ × Job)) → sure
    → IsRun shows prior left w events said rest out → RunAdvances sure shows shows' left left' rest out said rest' out' said'
    → IsRun shows' prior left' w events said' rest' out'
one_more sure shows shows' prior left left' w events rest rest' said said' out out' known so a =
    let st = a.step known (after w so.moves) so.shows so.jobs in
    let told : said' ≡ replies w (so.moves ++ st.move ∷ []) =
    a.last ∙ ap (λ xs. xs ++ a.more) so.replied ∙ ap (λ xs. replies w so.moves ++ xs) (sym st.tells)
    ∙ sym (replies-append w so.moves st.move) in
    record {
      moves = so.moves ++ st.move ∷ [];
      took = ap (λ es. es ++ rest') (events-append so.moves st.move ∙ ap (λ e. map event_of so.moves ++ e ∷ []) st.takes)
          ∙ append_assoc (map event_of so.moves) (a.event ∷ []) rest' ∙ ap (λ es. map event_of so.moves ++ es) (sym a.first) ∙ so.took;
      replied = told;
      shows = rw (after-append w so.moves st.move) st.shows;
      jobs = rw (after-append w so.moves st.move) st.jobs;
      leaves = λ x l. left-append prior w so.moves st.move x
          (left-more left (LeftAfter prior w so.moves) (after w so.moves) st.move x (so.leaves x) (st.leaves x l));
      private = λ app. is_told app w (so.moves ++ st.move ∷ []);
      tries = λ s sound. sound-run s w (so.moves ++ st.move ∷ []) sound;
    }
