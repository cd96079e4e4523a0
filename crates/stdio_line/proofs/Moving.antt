-- A call of an application is a run of two events, and runs follow one another.
use Rattle.std.proofs.Common.{◌≡◌, ◌≢◌, ℕ, List, [], ◌∷◌, ◌++◌, map, Option, Some, None, refl, sym, ◌∙◌, ap, subst, inl, inr, append_assoc}
use Rattle.std.specs.Prelude.{option_to_list}
use Rattle.std.specs.Global.{Vec}
use Rattle.std.proofs.lemmas.Bool.{cases_eq, eq-eqb, ne_eqb}
use Rattle.std.proofs.lemmas.List.{append-nil}
use Rattle.ck_calls.specs.declared.call.Call.{Call as CallType}
use Rattle.ck_calls.specs.declared.reply.Reply.{Reply}
use Rattle.model_views.specs.declared.fault.Fault.{Fault}
use Rattle.model_worlds.specs.declared.event.Event.TheVariants.{Call, Finish}
use Rattle.serve_base.specs.declared.out.Out.TheVariants.{Reply as OutReply}
use Rattle.model_views.specs.Views.{View, Question}
use Rattle.model_views.specs.Answering.{Said, Replies, Asks, Reveal}
use Rattle.model_views.specs.Refusals.{resource_error}
use Rattle.model_worlds.specs.Worlds.{World, value_of, Move, Goes, Refuses, event_of, reveal_to_call, reveal_to_task, answer_at, result_at, change_for, called, says_called, told, refused, finish_refused, finished, happens, reply_to, after, replies}
use Rattle.token.specs.States.{move_of, moved, HasJobs, Lasting, LeavesBy, LeftBy, LeftAfter, call_change}
use Rattle.stdio_line.specs.Lines.{Act, Calls, Finishes, act_of, Moved}
use Rattle.model_views.proofs.Blind.{Leaves}
use Rattle.model_answers.specs.Answers.{answer}
use Rattle.model_answers.proofs.Proper.{over-result, leaves-answer as token_leaves}
use Rattle.model_worlds.proofs.Tries.{seen-question}

-- ---- the pending call of an application, over every answer

-- a reply leaves the pending call as it was, and a call that returns a job is pending
abbrev left_by : Said → Option Question → Option Question
left_by (Replies reply) old = old
left_by (Asks question) old = Some question

left : (s : Said) (old new : Option Question) → Leaves old s new → new ≡ left_by s old
left (Replies reply) old new is = is
left (Asks question) old new is = is

leaves-answer : (v : View) (c : CallType) (random : List ℕ) (r : Reveal)
    → (answer v c random r).view.question ≡ left_by (answer v c random r).says v.question
leaves-answer v c random r = left (answer v c random r).says v.question (answer v c random r).view.question (token_leaves v c random r)

-- ---- no call is pending

abbrev pub Idle : World → Type 0
Idle w = (b : ℕ) → (w.views b).question ≡ None

abbrev asked : ℕ → Option Question → List (ℕ × Question)
asked app o = map (λ q. (app, q)) (option_to_list o)

pub idle : (w : World) → HasJobs w [] → Idle w
idle w h b = only (w.views b).question (h b) where
  only : (o : Option Question) → [] ≡ asked b o → o ≡ None
  only None e = refl
  only (Some q) e = cc

pub no_jobs : (w : World) → Idle w → HasJobs w []
no_jobs w i b = rw (i b) refl

-- ---- runs follow one another

after-append : (w : World) (ms ns : List Move) → after w (ms ++ ns) ≡ after (after w ms) ns
after-append w [] ns = refl
after-append w (m ∷ ms) ns = after-append (happens w m) ms ns

replies-append : (w : World) (ms ns : List Move) → replies w (ms ++ ns) ≡ replies w ms ++ replies (after w ms) ns
replies-append w [] ns = refl
replies-append w (m ∷ ms) ns = ap (λ rs. reply_to w m ++ rs) (replies-append (happens w m) ms ns)
    ∙ sym (append_assoc (reply_to w m) (replies (happens w m) ms) (replies (after (happens w m) ms) ns))

acts-append : (ms ns : List Move)
    → map (λ m. act_of (event_of m)) (ms ++ ns) ≡ map (λ m. act_of (event_of m)) ms ++ map (λ m. act_of (event_of m)) ns
acts-append [] ns = refl
acts-append (m ∷ ms) ns = ap (λ as'. act_of (event_of m) ∷ as') (acts-append ms ns)

-- what could be left before may be known to be less
left-more : (p q : Option Lasting → Type 0) (w : World) (m : Move) (x : Option Lasting) → (p x → q x) → LeftBy p w m x → LeftBy q w m x
left-more p q w (Goes event) x f (inl l) = inl (f l.0, l.1)
left-more p q w (Goes event) x f (inr l) = inr l
left-more p q w (Refuses event fault) x f (inl l) = inl (f l)
left-more p q w (Refuses event fault) x f (inr l) = inr l

left-after-more : (p q : Option Lasting → Type 0) (w : World) (ms : List Move) (x : Option Lasting) → (p x → q x)
    → LeftAfter p w ms x → LeftAfter q w ms x
left-after-more p q w [] x f l = f l
left-after-more p q w (m ∷ ms) x f l = left-after-more (LeftBy p w m) (LeftBy q w m) (happens w m) ms x (left-more p q w m x f) l

left-append : (p : Option Lasting → Type 0) (w : World) (ms ns : List Move) (x : Option Lasting)
    → LeftAfter (LeftAfter p w ms) (after w ms) ns x → LeftAfter p w (ms ++ ns) x
left-append p w [] ns x l = l
left-append p w (m ∷ ms) ns x l = left-append (LeftBy p w m) (happens w m) ms ns x l

pub moved-none : (showing : World → Type 0) (prior : Option Lasting → Type 0) (w : World) → showing w → HasJobs w []
    → Moved showing prior prior w [] []
moved-none showing prior w s h = record { moves = []; took = refl; tells = refl; shows = s; idle = h; leaves = λ l may. may }

pub moved-then : (showing showing' : World → Type 0) (prior mid left : Option Lasting → Type 0) (w : World)
    (done done' : List (ℕ × Act)) (told told' : List (ℕ × Reply))
    → (p : Moved showing prior mid w done told) → Moved showing' mid left (after w p.moves) done' told'
    → Moved showing' prior left w (done ++ done') (told ++ told')
moved-then showing showing' prior mid left w done done' told told' p q = record {
  moves = p.moves ++ q.moves;
  took = acts-append p.moves q.moves ∙ ap (λ as'. as' ++ map (λ m. act_of (event_of m)) q.moves) p.took ∙ ap (λ as'. done ++ as') q.took;
  tells = replies-append w p.moves q.moves ∙ ap (λ rs. rs ++ replies (after w p.moves) q.moves) p.tells ∙ ap (λ rs. told ++ rs) q.tells;
  shows = subst showing' (sym (after-append w p.moves q.moves)) q.shows;
  idle = subst (λ v. HasJobs v []) (sym (after-append w p.moves q.moves)) q.idle;
  leaves = λ l may. left-append prior w p.moves q.moves l
      (left-after-more mid (LeftAfter prior w p.moves) (after w p.moves) q.moves l (p.leaves l) (q.leaves l may));
}

-- ---- a result

abbrev Others : World → ℕ → Type 0
Others w app = (b : ℕ) → b ≢ app → (w.views b).question ≡ None

over-finished : (w : World) (app : ℕ) (q : Question) → Others w app → Idle (finished w app (Some q))
over-finished w app q others b = elim (cases_eq b app) [
  | inl e ↦ rw (eq-eqb b app e) (over-result (w.views app) (value_of q.task) (reveal_to_task w app q.task))
  | inr d ↦ rw (ne_eqb b app d) (seen-question (change_for b w app (result_at w app q)) (w.views b) ∙ others b d)
]

over-refused : (w : World) (app : ℕ) (q : Question) → Others w app → Idle (finish_refused w app (Some q))
over-refused w app q others b = elim (cases_eq b app) [
  | inl e ↦ rw (eq-eqb b app e) refl
  | inr d ↦ rw (ne_eqb b app d) (others b d)
]

passed : (w : World) (app : ℕ) → (w.views app).question ≡ None → Idle w → Idle (finished w app (w.views app).question)
passed w app none i b = rw none (i b)

-- ---- a call

module _ (w : World) (i : Idle w) (app : ℕ) (call : CallType) (random : Vec ℕ) (showing : World → Type 0)
    (prior left : Option Lasting → Type 0) where
  abbrev answered : World
  answered = called w app call random.items None

  -- another application's pending call stays as it was
  others : (b : ℕ) → b ≢ app → (answered.views b).question ≡ None
  others b d = rw (ne_eqb b app d) (seen-question (change_for b w app (answer_at w app call random.items)) (w.views b) ∙ i b)

  own : (s : Said) → s ≡ (answer_at w app call random.items).says → (answered.views app).question ≡ left_by s None
  own s says = rw (eq-eqb app app refl)
      (leaves-answer (w.views app) call random.items (reveal_to_call w app call)
      ∙ ap (λ t. left_by t (w.views app).question) (sym says) ∙ ap (left_by s) (i app))

  abbrev Done : List (ℕ × Act)
  Done = (app, Calls call random.items) ∷ (app, Finishes) ∷ []

  -- that is answered
  pub moved-reply : (r : Reply) → Replies r ≡ says_called w app call random.items (resource_error r)
      → showing (called w app call random.items (resource_error r))
      → ((l : Option Lasting) → left l → LeavesBy prior (call_change w app call random.items) answered (resource_error r) l)
      → Moved showing prior left w Done ((app, r) ∷ [])
  moved-reply r says sh l = both (resource_error r) says sh l where
    both : (o : Option Fault) → Replies r ≡ says_called w app call random.items o → showing (called w app call random.items o)
        → ((l : Option Lasting) → left l → LeavesBy prior (call_change w app call random.items) answered o l)
        → Moved showing prior left w Done ((app, r) ∷ [])
    both None is s l =
        let none : (answered.views app).question ≡ None = own (Replies r) is in
        record {
          moves = Goes (Call app call random) ∷ Goes (Finish app) ∷ [];
          took = refl;
          tells = rw none (ap (λ t. told app t ++ []) (sym is));
          shows = rw none s;
          idle = no_jobs (finished answered app (answered.views app).question)
              (passed answered app none (λ b. elim
              (cases_eq b app) [ inl e ↦ ap (λ n. (answered.views n).question) e ∙ none | inr d ↦ others b d ]));
          leaves = λ x may. inl (l x may, rw none refl);
        }
    both (Some fault) is s l =
        let none : (w.views app).question ≡ None = i app in
        record {
          moves = Refuses (Call app call random) fault ∷ Goes (Finish app) ∷ [];
          took = refl;
          tells = rw none (ap (λ t. told app t ++ []) (sym is));
          shows = rw none s;
          idle = no_jobs (finished w app (w.views app).question) (passed w app none i);
          leaves = λ x may. inl (l x may, rw none refl);
        }

  -- that returns a job, whose result is taken
  pub moved-ask : (mid : Option Lasting → Type 0) (r : Reply) (q : Question) → Asks q ≡ (answer_at w app call random.items).says
      → ((answered.views app).question ≡ Some q → reply_to answered (move_of (Finish app) (OutReply r)) ≡ (app, r) ∷ [])
      → ((answered.views app).question ≡ Some q → showing (happens answered (move_of (Finish app) (OutReply r))))
      → ((l : Option Lasting) → mid l → LeavesBy prior (call_change w app call random.items) answered None l)
      → ((answered.views app).question ≡ Some q → (l : Option Lasting) → left l → LeftBy mid answered (move_of (Finish app) (OutReply r)) l)
      → Moved showing prior left w Done ((app, r) ∷ [])
  moved-ask mid r q says tells sh l k =
      let out : (answered.views app).question ≡ Some q = own (Asks q) says in
      both (resource_error r) out (tells out) (sh out) (k out) where
        both : (o : Option Fault) → (answered.views app).question ≡ Some q
            → reply_to answered (moved (Finish app) o) ≡ (app, r) ∷ [] → showing (happens answered (moved (Finish app) o))
            → ((l : Option Lasting) → left l → LeftBy mid answered (moved (Finish app) o) l)
            → Moved showing prior left w Done ((app, r) ∷ [])
        both None out t s k = record {
          moves = Goes (Call app call random) ∷ Goes (Finish app) ∷ [];
          took = refl;
          tells = ap (λ x. told app x ++ (reply_to answered (Goes (Finish app)) ++ [])) (sym says)
              ∙ append-nil (reply_to answered (Goes (Finish app))) ∙ t;
          shows = s;
          idle = no_jobs (finished answered app (answered.views app).question)
              (subst (λ o. Idle (finished answered app o)) (sym out) (over-finished answered app q others));
          leaves = λ x may. left-more mid (LeftBy prior w (Goes (Call app call random))) answered (Goes (Finish app)) x (l x) (k x may);
        }
        both (Some fault) out t s k = record {
          moves = Goes (Call app call random) ∷ Refuses (Finish app) fault ∷ [];
          took = refl;
          tells = ap (λ x. told app x ++ (reply_to answered (Refuses (Finish app) fault) ++ [])) (sym says)
              ∙ append-nil (reply_to answered (Refuses (Finish app) fault)) ∙ t;
          shows = s;
          idle = no_jobs (refused answered (Finish app))
              (subst (λ o. Idle (finish_refused answered app o)) (sym out) (over-refused answered app q others));
          leaves = λ x may. left-more mid (LeftBy prior w (Goes (Call app call random))) answered (Refuses (Finish app) fault) x
              (l x) (k x may);
        }
