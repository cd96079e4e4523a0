-- At the end of a line its application disconnects.
use Rattle.std.proofs.Common.{◌≡◌, ℕ, ◌+◌, List, [], Option, refl, sym, ◌∙◌, ap, subst, inl, inr, arith}
use Rattle.std.proofs.lemmas.Bool.{cases_eq, eq-eqb, ne_eqb}
use Rattle.rand_chacha.specs.ChaCha.{ChaCha}
use Rattle.ck_calls.specs.declared.reply.Reply.{Reply}
use Rattle.keep.specs.Keeping.{Terms}
use Rattle.model_worlds.specs.declared.event.Event.TheVariants.{Gone}
use Rattle.model_worlds.specs.Worlds.{World, goes, after}
use Rattle.token.specs.States.{HasIds, HasJobs, TokenState, Shows, ShowsAfter, Lasting, MayLeave, AccountsFor}
use Rattle.serve_base.specs.Stores.{StoreState}
use Rattle.line.specs.Turns.{Message}
use Rattle.stdio_line.specs.Lines.{Act, Leads, LeadsAway, Moved}
use Rattle.stdio_line.proofs.Moving.{Idle, idle, no_jobs}

-- a disconnect leaves no pending call
gone-idle : (w : World) (app : ℕ) → Idle w → Idle (goes w (Gone app))
gone-idle w app i b = elim (cases_eq b app) [
  | inl e ↦ rw (eq-eqb b app e) refl
  | inr d ↦ rw (ne_eqb b app d) (i b)
]

module _ {K : Type 0} (terms : Terms K) where
  -- what a steady keeper has left after a run that gave so many ids at most
  pub ids-moved : (old new : TokenState K) (count given : ℕ) (has : HasIds terms old [] (count + given))
      → terms.is_steady new.store.keep → (prior left : Option Lasting → Type 0) (done : List (ℕ × Act)) (told : List (ℕ × Reply))
      → Moved (ShowsAfter terms has.shows.contents given new) prior left has.world done told → HasIds terms new [] count
  ids-moved old new count given has steady prior left done told moved = record {
    steady = steady;
    world = after has.world moved.moves;
    jobs = moved.idle;
    shows = moved.shows.0;
    ids = let room = has.ids in let few = moved.shows.1 in omega (arith, room, few);
  }

  -- whichever world a token refines, its pending calls are those of the desks
  same-question : (t : TokenState K) (v w : World) → Shows terms t v → Shows terms t w → (b : ℕ)
      → (w.views b).question ≡ (v.views b).question
  same-question t v w s z b = ap (λ u. u.question) (z.depicts.views b) ∙ sym (ap (λ u. u.question) (s.depicts.views b))

  module _ (app : ℕ) (old mid new : TokenState K) (words words' : ChaCha) (ms : List Message) (said : List Reply)
      (p : Leads terms app old mid words words' ms said)
      (went : (w : World) → Shows terms mid w → Shows terms new (goes w (Gone app)))
      (keeps : (w : World) → (s : Shows terms mid w) → ShowsAfter terms s.contents 0 new (goes w (Gone app)))
      (same : new.store ≡ mid.store) (none : (w : World) → Shows terms old w → HasJobs w []) where
    leaves-same : (l : Option Lasting) → MayLeave terms new l → MayLeave terms mid l
    leaves-same l may = (may.0, subst (λ (s : StoreState K). terms.may_leave s.keep may.0) same may.1, may.2)

    ids-away : (count : ℕ) → HasIds terms mid [] count → HasIds terms new [] count
    ids-away count has =
        let kept = keeps has.world has.shows in
        record {
          steady = subst (λ (s : StoreState K). terms.is_steady s.keep) (sym same) has.steady;
          world = goes has.world (Gone app);
          jobs = no_jobs (goes has.world (Gone app)) (gone-idle has.world app (idle has.world has.jobs));
          shows = kept.0;
          ids = let room = has.ids in let none = kept.1 in omega (arith, room, none);
        }

    gone : LeadsAway terms app old new words words' ms said
    gone = record {
      one_each = p.one_each;
      words = p.words;
      accounts = subst (λ (s : StoreState K). AccountsFor (terms.failures old.store.keep) (terms.failures s.keep) said)
          (sym same) p.accounts;
      ids = λ count has. let led = p.ids count has in (led.0, ids-away count led.1);
      run = λ sure w s.
          let line = p.run (ap (λ (t : StoreState K). terms.doubt t.keep) (sym same) ∙ sure) w s (none w s) in
          record {
            told = line.told;
            moved = record {
              moves = line.moved.moves;
              took = line.moved.took;
              tells = line.moved.tells;
              shows = went (after w line.moved.moves) line.moved.shows;
              idle = line.moved.idle;
              leaves = λ l may. line.moved.leaves l (leaves-same l may);
            };
            each = line.each;
            answered = line.answered;
          };
    }

    pub leads-away : (of : ℕ) → app ≡ of → LeadsAway terms of old new words words' ms said
    leads-away of is = subst (λ (a : ℕ). LeadsAway terms a old new words words' ms said) is gone

    pub idle-after : terms.doubt new.store.keep ≡ 0 → (v : World) → Shows terms old v → (w : World) → Shows terms new w → HasJobs w []
    idle-after sure v s w z =
        let line = p.run (ap (λ (t : StoreState K). terms.doubt t.keep) (sym same) ∙ sure) v s (none v s) in
        let u : World = after v line.moved.moves in
        let none-out = gone-idle u app (idle u line.moved.idle) in
        no_jobs w (λ b. same-question new (goes u (Gone app)) w (went u line.moved.shows) z b ∙ none-out b)
