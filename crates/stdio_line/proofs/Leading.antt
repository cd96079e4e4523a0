-- What a token becomes by one message, and by more.
use Rattle.std.proofs.Common.{◌≡◌, ℕ, ◌+◌, ◌≤◌, List, [], ◌∷◌, ◌++◌, map, length, None, Ok, Err, refl, sym, ◌∙◌, ap, subst, append_assoc, arith}
use Rattle.std.specs.List.{AllByRecursion}
use Rattle.std.proofs.lemmas.List.{length-append}
use Rattle.rand_chacha.specs.ChaCha.{ChaCha}
use Rattle.ck_calls.specs.declared.call.Call.{Call as CallType}
use Rattle.ck_calls.specs.declared.reply.Reply.{Reply}
use Rattle.ck_calls.specs.Need.{random_bytes}
use Rattle.keep.specs.Keeping.{Terms}
use Rattle.wire.specs.declared.fault.WireFault.{WireFault}
use Rattle.wire.specs.declared.fault.WireFault.TheVariants as faults
use Rattle.wire.specs.Messages.{call_in}
use Rattle.model_views.specs.Refusals.{resource_error}
use Rattle.model_worlds.specs.Worlds.{World, after}
use Rattle.token.specs.States.{HasIds, HasJobs, TokenState, Shows, MayLeave, AccountsFor, blames}
use Rattle.token.proofs.States.{accounts-none, accounts-more, accounts-plain, blames-more}
use Rattle.line.specs.Words.{taken}
use Rattle.line.specs.Turns.{Message, messages, words_past, words_after, refusal_of, refusal_in}
use Rattle.line.specs.Connecting.{IsNoCall}
use Rattle.stdio_line.specs.Lines.{Calls, Finishes, acts_of, acts, count_calls, answers, Moved, Leads}
use Rattle.stdio_line.proofs.Moving.{moved-none, moved-then}

-- ---- messages after messages

acts-append : (app : ℕ) (words : ChaCha) (ms ns : List Message)
    → acts app words (ms ++ ns) ≡ acts app words ms ++ acts app (words_after words ms) ns
acts-append app words [] ns = refl
acts-append app words (m ∷ ms) ns = ap (λ x. acts_of app words m ++ x) (acts-append app (words_past words m) ms ns)
    ∙ sym (append_assoc (acts_of app words m) (acts app (words_past words m) ms) (acts app (words_after (words_past words m) ms) ns))

words-append : (words : ChaCha) (ms ns : List Message) → words_after words (ms ++ ns) ≡ words_after (words_after words ms) ns
words-append words [] ns = refl
words-append words (m ∷ ms) ns = words-append (words_past words m) ms ns

calls-append : (ms ns : List Message) → count_calls (ms ++ ns) ≡ count_calls ms + count_calls ns
calls-append [] ns = omega arith
calls-append (Ok call ∷ ms) ns = omega (arith, calls-append ms ns)
calls-append (Err fault ∷ ms) ns = calls-append ms ns

answers-append : (ms ns : List Message) (t u : List (ℕ × Reply)) → length t ≡ count_calls ms
    → answers (ms ++ ns) (t ++ u) ≡ answers ms t ++ answers ns u
answers-append [] ns [] u e = refl
answers-append [] ns (x ∷ t) u e = absurd (omega (arith, e))
answers-append (Ok call ∷ ms) ns [] u e = absurd (omega (arith, e))
answers-append (Ok call ∷ ms) ns (x ∷ t) u e = ap (λ rs. x.1 ∷ rs) (answers-append ms ns t u (omega (arith, e)))
answers-append (Err fault ∷ ms) ns t u e = ap (λ rs. refusal_of fault ∷ rs) (answers-append ms ns t u e)

-- ---- a token

plain-refusal : (fault : WireFault) → resource_error (refusal_of fault) ≡ None
plain-refusal faults.UnknownFunction = refl
plain-refusal faults.Malformed = refl
plain-refusal faults.TooLong = refl
plain-refusal faults.Memory = refl

module _ {K : Type 0} (terms : Terms K) (app : ℕ) where
  none-more : (t : TokenState K) (count : ℕ) → HasIds terms t [] (count + (0 + 0)) → HasIds terms t [] count
  none-more t count has = subst (λ n. HasIds terms t [] n) (omega arith) has

  pub leads-none : (t : TokenState K) (words : ChaCha) → Leads terms app t t words words [] []
  leads-none t words = record {
    one_each = refl;
    words = refl;
    remembers = omega arith;
    failures = omega arith;
    accounts = accounts-none _ _ (omega arith);
    ids = λ count has. (refl, none-more t count has);
    run = λ sure w s h. record { told = []; moved = moved-none (Shows terms t) (MayLeave terms t) w s h; each = refl; answered = refl };
  }

  -- what is no call
  pub leads-refusal : (t : TokenState K) (words : ChaCha) (m : Message) (fault : WireFault) → m ≡ Err fault
      → Leads terms app t t words words (m ∷ []) (refusal_of fault ∷ [])
  leads-refusal t words m fault is = subst (λ n. Leads terms app t t words words (n ∷ []) (refusal_of fault ∷ [])) (sym is) (record {
    one_each = refl;
    words = refl;
    remembers = omega arith;
    failures = omega arith;
    accounts = accounts-plain _ (refusal_of fault) (plain-refusal fault);
    ids = λ count has. (rw (plain-refusal fault) refl, none-more t count has);
    run = λ sure w s h. record { told = []; moved = moved-none (Shows terms t) (MayLeave terms t) w s h; each = refl; answered = refl };
  })

  -- a call
  pub leads-call : (old new : TokenState K) (words words' : ChaCha) (m : Message) (call : CallType) (random : List ℕ)
      (reply : Reply) → m ≡ Ok call → (random, words') ≡ taken (random_bytes call) words
      → terms.doubt old.store.keep ≤ terms.doubt new.store.keep
      → terms.failures old.store.keep ≤ terms.failures new.store.keep
      → AccountsFor (terms.failures old.store.keep) (terms.failures new.store.keep) (reply ∷ [])
      → ((count : ℕ) → HasIds terms old [] (count + 2) → (blames (reply ∷ []) ≡ 0) × HasIds terms new [] count)
      → (terms.doubt new.store.keep ≡ 0 → (w : World) → Shows terms old w → HasJobs w []
      → Moved (Shows terms new) (MayLeave terms old) (MayLeave terms new) w ((app, Calls call random) ∷ (app, Finishes) ∷ [])
      ((app, reply) ∷ []))
      → Leads terms app old new words words' (m ∷ []) (reply ∷ [])
  leads-call old new words words' m call random reply is took rises failed accounts ids run =
      subst (λ n. Leads terms app old new words words' (n ∷ []) (reply ∷ [])) (sym is) (record {
        one_each = refl;
        words = ap (λ x. x.1) took;
        remembers = rises;
        failures = failed;
        accounts = accounts;
        ids = ids;
        run = λ sure w s h. record {
          told = (app, reply) ∷ [];
          moved = subst (λ bytes. Moved (Shows terms new) (MayLeave terms old) (MayLeave terms new) w
              ((app, Calls call bytes) ∷ (app, Finishes) ∷ []) ((app, reply) ∷ [])) (ap (λ x. x.0) took) (run sure w s h);
          each = refl;
          answered = refl;
        };
      })

  -- one after the other
  pub leads-then : (a b c : TokenState K) (u v x : ChaCha) (ms ns : List Message) (rs qs : List Reply)
      → Leads terms app a b u v ms rs → Leads terms app b c v x ns qs → Leads terms app a c u x (ms ++ ns) (rs ++ qs)
  leads-then a b c u v x ms ns rs qs p q = record {
    one_each = omega (arith, p.one_each, q.one_each, length-append rs qs, length-append ms ns);
    words = q.words ∙ ap (λ y. words_after y ns) p.words ∙ sym (words-append u ms ns);
    remembers = omega (arith, p.remembers, q.remembers);
    failures = omega (arith, p.failures, q.failures);
    accounts = accounts-more _ _ _ rs qs p.accounts q.accounts q.failures;
    ids = λ count has.
        let first = p.ids (count + (count_calls ns + count_calls ns))
        (subst (λ n. HasIds terms a [] n) (omega (arith, calls-append ms ns)) has) in
        let second = q.ids count first.1 in
        (blames-more rs qs 0 first.0 second.0, second.1);
    run = λ sure w s h.
        let honest : terms.doubt b.store.keep ≡ 0 = omega (arith, sure, q.remembers) in
        let first = p.run honest w s h in
        let second = q.run sure (after w first.moved.moves) first.moved.shows first.moved.idle in
        record {
          told = first.told ++ second.told;
          moved = subst (λ done. Moved (Shows terms c) (MayLeave terms a) (MayLeave terms c) w done (first.told ++ second.told))
              (ap (λ y. acts app u ms ++ acts app y ns) p.words ∙ sym (acts-append app u ms ns))
              (moved-then (Shows terms b) (Shows terms c) (MayLeave terms a) (MayLeave terms b) (MayLeave terms c) w (acts app u ms)
              (acts app v ns) first.told second.told first.moved second.moved);
          each = omega (arith, first.each, second.each, length-append first.told second.told, calls-append ms ns);
          answered = ap (λ y. y ++ qs) first.answered ∙ ap (λ y. answers ms first.told ++ y) second.answered
              ∙ sym (answers-append ms ns first.told second.told first.each);
        };
  }

  -- payloads that are no calls
  pub leads-refusals : (t : TokenState K) (words : ChaCha) (ps : List (List ℕ)) → AllByRecursion IsNoCall ps
      → Leads terms app t t words words (messages ps) (map (λ p. refusal_in (call_in p)) ps)
  leads-refusals t words [] each = leads-none t words
  leads-refusals t words (p ∷ ps) each =
      leads-then t t t words words words (call_in p ∷ []) (messages ps) (refusal_in (call_in p) ∷ []) (map (λ q. refusal_in (call_in q)) ps)
      (subst (λ (reply : Reply). Leads terms app t t words words (call_in p ∷ []) (reply ∷ [])) (sym (ap refusal_in each.0.1.1))
      (leads-refusal t words (call_in p) each.0.1.0 each.0.1.1))
      (leads-refusals t words ps each.1)
