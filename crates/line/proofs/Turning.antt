-- A whole connection grows by turns.
use Rattle.std.proofs.Common.{◌≡◌, ℕ, ◌≤◌, List, [], ◌∷◌, ◌++◌, length, Some, None, Ok, Err, refl, sym, ap, subst, ◌∙◌, append_assoc, arith}
use Rattle.std.specs.List.{flat_map, AllByRecursion}
use Rattle.std.proofs.lemmas.List.{append-nil, length-append}
use Rattle.std.proofs.lemmas.List.Concat.{flat_map-cons, flat_map-append}
use Rattle.rand_chacha.specs.ChaCha.{ChaCha}
use Rattle.ck_calls.specs.declared.reply.Reply.{Reply}
use Rattle.ck_calls.specs.Need.{random_bytes}
use Rattle.wire.specs.Messages.{frame, most, call_in}
use Rattle.line.specs.declared.ending.Ending.{Ending}
use Rattle.line.specs.declared.ending.Ending.TheVariants as endings
use Rattle.ck_calls.specs.declared.app_call.AppCall.{AppCall}
use Rattle.line.specs.Words.{taken}
use Rattle.line.specs.Turns.{Ask, Message, messages, asks, words_after, words_past, answers_with, reply_frame, refusal_of, refusal_in}
use Rattle.line.specs.State.{Connected, output}
use Rattle.line.specs.Asking.{IsCall}
use Rattle.line.specs.Connecting.{IsNoCall, refusal_frame, Advances, Gives, Halts, Why, ReplyComes, Omits, SendsBy, Tells}
use Rattle.line.specs.Whole.{Account, Owes, Lived, IsWholeEnding, ask_of}
use Rattle.line.proofs.Lines.{all-append}

pub messages-append : (ps qs : List (List ℕ)) → messages (ps ++ qs) ≡ messages ps ++ messages qs
messages-append [] qs = refl
messages-append (p ∷ ps) qs = ap (λ (ms : List Message). call_in p ∷ ms) (messages-append ps qs)

pub asks-append : (w : ChaCha) (ms ns : List Message) → asks w (ms ++ ns) ≡ asks w ms ++ asks (words_after w ms) ns
asks-append w [] ns = refl
asks-append w (Ok call ∷ ms) ns =
    ap (λ (t : List Ask). (call, (taken (random_bytes call) w).0) ∷ t) (asks-append (taken (random_bytes call) w).1 ms ns)
asks-append w (Err fault ∷ ms) ns = asks-append w ms ns

words-append : (w : ChaCha) (ms ns : List Message) → words_after w (ms ++ ns) ≡ words_after (words_after w ms) ns
words-append w [] ns = refl
words-append w (m ∷ ms) ns = words-append (words_past w m) ms ns

pub answers-append : (w : ChaCha) (ms ns : List Message) (t u : List Reply) → length t ≡ length (asks w ms)
    → answers_with (ms ++ ns) (t ++ u) ≡ answers_with ms t ++ answers_with ns u
answers-append w [] ns [] u e = refl
answers-append w [] ns (x ∷ t) u e = absurd (omega (arith, e))
answers-append w (Ok call ∷ ms) ns [] u e = absurd (omega (arith, e))
answers-append w (Ok call ∷ ms) ns (x ∷ t) u e =
    ap (λ (rs : List Reply). x ∷ rs) (answers-append (taken (random_bytes call) w).1 ms ns t u (omega (arith, e)))
answers-append w (Err fault ∷ ms) ns t u e = ap (λ (rs : List Reply). refusal_of fault ∷ rs) (answers-append w ms ns t u e)

-- ---- payloads that are no calls

abbrev IsQuiet : ChaCha → List Message → List ℕ → Type 0
IsQuiet w ms bytes = (asks w ms ≡ []) × (words_after w ms ≡ w) × (flat_map reply_frame (answers_with ms []) ≡ bytes)

quiet-more : (w : ChaCha) (m : Message) (ms : List Message) (bytes : List ℕ) → (fault : _) → m ≡ Err fault → IsQuiet w ms bytes
    → IsQuiet w (m ∷ ms) (reply_frame (refusal_in m) ++ bytes)
quiet-more w m ms bytes fault is q = subst (λ (n : Message). IsQuiet w (n ∷ ms) (reply_frame (refusal_in n) ++ bytes)) (sym is) (
  q.0,
  q.1,
  flat_map-cons reply_frame (refusal_of fault) (answers_with ms [])
      ∙ ap (λ (t : List ℕ). reply_frame (refusal_of fault) ++ t) q.2,
)

quiet : (w : ChaCha) (ps : List (List ℕ)) → AllByRecursion IsNoCall ps → IsQuiet w (messages ps) (flat_map refusal_frame ps)
quiet w [] all = (refl, refl, refl)
quiet w (p ∷ ps) all = subst (λ (t : List ℕ). IsQuiet w (messages (p ∷ ps)) t) (sym (flat_map-cons refusal_frame p ps))
    (quiet-more w (call_in p) (messages ps) (flat_map refusal_frame ps) all.0.1.0 all.0.1.1 (quiet w ps all.1))

pub short-each : (ps : List (List ℕ)) → AllByRecursion IsNoCall ps → AllByRecursion (λ p. length p ≤ most) ps
short-each [] all = tt
short-each (p ∷ ps) all = (all.0.0, short-each ps all.1)

-- ---- accounts

module _ (first : ChaCha) where
  pub account-nothing : (a b : Connected) (asked : List Ask) (told : List Reply) → Account first a asked told → Advances a b
      → Account first b asked told
  account-nothing a b asked told p q =
      let ms = messages p.payloads in
      let ns = messages q.payloads in
      let still = quiet (words_after first ms) q.payloads q.each in
      record {
        payloads = p.payloads ++ q.payloads;
        each = all-append (λ x. length x ≤ most) p.payloads q.payloads p.each (short-each q.payloads q.each);
        read = q.read ∙ ap (λ (t : List ℕ). t ++ q.more) p.read ∙ append_assoc (flat_map frame p.payloads) a.held q.more
            ∙ ap (λ (t : List ℕ). flat_map frame p.payloads ++ t) q.split
            ∙ sym (append_assoc (flat_map frame p.payloads) (flat_map frame q.payloads) b.held)
            ∙ ap (λ (t : List ℕ). t ++ b.held) (sym (flat_map-append frame p.payloads q.payloads));
        asked_are = p.asked_are ∙ sym (append-nil (asks first ms)) ∙ ap (λ (t : List Ask). asks first ms ++ t) (sym still.0)
            ∙ sym (asks-append first ms ns) ∙ ap (asks first) (sym (messages-append p.payloads q.payloads));
        words = q.words ∙ p.words ∙ sym still.1 ∙ sym (words-append first ms ns)
            ∙ ap (words_after first) (sym (messages-append p.payloads q.payloads));
        one_each = p.one_each;
        written = q.out ∙ ap (λ (t : List ℕ). t ++ flat_map refusal_frame q.payloads) p.written
            ∙ ap (λ (t : List ℕ). flat_map reply_frame (answers_with ms told) ++ t) (sym still.2)
            ∙ sym (flat_map-append reply_frame (answers_with ms told) (answers_with ns []))
            ∙ ap (flat_map reply_frame) (sym (answers-append first ms ns told [] (p.one_each ∙ ap length p.asked_are))
            ∙ ap (λ (t : List Reply). answers_with (ms ++ ns) t) (append-nil told)
            ∙ ap (λ (xs : List Message). answers_with xs told) (sym (messages-append p.payloads q.payloads)));
      }

  -- the next payload was a call
  call-joins : (ps : List (List ℕ)) (payload : List ℕ) (given : AppCall) → call_in payload ≡ Ok given.call
      → messages (ps ++ payload ∷ []) ≡ messages ps ++ Ok given.call ∷ []
  call-joins ps payload given is = messages-append ps (payload ∷ []) ∙ ap (λ (m : Message). messages ps ++ m ∷ []) is

  call-read : (ps : List (List ℕ)) (payload held rest : List ℕ) → held ≡ frame payload ++ rest
      → flat_map frame ps ++ held ≡ flat_map frame (ps ++ payload ∷ []) ++ rest
  call-read ps payload held rest front =
      ap (λ (t : List ℕ). flat_map frame ps ++ t)
      (front ∙ ap (λ (t : List ℕ). t ++ rest) (sym (append-nil (frame payload)) ∙ sym (flat_map-cons frame payload [])))
      ∙ sym (append_assoc (flat_map frame ps) (flat_map frame (payload ∷ [])) rest)
      ∙ ap (λ (t : List ℕ). t ++ rest) (sym (flat_map-append frame ps (payload ∷ [])))

  call-took : (b : Connected) (given : AppCall) (asked : List Ask) (told : List Reply) (payload : List ℕ) (w' : ChaCha)
      (p : Account first b asked told) → IsCall payload b.words w' given
      → (given.random.items, w') ≡ taken (random_bytes given.call) (words_after first (messages p.payloads))
  call-took b given asked told payload w' p call = call.took ∙ ap (taken (random_bytes given.call)) p.words

  call-asked : (b : Connected) (given : AppCall) (asked : List Ask) (told : List Reply) (payload : List ℕ) (w' : ChaCha)
      (p : Account first b asked told) → IsCall payload b.words w' given
      → asked ++ ask_of given ∷ [] ≡ asks first (messages (p.payloads ++ payload ∷ []))
  call-asked b given asked told payload w' p call =
      let ms = messages p.payloads in
      ap (λ (t : List Ask). t ++ ask_of given ∷ []) p.asked_are
      ∙ ap (λ (x : List ℕ). asks first ms ++ (given.call, x) ∷ []) (ap (λ x. x.0) (call-took b given asked told payload w' p call))
      ∙ sym (asks-append first ms (Ok given.call ∷ [])) ∙ ap (asks first) (sym (call-joins p.payloads payload given call.is))

  -- and was answered
  pub account-told : (b : Connected) (given : AppCall) (reply : Reply) (asked : List Ask) (told : List Reply)
      (payload rest : List ℕ) (w' : ChaCha) (c : Connected) → Account first b asked told → length payload ≤ most
      → b.held ≡ frame payload ++ rest
      → IsCall payload b.words w' given → c.read ≡ b.read → c.held ≡ rest → c.words ≡ w' → output c ≡ output b ++ reply_frame reply
      → Account first c (asked ++ ask_of given ∷ []) (told ++ reply ∷ [])
  account-told b given reply asked told payload rest w' c p short front call read held words written =
      let ms = messages p.payloads in
      let took' = call-took b given asked told payload w' p call in
      let joined = call-joins p.payloads payload given call.is in
      record {
        payloads = p.payloads ++ payload ∷ [];
        each = all-append (λ x. length x ≤ most) p.payloads (payload ∷ []) p.each (short, tt);
        read = read ∙ p.read ∙ call-read p.payloads payload b.held rest front
            ∙ ap (λ (t : List ℕ). flat_map frame (p.payloads ++ payload ∷ []) ++ t) (sym held);
        asked_are = call-asked b given asked told payload w' p call;
        words = words ∙ ap (λ x. x.1) took' ∙ sym (words-append first ms (Ok given.call ∷ [])) ∙ ap (words_after first) (sym joined);
        one_each = omega (arith, p.one_each, length-append told (reply ∷ []), length-append asked (ask_of given ∷ []));
        written = written ∙ ap (λ (t : List ℕ). t ++ reply_frame reply) p.written
            ∙ ap (λ (t : List ℕ). flat_map reply_frame (answers_with ms told) ++ t)
            (sym (append-nil (reply_frame reply)) ∙ sym (flat_map-cons reply_frame reply []))
            ∙ sym (flat_map-append reply_frame (answers_with ms told) (reply ∷ []))
            ∙ ap (flat_map reply_frame) (sym
            (answers-append first ms (Ok given.call ∷ []) told (reply ∷ []) (p.one_each ∙ ap length p.asked_are))
            ∙ ap (λ (xs : List Message). answers_with xs (told ++ reply ∷ [])) (sym joined));
      }

  -- and its frame came out
  account-answered : (a b c : Connected) (given : AppCall) (reply : Reply) (asked : List Ask) (told : List Reply)
      → Account first a asked told → Gives a b given → Tells b c reply → ReplyComes b c reply
      → Account first c (asked ++ ask_of given ∷ []) (told ++ reply ∷ [])
  account-answered a b c given reply asked told p q s answers =
      let mid = account-nothing a q.mid asked told p q.refused in
      account-told q.mid given reply asked told q.call.payload b.held b.words c mid q.call.short q.call.front q.call.is
      (ap (λ (x : Connected). x.read) s.same ∙ ap (λ (x : Connected). x.read) q.same)
      (ap (λ (x : Connected). x.held) s.same)
      (ap (λ (x : Connected). x.words) s.same)
      (answers.out ∙ ap (λ (x : Connected). output x ++ reply_frame reply) q.same
      ∙ ap (λ (x : List ℕ). (q.mid.written ++ x) ++ reply_frame reply) (sym q.all))

  pub account-call : (a b : Connected) (given : AppCall) (asked : List Ask) (told : List Reply) → Account first a asked told
      → Gives a b given → Owes first b (asked ++ ask_of given ∷ []) told
  account-call a b given asked told p q =
      record { before = a; given = given; asked_before = asked; account = p; gives = q; asked_is = refl }

  -- the call that was owed a reply was answered
  owes-answered : (b c : Connected) (reply : Reply) (asked : List Ask) (told : List Reply) → Owes first b asked told
      → Tells b c reply → ReplyComes b c reply → Account first c asked (told ++ reply ∷ [])
  owes-answered b c reply asked told o s answers =
      subst (λ (t : List Ask). Account first c t (told ++ reply ∷ [])) (sym o.asked_is)
      (account-answered o.before b c o.given reply o.asked_before told o.account o.gives s answers)

  pub account-turn : (b c : Connected) (reply : Reply) (asked : List Ask) (told : List Reply) → Owes first b asked told
      → Tells b c reply → c.ended ≡ None → Account first c asked (told ++ reply ∷ [])
  account-turn b c reply asked told o s is = owes-answered b c reply asked told o s (subst (λ (e : _). SendsBy e b c reply) is s.sends)

  pub account-begin : (c : Connected) → c.words ≡ first → c.read ≡ [] → output c ≡ [] → c.held ≡ [] → Account first c [] []
  account-begin c is read written held =
      record { payloads = []; each = tt; read = read ∙ sym held; asked_are = refl; words = is; one_each = refl; written = written }

  -- ---- where it ended, or is given up

  lived-of : (a b : Connected) (more : List ℕ) (asked : List Ask) (told : List Reply) → Account first a asked told
      → b.read ≡ a.read ++ more → b.written ≡ a.written → (IsWholeEnding b.ended → a.pending ≡ []) → Lived first b asked told
  lived-of a b more asked told p read written whole = record {
    payloads = p.payloads;
    rest = a.held ++ more;
    lacking = a.pending;
    each = p.each;
    read = read ∙ ap (λ (t : List ℕ). t ++ more) p.read ∙ append_assoc (flat_map frame p.payloads) a.held more;
    asked_are = p.asked_are;
    written = sym p.written ∙ ap (λ (t : List ℕ). t ++ a.pending) (sym written);
    whole = λ is. (whole is, p.one_each);
  }

  why-whole : (ending : Ending) (before : List ℕ) (payloads : List (List ℕ)) (held more pending : List ℕ)
      → Why ending before payloads held more pending → IsWholeEnding (Some ending) → pending ≡ []
  why-whole endings.Closed before payloads held more pending why is = why.2
  why-whole endings.Cut before payloads held more pending why is = why.3
  why-whole endings.TooLong before payloads held more pending why is = why.2
  why-whole (endings.Read error) before payloads held more pending why is = why.2
  why-whole (endings.Write error) before payloads held more pending why is = absurd is
  why-whole endings.Memory before payloads held more pending why is = absurd is

  pub lived-end : (a b : Connected) (ending : Ending) (asked : List Ask) (told : List Reply) → Account first a asked told
      → Halts a b ending → Lived first b asked told
  lived-end a b ending asked told p q =
      lived-of q.mid b q.more asked told (account-nothing a q.mid asked told p q.refused) (ap (λ (x : Connected). x.read) q.same)
      (ap (λ (x : Connected). x.written) q.same)
      (λ is. why-whole ending a.pending q.refused.payloads q.mid.held q.more q.mid.pending q.why
      (subst IsWholeEnding (ap (λ (x : Connected). x.ended) q.same) is))

  lived-part : (c : Connected) (asked : List Ask) (told : List Reply) → Account first c asked told → (¬ IsWholeEnding c.ended)
      → Lived first c asked told
  lived-part c asked told p part = lived-of c c [] asked told p (sym (append-nil c.read)) refl (λ is. absurd (part is))

  pub lived-stop : (c : Connected) (asked : List Ask) (told : List Reply) → Account first c asked told → c.ended ≡ None
      → Lived first c asked told
  lived-stop c asked told p is = lived-part c asked told p (λ whole. subst IsWholeEnding is whole)

  -- the reply that was owed did not come out
  lived-omitted : (b c : Connected) (reply : Reply) (asked : List Ask) (told : List Reply) → Owes first b asked told
      → Tells b c reply → Omits b c → (¬ IsWholeEnding c.ended) → Lived first c asked (told ++ reply ∷ [])
  lived-omitted b c reply asked told o s omits part =
      let q = o.gives in
      let mid = account-nothing o.before q.mid o.asked_before told o.account q.refused in
      let full : Connected = record {
        held = b.held;
        words = b.words;
        read = q.mid.read;
        written =
            output q.mid ++ reply_frame reply;
        pending = [];
        answered = c.answered;
        ended = c.ended;
      } in
      let all = account-told q.mid o.given reply o.asked_before told q.call.payload b.held b.words full mid q.call.short
      q.call.front q.call.is refl refl refl (append-nil (output q.mid ++ reply_frame reply)) in
      let out : output c ≡ output q.mid =
      ap (λ (t : List ℕ). t ++ c.pending) omits.written ∙ ap (λ (t : List ℕ). b.written ++ t) omits.pending ∙ ap output q.same
      ∙ ap (λ (t : List ℕ). q.mid.written ++ t) (sym q.all) in
      record {
        payloads = all.payloads;
        rest = b.held;
        lacking = c.pending ++ reply_frame reply;
        each = all.each;
        read = ap (λ (x : Connected). x.read) s.same ∙ ap (λ (x : Connected). x.read) q.same ∙ all.read;
        asked_are = o.asked_is ∙ all.asked_are;
        written = sym all.written ∙ append-nil (output q.mid ++ reply_frame reply)
            ∙ ap (λ (t : List ℕ). t ++ reply_frame reply) (sym out) ∙ append_assoc c.written c.pending (reply_frame reply);
        whole = λ is. absurd (part is);
      }

  pub lived-cut : (b c : Connected) (reply : Reply) (ending : Ending) (asked : List Ask) (told : List Reply)
      → Owes first b asked told → Tells b c reply → c.ended ≡ Some ending → Lived first c asked (told ++ reply ∷ [])
  lived-cut b c reply ending asked told o s is =
      by ending (subst (λ (e : _). SendsBy e b c reply) is s.sends) (λ whole. subst IsWholeEnding is whole) where
        by : (e : Ending) → SendsBy (Some e) b c reply → (IsWholeEnding c.ended → IsWholeEnding (Some e)) → Lived first c asked (told ++ reply ∷ [])
        by (endings.Write error) t part = lived-part c asked (told ++ reply ∷ []) (owes-answered b c reply asked told o s t) part
        by endings.Memory t part = lived-omitted b c reply asked told o s t part
        by _ t part = absurd t

  -- a call is owed its reply still
  pub lived-leave : (c : Connected) (asked : List Ask) (told : List Reply) → Owes first c asked told → Lived first c asked told
  lived-leave c asked told o =
      let q = o.gives in
      let p = account-nothing o.before q.mid o.asked_before told o.account q.refused in
      let ms = messages p.payloads in
      let ps : List (List ℕ) = p.payloads ++ q.call.payload ∷ [] in
      let owed : answers_with (messages ps) told ≡ answers_with ms told =
      ap (λ (xs : List Message). answers_with xs told) (call-joins p.payloads q.call.payload o.given q.call.is.is)
      ∙ ap (λ (t : List Reply). answers_with (ms ++ Ok o.given.call ∷ []) t) (sym (append-nil told))
      ∙ answers-append first ms (Ok o.given.call ∷ []) told [] (p.one_each ∙ ap length p.asked_are) ∙ append-nil (answers_with ms told) in
      record {
        payloads = ps;
        rest = c.held;
        lacking = [];
        each = all-append (λ x. length x ≤ most) p.payloads (q.call.payload ∷ []) p.each (q.call.short, tt);
        read = ap (λ (x : Connected). x.read) q.same ∙ p.read ∙ call-read p.payloads q.call.payload q.mid.held c.held q.call.front;
        asked_are = o.asked_is ∙ call-asked q.mid o.given o.asked_before told q.call.payload c.words p q.call.is;
        written = ap (flat_map reply_frame) owed ∙ sym p.written ∙ ap (λ (t : List ℕ). q.mid.written ++ t) q.all
            ∙ ap (λ (t : List ℕ). t ++ []) (sym (ap (λ (x : Connected). x.written) q.same));
        whole = λ is. absurd (subst IsWholeEnding (ap (λ (x : Connected). x.ended) q.same) is);
      }
