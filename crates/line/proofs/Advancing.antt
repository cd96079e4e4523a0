-- What becomes of a connection by one step, and by more.
use Rattle.std.proofs.Common.{◌≡◌, ℕ, List, [], ◌∷◌, ◌++◌, Option, Some, None, refl, sym, ap, subst, ◌∙◌, append_assoc, arith, inl, inr}
use Rattle.std.specs.List.{flat_map}
use Rattle.std.proofs.lemmas.List.{append-nil, append_cancel_left, length-append}
use Rattle.std.proofs.lemmas.List.Concat.{flat_map-cons, flat_map-append}
use Rattle.rand_chacha.specs.ChaCha.{ChaCha}
use Rattle.ck_calls.specs.declared.reply.Reply.{Reply}
use Rattle.wire.specs.declared.fault.WireFault.{WireFault}
use Rattle.wire.specs.declared.fault.WireFault.TheVariants as faults
use Rattle.wire.specs.Messages.{frame}
use Rattle.wire.specs.Replies.{HasReplyFrame}
use Rattle.wire.specs.Stream.{IsPartial}
use Rattle.line.specs.declared.ending.Ending.{Ending}
use Rattle.line.specs.declared.ending.Ending.TheVariants as endings
use Rattle.ck_calls.specs.declared.app_call.AppCall.{AppCall}
use Rattle.line.specs.declared.next.Next.{Next}
use Rattle.line.specs.declared.next.Next.TheVariants as next
use Rattle.line.specs.declared.asked.Piece.TheVariants as piece
use Rattle.door.specs.Ends.{Reading, Writing}
use Rattle.watched.specs.Noting.{Noting, Unfailing, Settles, HasFailed}
use Rattle.line.specs.Turns.{refusal_in, refusal_of, reply_frame}
use Rattle.line.specs.Asking.{IsCall, IsRefused, Lets, Gave, Took, Fed, PieceTakes, PieceBy}
use Rattle.line.specs.State.{Connected, output}
use Rattle.line.specs.Connecting.{refusal_frame, IsNoCall, Advances, Tail, Why, Halts, Does, AtEnd, ReadsTo, WritesTo, Comes, IsHeard, Hears, standing, ReplyComes, Omits, SendsBy, Tells, SendsTo, Sends, FlushesBy, Moves, Flushes}
use Rattle.line.proofs.Lines.{gave-none, gave-then, took-none, took-then, all-append}
use Rattle.watched.proofs.Noting.{unfailing-none, unfailing-then, failed-after, settles-none, settles-then, settles-unfailing}

abbrev pub advances-none : (a : Connected) → Advances a a
advances-none a = record {
  payloads = [];
  more = [];
  each = tt;
  read = sym (append-nil a.read);
  split = append-nil a.held;
  out = sym (append-nil (output a));
  words = refl;
  answered = omega arith;
}

abbrev pub advances-then : (a b c : Connected) → Advances a b → Advances b c → Advances a c
advances-then a b c p q = record {
  payloads = p.payloads ++ q.payloads;
  more = p.more ++ q.more;
  each = all-append IsNoCall p.payloads q.payloads p.each q.each;
  read = q.read ∙ ap (λ (t : List ℕ). t ++ q.more) p.read ∙ append_assoc a.read p.more q.more;
  split = sym (append_assoc a.held p.more q.more) ∙ ap (λ (t : List ℕ). t ++ q.more) p.split
      ∙ append_assoc (flat_map frame p.payloads) b.held q.more ∙ ap (λ (t : List ℕ). flat_map frame p.payloads ++ t) q.split
      ∙ sym (append_assoc (flat_map frame p.payloads) (flat_map frame q.payloads) c.held)
      ∙ ap (λ (t : List ℕ). t ++ c.held) (sym (flat_map-append frame p.payloads q.payloads));
  out = q.out ∙ ap (λ (t : List ℕ). t ++ flat_map refusal_frame q.payloads) p.out
      ∙ append_assoc (output a) (flat_map refusal_frame p.payloads) (flat_map refusal_frame q.payloads)
      ∙ ap (λ (t : List ℕ). output a ++ t) (sym (flat_map-append refusal_frame p.payloads q.payloads));
  words = q.words ∙ p.words;
  answered = omega (arith, p.answered, q.answered, length-append p.payloads q.payloads);
}

-- all was written before
tail-after : (before between : List ℕ) (ps qs : List (List ℕ)) (pending : List ℕ) → between ≡ [] → Tail between qs pending
    → Tail before (ps ++ qs) pending
tail-after before between ps qs pending none (inl old) = absurd (old.0 none)
tail-after before between ps qs pending none (inr new) =
    inr (ps ++ new.0, new.1, new.2, ap (λ (t : List (List ℕ)). ps ++ t) new.3 ∙ sym (append_assoc ps new.0 (new.1 ∷ [])), new.4)

why-after : (ending : Ending) (before between : List ℕ) (ps qs : List (List ℕ)) (held more pending : List ℕ) → between ≡ []
    → Why ending between qs held more pending → Why ending before (ps ++ qs) held more pending
why-after (endings.Write error) before between ps qs held more pending none w = (w.0, tail-after before between ps qs pending none w.1)
why-after _ before between ps qs held more pending none w = w

pub does-after : (a b c : Connected) (n : Option Next) → b.pending ≡ [] → Advances a b → Does b c n → Does a c n
does-after a b c (Some (next.Call given)) none p q =
    record { mid = q.mid; refused = advances-then a b q.mid p q.refused; call = q.call; same = q.same; all = q.all }
does-after a b c (Some next.Nothing) none p q =
    record {
      refused = advances-then a b c p q.refused;
      going = q.going;
      partial = q.partial;
      tail = λ more. tail-after a.pending b.pending p.payloads q.refused.payloads c.pending none (q.tail more);
    }
does-after a b c (Some (next.Ended ending)) none p q = record {
  mid = q.mid;
  refused = advances-then a b q.mid p q.refused;
  more = q.more;
  same = q.same;
  why = why-after ending a.pending b.pending p.payloads q.refused.payloads q.mid.held q.more q.mid.pending none q.why;
}
does-after a b c None none p q = (advances-then a b c p q.0, q.1, q.2)

module _ {T : Type 0} (a b c : Noting T) where
  reads-after : (n : Option Next) (pending : List ℕ) → Unfailing a b → ReadsTo n pending b c → ReadsTo n pending a c
  reads-after (Some (next.Ended (endings.Read error))) pending p q = failed-after a b c p q
  reads-after (Some next.Nothing) [] p q = failed-after a b c p q
  reads-after _ pending p q = unfailing-then a b c p q

  writes-after : (n : Option Next) (pending : List ℕ) → Settles a b → WritesTo n pending b c → WritesTo n pending a c
  writes-after (Some (next.Ended (endings.Write error))) pending p q = failed-after a b c (settles-unfailing a b p) q
  writes-after (Some next.Nothing) (byte ∷ pending) p q = failed-after a b c (settles-unfailing a b p) q
  writes-after _ pending p q = settles-then a b c p q

module _ {R W : Type 0} (reading : R → Reading) (writing : W → Writing) where
  pub comes-none : (r : Noting R) (w : Noting W) (a : Connected) → a.ended ≡ None → a.pending ≡ [] → Comes reading writing r r w w a a None
  comes-none r w a going clear = record {
    does = (advances-none a, going, clear);
    gave = gave-none (reading r.inner) a.read;
    took = took-none (writing w.inner) a.written a.written refl;
    at_end = tt;
    reads = unfailing-none r;
    writes = settles-none w;
  }

  pub comes-after : (r r' r'' : Noting R) (w w' w'' : Noting W) (a b c : Connected) (n : Option Next)
      → Comes reading writing r r' w w' a b None → Comes reading writing r' r'' w' w'' b c n → Comes reading writing r r'' w w'' a c n
  comes-after r r' r'' w w' w'' a b c n p q = record {
    does = does-after a b c n p.does.2 p.does.0 q.does;
    gave = gave-then (reading r.inner) (reading r'.inner) (reading r''.inner) a.read b.read c.read p.gave q.gave;
    took = took-then (writing w.inner) (writing w'.inner) (writing w''.inner) a.written b.written c.written p.took q.took;
    at_end = q.at_end;
    reads = reads-after r r' r'' n c.pending p.reads q.reads;
    writes = writes-after w w' w'' n c.pending p.writes q.writes;
  }

-- a refusal has a frame
pub refusal-framed : (fault : WireFault) → HasReplyFrame (refusal_of fault)
refusal-framed faults.UnknownFunction = (omega arith, omega arith)
refusal-framed faults.Malformed = (omega arith, omega arith)
refusal-framed faults.TooLong = (omega arith, omega arith)
refusal-framed faults.Memory = (omega arith, omega arith)

abbrev pub at : List ℕ → ChaCha → List ℕ → List ℕ → List ℕ → ℕ → Option Ending → Connected
at h k n m p c e = record { held = h; words = k; read = n; written = m; pending = p; answered = c; ended = e }

-- neither the reader nor the writer is why it ended
abbrev pub Plain : Ending → Type 0
Plain endings.TooLong = Unit {0}
Plain endings.Memory = Unit {0}
Plain _ = ⊥

plain-reads : {T : Type 0} (r : Noting T) (ending : Ending) (pending : List ℕ) → Plain ending
    → ReadsTo (Some (next.Ended ending)) pending r r
plain-reads r endings.TooLong pending plain = unfailing-none r
plain-reads r endings.Memory pending plain = unfailing-none r
plain-reads r _ pending plain = absurd plain

plain-writes : {T : Type 0} (w : Noting T) (ending : Ending) (pending : List ℕ) → Plain ending
    → WritesTo (Some (next.Ended ending)) pending w w
plain-writes w endings.TooLong pending plain = settles-none w
plain-writes w endings.Memory pending plain = settles-none w
plain-writes w _ pending plain = absurd plain

plain-end : (ending : Ending) (left : Reading) → Plain ending → AtEnd (Some (next.Ended ending)) left
plain-end endings.TooLong left plain = tt
plain-end endings.Memory left plain = tt
plain-end _ left plain = absurd plain

-- it ended where it stood
halts-here : (a b : Connected) (ending : Ending)
    → b ≡ record {
      held = b.held;
      words = a.words;
      read = a.read;
      written = a.written;
      pending = a.pending;
      answered = a.answered;
      ended = Some ending;
    } → Why ending a.pending [] a.held [] a.pending → Halts a b ending
halts-here a b ending is why = record {
  mid = a;
  refused = advances-none a;
  more = [];
  same = is ∙ ap (λ (n : List ℕ). at b.held a.words n a.written a.pending a.answered (Some ending)) (sym (append-nil a.read));
  why = why;
}

module _ {R W : Type 0} (reading : R → Reading) (writing : W → Writing) (r : Noting R) (w : Noting W) where
  -- the payload at the front is a call
  pub comes-gives : (old : Connected) (h h' : List ℕ) (k k' : ChaCha) (n m p : List ℕ) (c : ℕ) (e : Option Ending) (given : AppCall)
      → at h k n m p c e ≡ old → old.ended ≡ None → old.pending ≡ [] → Lets (λ x. IsCall x k k' given) h h'
      → Comes reading writing r r w w old (at h' k' n m p c e) (Some (next.Call given))
  comes-gives old h h' k k' n m p c e given was going clear lets =
      subst (λ (s : Connected). Comes reading writing r r w w s (at h' k' n m p c e) (Some (next.Call given))) was (record {
        does = record {
          mid = at h k n m p c e;
          refused = advances-none (at h k n m p c e);
          call = lets;
          same = ap (λ (x : List ℕ). at h' k' n m x c e) none ∙ ap (λ (x : Option Ending). at h' k' n m [] c x) still;
          all = none;
        };
        gave = gave-none (reading r.inner) n;
        took = took-none (writing w.inner) m m refl;
        at_end = tt;
        reads = unfailing-none r;
        writes = settles-none w;
      }) where
        none : p ≡ []
        none = ap (λ (s : Connected). s.pending) was ∙ clear

        still : e ≡ None
        still = ap (λ (s : Connected). s.ended) was ∙ going

  -- what the payload is can't be found out
  pub comes-ends : (old new : Connected) (h h' : List ℕ) (k k' : ChaCha) (n m p : List ℕ) (c : ℕ) (e : Option Ending)
      (ending : Ending) → at h k n m p c e ≡ old → k' ≡ k → new ≡ at h' k' n m p c (Some ending) → Why ending p [] h [] p → Plain ending
      → Comes reading writing r r w w old new (Some (next.Ended ending))
  comes-ends old new h h' k k' n m p c e ending was same is why plain =
      subst (λ (s : Connected). Comes reading writing r r w w s new (Some (next.Ended ending))) was
      (subst (λ (s : Connected). Comes reading writing r r w w (at h k n m p c e) s (Some (next.Ended ending))) (sym is) (record {
        does = halts-here (at h k n m p c e) (at h' k' n m p c (Some ending)) ending
            (ap (λ (x : ChaCha). at h' x n m p c (Some ending)) same) why;
        gave = gave-none (reading r.inner) n;
        took = took-none (writing w.inner) m m refl;
        at_end = plain-end ending (reading r.inner) plain;
        reads = plain-reads r ending p plain;
        writes = plain-writes w ending p plain;
      }))

  -- after a reply, or after more was written
  abbrev Spoke : Option Ending → Type 0
  Spoke None = Unit {0}
  Spoke (Some (endings.Write error)) = Unit {0}
  Spoke (Some endings.Memory) = Unit {0}
  Spoke (Some _) = ⊥

  spoke-end : (e : Option Ending) (pending : List ℕ) (left : Reading) → Spoke e → AtEnd (standing e pending) left
  spoke-end None [] left s = tt
  spoke-end None (byte ∷ pending) left s = tt
  spoke-end (Some (endings.Write error)) pending left s = tt
  spoke-end (Some endings.Memory) pending left s = tt
  spoke-end (Some _) pending left s = absurd s

  spoke-reads : (e : Option Ending) (pending : List ℕ) → Spoke e → ReadsTo (standing e pending) pending r r
  spoke-reads None [] s = unfailing-none r
  spoke-reads None (byte ∷ pending) s = unfailing-none r
  spoke-reads (Some (endings.Write error)) pending s = unfailing-none r
  spoke-reads (Some endings.Memory) pending s = unfailing-none r
  spoke-reads (Some _) pending s = absurd s

  spoke-writes : (w' : Noting W) (e : Option Ending) (pending : List ℕ) → Spoke e → SendsTo e pending w w'
      → WritesTo (standing e pending) pending w w'
  spoke-writes w' None [] s f = f
  spoke-writes w' None (byte ∷ pending) s f = f
  spoke-writes w' (Some (endings.Write error)) pending s f = f
  spoke-writes w' (Some endings.Memory) pending s f = f
  spoke-writes w' (Some _) pending s f = absurd s

  comes-spoke : (w' : Noting W) (old new : Connected) (n : Option Next) → n ≡ standing new.ended new.pending → Spoke new.ended
      → Does old new (standing new.ended new.pending) → new.read ≡ old.read
      → Took (writing w.inner) (writing w'.inner) old.written new.written
      → SendsTo new.ended new.pending w w' → Comes reading writing r r w w' old new n
  comes-spoke w' old new n is spoke does read took writes =
      subst (λ (x : Option Next). Comes reading writing r r w w' old new x) (sym is) (record {
        does = does;
        gave = subst (λ (x : List ℕ). Gave (reading r.inner) (reading r.inner) old.read x) (sym read) (gave-none (reading r.inner) old.read);
        took = took;
        at_end = spoke-end new.ended new.pending (reading r.inner) spoke;
        reads = spoke-reads new.ended new.pending spoke;
        writes = spoke-writes w' new.ended new.pending spoke writes;
      })

  some-left : (pending : List ℕ) (byte : ℕ) (rest : List ℕ) → pending ≡ byte ∷ rest → pending ≡ [] → ⊥
  some-left pending byte rest more none = cons_ne_nil (sym more ∙ none) where
    cons_ne_nil : byte ∷ rest ≡ [] → ⊥
    cons_ne_nil e = cc

  -- it doesn't go on
  abbrev IsStuck : Option Ending → List ℕ → Type 0
  IsStuck None [] = ⊥
  IsStuck _ pending = Unit {0}

  -- all that was done is an advance, and it goes on, or has to wait, or the writer failed
  does-standing : (old new : Connected) (e : Option Ending) (pending : List ℕ) (p : Advances old new) → new.ended ≡ e
      → new.pending ≡ pending → FlushesBy e → (IsStuck e pending → Tail old.pending p.payloads new.pending)
      → Does old new (standing e pending)
  does-standing old new None [] p is none by tail = (p, is, none)
  does-standing old new None (byte ∷ pending) p is more by tail =
      record { refused = p; going = is; partial = λ none. absurd (some-left new.pending byte pending more none); tail = λ some. tail tt }
  does-standing old new (Some (endings.Write error)) pending p is more by tail = record {
    mid = new;
    refused = p;
    more = [];
    same = ap (λ (n : List ℕ). at new.held new.words n new.written new.pending new.answered new.ended) (sym (append-nil new.read))
        ∙ ap (λ (x : Option Ending). at new.held new.words (new.read ++ []) new.written new.pending new.answered x) is;
    why = (refl, tail tt);
  }
  does-standing old new (Some _) pending p is more by tail = absurd by

  -- some of what was to be written was
  abbrev advances-moves : (old new : Connected) → Moves old new → Advances old new
  advances-moves old new p = record {
    payloads = [];
    more = [];
    each = tt;
    read = ap (λ (s : Connected). s.read) p.same ∙ sym (append-nil old.read);
    split = append-nil old.held ∙ sym (ap (λ (s : Connected). s.held) p.same);
    out = p.out ∙ sym (append-nil (output old));
    words = ap (λ (s : Connected). s.words) p.same;
    answered = omega (arith, ap (λ (s : Connected). s.answered) p.same);
  }

  spoke-flush : (e : Option Ending) → FlushesBy e → Spoke e
  spoke-flush None by = tt
  spoke-flush (Some (endings.Write error)) by = tt
  spoke-flush (Some _) by = absurd by

  tail-moves : (old new : Connected) → Moves old new → IsStuck new.ended new.pending → Tail old.pending [] new.pending
  tail-moves old new p stuck = inl (
    (λ (none : old.pending ≡ []). subst (λ (x : List ℕ). IsStuck None x) (p.idle none).1
        (subst (λ (x : Option Ending). IsStuck x new.pending) (p.idle none).0 stuck)),
    refl,
  )

  pub comes-flush : (w' : Noting W) (old new : Connected) (n : Option Next) → Flushes writing w w' old new
      → n ≡ standing new.ended new.pending → Comes reading writing r r w w' old new n
  comes-flush w' old new n p is =
      comes-spoke w' old new n is (spoke-flush new.ended p.moves.by)
      (does-standing old new new.ended new.pending (advances-moves old new p.moves) refl refl p.moves.by
      (tail-moves old new p.moves)) (ap (λ (s : Connected). s.read) p.moves.same) p.took p.writes

  module _ (h h' : List ℕ) (k k' : ChaCha) (n m p : List ℕ) (c : ℕ) (e : Option Ending) (reply : Reply) (new : Connected)
      (lets : Lets (λ x. IsRefused x k k' reply) h h') (tells : Tells (at h' k' n m p c e) new reply) where
    abbrev before : Connected
    before = at h k n m p c e

    answer_is : reply_frame reply ≡ refusal_frame lets.payload
    answer_is = ap reply_frame (lets.is.reply_is ∙ sym (ap refusal_in lets.is.is))

    abbrev advances-refused : ReplyComes (at h' k' n m p c e) new reply → Advances before new
    advances-refused a = record {
      payloads = lets.payload ∷ [];
      more = [];
      each = ((lets.short, (lets.is.fault, lets.is.is)), tt);
      read = ap (λ (s : Connected). s.read) tells.same ∙ sym (append-nil n);
      split = append-nil h ∙ lets.front
          ∙ ap (λ (t : List ℕ). t ++ h') (sym (append-nil (frame lets.payload)) ∙ sym (flat_map-cons frame lets.payload []))
          ∙ ap (λ (t : List ℕ). flat_map frame (lets.payload ∷ []) ++ t) (sym (ap (λ (s : Connected). s.held) tells.same));
      out = a.out ∙ ap (λ (t : List ℕ). output before ++ t)
          (answer_is ∙ sym (append-nil (refusal_frame lets.payload)) ∙ sym (flat_map-cons refusal_frame lets.payload []));
      words = ap (λ (s : Connected). s.words) tells.same ∙ lets.is.same;
      answered = omega (arith, a.answered);
    }

    spoke-refused : (x : Option Ending) → SendsBy x (at h' k' n m p c e) new reply → Spoke x
    spoke-refused None s = tt
    spoke-refused (Some (endings.Write error)) s = tt
    spoke-refused (Some endings.Memory) s = tt
    spoke-refused (Some _) s = absurd s

    omitted : (x : Option Ending) → new.ended ≡ x → Omits (at h' k' n m p c e) new → new ≡ at h' k' n m p c x
    omitted x is s = tells.same ∙ ap (λ (y : List ℕ). at h' k' n y new.pending new.answered new.ended) s.written
        ∙ ap (λ (y : List ℕ). at h' k' n m y new.answered new.ended) s.pending
        ∙ ap (λ (y : ℕ). at h' k' n m p y new.ended) s.answered ∙ ap (λ (y : Option Ending). at h' k' n m p c y) is

    -- and what is to be written is of its answer
    tail-refused : (part : List ℕ) → new.written ≡ m ++ part → p ≡ [] → ReplyComes (at h' k' n m p c e) new reply
        → Tail p (lets.payload ∷ []) new.pending
    tail-refused part wrote clear a = inr (
      [],
      lets.payload,
      part,
      refl,
      sym answer_is ∙ sym (append_cancel_left m (part ++ new.pending) (reply_frame reply)
          (sym (append_assoc m part new.pending) ∙ ap (λ (t : List ℕ). t ++ new.pending) (sym wrote) ∙ a.out
          ∙ ap (λ (t : List ℕ). (m ++ t) ++ reply_frame reply) clear ∙ ap (λ (t : List ℕ). t ++ reply_frame reply) (append-nil m))),
    )

    does-refused : (part : List ℕ) → new.written ≡ m ++ part → p ≡ [] → (x : Option Ending) (pending : List ℕ) → new.ended ≡ x
        → new.pending ≡ pending → SendsBy x (at h' k' n m p c e) new reply → Does before new (standing x pending)
    does-refused part wrote clear None [] is more s =
        does-standing before new None [] (advances-refused s) is more tt (λ stuck. absurd stuck)
    does-refused part wrote clear None (byte ∷ pending) is more s =
        does-standing before new None (byte ∷ pending) (advances-refused s) is more tt (λ stuck. tail-refused part wrote clear s)
    does-refused part wrote clear (Some (endings.Write error)) pending is more s =
        does-standing before new (Some (endings.Write error)) pending (advances-refused s) is more tt
        (λ stuck. tail-refused part wrote clear s)
    does-refused part wrote clear (Some endings.Memory) pending is more s =
        subst (λ (y : Connected). Halts before y endings.Memory) (sym (omitted (Some endings.Memory) is s))
        (halts-here before (at h' k' n m p c (Some endings.Memory)) endings.Memory
        (ap (λ (y : ChaCha). at h' y n m p c (Some endings.Memory)) lets.is.same) clear)
    does-refused part wrote clear (Some _) pending is more s = absurd s

  pub comes-refused : (w' : Noting W) (old new : Connected) (h h' : List ℕ) (k k' : ChaCha) (n m p : List ℕ) (c : ℕ)
      (e : Option Ending) (reply : Reply) (x : Option Next) → at h k n m p c e ≡ old → old.pending ≡ []
      → Lets (λ z. IsRefused z k k' reply) h h'
      → Sends writing w w' (at h' k' n m p c e) new reply → x ≡ standing new.ended new.pending → Comes reading writing r r w w' old new x
  comes-refused w' old new h h' k k' n m p c e reply x was clear lets sends is =
      subst (λ (s : Connected). Comes reading writing r r w w' s new x) was
      (comes-spoke w' (at h k n m p c e) new x is (spoke-refused h h' k k' n m p c e reply new lets sends.tells new.ended sends.tells.sends)
      (does-refused h h' k k' n m p c e reply new lets sends.tells sends.took.part sends.took.noted_is
      (ap (λ (s : Connected). s.pending) was ∙ clear) new.ended new.pending refl refl sends.tells.sends)
      (ap (λ (s : Connected). s.read) sends.tells.same) sends.took sends.writes)

  -- ---- a read

  heard-writes : (x : Option Next) (pending : List ℕ) → pending ≡ [] → IsHeard x → WritesTo x pending w w
  heard-writes (Some (next.Ended (endings.Write error))) pending none heard = absurd heard
  heard-writes (Some next.Nothing) (byte ∷ pending) none heard = cc
  heard-writes _ pending none heard = settles-none w

  pub comes-heard : (r' : Noting R) (old mid new : Connected) (x : Option Next) → mid ≡ old → Hears reading r r' mid new x
      → Comes reading writing r r' w w old new x
  comes-heard r' old mid new x was p = subst (λ (s : Connected). Comes reading writing r r' w w s new x) was (record {
    does = p.does;
    gave = p.gave;
    took = took-none (writing w.inner) mid.written new.written p.written;
    at_end = p.at_end;
    reads = p.reads;
    writes = heard-writes x new.pending p.pending p.heard;
  })

-- ---- what a read comes to

module _ {R : Type 0} (reading : R → Reading) (r r' : Noting R) (old : Connected) (h0 h h' : List ℕ) (k : ChaCha)
    (n n' m p : List ℕ) (c : ℕ) (e : Option Ending) (was : at h k n m p c e ≡ old) (kept : h0 ≡ h) (going : old.ended ≡ None)
    (clear : old.pending ≡ []) (gave : Gave (reading r.inner) (reading r'.inner) n n') where
  none : p ≡ []
  none = ap (λ (s : Connected). s.pending) was ∙ clear

  still : e ≡ None
  still = ap (λ (s : Connected). s.ended) was ∙ going

  abbrev advances-fed : Fed n n' h0 h' → Advances (at h k n m p c e) (at h' k n' m p c e)
  advances-fed f = record {
    payloads = [];
    more = f.more;
    each = tt;
    read = f.noted_is;
    split = sym (f.held_is ∙ ap (λ (t : List ℕ). t ++ f.more) kept);
    out = sym (append-nil (m ++ p));
    words = refl;
    answered = omega arith;
  }

  pub hears-more : PieceTakes n n' h0 h' (reading r'.inner) piece.More → PieceBy piece.More r r'
      → Hears reading r r' old (at h' k n' m p c e) None
  hears-more f by = subst (λ (s : Connected). Hears reading r r' s (at h' k n' m p c e) None) was (record {
    does = (advances-fed f, still, none);
    gave = gave;
    at_end = tt;
    reads = by;
    written = refl;
    pending = none;
    heard = tt;
  })

  blocks : (pending : List ℕ) → pending ≡ [] → HasFailed r r' → ReadsTo (Some next.Nothing) pending r r'
  blocks [] none by = by
  blocks (byte ∷ pending) none by = cc

  -- nothing was read
  halts-unread : (ending : Ending) → n' ≡ n → Why ending p [] h [] p → Halts (at h k n m p c e) (at h' k n' m p c (Some ending)) ending
  halts-unread ending same why =
      halts-here (at h k n m p c e) (at h' k n' m p c (Some ending)) ending (ap (λ (x : List ℕ). at h' k x m p c (Some ending)) same) why

  module _ (partial : IsPartial old.held) where
    short : IsPartial h
    short = subst IsPartial (sym (ap (λ (s : Connected). s.held) was)) partial

    pub hears-nothing : PieceTakes n n' h0 h' (reading r'.inner) piece.Nothing → PieceBy piece.Nothing r r'
        → Hears reading r r' old (at h' k n' m p c e) (Some next.Nothing)
    hears-nothing f by = subst (λ (s : Connected). Hears reading r r' s (at h' k n' m p c e) (Some next.Nothing)) was (record {
      does = record {
        refused = advances-fed
            (record { more = []; noted_is = f.0 ∙ sym (append-nil n); held_is = f.1 ∙ sym (append-nil h0) });
        going = still;
        partial = λ all. subst IsPartial (sym (f.1 ∙ kept)) short;
        tail = λ some. absurd (some none);
      };
      gave = gave;
      at_end = tt;
      reads = blocks p none by;
      written = refl;
      pending = none;
      heard = tt;
    })

    halts-heard : (ending : Ending) → PieceTakes n n' h0 h' (reading r'.inner) (piece.Ended ending)
        → Halts (at h k n m p c e) (at h' k n' m p c (Some ending)) ending
    halts-heard endings.Closed f = halts-unread endings.Closed f.0 (sym kept ∙ f.1, refl, none)
    halts-heard endings.Cut f = halts-unread endings.Cut f.0 ((λ is. f.1 (kept ∙ is)), short, refl, none)
    halts-heard endings.TooLong f = absurd f
    halts-heard (endings.Read error) f = halts-unread (endings.Read error) f (short, refl, none)
    halts-heard (endings.Write error) f = absurd f
    halts-heard endings.Memory f = record {
      mid = at h k n m p c e;
      refused = advances-none (at h k n m p c e);
      more = gave.more;
      same = ap (λ (x : List ℕ). at h' k x m p c (Some endings.Memory)) gave.noted_is;
      why = none;
    }

    end-heard : (ending : Ending) → PieceTakes n n' h0 h' (reading r'.inner) (piece.Ended ending)
        → AtEnd (Some (next.Ended ending)) (reading r'.inner)
    end-heard endings.Closed f = f.2
    end-heard endings.Cut f = f.2
    end-heard _ f = tt

    reads-heard : (ending : Ending) → PieceBy (piece.Ended ending) r r' → ReadsTo (Some (next.Ended ending)) p r r'
    reads-heard (endings.Read error) by = by
    reads-heard _ by = by

    is-heard : (ending : Ending) → PieceTakes n n' h0 h' (reading r'.inner) (piece.Ended ending) → IsHeard (Some (next.Ended ending))
    is-heard (endings.Write error) f = absurd f
    is-heard _ f = tt

    pub hears-end : (new : Connected) (ending : Ending) → new ≡ at h' k n' m p c (Some ending)
        → PieceTakes n n' h0 h' (reading r'.inner) (piece.Ended ending) → PieceBy (piece.Ended ending) r r'
        → Hears reading r r' old new (Some (next.Ended ending))
    hears-end new ending is f by =
        subst (λ (s : Connected). Hears reading r r' s new (Some (next.Ended ending))) was
        (subst (λ (s : Connected). Hears reading r r' (at h k n m p c e) s (Some (next.Ended ending))) (sym is) (record {
          does = halts-heard ending f;
          gave = gave;
          at_end = end-heard ending f;
          reads = reads-heard ending by;
          written = refl;
          pending = none;
          heard = is-heard ending f;
        }))
