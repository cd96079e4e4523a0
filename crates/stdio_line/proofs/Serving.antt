-- A line, from its first byte to its end.
use Rattle.std.proofs.Common.{◌≡◌, ◌⊎◌, ℕ, ◌-◌, ◌^◌, ◌≤◌, min, List, [], ◌∷◌, ◌++◌, map, length, Option, Some, None, Result, Ok, Err, refl, sym, ap, subst, ◌∙◌, append_assoc, arith, inl, inr}
use Rattle.std.specs.List.{flat_map, AllByRecursion}
use Rattle.door.specs.Ends.{GaveBytes, Reading, TookBytes, Writing}
use Rattle.std.proofs.lemmas.List.{append-nil, append_cancel_left, append_cancel_right, length-append}
use Rattle.std.proofs.lemmas.List.Concat.{flat_map-cons, flat_map-append}
use Rattle.std.proofs.lemmas.List.Folds.{flat_map-map}
use Rattle.rand_chacha.specs.ChaCha.{ChaCha}
use Rattle.ck_calls.specs.declared.reply.Reply.{Reply}
use Rattle.keep.specs.Keeping.{Terms}
use Rattle.wire.specs.Messages.{frame, most, call_in}
use Rattle.wire.specs.Replies.{HasReplyFrame}
use Rattle.wire.specs.Stream.{IsPartial, IsTooLong}
use Rattle.token.specs.States.{TokenState}
use Rattle.line.specs.declared.ending.Ending.{Ending}
use Rattle.line.specs.declared.ending.Ending.TheVariants as endings
use Rattle.stdio_line.specs.declared.fault.LineFault.{LineFault}
use Rattle.stdio_line.specs.declared.fault.LineFault.TheVariants as faults
use Rattle.ck_calls.specs.declared.app_call.AppCall.{AppCall}
use Rattle.line.specs.declared.next.Next.TheVariants as next
use Rattle.watched.specs.Noting.{Noting, Unfailing, Settles, HasFailed}
use Rattle.line.specs.Turns.{Message, messages, refusal_in, reply_frame}
use Rattle.line.specs.State.{Connected, output}
use Rattle.line.specs.Asking.{Gave, Took}
use Rattle.line.specs.Connecting.{IsNoCall, refusal_frame, Advances, Gives, Tail, Waits, Why, Halts, AtEnd, ReadsTo, WritesTo, Comes, ReplyComes, Omits, SendsBy, Tells, SendsTo, Sends}
use Rattle.stdio_line.specs.Lines.{Leads}
use Rattle.stdio_line.specs.Serve.{AreFrames, IsCutOff, LacksLast, IsWritten, counted_calls, EndsBy, ReadsBy, WritesBy, Serves}
use Rattle.stdio_line.specs.Parts.{IsFresh, line_outcome, fault_at, block_at, Ends}
use Rattle.line.proofs.Lines.{gave-none, gave-then, took-none, took-then, all-append}
use Rattle.watched.proofs.Noting.{unfailing-none, unfailing-then, failed-after, settles-none, settles-then, settles-unfailing}
use Rattle.stdio_line.proofs.Leading.{leads-none, leads-then, leads-refusals}
use Rattle.line.proofs.Advancing.{refusal-framed}
use Rattle.line.proofs.Turning.{messages-append, short-each}

-- ---- what was answered

abbrev refusal_at : List ℕ → Reply
refusal_at payload = refusal_in (call_in payload)

refusals-framed : (ps : List (List ℕ)) → AllByRecursion IsNoCall ps → AllByRecursion HasReplyFrame (map refusal_at ps)
refusals-framed [] each = tt
refusals-framed (p ∷ ps) each =
    (subst HasReplyFrame (sym (ap refusal_in each.0.1.1)) (refusal-framed each.0.1.0), refusals-framed ps each.1)

length-refusals : (ps : List (List ℕ)) → length (map refusal_at ps) ≡ length ps
length-refusals [] = refl
length-refusals (p ∷ ps) = omega (arith, length-refusals ps)

refusals-append : (ps qs : List (List ℕ)) → map refusal_at (ps ++ qs) ≡ map refusal_at ps ++ map refusal_at qs
refusals-append [] qs = refl
refusals-append (p ∷ ps) qs = ap (λ (rs : List Reply). refusal_at p ∷ rs) (refusals-append ps qs)

frames-of-refusals : (ps : List (List ℕ)) → flat_map reply_frame (map refusal_at ps) ≡ flat_map refusal_frame ps
frames-of-refusals ps = flat_map-map reply_frame refusal_at ps

pub flat_map-last : {X : Type 0} (f : X → List ℕ) (xs : List X) (x : X) → flat_map f (xs ++ x ∷ []) ≡ flat_map f xs ++ f x
flat_map-last f xs x = flat_map-append f xs (x ∷ []) ∙ ap (λ (y : List ℕ). flat_map f xs ++ y) (flat_map-cons f x [] ∙ append-nil (f x))

all-split : {X : Type 0} (P : X → Type 0) (xs : List X) (x : X) → AllByRecursion P (xs ++ x ∷ []) → AllByRecursion P xs × P x
all-split P [] x all = (tt, all.0)
all-split P (y ∷ xs) x all = ((all.0, (all-split P xs x all.1).0), (all-split P xs x all.1).1)

some-is : (x y : LineFault) → Some x ≡ Some y → x ≡ y
some-is x y e = cc

some-not : (byte : ℕ) (bytes : List ℕ) → byte ∷ bytes ≡ [] → ⊥
some-not byte bytes e = cc

either : {A B P : Type 0} → (A → P) → (B → P) → A ⊎ B → P
either f g (inl x) = f x
either f g (inr y) = g y

-- ---- what a connection makes of a reply

module _ {W : Type 0} (b c : Connected) (reply : Reply) (w w' : Noting W) where
  -- it goes on
  goes-on : (e : Option Ending) (pending : List ℕ) → fault_at e pending ≡ None → SendsBy e b c reply → SendsTo e pending w w'
      → (e ≡ None) × (pending ≡ []) × ReplyComes b c reply × Settles w w'
  goes-on None [] goes s to = (refl, refl, s, to)
  goes-on None (byte ∷ pending) goes s to = cc
  goes-on (Some endings.Closed) pending goes s to = absurd s
  goes-on (Some endings.Cut) pending goes s to = absurd s
  goes-on (Some endings.TooLong) pending goes s to = absurd s
  goes-on (Some (endings.Read error)) pending goes s to = absurd s
  goes-on (Some (endings.Write error)) pending goes s to = cc
  goes-on (Some endings.Memory) pending goes s to = cc

  -- or the line ends
  abbrev Stops : LineFault → Type 0
  Stops fault = ((faults.Write ≡ fault) × ReplyComes b c reply × HasFailed w w') ⊎ ((faults.Memory ≡ fault) × Omits b c × Settles w w')

  stops : (e : Option Ending) (pending : List ℕ) (fault : LineFault) → fault_at e pending ≡ Some fault → SendsBy e b c reply
      → SendsTo e pending w w' → Stops fault
  stops None [] fault is s to = cc
  stops None (byte ∷ pending) fault is s to = inl (some-is faults.Write fault is, s, to)
  stops (Some endings.Closed) pending fault is s to = absurd s
  stops (Some endings.Cut) pending fault is s to = absurd s
  stops (Some endings.TooLong) pending fault is s to = absurd s
  stops (Some (endings.Read error)) pending fault is s to = absurd s
  stops (Some (endings.Write error)) pending fault is s to = inl (some-is faults.Write fault is, s, to)
  stops (Some endings.Memory) pending fault is s to = inr (some-is faults.Memory fault is, s, to)

-- the payloads of what was read were answered so
pub record Conversed (leads : List Message → List Reply → Type 0) (c : Connected) : Type 0 where
  pub payloads : List (List ℕ)
  pub said : List Reply
  pub each : AllByRecursion (λ p. length p ≤ most) payloads
  pub read : c.read ≡ flat_map frame payloads ++ c.held
  pub out : output c ≡ flat_map reply_frame said
  pub framed : AllByRecursion HasReplyFrame said
  pub led : leads (messages payloads) said
  pub counts : c.answered ≡ length payloads

module _ {K : Type 0} (terms : Terms K) (app : ℕ) (old : TokenState K) (first : ChaCha) where
  abbrev Told : TokenState K → ChaCha → List Message → List Reply → Type 0
  Told t words = Leads terms app old t first words

  -- what is no call was refused
  abbrev conversed-advances : (t : TokenState K) (a b : Connected) → Conversed (Told t a.words) a → Advances a b
      → Conversed (Told t b.words) b
  conversed-advances t a b p q = record {
    payloads = p.payloads ++ q.payloads;
    said = p.said ++ map refusal_at q.payloads;
    each = all-append (λ x. length x ≤ most) p.payloads q.payloads p.each (short-each q.payloads q.each);
    read = q.read ∙ ap (λ (y : List ℕ). y ++ q.more) p.read ∙ append_assoc (flat_map frame p.payloads) a.held q.more
        ∙ ap (λ (y : List ℕ). flat_map frame p.payloads ++ y) q.split
        ∙ sym (append_assoc (flat_map frame p.payloads) (flat_map frame q.payloads) b.held)
        ∙ ap (λ (y : List ℕ). y ++ b.held) (sym (flat_map-append frame p.payloads q.payloads));
    out = q.out ∙ ap (λ (y : List ℕ). y ++ flat_map refusal_frame q.payloads) p.out
        ∙ ap (λ (y : List ℕ). flat_map reply_frame p.said ++ y) (sym (frames-of-refusals q.payloads))
        ∙ sym (flat_map-append reply_frame p.said (map refusal_at q.payloads));
    framed = all-append HasReplyFrame p.said (map refusal_at q.payloads) p.framed (refusals-framed q.payloads q.each);
    led = subst (λ (words : ChaCha). Told t words (messages (p.payloads ++ q.payloads)) (p.said ++ map refusal_at q.payloads)) (sym q.words)
        (subst (λ (ms : List Message). Told t a.words ms (p.said ++ map refusal_at q.payloads))
        (sym (messages-append p.payloads q.payloads))
        (leads-then terms app old t t first a.words a.words (messages p.payloads) (messages q.payloads) p.said
        (map refusal_at q.payloads) p.led (leads-refusals terms app t a.words q.payloads q.each)));
    counts = omega (arith, p.counts, q.answered, length-append p.payloads q.payloads);
  }

  module _ (t t' : TokenState K) (a b c : Connected) (given : AppCall) (reply : Reply) (p : Conversed (Told t a.words) a)
      (q : Gives a b given) (s : Tells b c reply)
      (led : Leads terms app t t' q.mid.words b.words (call_in q.call.payload ∷ []) (reply ∷ [])) where
    abbrev m : Conversed (Told t q.mid.words) q.mid
    m = conversed-advances t a q.mid p q.refused

    abbrev payload : List ℕ
    payload = q.call.payload

    each_more : AllByRecursion (λ x. length x ≤ most) (m.payloads ++ payload ∷ [])
    each_more = all-append (λ x. length x ≤ most) m.payloads (payload ∷ []) m.each (q.call.short, tt)

    read_more : c.read ≡ flat_map frame (m.payloads ++ payload ∷ []) ++ c.held
    read_more = ap (λ (x : Connected). x.read) s.same ∙ ap (λ (x : Connected). x.read) q.same ∙ m.read
        ∙ ap (λ (y : List ℕ). flat_map frame m.payloads ++ y) q.call.front
        ∙ sym (append_assoc (flat_map frame m.payloads) (frame payload) b.held)
        ∙ ap (λ (y : List ℕ). y ++ b.held) (sym (flat_map-last frame m.payloads payload))
        ∙ ap (λ (y : List ℕ). flat_map frame (m.payloads ++ payload ∷ []) ++ y) (sym (ap (λ (x : Connected). x.held) s.same))

    led_more : Told t' c.words (messages (m.payloads ++ payload ∷ [])) (m.said ++ reply ∷ [])
    led_more = subst (λ (words : ChaCha). Told t' words (messages (m.payloads ++ payload ∷ [])) (m.said ++ reply ∷ []))
        (sym (ap (λ (x : Connected). x.words) s.same))
        (subst (λ (ms : List Message). Told t' b.words ms (m.said ++ reply ∷ [])) (sym (messages-append m.payloads (payload ∷ [])))
        (leads-then terms app old t t' first q.mid.words b.words (messages m.payloads) (call_in payload ∷ []) m.said
        (reply ∷ []) m.led led))

    -- what was written when the call was given
    written_before : b.written ≡ flat_map reply_frame m.said
    written_before = ap (λ (x : Connected). x.written) q.same ∙ sym (append-nil q.mid.written)
        ∙ ap (λ (y : List ℕ). q.mid.written ++ y) (sym q.all) ∙ m.out

    none_pending : b.pending ≡ []
    none_pending = ap (λ (x : Connected). x.pending) q.same

    out_more : ReplyComes b c reply → output c ≡ flat_map reply_frame m.said ++ reply_frame reply
    out_more x = x.out ∙ ap (λ (y : List ℕ). (b.written ++ y) ++ reply_frame reply) none_pending
        ∙ ap (λ (y : List ℕ). y ++ reply_frame reply) (append-nil b.written ∙ written_before)

    -- the reply comes out
    conversed-told : ReplyComes b c reply → Conversed (Told t' c.words) c
    conversed-told x = record {
      payloads = m.payloads ++ payload ∷ [];
      said = m.said ++ reply ∷ [];
      each = each_more;
      read = read_more;
      out = out_more x ∙ sym (flat_map-last reply_frame m.said reply);
      framed = all-append HasReplyFrame m.said (reply ∷ []) m.framed (x.framed, tt);
      led = led_more;
      counts = omega (arith, x.answered, ap (λ (y : Connected). y.answered) q.same, m.counts, length-append m.payloads (payload ∷ []));
    }

    -- a part of it was written
    told-cut : (part : List ℕ) → c.written ≡ b.written ++ part → ReplyComes b c reply → IsCutOff c.written (m.said ++ reply ∷ [])
    told-cut part wrote x = record {
      front = m.said;
      last = reply;
      all = refl;
      before = flat_map reply_frame m.said;
      frames = record { bytes = refl; each = m.framed };
      framed = x.framed;
      part = part;
      lacking = c.pending;
      cut = sym (append_cancel_left (flat_map reply_frame m.said) (part ++ c.pending) (reply_frame reply)
          (sym (append_assoc (flat_map reply_frame m.said) part c.pending)
          ∙ ap (λ (y : List ℕ). (y ++ part) ++ c.pending) (sym written_before) ∙ ap (λ (y : List ℕ). y ++ c.pending) (sym wrote)
          ∙ out_more x));
      bytes = wrote ∙ ap (λ (y : List ℕ). y ++ part) written_before;
    }

    -- nothing of it was
    told-none : HasReplyFrame reply → Omits b c → LacksLast c.written (m.said ++ reply ∷ [])
    told-none framed x = record {
      front = m.said;
      last = reply;
      all = refl;
      frames = record { bytes = x.written ∙ written_before; each = m.framed };
      framed = framed;
    }

  -- ---- a line

  module _ {R W : Type 0} (reading : R → Reading) (writing : W → Writing) (r0 : Noting R) (w0 : Noting W) where
    -- what was read and answered so far
    pub record Serving (t : TokenState K) (r : Noting R) (w : Noting W) (c : Connected) : Type 0 where
      pub so_far : Conversed (Told t c.words) c
      pub going : c.ended ≡ None
      pub clear : c.pending ≡ []
      pub gave : Gave (reading r0.inner) (reading r.inner) [] c.read
      pub took : Took (writing w0.inner) (writing w.inner) [] c.written
      pub reads : Unfailing r0 r
      pub writes : Settles w0 w

    -- all that is known at an end
    serves-with : (t : TokenState K) (r : Noting R) (w : Noting W) (c : Connected) (result : Result ℕ LineFault)
        (payloads : List (List ℕ)) (rest : List ℕ) (said : List Reply) → AllByRecursion (λ p. length p ≤ most) payloads
        → c.read ≡ flat_map frame payloads ++ rest
        → Gave (reading r0.inner) (reading r.inner) [] c.read → Took (writing w0.inner) (writing w.inner) [] c.written
        → Told t c.words (messages payloads) said → IsWritten result c.written said → EndsBy result payloads rest (reading r.inner)
        → ReadsBy r0 r result → WritesBy w0 w result → Ends terms app old t first c.words reading writing r0 r w0 w result
    serves-with t r w c result payloads rest said each read gave took led front ends reads writes = record {
      serves = record {
        payloads = payloads;
        rest = rest;
        said = said;
        written = c.written;
        each = each;
        read = subst (λ (y : List ℕ). GaveBytes (reading r0.inner) (reading r.inner) y) (sym gave.noted_is ∙ read) gave.given;
        wrote = subst (λ (y : List ℕ). TookBytes (writing w0.inner) (writing w.inner) y) (sym took.noted_is) took.wrote;
        front = front;
        led = led;
        ends = ends;
      };
      reads = reads;
      writes = writes;
    }

    pub serving-none : (c : Connected) → c.words ≡ first → IsFresh c → Serving old r0 w0 c
    serving-none c is fresh = record {
      so_far = record {
        payloads = [];
        said = [];
        each = tt;
        read = fresh.read ∙ sym fresh.held;
        out = ap (λ (y : List ℕ). y ++ c.pending) fresh.written ∙ fresh.pending;
        framed = tt;
        led = subst (λ (words : ChaCha). Told old words [] []) (sym is) (leads-none terms app old first);
        counts = fresh.answered;
      };
      going = fresh.going;
      clear = fresh.pending;
      gave = subst (λ (y : List ℕ). Gave (reading r0.inner) (reading r0.inner) [] y) (sym fresh.read) (gave-none (reading r0.inner) []);
      took = took-none (writing w0.inner) [] c.written fresh.written;
      reads = unfailing-none r0;
      writes = settles-none w0;
    }

    -- no memory was left for more
    pub ends-memory : (t : TokenState K) (r : Noting R) (w : Noting W) (c : Connected) → Serving t r w c
        → Ends terms app old t first c.words reading writing r0 r w0 w (Err faults.Memory)
    ends-memory t r w c p = serves-with t r w c
        (Err faults.Memory) p.so_far.payloads c.held p.so_far.said p.so_far.each p.so_far.read p.gave p.took p.so_far.led
        (inl (record {
          bytes = sym (append-nil c.written) ∙ ap (λ (y : List ℕ). c.written ++ y) (sym p.clear) ∙ p.so_far.out;
          each = p.so_far.framed;
        })) tt p.reads p.writes

    -- ---- a call and its reply

    module _ (t t' : TokenState K) (r r' : Noting R) (w w' w'' : Noting W) (a b c : Connected) (given : AppCall) (reply : Reply)
        (p : Serving t r w a) (q : Gives a b given) (comes : Comes reading writing r r' w w' a b (Some (next.Call given)))
        (sends : Sends writing w' w'' b c reply)
        (led : Leads terms app t t' q.mid.words b.words (call_in q.call.payload ∷ []) (reply ∷ [])) where
      gave_all : Gave (reading r0.inner) (reading r'.inner) [] c.read
      gave_all = subst (λ (y : List ℕ). Gave (reading r0.inner) (reading r'.inner) [] y)
          (sym (ap (λ (x : Connected). x.read) sends.tells.same))
          (gave-then (reading r0.inner) (reading r.inner) (reading r'.inner) [] a.read b.read p.gave comes.gave)

      took_all : Took (writing w0.inner) (writing w''.inner) [] c.written
      took_all = took-then (writing w0.inner) (writing w'.inner) (writing w''.inner) [] b.written c.written
          (took-then (writing w0.inner) (writing w.inner) (writing w'.inner) [] a.written b.written p.took comes.took) sends.took

      reads_all : Unfailing r0 r'
      reads_all = unfailing-then r0 r r' p.reads comes.reads

      writes_all : Settles w0 w'
      writes_all = settles-then w0 w w' p.writes comes.writes

      pub serving-told : fault_at c.ended c.pending ≡ None → Serving t' r' w'' c
      serving-told goes =
          let on = goes-on b c reply w' w'' c.ended c.pending goes sends.tells.sends sends.writes in
          record {
            so_far = conversed-told t t' a b c given reply p.so_far q sends.tells led on.2;
            going = on.0;
            clear = on.1;
            gave = gave_all;
            took = took_all;
            reads = reads_all;
            writes = settles-then w0 w' w'' writes_all on.3;
          }

      abbrev Over : LineFault → Type 0
      Over fault = Ends terms app old t' first c.words reading writing r0 r' w0 w'' (Err fault)

      -- the writer failed, or takes no more
      over-cut : ReplyComes b c reply → HasFailed w' w'' → Over faults.Write
      over-cut x failed =
          serves-with t' r' w'' c (Err faults.Write) _ c.held _ (each_more t t' a b c given reply p.so_far q sends.tells led)
          (read_more t t' a b c given reply p.so_far q sends.tells led) gave_all took_all
          (led_more t t' a b c given reply p.so_far q sends.tells led)
          (told-cut t t' a b c given reply p.so_far q sends.tells led sends.took.part sends.took.noted_is x) tt reads_all
          (failed-after w0 w' w'' (settles-unfailing w0 w' writes_all) failed)

      -- there was no memory for the reply's frame
      over-memory : HasReplyFrame reply → Omits b c → Settles w' w'' → Over faults.Memory
      over-memory framed x to =
          serves-with t' r' w'' c (Err faults.Memory) _ c.held _ (each_more t t' a b c given reply p.so_far q sends.tells led)
          (read_more t t' a b c given reply p.so_far q sends.tells led) gave_all took_all
          (led_more t t' a b c given reply p.so_far q sends.tells led)
          (inr (told-none t t' a b c given reply p.so_far q sends.tells led framed x)) tt reads_all (settles-then w0 w' w'' writes_all to)

      pub ends-told : HasReplyFrame reply → (fault : LineFault) → fault_at c.ended c.pending ≡ Some fault → Over fault
      ends-told framed fault is = either (λ x. subst Over x.0 (over-cut x.1 x.2)) (λ x. subst Over x.0 (over-memory framed x.1 x.2))
          (stops b c reply w' w'' c.ended c.pending fault is sends.tells.sends sends.writes)

    -- ---- the end of its connection

    module _ (t : TokenState K) (r r' : Noting R) (w w' : Noting W) (a b : Connected) (p : Serving t r w a) where
      -- the writer took a part of the last refusal
      refusal-cut : (mid : Connected) (q : Advances a mid) → Tail a.pending q.payloads mid.pending
          → IsCutOff mid.written (p.so_far.said ++ map refusal_at q.payloads)
      refusal-cut mid q (inl before) = absurd (before.0 p.clear)
      refusal-cut mid q (inr tail) =
          let front : List Reply = p.so_far.said ++ map refusal_at tail.0 in
          let all : p.so_far.said ++ map refusal_at q.payloads ≡ front ++ refusal_at tail.1 ∷ [] =
          ap (λ (y : List (List ℕ)). p.so_far.said ++ map refusal_at y) tail.3
          ∙ ap (λ (y : List Reply). p.so_far.said ++ y) (refusals-append tail.0 (tail.1 ∷ []))
          ∙ sym (append_assoc p.so_far.said (map refusal_at tail.0) (refusal_at tail.1 ∷ [])) in
          let m = conversed-advances t a mid p.so_far q in
          let framed = all-split HasReplyFrame front (refusal_at tail.1) (subst (AllByRecursion HasReplyFrame) all m.framed) in
          record {
            front = front;
            last = refusal_at tail.1;
            all = all;
            before = flat_map reply_frame front;
            frames = record { bytes = refl; each = framed.0 };
            framed = framed.1;
            part = tail.2;
            lacking = mid.pending;
            cut = tail.4;
            bytes = append_cancel_right mid.written (flat_map reply_frame front ++ tail.2) mid.pending
                (m.out ∙ ap (flat_map reply_frame) all ∙ flat_map-last reply_frame front (refusal_at tail.1)
                ∙ ap (λ (y : List ℕ). flat_map reply_frame front ++ y) tail.4
                ∙ sym (append_assoc (flat_map reply_frame front) tail.2 mid.pending));
          }

      abbrev End : Result ℕ LineFault → Type 0
      End result = Ends terms app old t first b.words reading writing r0 r' w0 w' result

      module _ (given : Gave (reading r.inner) (reading r'.inner) a.read b.read)
          (taken : Took (writing w.inner) (writing w'.inner) a.written b.written) where
        -- a connection that advanced, and perhaps read more
        finish : (mid : Connected) (q : Advances a mid) (more : List ℕ) (result : Result ℕ LineFault) → b.words ≡ mid.words
            → b.read ≡ mid.read ++ more → IsWritten result b.written (p.so_far.said ++ map refusal_at q.payloads)
            → EndsBy result (p.so_far.payloads ++ q.payloads) (mid.held ++ more) (reading r'.inner) → ReadsBy r0 r' result
            → WritesBy w0 w' result → End result
        finish mid q more result words read front ends reads writes =
            let m = conversed-advances t a mid p.so_far q in
            serves-with t r' w' b result m.payloads (mid.held ++ more) m.said m.each
            (read ∙ ap (λ (y : List ℕ). y ++ more) m.read ∙ append_assoc (flat_map frame m.payloads) mid.held more)
            (gave-then (reading r0.inner) (reading r.inner) (reading r'.inner) [] a.read b.read p.gave given)
            (took-then (writing w0.inner) (writing w.inner) (writing w'.inner) [] a.written b.written p.took taken)
            (subst (λ (k : ChaCha). Told t k (messages m.payloads) m.said) (sym words) m.led) front ends reads writes

        -- all of its answers were written
        are-frames : (mid : Connected) (q : Advances a mid) → b.written ≡ mid.written → mid.pending ≡ []
            → AreFrames b.written (p.so_far.said ++ map refusal_at q.payloads)
        are-frames mid q wrote none =
            let m = conversed-advances t a mid p.so_far q in
            record {
              bytes = wrote ∙ sym (append-nil mid.written) ∙ ap (λ (y : List ℕ). mid.written ++ y) (sym none) ∙ m.out;
              each = m.framed;
            }

        whole : (held more : List ℕ) → more ≡ [] → held ++ more ≡ held
        whole held more none = ap (λ (y : List ℕ). held ++ y) none ∙ append-nil held

        module _ (ending : Ending) (h : Halts a b ending) where
          words_end : b.words ≡ h.mid.words
          words_end = ap (λ (x : Connected). x.words) h.same

          read_end : b.read ≡ h.mid.read ++ h.more
          read_end = ap (λ (x : Connected). x.read) h.same

          written_end : b.written ≡ h.mid.written
          written_end = ap (λ (x : Connected). x.written) h.same

          abbrev Frames : Type 0
          Frames = AreFrames b.written (p.so_far.said ++ map refusal_at h.refused.payloads)

          frames_end : h.mid.pending ≡ [] → Frames
          frames_end none = are-frames h.mid h.refused written_end none

          finish_end : (result : Result ℕ LineFault)
              → IsWritten result b.written (p.so_far.said ++ map refusal_at h.refused.payloads)
              → EndsBy result (p.so_far.payloads ++ h.refused.payloads) (h.mid.held ++ h.more) (reading r'.inner)
              → ReadsBy r0 r' result → WritesBy w0 w' result → End result
          finish_end result front ends reads writes = finish h.mid h.refused h.more result words_end read_end front ends reads writes

          counts_end : (count : ℕ) → count ≡ min b.answered (2 ^ 64 - 1)
              → count ≡ counted_calls 0 (length (p.so_far.payloads ++ h.refused.payloads))
          counts_end count is = omega (
            arith,
            is,
            ap (λ (x : Connected). x.answered) h.same,
            h.refused.answered,
            p.so_far.counts,
            length-append p.so_far.payloads h.refused.payloads,
          )

          ended-by : (e : Ending) (count : ℕ) → count ≡ min b.answered (2 ^ 64 - 1)
              → Why e a.pending h.refused.payloads h.mid.held h.more h.mid.pending → AtEnd (Some (next.Ended e)) (reading r'.inner)
              → ReadsTo (Some (next.Ended e)) b.pending r r' → WritesTo (Some (next.Ended e)) b.pending w w' → End (line_outcome e count)
          ended-by endings.Closed count is why left reads writes =
              finish_end (Ok count) (frames_end why.2) (ap (λ (y : List ℕ). y ++ h.more) why.0 ∙ why.1, left, counts_end count is)
              (unfailing-then r0 r r' p.reads reads) (settles-then w0 w w' p.writes writes)
          ended-by endings.Cut count is why left reads writes =
              finish_end (Err faults.Cut) (frames_end why.3) (
                (λ none. why.0 (sym (whole h.mid.held h.more why.2) ∙ none)),
                subst IsPartial (sym (whole h.mid.held h.more why.2)) why.1,
                left,
              )
              (unfailing-then r0 r r' p.reads reads) (settles-then w0 w w' p.writes writes)
          ended-by endings.TooLong count is why left reads writes =
              finish_end (Err faults.TooLong) (frames_end why.2) (subst IsTooLong (sym (whole h.mid.held h.more why.1)) why.0)
              (unfailing-then r0 r r' p.reads reads) (settles-then w0 w w' p.writes writes)
          ended-by (endings.Read error) count is why left reads writes =
              finish_end (Err faults.Read) (frames_end why.2) (subst IsPartial (sym (whole h.mid.held h.more why.1)) why.0)
              (failed-after r0 r r' p.reads reads) (settles-then w0 w w' p.writes writes)
          ended-by (endings.Write error) count is why left reads writes =
              finish_end (Err faults.Write)
              (subst (λ (y : List ℕ). IsCutOff y (p.so_far.said ++ map refusal_at h.refused.payloads)) (sym written_end)
              (refusal-cut h.mid h.refused why.1)) tt (unfailing-then r0 r r' p.reads reads)
              (failed-after w0 w w' (settles-unfailing w0 w p.writes) writes)
          ended-by endings.Memory count is why left reads writes =
              finish_end (Err faults.Memory) (inl (frames_end why)) tt (unfailing-then r0 r r' p.reads reads)
              (settles-then w0 w w' p.writes writes)

        waits-by : Waits a b → (pending : List ℕ) → b.pending ≡ pending → ReadsTo (Some next.Nothing) pending r r'
            → WritesTo (Some next.Nothing) pending w w' → End (Err (block_at pending))
        waits-by h [] none reads writes =
            finish b h.refused [] (Err faults.Read) refl (sym (append-nil b.read)) (are-frames b h.refused refl none)
            (subst IsPartial (sym (append-nil b.held)) (h.partial none)) (failed-after r0 r r' p.reads reads)
            (settles-then w0 w w' p.writes writes)
        waits-by h (byte ∷ pending) more reads writes =
            finish b h.refused [] (Err faults.Write) refl (sym (append-nil b.read))
            (refusal-cut b h.refused (h.tail (λ none. some-not byte pending (sym more ∙ none)))) tt (unfailing-then r0 r r' p.reads reads)
            (failed-after w0 w w' (settles-unfailing w0 w p.writes) writes)

      pub ends-ended : (ending : Ending) (count : ℕ) → Comes reading writing r r' w w' a b (Some (next.Ended ending))
          → count ≡ min b.answered (2 ^ 64 - 1) → End (line_outcome ending count)
      ends-ended ending count comes is =
          ended-by comes.gave comes.took ending comes.does ending count is comes.does.why comes.at_end comes.reads comes.writes

      pub ends-waits : Comes reading writing r r' w w' a b (Some next.Nothing) → End (Err (block_at b.pending))
      ends-waits comes = waits-by comes.gave comes.took comes.does b.pending refl comes.reads comes.writes

-- a line that is known to do one thing is known to do what follows from it
pub serves-as : (leads leads' : List Message → List Reply → Type 0) (a b : Reading) (v w : Writing) (r : Result ℕ LineFault)
    → Serves leads a b v w r → ((ms : List Message) (rs : List Reply) → leads ms rs → leads' ms rs) → Serves leads' a b v w r
serves-as leads leads' a b v w r s f = record {
  payloads = s.payloads;
  rest = s.rest;
  said = s.said;
  written = s.written;
  each = s.each;
  read = s.read;
  wrote = s.wrote;
  front = s.front;
  led = f (messages s.payloads) s.said s.led;
  ends = s.ends;
}
