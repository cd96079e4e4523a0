-- What is due to a connection, by the account of it.
use Rattle.std.proofs.Common.{◌≡◌, ℕ, ◌+◌, length, List, [], ◌∷◌, ◌++◌, refl, sym, ap, ◌∙◌, append_assoc}
use Rattle.std.specs.List.{flat_map, AllByRecursion}
use Rattle.std.proofs.lemmas.List.{append-nil}
use Rattle.rand_chacha.specs.ChaCha.{ChaCha}
use Rattle.ck_calls.specs.declared.reply.Reply.{Reply}
use Rattle.wire.specs.Messages.{frame}
use Rattle.line.specs.Connecting.{IsNoCall, refusal_frame}
use Rattle.line_places.specs.Due.{Due}
use Rattle.line.specs.State.{Connected, output}
use Rattle.line.specs.Turns.{Ask, reply_frame}
use Rattle.line.specs.Whole.{Account, Owes}
use Rattle.line.proofs.Turning.{account-nothing, account-told}

module _ (first : ChaCha) where
  of-account : (c : Connected) (asked : List Ask) (told : List Reply) → Account first c asked told → Due first c.read asked told (output c)
  of-account c asked told p = record {
    payloads = p.payloads;
    rest = c.held;
    each = p.each;
    read_is = p.read;
    asked_are = p.asked_are;
    one_each = p.one_each;
    out_is = p.written;
  }

  pub due-refused : (c : Connected) (asked : List Ask) (told : List Reply) (payloads : List (List ℕ)) (more held : List ℕ)
      → Account first c asked told
      → AllByRecursion IsNoCall payloads → c.held ++ more ≡ flat_map frame payloads ++ held
      → Due first (c.read ++ more) asked told (output c ++ flat_map refusal_frame payloads)
  due-refused c asked told payloads more held p each split =
      let out = c.pending ++ flat_map refusal_frame payloads in
      let then : Connected = record {
        held = held;
        words = c.words;
        read = c.read ++ more;
        written = c.written;
        pending =
            out;
        answered = c.answered + length payloads;
        ended = c.ended;
      } in
      let all = account-nothing first c then asked told p
      (record {
        payloads = payloads;
        more = more;
        each = each;
        read = refl;
        split = split;
        out = sym (append_assoc c.written c.pending (flat_map refusal_frame payloads));
        words = refl;
        answered = refl;
      }) in
      let due = of-account then asked told all in
      record {
        payloads = due.payloads;
        rest = due.rest;
        each = due.each;
        read_is = due.read_is;
        asked_are = due.asked_are;
        one_each = due.one_each;
        out_is = append_assoc c.written c.pending (flat_map refusal_frame payloads) ∙ due.out_is;
      }

  pub due-answered : (c : Connected) (reply : Reply) (asked : List Ask) (told : List Reply) → Owes first c asked told
      → Due first c.read asked (told ++ reply ∷ []) (output c ++ reply_frame reply)
  due-answered c reply asked told o =
      let q = o.gives in
      let mid = account-nothing first o.before q.mid o.asked_before told o.account q.refused in
      let full : Connected = record {
        held = c.held;
        words = c.words;
        read = q.mid.read;
        written =
            output q.mid ++ reply_frame reply;
        pending = [];
        answered = c.answered;
        ended = c.ended;
      } in
      let all = account-told first q.mid o.given reply o.asked_before told q.call.payload c.held c.words full mid q.call.short
      q.call.front q.call.is refl refl refl (append-nil (output q.mid ++ reply_frame reply)) in
      let out : output c ≡ output q.mid = ap output q.same ∙ ap (λ (t : List ℕ). q.mid.written ++ t) (sym q.all) in
      record {
        payloads = all.payloads;
        rest = c.held;
        each = all.each;
        read_is = ap (λ (x : Connected). x.read) q.same ∙ all.read;
        asked_are = o.asked_is ∙ all.asked_are;
        one_each = all.one_each ∙ sym (ap length o.asked_is);
        out_is = ap (λ (t : List ℕ). t ++ reply_frame reply) out ∙ sym (append-nil (output q.mid ++ reply_frame reply)) ∙ all.written;
      }
