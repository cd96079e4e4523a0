-- What may be written stays so as a connection goes on.
use Rattle.std.proofs.Common.{◌≡◌, ℕ, List, [], ◌∷◌, ◌++◌, None, refl, sym, ap, subst, ◌∙◌, append_assoc, inl, inr, ⊎_elim}
use Rattle.std.specs.List.{flat_map}
use Rattle.std.proofs.lemmas.List.{append-nil, append_cancel_left}
use Rattle.std.proofs.lemmas.List.Concat.{flat_map-cons, flat_map-append}
use Rattle.rand_chacha.specs.ChaCha.{ChaCha}
use Rattle.ck_calls.specs.declared.reply.Reply.{Reply}
use Rattle.door.specs.Ends.{Reading, TookBytes, Writing}
use Rattle.wire.specs.Messages.{frame}
use Rattle.watched.specs.Noting.{Noting}
use Rattle.line.specs.Asking.{Gave, IsRefused, Lets, Took}
use Rattle.line.specs.Connecting.{Advances, Comes, IsNoCall, refusal_frame}
use Rattle.line.specs.Permits.{IsGiven, Knows, Permits, PermitsOn}
use Rattle.line.specs.State.{Connected}
use Rattle.line.specs.Turns.{refusal_in, reply_frame}
use Rattle.line.proofs.Lines.{Front, all-append}

module _ (allows : ℕ → List ℕ → List ℕ → Type 0) where
  -- the rest, once the first of the bytes were taken
  pub may-rest : (a b : Writing) (bytes rest : List ℕ) (n n' : List ℕ) → Permits allows a bytes → Front bytes rest a b n n'
      → allows b.app b.took rest
  may-rest a b bytes rest n n' may p =
      subst (λ (z : ℕ × List ℕ). allows z.0 z.1 rest) (λ i. (sym p.wrote.app i, sym p.wrote.took i))
      (may p.front rest [] (p.whole ∙ sym (append-nil (p.front ++ rest))))

  -- a part was taken, and this is left
  pub permits-left : (a b : Writing) (part out left : List ℕ) → TookBytes a b part → out ≡ part ++ left → Permits allows a out
      → Permits allows b left
  permits-left a b part out left took whole may front bytes rest is =
      subst (λ (z : ℕ × List ℕ). allows z.0 z.1 bytes)
      (λ i. (sym took.app i, (sym (append_assoc a.took part front) ∙ ap (λ (t : List ℕ). t ++ front) (sym took.took)) i))
      (may (part ++ front) bytes rest
      (whole ∙ ap (λ (t : List ℕ). part ++ t) is ∙ sym (append_assoc part (front ++ bytes) rest)
      ∙ ap (λ (t : List ℕ). t ++ rest) (sym (append_assoc part front bytes))))

  module _ (given : ℕ → List ℕ → Type 0) where
    -- what is to be written now
    pub on-now : (r : Reading) (w : Writing) (c : Connected) → PermitsOn given allows r w c → Permits allows w c.pending
    on-now r w c on = subst (Permits allows w) (append-nil c.pending) (on [] [] c.held tt (append-nil c.held) (inl refl))

    -- and the refusal of what is at the front
    pub on-refused : (r : Reading) (w : Writing) (c : Connected) (k k' : ChaCha) (reply : Reply) (held h p : List ℕ)
        → PermitsOn given allows r w c → h ≡ c.held → p ≡ c.pending → Lets (λ p. IsRefused p k k' reply) h held
        → Permits allows w (p ++ reply_frame reply)
    on-refused r w c k k' reply held h p on here left lets =
        let answer : refusal_frame lets.payload ≡ reply_frame reply =
        sym (ap reply_frame (lets.is.reply_is ∙ sym (ap refusal_in lets.is.is))) in
        let one : flat_map refusal_frame (lets.payload ∷ []) ≡ reply_frame reply =
        flat_map-cons refusal_frame lets.payload [] ∙ append-nil (refusal_frame lets.payload) ∙ answer in
        subst (Permits allows w) (λ i. sym left i ++ one i)
        (on (lets.payload ∷ []) [] held ((lets.short, (lets.is.fault, lets.is.is)), tt)
        (append-nil c.held ∙ sym here ∙ lets.front
        ∙ ap (λ (t : List ℕ). t ++ held) (sym (append-nil (frame lets.payload)) ∙ sym (flat_map-cons frame lets.payload [])))
        (inl refl))

    -- after more was read, and what is no call was refused
    module _ (r r' : Reading) (w w' : Writing) (a b : Connected) (advances : Advances a b) (gave : Gave r r' a.read b.read)
        (took : Took w w' a.written b.written) (knows : Knows given r r') where
      more_is : gave.more ≡ advances.more
      more_is = append_cancel_left a.read gave.more advances.more (sym gave.noted_is ∙ advances.read)

      gave_is : r'.gave ≡ r.gave ++ advances.more
      gave_is = gave.given.gave ∙ ap (λ (t : List ℕ). r.gave ++ t) more_is

      given-more : (more : List ℕ) → IsGiven given r' more → IsGiven given r (advances.more ++ more)
      given-more more (inl none) = ⊎_elim
          (λ (same : r'.gave ≡ r.gave). inl
          (ap (λ (t : List ℕ). t ++ more)
          (append_cancel_left r.gave advances.more [] (sym gave_is ∙ same ∙ sym (append-nil r.gave))) ∙ none))
          (λ (has : given r'.app r'.gave). inr
          (subst (λ (z : ℕ × List ℕ). given z.0 z.1)
          (λ i. (
            gave.given.app i,
            (gave_is
                ∙ ap (λ (t : List ℕ). r.gave ++ t)
                (sym (append-nil advances.more) ∙ ap (λ (t : List ℕ). advances.more ++ t) (sym none))) i,
          )) has)) knows
      given-more more (inr has) = inr
          (subst (λ (z : ℕ × List ℕ). given z.0 z.1)
          (λ i. (gave.given.app i, (ap (λ (t : List ℕ). t ++ more) gave_is ∙ append_assoc r.gave advances.more more) i)) has)

      abbrev refused : List ℕ
      refused = flat_map refusal_frame advances.payloads

      left_is : a.pending ++ refused ≡ took.part ++ b.pending
      left_is = append_cancel_left a.written (a.pending ++ refused) (took.part ++ b.pending)
          (sym (append_assoc a.written a.pending refused) ∙ sym advances.out ∙ ap (λ (t : List ℕ). t ++ b.pending) took.noted_is
          ∙ append_assoc a.written took.part b.pending)

      pub on-after : PermitsOn given allows r w a → PermitsOn given allows r' w' b
      on-after on payloads more held each split has =
          let all : flat_map refusal_frame (advances.payloads ++ payloads) ≡ refused ++ flat_map refusal_frame payloads =
          flat_map-append refusal_frame advances.payloads payloads in
          let frames : flat_map frame (advances.payloads ++ payloads) ≡ flat_map frame advances.payloads
          ++ flat_map frame payloads = flat_map-append frame advances.payloads payloads in
          permits-left w w' took.part (a.pending ++ flat_map refusal_frame (advances.payloads ++ payloads))
          (b.pending ++ flat_map refusal_frame payloads) took.wrote
          (ap (λ (t : List ℕ). a.pending ++ t) all ∙ sym (append_assoc a.pending refused (flat_map refusal_frame payloads))
          ∙ ap (λ (t : List ℕ). t ++ flat_map refusal_frame payloads) left_is
          ∙ append_assoc took.part b.pending (flat_map refusal_frame payloads))
          (on (advances.payloads ++ payloads) (advances.more ++ more) held
          (all-append IsNoCall advances.payloads payloads advances.each each)
          (sym (append_assoc a.held advances.more more) ∙ ap (λ (t : List ℕ). t ++ more) advances.split
          ∙ append_assoc (flat_map frame advances.payloads) b.held more
          ∙ ap (λ (t : List ℕ). flat_map frame advances.payloads ++ t) split
          ∙ sym (append_assoc (flat_map frame advances.payloads) (flat_map frame payloads) held)
          ∙ ap (λ (t : List ℕ). t ++ held) (sym frames))
          (given-more more has))

module _ {R W : Type 0} (reading : R → Reading) (writing : W → Writing) (given : ℕ → List ℕ → Type 0)
    (allows : ℕ → List ℕ → List ℕ → Type 0) (r r' : Noting R) (w w' : Noting W) (a b : Connected) where
  pub on-comes : Comes reading writing r r' w w' a b None → Knows given (reading r.inner) (reading r'.inner)
      → PermitsOn given allows (reading r.inner) (writing w.inner) a → PermitsOn given allows (reading r'.inner) (writing w'.inner) b
  on-comes comes knows = on-after allows given (reading r.inner) (reading r'.inner) (writing w.inner)
      (writing w'.inner) a b comes.does.0 comes.gave comes.took knows

pub knows-then : (given : ℕ → List ℕ → Type 0) (a b c : Reading) → Knows given a b → Knows given b c → b.app ≡ c.app → Knows given a c
knows-then given a b c (inl p) (inl q) same = inl (q ∙ p)
knows-then given a b c (inr p) (inl q) same = inr (subst (λ (z : ℕ × List ℕ). given z.0 z.1) (λ i. (same i, sym q i)) p)
knows-then given a b c k (inr q) same = inr q
