-- The bytes of an application, by its own frames and its own trace.
use Rattle.std.proofs.Common.{◌≡◌, ◌⊎◌, inl, inr, ⊎_elim, ℕ, suc, ◌≤◌, List, [], ◌∷◌, ◌++◌, length, sym, refl, ap, ◌∙◌, subst, append_assoc, append-nil, length-append, arith, Ok, Err}
use Rattle.std.specs.List.{flat_map, AllByRecursion}
use Rattle.std.proofs.lemmas.List.Concat.{flat_map-append}
use mathlib.Core.List.{IsPrefix}
use Rattle.rand_chacha.specs.ChaCha.{ChaCha}
use Rattle.ck_calls.specs.declared.reply.Reply.{Reply}
use Rattle.wire.specs.Messages.{frame, most}
use Rattle.wire.proofs.Splits.{cons_frames, frame_cancels}
use Rattle.model_views.specs.Views.{View, mask}
use Rattle.model_views.specs.Answering.{answered}
use Rattle.model_views.specs.Changes.{seen}
use Rattle.model_views.specs.Refusals.{refusal}
use Rattle.model_views.specs.Views.{left}
use Rattle.model_answers.specs.Answers.{answer, answer_result}
use Rattle.model_worlds.specs.Worlds.{World}
use Rattle.model_worlds.specs.Traces.{Moment, Calls, CallFails, Gets, Leaves, ResultFails, Sees, replies_to, replies_told, said, trace, view_told}
use Rattle.hall_log.specs.Histories.{History}
use Rattle.hall_log.proofs.Beginnings.{prefix_either, prefix_front, prefix_trans}
use Rattle.hall.specs.Histories.{Unfolds, moves_in, told_in}
use Rattle.hall.proofs.HistoryLaws.{told_trace}
use Rattle.line_places.specs.Due.{Due}
use Rattle.line.specs.Turns.{Ask, Message, answers_with, asks, messages, reply_frame, words_after, words_past}
use Rattle.line.proofs.Turning.{answers-append, asks-append, messages-append}
use Rattle.hall_sockets.specs.Writing.{MayWrite}

module _ (given : ℕ → List ℕ → Type 0) (seed : List ℕ) where
  pub by_trace : (w : World) (history : History) (app : ℕ) (taken bytes : List ℕ) → Unfolds w history
      → (m : MayWrite given seed app history taken bytes)
      → (taken ++ bytes) ++ m.lacking
      ≡ flat_map reply_frame (answers_with (messages m.due.payloads) (replies_told (mask (w.views app)) (trace app w (moves_in history))))
  by_trace w history app taken bytes u m = m.due.out_is
      ∙ ap (λ told. flat_map reply_frame (answers_with (messages m.due.payloads) told)) (told_trace w history app u)

-- ---- frames of streams of which one begins the other

either-frames : (ps qs : List (List ℕ)) (a b : List ℕ) → AllByRecursion (λ p. length p ≤ most) ps
    → AllByRecursion (λ p. length p ≤ most) qs → flat_map frame ps ++ a ≡ flat_map frame qs ++ b → IsPrefix ps qs ⊎ IsPrefix qs ps
either-frames [] qs a b hp hq e = inl (qs, refl)
either-frames (p ∷ ps) [] a b hp hq e = inr (p ∷ ps, refl)
either-frames (p ∷ ps) (q ∷ qs) a b hp hq e =
    let c = frame_cancels p q (flat_map frame ps ++ a) (flat_map frame qs ++ b) hp.0 hq.0
    (sym (cons_frames p ps a) ∙ e ∙ cons_frames q qs b) in
    ⊎_elim (λ (x : IsPrefix ps qs). inl (x.0, λ i. c.0 i ∷ x.1 i)) (λ (x : IsPrefix qs ps). inr (x.0, λ i. sym c.0 i ∷ x.1 i))
    (either-frames ps qs a b hp.1 hq.1 c.1)

-- ---- replies of traces of which one begins the other

replies-more : (v : View) (t more : List Moment) → replies_told v (t ++ more) ≡ replies_told v t ++ replies_told (view_told v t) more
replies-more v [] more = refl
replies-more v (Calls call random reveal ∷ t) more =
    ap (λ l. said (answer v call random reveal).says ++ l) (replies-more (mask (answer v call random reveal).view) t more)
    ∙ sym (append_assoc (said (answer v call random reveal).says) (replies_told (mask (answer v call random reveal).view) t)
    (replies_told (view_told (mask (answer v call random reveal).view) t) more))
replies-more v (Gets outcome reveal ∷ t) more =
    ap (λ l. said (answer_result v outcome reveal).says ++ l) (replies-more (mask (answer_result v outcome reveal).view) t more)
    ∙ sym (append_assoc (said (answer_result v outcome reveal).says) (replies_told (mask (answer_result v outcome reveal).view) t)
    (replies_told (view_told (mask (answer_result v outcome reveal).view) t) more))
replies-more v (CallFails fault ∷ t) more = ap (λ l. refusal fault ∷ l) (replies-more v t more)
replies-more v (ResultFails fault ∷ t) more = ap (λ l. refusal fault ∷ l) (replies-more (answered v) t more)
replies-more v (Leaves ∷ t) more = replies-more (left v) t more
replies-more v (Sees change ∷ t) more = replies-more (seen change v) t more

replies-begin : (v : View) (t u : List Moment) → IsPrefix t u → IsPrefix (replies_told v t) (replies_told v u)
replies-begin v t u p = (replies_told (view_told v t) p.0, sym (replies-more v t p.0) ∙ ap (replies_told v) p.1)

-- ---- what is due by two such streams

-- the number of calls doesn't depend on the words
count : (a b : ChaCha) (ms : List Message) → length (asks a ms) ≡ length (asks b ms)
count a b [] = refl
count a b (Ok call ∷ ms) = ap suc (count (words_past a (Ok call)) (words_past b (Ok call)) ms)
count a b (Err fault ∷ ms) = count a b ms

nothing-more : {A : Type 0} (xs : List A) → length xs ≡ 0 → xs ≡ []
nothing-more [] e = refl
nothing-more (x ∷ xs) e = absurd (omega (arith, e))

-- more is due where more was read and answered
due-more : (first : ChaCha) (ps qs : List (List ℕ)) (t u : List Reply) → IsPrefix ps qs → IsPrefix t u
    → length t ≡ length (asks first (messages ps))
    → IsPrefix (flat_map reply_frame (answers_with (messages ps) t)) (flat_map reply_frame (answers_with (messages qs) u))
due-more first ps qs t u p s full = (
  flat_map reply_frame (answers_with (messages p.0) s.0),
  sym (flat_map-append reply_frame (answers_with (messages ps) t) (answers_with (messages p.0) s.0))
      ∙ ap (flat_map reply_frame) (sym (answers-append first (messages ps) (messages p.0) t s.0 full)
      ∙ (λ i. answers_with ((sym (messages-append ps p.0) ∙ ap messages p.1) i) (s.1 i))),
)

module _ {first first' : ChaCha} {read read' : List ℕ} {asked asked' : List Ask} {told told' : List Reply} {out out' : List ℕ}
    (m : Due first read asked told out) (n : Due first' read' asked' told' out') (begins : IsPrefix told told') where
  full : length told ≡ length (asks first (messages m.payloads))
  full = m.one_each ∙ ap length m.asked_are

  full' : length told' ≡ length (asks first' (messages n.payloads))
  full' = n.one_each ∙ ap length n.asked_are

  due-either : IsPrefix m.payloads n.payloads ⊎ IsPrefix n.payloads m.payloads → IsPrefix out out' ⊎ IsPrefix out' out
  due-either = ⊎_elim
      (λ (p : IsPrefix m.payloads n.payloads). inl
      (subst (λ (z : List ℕ × List ℕ). IsPrefix z.0 z.1) (λ i. (sym m.out_is i, sym n.out_is i))
      (due-more first m.payloads n.payloads told told' p begins full)))
      (λ (p : IsPrefix n.payloads m.payloads). inr
      (subst (λ (z : List ℕ × List ℕ). IsPrefix z.0 z.1) (λ i. (sym n.out_is i, sym m.out_is i))
      (due-more first' n.payloads m.payloads told' told p (same p) full')))
    where
      same : IsPrefix n.payloads m.payloads → IsPrefix told' told
      same p =
          let none : length begins.0 ≡ 0 = omega (
            arith,
            full,
            full',
            count first' first (messages n.payloads),
            ap length begins.1,
            length-append told begins.0,
            ap length (ap (asks first) (sym (ap messages p.1) ∙ messages-append n.payloads p.0)
                ∙ asks-append first (messages n.payloads) (messages p.0)),
            length-append (asks first (messages n.payloads)) (asks (words_after first (messages n.payloads)) (messages p.0)),
          ) in
          ([], append-nil told' ∙ sym begins.1 ∙ ap (λ l. told ++ l) (nothing-more begins.0 none) ∙ append-nil told)

-- ---- two daemons

-- payloads of streams of which one begins the other
payloads-either : {first first' : ChaCha} {read read' : List ℕ} {asked asked' : List Ask} {told told' : List Reply}
    {out out' : List ℕ} (m : Due first read asked told out) (n : Due first' read' asked' told' out')
    → IsPrefix read read' ⊎ IsPrefix read' read → IsPrefix m.payloads n.payloads ⊎ IsPrefix n.payloads m.payloads
payloads-either {read = read} {read' = read'} m n = ⊎_elim
    (λ (p : IsPrefix read read'). either-frames m.payloads n.payloads (m.rest ++ p.0) n.rest m.each n.each
    (sym (append_assoc (flat_map frame m.payloads) m.rest p.0) ∙ ap (λ l. l ++ p.0) (sym m.read_is) ∙ p.1 ∙ n.read_is))
    (λ (p : IsPrefix read' read). either-frames m.payloads n.payloads m.rest (n.rest ++ p.0) m.each n.each
    (sym m.read_is ∙ sym p.1 ∙ ap (λ l. l ++ p.0) n.read_is ∙ append_assoc (flat_map frame n.payloads) n.rest p.0))

-- so the first parts of two lists, of which one begins the other
parts-either : (a a' x x' : List ℕ) → IsPrefix (a ++ x) (a' ++ x') ⊎ IsPrefix (a' ++ x') (a ++ x) → IsPrefix a a' ⊎ IsPrefix a' a
parts-either a a' x x' = ⊎_elim
    (λ (p : IsPrefix (a ++ x) (a' ++ x')). prefix_either a a' (a' ++ x') (prefix_trans a (a ++ x) (a' ++ x') (prefix_front a x) p)
    (prefix_front a' x'))
    (λ (p : IsPrefix (a' ++ x') (a ++ x)). prefix_either a a' (a ++ x) (prefix_front a x)
    (prefix_trans a' (a' ++ x') (a ++ x) (prefix_front a' x') p))

pub by_two : (given given' : ℕ → List ℕ → Type 0) (seed seed' : List ℕ) (v w : World) (h k : History) (app : ℕ)
    (taken bytes taken' bytes' : List ℕ) → Unfolds v h → Unfolds w k
    → mask (v.views app) ≡ mask (w.views app) → IsPrefix (trace app v (moves_in h)) (trace app w (moves_in k))
    → (m : MayWrite given seed app h taken bytes) (n : MayWrite given' seed' app k taken' bytes') → IsPrefix m.read n.read
    ⊎ IsPrefix n.read m.read
    → IsPrefix (taken ++ bytes) (taken' ++ bytes') ⊎ IsPrefix (taken' ++ bytes') (taken ++ bytes)
by_two given given' seed seed' v w h k app taken bytes taken' bytes' u u' views traces m n reads =
    let told : replies_to app (told_in h) ≡ replies_told (mask (w.views app)) (trace app v (moves_in h)) =
    told_trace v h app u ∙ ap (λ x. replies_told x (trace app v (moves_in h))) views in
    let told' : replies_to app (told_in k) ≡ replies_told (mask (w.views app)) (trace app w (moves_in k)) = told_trace w k app u' in
    let begins : IsPrefix (replies_to app (told_in h)) (replies_to app (told_in k)) =
    subst (λ (z : List Reply × List Reply). IsPrefix z.0 z.1) (λ i. (sym told i, sym told' i))
    (replies-begin (mask (w.views app)) (trace app v (moves_in h)) (trace app w (moves_in k)) traces) in
    parts-either (taken ++ bytes) (taken' ++ bytes') m.lacking n.lacking (due-either m.due n.due begins (payloads-either m.due n.due reads))
