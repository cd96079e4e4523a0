-- How a client stands after what it did.
use Rattle.std.proofs.Common.{◌≡◌, Bool, true, false, List, [], ◌∷◌, ◌++◌, sym, refl, ap, ◌∙◌, subst, Option, Some, None}
use Rattle.std.proofs.lemmas.List.{map-append}
use Rattle.rand_chacha.specs.ChaCha.{ChaCha}
use Rattle.ck_calls.specs.declared.reply.Reply.{Reply}
use Rattle.ck_calls.specs.declared.app_call.AppCall.{AppCall}
use Rattle.line.specs.declared.ending.Ending.{Ending}
use Rattle.line.specs.declared.next.Next.{Next}
use Rattle.line.specs.declared.next.Next.TheVariants as next
use Rattle.line.specs.State.{Connected}
use Rattle.line.specs.Turns.{Ask}
use Rattle.line.specs.Connecting.{Does, Gives, Waits, Halts, Tells}
use Rattle.line.specs.Whole.{Account, Lived, Owes, ask_of, BeginLaw, CallLaw, TurnLaw, NothingLaw, EndLaw, CutLaw}
use Rattle.line_places.specs.Standing.{ask_in, asks_in, Stands, StandsBy}

-- a connection stays its application's
does-app : (a b : Connected) (next : Next) → Does a b (Some next) → b.words.stream ≡ a.words.stream
does-app a b (next.Call call) gives = gives.call.is.same_app ∙ ap (λ (w : ChaCha). w.stream) gives.refused.words
does-app a b next.Nothing waits = ap (λ (w : ChaCha). w.stream) waits.refused.words
does-app a b (next.Ended ending) halts = ap (λ (c : Connected). c.words.stream) halts.same
    ∙ ap (λ (w : ChaCha). w.stream) halts.refused.words

pub next-app : (a b : Connected) (next : Next) → ((why : Ending) → a.ended ≡ Some why → b ≡ a)
    → (a.ended ≡ None → Does a b (Some next)) → b.words.stream ≡ a.words.stream
next-app a b next over does = by a.ended refl where
  by : (e : Option Ending) → a.ended ≡ e → b.words.stream ≡ a.words.stream
  by None going = does-app a b next (does going)
  by (Some why) is = ap (λ (c : Connected). c.words.stream) (over why is)

-- and so is the call that it gives
pub call-app : (a b : Connected) (call : AppCall) → Gives a b call → call.app ≡ a.words.stream
call-app a b call gives = gives.call.is.app ∙ ap (λ (w : ChaCha). w.stream) gives.refused.words

pub reply-app : (b c : Connected) (reply : Reply) → ((why : Ending) → b.ended ≡ Some why → c ≡ b)
    → (b.ended ≡ None → Tells b c reply) → c.words.stream ≡ b.words.stream
reply-app b c reply over tells = by b.ended refl where
  by : (e : Option Ending) → b.ended ≡ e → c.words.stream ≡ b.words.stream
  by None going = ap (λ (x : Connected). x.words.stream) (tells going).same
  by (Some why) is = ap (λ (x : Connected). x.words.stream) (over why is)

module _ (first : ChaCha) where
  standing-none : (e : Option Ending) (c : Connected) (asked : List AppCall) (told : List Reply) → e ≡ None
      → StandsBy e first c asked told → Account first c (asks_in asked) told
  standing-none e c asked told is h = subst (λ x. StandsBy x first c asked told) is h

  idle-none : (c : Connected) (asked : List AppCall) (told : List Reply) → c.ended ≡ None → Account first c (asks_in asked) told
      → Stands first c false asked told
  idle-none c asked told is h = subst (λ x. StandsBy x first c asked told) (sym is) h

  idle-some : (c : Connected) (ending : Ending) (asked : List AppCall) (told : List Reply) → c.ended ≡ Some ending
      → Lived first c (asks_in asked) told → Stands first c false asked told
  idle-some c ending asked told is h = subst (λ x. StandsBy x first c asked told) (sym is) h

  -- whether a call is owed its reply
  pub stands-as : (c : Connected) (b d : Bool) (asked : List AppCall) (told : List Reply) → b ≡ d → Stands first c b asked told
      → Stands first c d asked told
  stands-as c b d asked told is h = subst (λ x. Stands first c x asked told) is h

  pub stands-begin : BeginLaw → (c : Connected) → c.words ≡ first → c.read ≡ [] → c.written ≡ [] → c.pending ≡ [] → c.held ≡ []
      → c.ended ≡ None → Stands first c false [] []
  stands-begin law c words read written pending held going =
      idle-none c [] [] going (subst (λ w. Account w c [] []) words (law c read (ap (λ l. l ++ c.pending) written ∙ pending) held))

  -- a call came
  pub stands-call : CallLaw → (a b : Connected) (call : AppCall) (asked : List AppCall) (told : List Reply) → a.ended ≡ None
      → Stands first a false asked told → Gives a b call
      → Stands first b true (asked ++ call ∷ []) told
  stands-call law a b call asked told none h g =
      subst (λ (l : List Ask). Owes first b l told) (sym (map-append ask_in asked (call ∷ [])))
      (law first a b call (asks_in asked) told (standing-none a.ended a asked told none h) g)

  -- nothing came
  pub stands-nothing : NothingLaw → (a b : Connected) (asked : List AppCall) (told : List Reply) → a.ended ≡ None
      → Stands first a false asked told → Waits a b → Stands first b false asked told
  stands-nothing law a b asked told none h w =
      idle-none b asked told w.going (law first a b (asks_in asked) told (standing-none a.ended a asked told none h) w.refused)

  -- it ended
  pub stands-end : EndLaw → (a b : Connected) (ending : Ending) (asked : List AppCall) (told : List Reply) → a.ended ≡ None
      → Stands first a false asked told → Halts a b ending → Stands first b false asked told
  stands-end law a b ending asked told none h w =
      idle-some b ending asked told (ap (λ (c : Connected). c.ended) w.same)
      (law first a b ending (asks_in asked) told (standing-none a.ended a asked told none h) w)

  -- a call that is owed its reply is of a connection that goes on
  pub owes-going : (c : Connected) (asked : List AppCall) (told : List Reply) → Stands first c true asked told → c.ended ≡ None
  owes-going c asked told h = ap (λ (x : Connected). x.ended) h.gives.same

  -- it was answered
  pub stands-told : TurnLaw → CutLaw → (b c : Connected) (reply : Reply) (asked : List AppCall) (told : List Reply)
      → Stands first b true asked told → Tells b c reply → Stands first c false asked (told ++ reply ∷ [])
  stands-told turn cut b c reply asked told h t = by c.ended refl where
    by : (e : Option Ending) → c.ended ≡ e → Stands first c false asked (told ++ reply ∷ [])
    by None is = idle-none c asked (told ++ reply ∷ []) is (turn first b c reply (asks_in asked) told h t is)
    by (Some ending) is = idle-some c ending asked (told ++ reply ∷ []) is (cut first b c reply ending (asks_in asked) told h t is)

  -- ---- by what `next_call` says of connections that ended before

  pub came-call : CallLaw → (a b : Connected) (call : AppCall) (asked asked' : List AppCall) (told : List Reply)
      → ((why : Ending) → a.ended ≡ Some why → next.Call call ≡ next.Ended why) → (a.ended ≡ None → Gives a b call)
      → Stands first a false asked told → asked' ≡ asked ++ call ∷ [] → Stands first b true asked' told
  came-call law a b call asked asked' told over gives h more = subst (λ l. Stands first b true l told) (sym more) (by a.ended refl) where
    by : (e : Option Ending) → a.ended ≡ e → Stands first b true (asked ++ call ∷ []) told
    by None none = stands-call law a b call asked told none h (gives none)
    by (Some why) some = absurd (let e : next.Call call ≡ next.Ended why = over why some in cc)

  pub came-nothing : NothingLaw → (a b : Connected) (asked : List AppCall) (told : List Reply)
      → ((why : Ending) → a.ended ≡ Some why → next.Nothing ≡ next.Ended why) → (a.ended ≡ None → Waits a b)
      → Stands first a false asked told → Stands first b false asked told
  came-nothing law a b asked told over waits h = by a.ended refl where
    by : (e : Option Ending) → a.ended ≡ e → Stands first b false asked told
    by None none = stands-nothing law a b asked told none h (waits none)
    by (Some why) some = absurd (let e : next.Nothing ≡ next.Ended why = over why some in cc)

  pub came-ended : EndLaw → (a b : Connected) (ending : Ending) (asked : List AppCall) (told : List Reply)
      → ((why : Ending) → a.ended ≡ Some why → b ≡ a) → (a.ended ≡ None → Halts a b ending) → Stands first a false asked told
      → Stands first b false asked told
  came-ended law a b ending asked told over halts h = by a.ended refl where
    by : (e : Option Ending) → a.ended ≡ e → Stands first b false asked told
    by None none = stands-end law a b ending asked told none h (halts none)
    by (Some why) some = subst (λ c. Stands first c false asked told) (sym (over why some)) h
