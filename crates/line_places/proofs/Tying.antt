-- Clients that read and write by their own ends, as they come, go and are served.
use Rattle.std.proofs.Common.{◌≡◌, ◌≢◌, inl, inr, ⊎_elim, ℕ, zero, suc, List, [], ◌∷◌, ◌++◌, Bool, true, false, set, sym, refl, ap, ◌∙◌, subst, Option, Some, None}
use Rattle.std.specs.List.{slice_get}
use Rattle.ck_calls.specs.declared.reply.Reply.{Reply}
use Rattle.door.specs.Ends.{HasGiven, Reading, Writing}
use Rattle.line.specs.declared.ending.Ending.{Ending as EndingType}
use Rattle.line.specs.Asking.{Gave, Took}
use Rattle.line.specs.Permits.{Knows}
use Rattle.line.specs.declared.next.Next.{Next}
use Rattle.line_places.specs.declared.client.Client.{Client}
use Rattle.line_places.specs.declared.place.Place.{Place}
use Rattle.line_places.specs.Coming.{ClientIsStill, Sent, Went}
use Rattle.line_places.specs.Keeping.{IsAmong, IsClientAt}
use Rattle.line_places.specs.Tying.{AllTied, AreEndsOf, Tied}
use Rattle.line_places.proofs.Doing.{one-client}
use Rattle.line_places.proofs.Keeping.{among-snoc, get_same, get_set, same_some}

-- a reader has given all that it gave, as before, or what it gave by now
has-more : (given : ℕ → List ℕ → Type 0) (a b : Reading) → b.app ≡ a.app → HasGiven given a.app a.gave → Knows given a b
    → HasGiven given b.app b.gave
has-more given a b app has knows =
    ⊎_elim (λ (same : b.gave ≡ a.gave). subst (λ (z : ℕ × List ℕ). HasGiven given z.0 z.1) (λ i. (sym app i, sym same i)) has)
    (λ (new : given b.app b.gave). inr new) knows

module _ {R W : Type 0} (given : ℕ → List ℕ → Type 0) (reading : R → Reading) (writing : W → Writing) where
  module _ (c c' : Client R W) (app : c'.app ≡ c.app) (was : Tied given reading writing c) where
    still-tied : ClientIsStill c c' → Tied given reading writing c'
    still-tied still = record {
      has = subst (λ r. HasGiven given (reading r.inner).app (reading r.inner).gave) (sym still.reader) was.has;
      reader = ap (λ r. (reading r.inner).app) still.reader ∙ was.reader ∙ sym app;
      writer = ap (λ w. (writing w.inner).app) still.writer ∙ was.writer ∙ sym app;
      read = ap (λ k. k.read) still.connection ∙ was.read ∙ ap (λ r. (reading r.inner).gave) (sym still.reader);
      written = ap (λ k. k.written) still.connection ∙ was.written ∙ ap (λ w. (writing w.inner).took) (sym still.writer);
    }

    more-tied : Knows given (reading c.reader.inner) (reading c'.reader.inner)
        → Gave (reading c.reader.inner) (reading c'.reader.inner) c.connection.read c'.connection.read
        → Took (writing c.writer.inner) (writing c'.writer.inner) c.connection.written c'.connection.written → Tied given reading writing c'
    more-tied knows gave took = record {
      has = has-more given (reading c.reader.inner) (reading c'.reader.inner) gave.given.app was.has knows;
      reader = gave.given.app ∙ was.reader ∙ sym app;
      writer = took.wrote.app ∙ was.writer ∙ sym app;
      read = gave.noted_is ∙ ap (λ l. l ++ gave.more) was.read ∙ sym gave.given.gave;
      written = took.noted_is ∙ ap (λ l. l ++ took.part) was.written ∙ sym took.wrote.took;
    }

    -- its connection went on
    pub went-tied : (next : Next) → Went reading writing c c' next → Knows given (reading c.reader.inner) (reading c'.reader.inner)
        → Tied given reading writing c'
    went-tied came went knows = by c.is_owed c.connection.ended refl refl where
      by : (owed : Bool) (ended : Option EndingType) → c.is_owed ≡ owed → c.connection.ended ≡ ended → Tied given reading writing c'
      by true ended owes is = still-tied (went.owes owes).0
      by false (Some why) owes is = still-tied (went.over why owes is).0
      by false None owes is = let comes = went.goes owes is in more-tied knows comes.gave comes.took

    -- it took a reply
    pub sent-tied : (reply : Reply) → Sent writing c c' reply → Tied given reading writing c'
    sent-tied reply sent = by c.connection.ended refl where
      by : (ended : Option EndingType) → c.connection.ended ≡ ended → Tied given reading writing c'
      by (Some why) is = still-tied (sent.over why is)
      by None is = let sends = sent.sends is in record {
        has = subst (λ r. HasGiven given (reading r.inner).app (reading r.inner).gave) (sym sent.reader) was.has;
        reader = ap (λ r. (reading r.inner).app) sent.reader ∙ was.reader ∙ sym app;
        writer = sends.took.wrote.app ∙ was.writer ∙ sym app;
        read = ap (λ k. k.read) sends.tells.same ∙ was.read ∙ ap (λ r. (reading r.inner).gave) (sym sent.reader);
        written = sends.took.noted_is ∙ ap (λ l. l ++ sends.took.part) was.written ∙ sym sends.took.wrote.took;
      }

  -- with new ends nothing was read and nothing written
  pub new-tied : (c : Client R W) (r : R) (w : W) (app : ℕ) → c.app ≡ app → (c.reader.inner ≡ r) × (c.writer.inner ≡ w)
      → (c.connection.read ≡ []) × (c.connection.written ≡ []) → AreEndsOf app (reading r) (writing w) → Tied given reading writing c
  new-tied c r w app named ends fresh are = record {
    has = inl (ap (λ x. (reading x).gave) ends.0 ∙ are.gave);
    reader = ap (λ x. (reading x).app) ends.0 ∙ are.reader ∙ sym named;
    writer = ap (λ x. (writing x).app) ends.1 ∙ are.writer ∙ sym named;
    read = fresh.0 ∙ sym (ap (λ x. (reading x).gave) ends.0 ∙ are.gave);
    written = fresh.1 ∙ sym (ap (λ x. (writing x).took) ends.1 ∙ are.took);
  }

  pub nobody-tied : (c : Client R W) → None ≡ Some c → Tied given reading writing c
  nobody-tied c is = absurd cc

  -- ---- all clients

  module _ (places : List (Place R W)) (past : List (Client R W)) (all : AllTied given reading writing places past) (j : ℕ)
      (p' : Place R W) where
    -- another client is at the place now, or nobody
    pub tied-set : ((c : Client R W) → p'.client ≡ Some c → Tied given reading writing c)
        → AllTied given reading writing (set places j p') past
    tied-set here d life = ⊎_elim (λ (x : IsAmong d past). all d (inl x))
        (λ (x : (i : ℕ) × IsClientAt (set places j p') i d). ⊎_elim
        (λ (y : (x.0 ≡ j) × (p' ≡ x.1.place)). here d (ap (λ (q : Place R W). q.client) y.1 ∙ x.1.client))
        (λ (y : (x.0 ≢ j) × (slice_get places x.0 ≡ Some x.1.place)). all d
        (inr (x.0, record { place = x.1.place; at = y.1; client = x.1.client })))
        (get_set places j x.0 p' x.1.place x.1.at)) life

    -- and who was there is there no more
    pub tied-close : (c : Client R W) → Tied given reading writing c → p'.client ≡ None
        → AllTied given reading writing (set places j p') (past ++ c ∷ [])
    tied-close c mine none d life = ⊎_elim
        (λ (x : IsAmong d (past ++ c ∷ [])). ⊎_elim (λ (y : IsAmong d past). all d (inl y))
        (λ (y : d ≡ c). subst (Tied given reading writing) (sym y) mine) (among-snoc d c past x))
        (λ (x : (i : ℕ) × IsClientAt (set places j p') i d). tied-set (λ e is. nobody e (sym is ∙ none)) d (inr x)) life where
          nobody : (e : Client R W) → Some e ≡ None → Tied given reading writing e
          nobody e is = absurd (let h : Some e ≡ None = is in cc)

-- the client at a place that is set
pub client-set : {R W : Type 0} (places : List (Place R W)) (j : ℕ) (p : Place R W) (c' d' : Client R W) (turn : ℕ)
    → slice_get places j ≡ Some p → IsClientAt (set places j (record { turn = turn; client = Some c' })) j d' → c' ≡ d'
client-set places j p c' d' turn at it =
    same_some c' d' (ap (λ (q : Place _ _). q.client)
    (same_some _ it.place (sym (get_same places j (record { turn = turn; client = Some c' }) p at) ∙ it.at)) ∙ it.client)

pub get_set_other : {A : Type 0} (xs : List A) (j i : ℕ) (a : A) → (i ≡ j → ⊥) → slice_get (set xs j a) i ≡ slice_get xs i
get_set_other [] j i a n = refl
get_set_other (x ∷ xs) zero zero a n = absurd (n refl)
get_set_other (x ∷ xs) zero (suc i) a n = refl
get_set_other (x ∷ xs) (suc j) zero a n = refl
get_set_other (x ∷ xs) (suc j) (suc i) a n = get_set_other xs j i a (λ e. n (ap suc e))

-- ---- what the client at a place did

module _ {R W : Type 0} (given : ℕ → List ℕ → Type 0) (reading : R → Reading) (writing : W → Writing) (places : List (Place R W))
    (past : List (Client R W))
    (j : ℕ) (p : Place R W) (c c' : Client R W) (at : slice_get places j ≡ Some p) (is : p.client ≡ Some c) where
  abbrev next : Place R W
  next = record { turn = p.turn; client = Some c' }

  -- all that is said of it is said of who was there and who is there
  at-both : (P : Client R W → Client R W → Type 0) → P c c' → (d d' : Client R W) → IsClientAt places j d → IsClientAt (set places j next) j d' → P d d'
  at-both P it d d' a b = subst (λ (z : Client R W × Client R W). P z.0 z.1)
      (λ i. (one-client places j p a.place c d at a.at is a.client i, client-set places j p c' d' p.turn at b i)) it

  pub went-at : (came : Next) → Went reading writing c c' came → (d d' : Client R W) → IsClientAt places j d
      → IsClientAt (set places j next) j d' → Went reading writing d d' came
  went-at came = at-both (λ d d'. Went reading writing d d' came)

  pub sent-at : (reply : Reply) → Sent writing c c' reply → (d d' : Client R W) → IsClientAt places j d → IsClientAt (set places j next) j d'
      → Sent writing d d' reply
  sent-at reply = at-both (λ d d'. Sent writing d d' reply)

  module _ (app : c'.app ≡ c.app) (all : AllTied given reading writing places past) where
    was : Tied given reading writing c
    was = all c (inr (j, record { place = p; at = at; client = is }))

    tied-here : Tied given reading writing c' → AllTied given reading writing (set places j next) past
    tied-here it = tied-set given reading writing places past all j next
        (λ d here. subst (Tied given reading writing) (same_some c' d here) it)

    pub tied-went : (came : Next) → Went reading writing c c' came → Knows given (reading c.reader.inner) (reading c'.reader.inner)
        → AllTied given reading writing (set places j next) past
    tied-went came went knows = tied-here (went-tied given reading writing c c' app was came went knows)

    pub tied-sent : (reply : Reply) → Sent writing c c' reply → AllTied given reading writing (set places j next) past
    tied-sent reply sent = tied-here (sent-tied given reading writing c c' app was reply sent)
