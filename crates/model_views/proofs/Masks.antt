-- Masking: twice is once, and what follows of a view but for what is masked.
use Rattle.std.proofs.Common.{◌≡◌, ℕ, zero, suc, Bool, true, false, cond, List, [], ◌∷◌, map, Option, Some, None, refl, sym, ◌∙◌, ap}
use Rattle.std.specs.Prelude.{find, filter, is_some, ◌==◌}
use Rattle.std.specs.Option.{option_map}
use Rattle.ck_types.specs.declared.entry.Entry.{Entry}
use Rattle.ck_types.specs.declared.user_type.UserType.{UserType}
use Rattle.ck_types.specs.declared.user_type.UserType.TheVariants.{So, User}
use Rattle.attrs.specs.Masking.{mask as mask_object}
use Rattle.attrs.specs.MaskingLaws.{mask-mask}
use Rattle.guard.specs.AccessLaws.{is_visible-mask}
use Rattle.pin_record.specs.Verifiers.{PinVerifier}
use Rattle.pin_record.specs.Records.{TokenRecord, charged, with_tries, with_pin, tries_of, verifier_of}
use Rattle.sessions.specs.declared.Session.{Session}
use Rattle.sessions.specs.Sessions.{state_of, busy_at, login_among}
use Rattle.ops.specs.Operations.{Operation, MacOperation, Operations, mask_operation, mask_mac}
use Rattle.model_views.specs.Views.{TokenObject, SessionObject, Question, Task, Ciphers, Takes, Signs, Verifies, WrapsKey, UnwrapsKey, ChecksPin, MakesPin, ChangesPin, InitsToken, ResetsToken, View, sees, seen_by, without_handle, left, mask_verifier, mask_record, mask_token_object, mask_session_object, mask_operations, mask_session, mask_task, mask_question, mask}
use Rattle.model_views.specs.Changes.{Change, Stays, Insert, Replace, Remove, Records, Resets, mask_change, seen, rewritten}
use Rattle.model_views.specs.Answering.{session_of, object_at, first_object, is_handle, index_of}
use Rattle.lists.proofs.ListLemmas.{map-push, map-twice, map-remove, find-map, filter-map, filter-equal, index-map}

-- ---- twice

token-object-twice : (t : TokenObject) → mask_token_object (mask_token_object t) ≡ mask_token_object t
token-object-twice t = ap (λ o. record { object = o; handle = t.handle }) (mask-mask t.object)

pub tokens-twice : (ts : List TokenObject) → map mask_token_object (map mask_token_object ts) ≡ map mask_token_object ts
tokens-twice ts = map-twice mask_token_object ts token-object-twice

session-object-twice : (e : SessionObject) → mask_session_object (mask_session_object e) ≡ mask_session_object e
session-object-twice e = ap (λ o. record { object = o; handle = e.handle; session = e.session }) (mask-mask e.object)

pub own-twice : (es : List SessionObject) → map mask_session_object (map mask_session_object es) ≡ map mask_session_object es
own-twice es = map-twice mask_session_object es session-object-twice

pub operation-twice : (o : Option Operation) → option_map mask_operation (option_map mask_operation o) ≡ option_map mask_operation o
operation-twice None = refl
operation-twice (Some o) = refl

pub mac-twice : (o : Option MacOperation) → option_map mask_mac (option_map mask_mac o) ≡ option_map mask_mac o
mac-twice None = refl
mac-twice (Some o) = refl

pub operations-twice : (ops : Operations) → mask_operations (mask_operations ops) ≡ mask_operations ops
operations-twice ops = rw (operation-twice ops.encrypt, operation-twice ops.decrypt, mac-twice ops.sign, mac-twice ops.verify) refl

session-twice : (s : Session Operations) → mask_session (mask_session s) ≡ mask_session s
session-twice s = ap (λ ops. record { handle = s.handle; read_write = s.read_write; work = ops }) (operations-twice s.work)

pub sessions-twice : (ss : List (Session Operations)) → map mask_session (map mask_session ss) ≡ map mask_session ss
sessions-twice ss = map-twice mask_session ss session-twice

task-twice : (t : Task) → mask_task (mask_task t) ≡ mask_task t
task-twice (Ciphers part operation input) = refl
task-twice _ = refl

question-masked : (q : Question) → mask_question (mask_question q) ≡ mask_question q
question-masked q = let f : Task
    → Question = λ t. record { number = q.number; function = q.function; session = q.session; task = t } in ap f (task-twice q.task)

pub question-twice : (q : Option Question) → option_map mask_question (option_map mask_question q) ≡ option_map mask_question q
question-twice None = refl
question-twice (Some q) = ap Some (question-masked q)

pub set-twice : (o : Option PinVerifier) → option_map mask_verifier (option_map mask_verifier o) ≡ option_map mask_verifier o
set-twice None = refl
set-twice (Some v) = refl

pub record-twice : (r : TokenRecord) → mask_record (mask_record r) ≡ mask_record r
record-twice r = rw (set-twice r.so.verifier, set-twice r.user.verifier) refl

pub charged-masked : (r : TokenRecord) (who : UserType) → mask_record (charged (mask_record r) who) ≡ mask_record (charged r who)
charged-masked r So = rw (set-twice r.so.verifier, set-twice r.user.verifier) refl
charged-masked r User = rw (set-twice r.so.verifier, set-twice r.user.verifier) refl

pub with_tries-masked : (r : TokenRecord) (who : UserType) (n : ℕ)
    → mask_record (with_tries (mask_record r) who n) ≡ mask_record (with_tries r who n)
with_tries-masked r So n = rw (set-twice r.so.verifier, set-twice r.user.verifier) refl
with_tries-masked r User n = rw (set-twice r.so.verifier, set-twice r.user.verifier) refl

pub with_pin-masked : (r : TokenRecord) (who : UserType) (v : PinVerifier) (n : ℕ)
    → mask_record (with_pin (mask_record r) who v n) ≡ mask_record (with_pin r who v n)
with_pin-masked r So v n = rw (set-twice r.user.verifier) refl
with_pin-masked r User v n = rw (set-twice r.so.verifier) refl

pub tries-masked : (r : TokenRecord) (who : UserType) → tries_of (mask_record r) who ≡ tries_of r who
tries-masked r So = refl
tries-masked r User = refl

pub set-masked : (o : Option PinVerifier) → is_some (option_map mask_verifier o) ≡ is_some o
set-masked None = refl
set-masked (Some v) = refl

pub verifier-masked : (r : TokenRecord) (who : UserType) → verifier_of (mask_record r) who ≡ option_map mask_verifier (verifier_of r who)
verifier-masked r So = refl
verifier-masked r User = refl

pub mask-twice : (v : View) → mask (mask v) ≡ mask v
mask-twice v = rw (
  set-twice v.token_record.so.verifier,
  set-twice v.token_record.user.verifier,
  tokens-twice v.tokens,
  own-twice v.own,
  sessions-twice v.sessions.sessions,
  question-twice v.question,
) refl

-- ---- what is found in a masked view

pub session-mask : (v : View) (s : ℕ) → session_of (mask v) s ≡ option_map mask_session (session_of v s)
session-mask v s = find-map (λ (x : Session Operations). x.handle == s) mask_session v.sessions.sessions

pub object-mask : (v : View) (handle : ℕ) → object_at (mask v) handle ≡ option_map mask_object (object_at v handle)
object-mask v handle =
    ap (λ o. first_object o (find (λ e. e.handle == handle) (map mask_session_object v.own)))
    (find-map (λ (t : TokenObject). is_handle t.handle handle) mask_token_object v.tokens)
    ∙ ap (λ o. first_object (option_map mask_token_object (find (λ t. is_handle t.handle handle) v.tokens)) o)
    (find-map (λ (e : SessionObject). e.handle == handle) mask_session_object v.own)
    ∙ both (find (λ t. is_handle t.handle handle) v.tokens) (find (λ e. e.handle == handle) v.own) where
      both : (a : Option TokenObject) (b : Option SessionObject)
          → first_object (option_map mask_token_object a) (option_map mask_session_object b) ≡ option_map mask_object (first_object a b)
      both (Some t) b = refl
      both None (Some e) = refl
      both None None = refl

pub index-mask : (v : View) (handle : ℕ) → index_of (mask v).tokens handle ≡ index_of v.tokens handle
index-mask v handle = index-map (λ (t : TokenObject). is_handle t.handle handle) mask_token_object v.tokens

-- ---- what stays where access changes

pub seen-tokens : (login : Option UserType) (ts : List TokenObject)
    → seen_by login (map mask_token_object ts) ≡ map mask_token_object (seen_by login ts)
seen-tokens login ts =
    filter-map (λ (t : TokenObject). sees login t.object) mask_token_object ts
    ∙ ap (map mask_token_object) (filter-equal (λ (t : TokenObject). sees login (mask_object t.object))
    (λ t. sees login t.object) ts (λ t. is_visible-mask (state_of login true) t.object))

pub login-among : (ss : List (Session Operations)) (login : Option UserType)
    → login_among (map mask_session ss) login ≡ login_among ss login
login-among [] login = refl
login-among (s ∷ ss) login = refl

-- ---- operations

pub busy-mask : (number : ℕ) (ops others : Operations) → mask_operations ops ≡ mask_operations others
    → (ss : List (Session Operations))
    → map mask_session (map (busy_at number ops) (map mask_session ss)) ≡ map mask_session (map (busy_at number others) ss)
busy-mask number ops others same [] = refl
busy-mask number ops others same (s ∷ ss) = step (s.handle == number) (busy-mask number ops others same ss) where
  step : (b : Bool) → map mask_session (map (busy_at number ops) (map mask_session ss))
      ≡ map mask_session (map (busy_at number others) ss)
      → mask_session (cond b (record (mask_session s) { work = ops }) (mask_session s))
      ∷ map mask_session (map (busy_at number ops) (map mask_session ss)) ≡ mask_session (cond b (record s { work = others }) s)
      ∷ map mask_session (map (busy_at number others) ss)
  step true h = ap (λ w. record { handle = s.handle; read_write = s.read_write; work = w }
      ∷ map mask_session (map (busy_at number ops) (map mask_session ss))) same
      ∙ ap (λ xs. record { handle = s.handle; read_write = s.read_write; work = mask_operations others } ∷ xs) h
  step false h = ap (λ x. x ∷ map mask_session (map (busy_at number ops) (map mask_session ss))) (session-twice s)
      ∙ ap (λ xs. mask_session s ∷ xs) h

-- ---- what others change, and a disconnect, are seen as they are

rewritten-mask : (ts : List TokenObject) (index : ℕ) (o : List Entry)
    → rewritten (map mask_token_object ts) index (mask_object o) ≡ map mask_token_object (rewritten ts index o)
rewritten-mask [] index o = refl
rewritten-mask (t ∷ ts) zero o = refl
rewritten-mask (t ∷ ts) (suc index) o = ap (λ xs. mask_token_object t ∷ xs) (rewritten-mask ts index o)

pub seen-mask : (v : View) (change : Change) → seen (mask_change change) (mask v) ≡ mask (seen change v)
seen-mask v Stays = refl
seen-mask v (Insert o) = rw (map-push mask_token_object v.tokens (without_handle o)) refl
seen-mask v (Replace index o) = let f : List TokenObject → View = λ ts. record (mask v) { tokens = ts } in
    ap f (rewritten-mask v.tokens index o)
seen-mask v (Remove index) = let f : List TokenObject → View = λ ts. record (mask v) { tokens = ts } in
    ap f (sym (map-remove mask_token_object v.tokens index))
seen-mask v (Records r) = refl
seen-mask v (Resets r) = refl

abbrev public_objects : List TokenObject → List (List Entry)
public_objects ts = filter (sees None) (map (λ t. t.object) ts)

left-objects : (ts : List TokenObject)
    → map without_handle (public_objects (map mask_token_object ts)) ≡ map mask_token_object (map without_handle (public_objects ts))
left-objects [] = refl
left-objects (t ∷ ts) = ap (λ b. map without_handle
    (cond b (mask_object t.object ∷ public_objects (map mask_token_object ts)) (public_objects (map mask_token_object ts))))
    (is_visible-mask (state_of None true) t.object) ∙ step (sees None t.object) (left-objects ts) where
      step : (b : Bool) → map without_handle (public_objects (map mask_token_object ts))
          ≡ map mask_token_object (map without_handle (public_objects ts))
          → map without_handle (cond b (mask_object t.object ∷ public_objects (map mask_token_object ts))
          (public_objects (map mask_token_object ts)))
          ≡ map mask_token_object (map without_handle (cond b (t.object ∷ public_objects ts) (public_objects ts)))
      step true h = ap (λ xs. without_handle (mask_object t.object) ∷ xs) h
      step false h = h

pub left-mask : (v : View) → left (mask v) ≡ mask (left v)
left-mask v = rw (left-objects v.tokens) refl
