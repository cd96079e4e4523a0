-- What every answer keeps to, and how it is put together.
use Rattle.std.proofs.Common.{◌≡◌, ℕ, ◌+◌, Bool, true, false, cond, List, Option, Some, None, is_some, refl, sym, ◌∙◌, ap, subst}
use Rattle.std.specs.Prelude.{nat_lt}
use Rattle.std.specs.Option.{option_map}
use Rattle.ck_types.specs.declared.entry.Entry.{Entry}
use Rattle.ck_types.specs.declared.rv.Rv.{Rv}
use Rattle.ck_types.specs.declared.rv.Rv.TheVariants.{Ok}
use Rattle.ck_types.specs.declared.user_type.UserType.{UserType}
use Rattle.ck_types.specs.declared.user_type.UserType.TheVariants.{User}
use Rattle.ck_calls.specs.declared.reply.Reply.{Reply}
use Rattle.ck_calls.specs.declared.reply.Reply.TheVariants.{Code}
use Rattle.attrs.specs.Masking.{mask as mask_object}
use Rattle.precede.specs.declared.condition.Condition.{Condition}
use Rattle.precede.specs.Condition.{code_of}
use Rattle.pin_record.specs.Records.{TokenRecord, charged, tries_limit, tries_of, verifier_of}
use Rattle.sessions.specs.declared.Session.{Session}
use Rattle.ops.specs.Operations.{Operations}
use Rattle.model_views.specs.declared.fault.Fault.{Fault}
use Rattle.ck_calls.specs.declared.function.Function.{Function}
use Rattle.model_views.specs.Views.{View, Question, Task, mask, mask_session, mask_task, mask_record}
use Rattle.model_views.specs.Changes.{Stays, Records, recorded}
use Rattle.model_views.specs.Answering.{has_session, asks, asks_checked, Said, Replies, Asks, Answer, Reveal, shown, mask_reveal, replies, refuses, refuses_by, becomes, session_of, object_at, index_of, pin_checked_in, pin_checked_by}
use Rattle.model_views.specs.Refusals.{resource_error_in, resource_error}
use Rattle.model_views.proofs.Masks.{charged-masked, mask-twice, session-mask, object-mask, index-mask}

-- ---- what is revealed of an answer depends on what is revealed of the view

pub blind-reply : (v : View) (reply : Reply) → shown (replies (mask v) reply) ≡ shown (replies v reply)
blind-reply v reply = ap (λ u. record { says = Replies reply; view = u; change = Stays }) (mask-twice v)

pub blind-refusal : (v : View) (code : Rv) → shown (refuses (mask v) code) ≡ shown (refuses v code)
blind-refusal v code = blind-reply v (Code code)

pub blind-becomes : (reply : Reply) (u v : View) → mask u ≡ mask v → shown (becomes reply u) ≡ shown (becomes reply v)
blind-becomes reply u v same = ap (λ w. record { says = Replies reply; view = w; change = Stays }) same

-- a condition of the call's table, by a test that doesn't depend on what is masked
pub blind-row : (v : View) (row : Condition) (b c : Bool) (x y : Answer) → b ≡ c → shown x ≡ shown y
    → shown (cond b (refuses_by (mask v) row) x) ≡ shown (cond c (refuses_by v row) y)
blind-row v row b c x y tests same = ap (λ t. shown (cond t (refuses_by (mask v) row) x)) tests ∙ step c where
  step : (t : Bool) → shown (cond t (refuses_by (mask v) row) x) ≡ shown (cond t (refuses_by v row) y)
  step true = blind-refusal v (code_of Ok row)
  step false = same

pub blind-if : (b c : Bool) (x x' y y' : Answer) → b ≡ c → shown x ≡ shown x' → shown y ≡ shown y'
    → shown (cond b x y) ≡ shown (cond c x' y')
blind-if b c x x' y y' tests p q = ap (λ t. shown (cond t x y)) tests ∙ step c where
  step : (t : Bool) → shown (cond t x y) ≡ shown (cond t x' y')
  step true = p
  step false = q

-- a pending call, which is revealed without what is masked of it
pub blind-asks : (v : View) (f : Function) (s : ℕ) (t u : Task) → mask_task t ≡ mask_task u
    → shown (asks (mask v) f s t) ≡ shown (asks v f s u)
blind-asks v f s t u same =
    let q : Task → Question = λ x. record { number = v.next_question; function = f; session = s; task = x } in
    let a : Task → View → Answer =
    λ x w. record {
      says = Asks (q x);
      view = record w { question = Some (q x); next_question = v.next_question + 1 };
      change = Stays;
    } in
    ap (λ x. a x (mask (mask v))) same ∙ ap (a (mask_task u)) (mask-twice v)

pub blind-asks_checked : (v : View) (f : Function) (s : ℕ) (t u : Task) (who : UserType) → mask_task t ≡ mask_task u
    → shown (asks_checked (mask v) f s t who) ≡ shown (asks_checked v f s u who)
blind-asks_checked v f s t u who same =
    let q : Task → Question = λ x. record { number = v.next_question; function = f; session = s; task = x } in
    let a : Task → TokenRecord → View → Answer =
    λ x r w. record {
      says = Asks (q x);
      view = record w { token_record = r; question = Some (q x); next_question = v.next_question + 1 };
      change = Records r;
    } in
    ap (λ x. a x (mask_record (charged (mask_record v.token_record) who)) (mask (mask v))) same
    ∙ ap (λ r. a (mask_task u) r (mask (mask v))) (charged-masked v.token_record who)
    ∙ ap (a (mask_task u) (mask_record (charged v.token_record who))) (mask-twice v)

-- an answer by a session, by the object under a handle, and by the index of a token object
pub blind-session : (f : View → Option (Session Operations) → Answer) (v : View) (s : ℕ)
    → ((o : Option (Session Operations)) → shown (f (mask v) (option_map mask_session o)) ≡ shown (f v o))
    → shown (f (mask v) (session_of (mask v) s)) ≡ shown (f v (session_of v s))
blind-session f v s same = ap (λ o. shown (f (mask v) o)) (session-mask v s) ∙ same (session_of v s)

pub blind-object : (f : View → Option (List Entry) → Answer) (v : View) (handle : ℕ)
    → ((o : Option (List Entry)) → shown (f (mask v) (option_map mask_object o)) ≡ shown (f v o))
    → shown (f (mask v) (object_at (mask v) handle)) ≡ shown (f v (object_at v handle))
blind-object f v handle same = ap (λ o. shown (f (mask v) o)) (object-mask v handle) ∙ same (object_at v handle)

pub blind-index : (f : View → Option ℕ → Answer) (v : View) (handle : ℕ) → ((p : Option ℕ) → shown (f (mask v) p) ≡ shown (f v p))
    → shown (f (mask v) (index_of (mask v).tokens handle)) ≡ shown (f v (index_of v.tokens handle))
blind-index f v handle same = ap (λ p. shown (f (mask v) p)) (index-mask v handle) ∙ same (index_of v.tokens handle)

-- ---- an answer is no resource error, and a quiet one makes no change. Where it returns no job it leaves the pending call
-- as it was; else the call that it begins is pending. The record is seen as it becomes. Who begins a check of the user's
-- PIN has a session.

abbrev pub Leaves : Option Question → Said → Option Question → Type 0
Leaves old (Replies reply) new = new ≡ old
Leaves old (Asks question) new = new ≡ Some question

-- A check of a PIN begins with its charge, and only where the PIN is set and isn't locked. Nothing else changes the record.
abbrev pub Charged : Option UserType → TokenRecord → TokenRecord → Type 0
Charged None old new = new ≡ old
Charged (Some who) old new = (is_some (verifier_of old who) ≡ true) × (nat_lt (tries_of old who) tries_limit ≡ true)
    × (new ≡ charged old who)

pub record IsFair (quiet : Bool) (v : View) (a : Answer) : Type 0 where
  pub plain : resource_error_in a.says ≡ None
  pub still : quiet ≡ true → a.change ≡ Stays
  pub asks : Leaves v.question a.says a.view.question
  pub shows : a.view.token_record ≡ recorded a.change v.token_record
  pub charges : Charged (pin_checked_in a.says) v.token_record a.view.token_record
  pub seats : pin_checked_in a.says ≡ Some User → has_session a.view ≡ true

module _ {quiet : Bool} (v : View) where
  pub fair : {a : Answer} → resource_error_in a.says ≡ None → a.change ≡ Stays → Leaves v.question a.says a.view.question
      → a.view.token_record ≡ v.token_record → pin_checked_in a.says ≡ None → IsFair quiet v a
  fair {a} is still leaves kept none = record {
    plain = is;
    still = λ q. still;
    asks = leaves;
    shows = kept ∙ sym (ap (λ c. recorded c v.token_record) still);
    charges = subst (λ o. Charged o v.token_record a.view.token_record) (sym none) kept;
    seats = λ is. let k : None ≡ Some User = sym none ∙ is in cc;
  }

  -- a check of a PIN that is set and isn't locked
  pub fair-asks_checked : (f : Function) (s : ℕ) (t : Task) (who : UserType) → quiet ≡ false
      → is_some (verifier_of v.token_record who) ≡ true → nat_lt (tries_of v.token_record who) tries_limit ≡ true
      → pin_checked_by t ≡ Some who → (who ≡ User → has_session v ≡ true) → IsFair quiet v (asks_checked v f s t who)
  fair-asks_checked f s t who loud set few checks seated = record {
    plain = refl;
    still = λ q. let k : true ≡ false = sym q ∙ loud in cc;
    asks = refl;
    shows = refl;
    charges = subst (λ o. Charged o v.token_record (charged v.token_record who)) (sym checks) (set, few, refl);
    seats = λ is. seated (let k : Some who ≡ Some User = sym checks ∙ is in cc);
  }

  pub fair-if : (b : Bool) {x y : Answer} → IsFair quiet v x → IsFair quiet v y → IsFair quiet v (cond b x y)
  fair-if true p q = p
  fair-if false p q = q

  pub fair-refusal : (code : Rv) → resource_error (Code code) ≡ None → IsFair quiet v (refuses v code)
  fair-refusal code is = record { plain = is; still = λ q. refl; asks = refl; shows = refl; charges = refl; seats = λ k. cc }

  pub fair-row : (row : Condition) (b : Bool) {x : Answer} → resource_error (Code (code_of Ok row)) ≡ None → IsFair quiet v x
      → IsFair quiet v (cond b (refuses_by v row) x)
  fair-row row true is p = fair-refusal (code_of Ok row) is
  fair-row row false is p = p

-- the code of a fault, where there is one, is no resource error
abbrev pub resource_error_of : Option Rv → Option Fault
resource_error_of None = None
resource_error_of (Some code) = resource_error (Code code)

pub record IsPlainFault (fault : Option Rv) : Type 0 where
  pub plain : resource_error_of fault ≡ None

-- ---- both

pub record IsProper (f : View → Reveal → Answer) (quiet : Bool) : Type 0 where
  pub blind : (v : View) (r : Reveal) → shown (f (mask v) (mask_reveal r)) ≡ shown (f v r)
  pub fair : (v : View) (r : Reveal) → IsFair quiet v (f v r)
