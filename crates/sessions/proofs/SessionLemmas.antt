-- What keeps a table of sessions, and what a look-up in it finds.
use mathlib.Core.Path.{fun_ext}
use Rattle.std.proofs.Common.{◌≡◌, ◌⊎◌, ℕ, ◌<◌, ◌≤◌, Bool, true, false, cond, eqb, not, ◌||◌, List, [], ◌∷◌, ◌++◌, length, set, map, Option, Some, None, refl, sym, ap, subst, ◌∙◌, arith, inl, inr, length-append}
use Rattle.std.specs.Prelude.{find, filter}
use Rattle.std.specs.Option.{option_map}
use Rattle.std.specs.List.{list_any}
use Rattle.std.proofs.lemmas.Bool.{cases_Bool, ne_eqb, true≢false}
use Rattle.std.proofs.lemmas.List.{length-map}
use Rattle.slab.specs.Slab.{Slab, get, entries_from, entries, slab_len}
use Rattle.ck_types.specs.declared.user_type.UserType.{UserType}
use Rattle.ck_types.specs.declared.user_type.UserType.TheVariants.{So}
use Rattle.ck_types.specs.declared.constants.TheConstants.{MAX_SESSION_COUNT}
use Rattle.sessions.specs.declared.Session.{Session}
use Rattle.lists.specs.InOrder.{in_order, NumbersRise}
use Rattle.sessions.specs.Sessions.{SessionTable, IsTable, session_at, has_read_only, with_session, login_among, without_session, busy_with, busy_at, with_work, table_logged_out}
use Rattle.lists.proofs.InOrderLemmas.{length-in_order, find-in_order, NumbersRise-end, NumbersRise-filter, NumbersRise-push, PassesOnce-number}
use Rattle.sessions.proofs.ChangeLemmas.{found_entry, in_order-remove, in_order-write, keeps_number, NumbersRise-map}

-- ---- lists
any-push : {E : Type 0} (test : E → Bool) (xs : List E) (x : E) → list_any test xs ≡ false → test x ≡ false
    → list_any test (xs ++ x ∷ []) ≡ false
any-push test [] x none last = rw last refl
any-push test (y ∷ xs) x none last = elim (cases_Bool (test y)) [
  | inl passes ↦ absurd (true≢false (let first : true ≡ false = rw passes at none in first))
  | inr fails ↦ rw fails (any-push test xs x (rw fails at none) last)
]

any-filter : {E : Type 0} (test keeps : E → Bool) (xs : List E) → list_any test xs ≡ false → list_any test (filter keeps xs) ≡ false
any-filter test keeps [] none = refl
any-filter test keeps (x ∷ xs) none = elim (cases_Bool (test x)) [
  | inl passes ↦ absurd (true≢false (let first : true ≡ false = rw passes at none in first))
  | inr fails ↦
      let rest = any-filter test keeps xs (rw fails at none) in
      elim (cases_Bool (keeps x)) [
        | inl stays ↦ rw (stays, fails) rest
        | inr goes ↦ rw goes rest
      ]
]

length-filter_le : {E : Type 0} (keeps : E → Bool) (xs : List E) → length (filter keeps xs) ≤ length xs
length-filter_le keeps [] = omega arith
length-filter_le keeps (x ∷ xs) = elim (cases_Bool (keeps x)) [
  | inl stays ↦ rw stays (omega (arith, length-filter_le keeps xs))
  | inr goes ↦ rw goes (omega (arith, length-filter_le keeps xs))
]

push_is_some : {E : Type 0} (xs : List E) (x : E) → xs ++ x ∷ [] ≡ [] → ⊥
push_is_some [] x none = absurd (cc)
push_is_some (y ∷ xs) x none = absurd (cc)

-- two values that a lender may end as are the same where they are at each last write
pub lends_same : {G W A : Type 0} (name : G) (f h : W → A) → ((w : W) → f w ≡ h w)
    → ◌≡◌ {A = (G × (W → A)) ⊎ A} (inl (name, f)) (inl (name, h))
lends_same name f h same = ap (λ k. inl (name, k)) (fun_ext same)

module _ {W : Type 0} where
  -- ---- tables
  pub IsTable-closed : (t : SessionTable W) → IsTable t → IsTable (record t { sessions = []; login = None })
  IsTable-closed t table = record {
    rising = NumbersRise-end (λ s. s.handle) 1 t.next_number t.sessions table.rising;
    few = omega arith;
    so = λ is. refl;
    logged_in = λ is. refl;
  }

  pub IsTable-with_session : (idle : W) (read_write : Bool) (t : SessionTable W) → IsTable t → length t.sessions < MAX_SESSION_COUNT
      → (t.login ≡ Some So → read_write ≡ true) → IsTable (with_session idle t read_write)
  IsTable-with_session idle read_write t table room access = record {
    rising = NumbersRise-push (λ s. s.handle) 1 t.next_number _ t.sessions refl table.rising;
    few = omega (arith, length-append t.sessions (record { handle = t.next_number; read_write = read_write; work = idle } ∷ []));
    so = λ is. any-push (λ s. not s.read_write) t.sessions _ (table.so is) (rw (access is) refl);
    logged_in = λ none. absurd (push_is_some t.sessions _ none);
  }

  login-so : (others : List (Session W)) (login : Option UserType) → (login ≡ Some So → has_read_only others ≡ false)
      → login_among others login ≡ Some So → has_read_only others ≡ false
  login-so [] login so is = refl
  login-so (s ∷ ss) login so is = so is

  pub IsTable-without_session : (handle : ℕ) (t : SessionTable W) → IsTable t → IsTable (without_session t handle)
  IsTable-without_session handle t table = record {
    rising = NumbersRise-filter (λ s. s.handle) 1 t.next_number (λ s. not (eqb s.handle handle)) t.sessions table.rising;
    few = omega (arith, length-filter_le (λ s. not (eqb s.handle handle)) t.sessions, table.few);
    so = login-so (filter (λ s. not (eqb s.handle handle)) t.sessions) t.login
        (λ is. any-filter (λ s. not s.read_write) (λ s. not (eqb s.handle handle)) t.sessions (table.so is));
    logged_in = λ none. ap (λ ss. login_among ss t.login) none;
  }

  has_read_only-map : (work : W) (ss : List (Session W)) → has_read_only (map (busy_with work) ss) ≡ has_read_only ss
  has_read_only-map work [] = refl
  has_read_only-map work (s ∷ ss) = ap (λ b. not s.read_write || b) (has_read_only-map work ss)

  pub IsTable-logged_out : (idle : W) (t : SessionTable W) → IsTable t → IsTable (table_logged_out idle t)
  IsTable-logged_out idle t table = record {
    rising = NumbersRise-map (λ s. s.handle) (busy_with idle) (λ s. refl) 1 t.next_number t.sessions table.rising;
    few = omega (arith, length-map t.sessions (busy_with idle), table.few);
    so = λ is. absurd (cc);
    logged_in = λ is. refl;
  }

  has_read_only-busy : (handle : ℕ) (work : W) (ss : List (Session W)) → has_read_only (map (busy_at handle work) ss) ≡ has_read_only ss
  has_read_only-busy handle work [] = refl
  has_read_only-busy handle work (s ∷ ss) =
      let rest = has_read_only-busy handle work ss in
      elim (cases_Bool (eqb s.handle handle)) [
        | inl here ↦ rw (here, rest) refl
        | inr other ↦ rw (other, rest) refl
      ]

  map_is_some : (f : Session W → Session W) (ss : List (Session W)) → map f ss ≡ [] → ss ≡ []
  map_is_some f [] none = refl
  map_is_some f (s ∷ ss) none = absurd (cc)

  pub IsTable-with_work : (handle : ℕ) (work : W) (t : SessionTable W) → IsTable t → IsTable (with_work t handle work)
  IsTable-with_work handle work t table = record {
    rising = NumbersRise-map (λ s. s.handle) (busy_at handle work)
        (keeps_number (λ s. s.handle) (λ s. eqb s.handle handle) (busy_with work) (λ s. refl)) 1 t.next_number t.sessions table.rising;
    few = omega (arith, length-map t.sessions (busy_at handle work), table.few);
    so = λ is. has_read_only-busy handle work t.sessions ∙ table.so is;
    logged_in = λ none. table.logged_in (map_is_some (busy_at handle work) t.sessions none);
  }

  -- ---- look-ups
  pub session_at-in_order : (handle next : ℕ) (slots : List (Option (Session W)))
      → NumbersRise (λ s. s.handle) 1 (in_order (λ s. s.handle) slots) next
      → option_map (λ e. e.1) (find (λ e. eqb e.1.handle handle) (entries_from 0 slots))
      ≡ session_at (in_order (λ s. s.handle) slots) handle
  session_at-in_order handle next slots rising =
      find-in_order (λ s. s.handle) (λ s. eqb s.handle handle) 0 slots
      (PassesOnce-number (λ s. s.handle) 1 next handle (in_order (λ s. s.handle) slots) rising)

  -- a session that a search of the slab found: it stands under its key, and is the one of its number
  pub record IsFound (slab : Slab (Session W)) (handle key : ℕ) (s : Session W) : Type 0 where
    pub here : get slab key ≡ Some s
    pub numbered : eqb s.handle handle ≡ true
    pub listed : session_at (in_order (λ x. x.handle) slab.slots) handle ≡ Some s

  pub found_session : (slab : Slab (Session W)) (handle next key : ℕ) (s : Session W)
      → NumbersRise (λ x. x.handle) 1 (in_order (λ x. x.handle) slab.slots) next
      → find (λ e. eqb e.1.handle handle) (entries slab) ≡ Some (key, s) → IsFound slab handle key s
  found_session slab handle next key s rising found =
      let entry = found_entry (λ x. eqb x.handle handle) 0 slab.slots key s found in
      let at : key ≡ entry.0 = omega (arith, entry.1) in
      record {
        here = ap (get slab) at ∙ entry.2;
        numbered = entry.3;
        listed = sym (session_at-in_order handle next slab.slots rising) ∙ ap (option_map (λ e. e.1)) found;
      }

  -- ---- a closed session
  filter-absent : (handle : ℕ) (ss : List (Session W)) → session_at ss handle ≡ None → filter (λ s. not (eqb s.handle handle)) ss ≡ ss
  filter-absent handle [] absent = refl
  filter-absent handle (s ∷ ss) absent = elim (cases_Bool (eqb s.handle handle)) [
    | inl here ↦ absurd (let found : Some s ≡ None = rw here at absent in cc)
    | inr other ↦ rw other (ap (λ xs. s ∷ xs) (filter-absent handle ss (rw other at absent)))
  ]

  login_among-same : (ss : List (Session W)) (login : Option UserType) → (ss ≡ [] → login ≡ None) → login_among ss login ≡ login
  login_among-same [] login public = sym (public refl)
  login_among-same (s ∷ ss) login public = refl

  pub without_absent : (handle : ℕ) (t : SessionTable W) → IsTable t → session_at t.sessions handle ≡ None → t ≡ without_session t handle
  without_absent handle t table absent =
      rw (filter-absent handle t.sessions absent, login_among-same t.sessions t.login table.logged_in) refl

  pub in_order-closed : (slab : Slab (Session W)) (handle next key : ℕ) (s : Session W) → IsFound slab handle key s
      → NumbersRise (λ x. x.handle) 1 (in_order (λ x. x.handle) slab.slots) next
      → in_order (λ x. x.handle) (set slab.slots key None) ≡ filter (λ x. not (eqb x.handle handle)) (in_order (λ x. x.handle) slab.slots)
  in_order-closed slab handle next key s found rising =
      in_order-remove (λ x. x.handle) (λ x. eqb x.handle handle) slab.slots key s found.here found.numbered
      (PassesOnce-number (λ x. x.handle) 1 next handle _ rising)

  -- the login after a close, by whether no session is left
  login_after : (others : List (Session W)) (login : Option UserType) (left : ℕ) → length others ≡ left
      → cond (eqb left 0) None login ≡ login_among others login
  login_after [] login left counted = rw (sym counted) refl
  login_after (s ∷ ss) login left counted = rw (ne_eqb left 0 (λ none. absurd (omega (arith, counted, none)))) refl

  -- the table after a removal from the slab
  pub closed_table : (slab removed : Slab (Session W)) (login : Option UserType) (handle next key : ℕ) (s : Session W)
      (empty : Bool) → IsFound slab handle key s → NumbersRise (λ x. x.handle) 1 (in_order (λ x. x.handle) slab.slots) next
      → removed.slots ≡ set slab.slots key None → empty ≡ eqb (slab_len removed) 0
      → ◌≡◌ {A = SessionTable W} (record {
        sessions = in_order (λ x. x.handle) removed.slots;
        login = cond empty None login;
        next_number = next;
      }) (without_session
      (record { sessions = in_order (λ x. x.handle) slab.slots; login = login; next_number = next }) handle)
  closed_table slab removed login handle next key s empty found rising gone is =
      let others = filter (λ x. not (eqb x.handle handle)) (in_order (λ x. x.handle) slab.slots) in
      let closed : in_order (λ x. x.handle) removed.slots ≡ others =
      ap (in_order (λ x. x.handle)) gone ∙ in_order-closed slab handle next key s found rising in
      let after : cond empty None login ≡ login_among others login =
      ap (λ b. cond b None login) is
      ∙ login_after others login (slab_len removed) (ap length (sym closed) ∙ length-in_order (λ x. x.handle) removed.slots) in
      rw (closed, after) refl

  -- the table after a write of what a session has in progress
  pub written_table : (slab : Slab (Session W)) (login : Option UserType) (handle next key : ℕ) (s : Session W) (work : W)
      → IsFound slab handle key s → NumbersRise (λ x. x.handle) 1 (in_order (λ x. x.handle) slab.slots) next
      → ◌≡◌ {A = SessionTable W} (record {
        sessions = in_order (λ x. x.handle) (set slab.slots key (Some (busy_with work s)));
        login = login;
        next_number = next;
      })
      (with_work (record { sessions = in_order (λ x. x.handle) slab.slots; login = login; next_number = next }) handle work)
  written_table slab login handle next key s work found rising =
      rw (in_order-write (λ x. x.handle) (λ x. eqb x.handle handle) (busy_with work)
      (λ x. refl) slab.slots key s found.here found.numbered (PassesOnce-number (λ x. x.handle) 1 next handle _ rising)) refl

  -- the session under the key of one that was found is that one
  pub IsFound-same : (slab : Slab (Session W)) (handle key : ℕ) (s r : Session W) → IsFound slab handle key s
      → get slab key ≡ Some r → IsFound slab handle key r
  IsFound-same slab handle key s r found there =
      let both : Some s ≡ Some r = sym found.here ∙ there in
      let same : s ≡ r = cc in
      subst (IsFound slab handle key) same found
