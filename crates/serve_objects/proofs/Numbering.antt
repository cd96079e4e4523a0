-- Handles that are given one after the other, as they are in the view of an application.
use Rattle.std.proofs.Common.{◌≡◌, ◌≢◌, ℕ, ◌+◌, ◌<◌, ◌≤◌, ◌^◌, Bool, true, false, cond, List, [], ◌∷◌, ◌++◌, map, length, Option, Some, None, refl, sym, ◌∙◌, ap, arith, inl, inr}
use Rattle.std.specs.Prelude.{◌&&◌, filter, is_some, is_none, ◌==◌, drop, get_or}
use Rattle.std.specs.Option.{option_map, unwrap_or}
use Rattle.std.specs.List.{AllByRecursion}
use Rattle.std.proofs.lemmas.Bool.{cases_Bool, ne_eqb}
use Rattle.std.proofs.lemmas.List.{append_assoc, drop_more, length-append, length-drop}
use Rattle.ck_types.specs.declared.entry.Entry.{Entry}
use Rattle.ck_types.specs.declared.attr_type.AttrType.TheVariants as attr
use Rattle.ck_types.specs.declared.user_type.UserType.{UserType}
use Rattle.attrs.specs.Objects.{flag}
use Rattle.find.specs.Matching.{template_matches}
use Rattle.handles.specs.declared.Handle.{Handle}
use Rattle.handles.specs.Handles.{HandleTable, HasRoomFor, handle_number}
use Rattle.handles.proofs.HandleLemmas.{number_of-push}
use Rattle.keep.specs.Contents.{Kept, IdsRise}
use Rattle.desk.specs.declared.own_object.OwnObject.{OwnObject}
use Rattle.lists.proofs.ListLemmas.{find-push_fails, map-map}
use Rattle.model_views.specs.Views.{TokenObject, sees}
use Rattle.model_answers.specs.FindObjectsInit.{with_handles, next_after, tokens_found as handles_found}
use Rattle.serve_base.specs.declared.searching.Match.{Match}
use Rattle.serve_base.specs.declared.searching.Match.TheVariants.{TokenObject as TokenMatch, SessionObject as SessionMatch}
use Rattle.serve_base.specs.Searching.{finds, token_match, kept_found, MayFind}
use Rattle.serve_objects.specs.Giving.{own_matches, with_one, number_of_one, given, numbers}

-- ---- a handle further

number-stays : (hs : List Handle) (h : Handle) (id n : ℕ) → handle_number hs id ≡ Some n → handle_number (hs ++ h ∷ []) id ≡ Some n
number-stays [] h id n is = let k : None ≡ Some n = is in cc
number-stays (x ∷ hs) h id n is = elim (cases_Bool (x.id == id)) [
  | inl here ↦ rw here (rw here at is)
  | inr other ↦ rw other (number-stays hs h id n (rw other at is))
]

number-others : (hs : List Handle) (h : Handle) (id : ℕ) → h.id ≢ id → handle_number (hs ++ h ∷ []) id ≡ handle_number hs id
number-others hs h id differ = ap (option_map (λ x. x.handle)) (find-push_fails (λ x. x.id == id) hs h (ne_eqb h.id id differ))

abbrev pub new_handle : HandleTable → ℕ → Bool → Handle
new_handle t id private = record { handle = t.next_number; id = id; private = private }

abbrev pub pushed : HandleTable → ℕ → Bool → HandleTable
pushed t id private = record t { entries = t.entries ++ new_handle t id private ∷ []; next_number = t.next_number + 1 }

-- ---- handles that were given stay, and other ids get none

abbrev IsNotOf : ℕ → Match → Type 0
IsNotOf id (TokenMatch i private) = id < i
IsNotOf id (SessionMatch handle) = Unit {0}

stays-one : (t : HandleTable) (m : Match) (id n : ℕ) → handle_number t.entries id ≡ Some n → handle_number (with_one t m).entries id ≡ Some n
stays-one t (SessionMatch handle) id n is = is
stays-one t (TokenMatch i private) id n is = step (is_some (handle_number t.entries i)) where
  step : (b : Bool) → handle_number (cond b t (pushed t i private)).entries id ≡ Some n
  step true = is
  step false = number-stays t.entries (new_handle t i private) id n is

stays-given : (t : HandleTable) (ms : List Match) (id n : ℕ) → handle_number t.entries id ≡ Some n → handle_number (given t ms).entries id ≡ Some n
stays-given t [] id n is = is
stays-given t (m ∷ ms) id n is = stays-given (with_one t m) ms id n (stays-one t m id n is)

others-one : (t : HandleTable) (m : Match) (id : ℕ) → IsNotOf id m → handle_number (with_one t m).entries id ≡ handle_number t.entries id
others-one t (SessionMatch handle) id above = refl
others-one t (TokenMatch i private) id above = step (is_some (handle_number t.entries i)) where
  step : (b : Bool) → handle_number (cond b t (pushed t i private)).entries id ≡ handle_number t.entries id
  step true = refl
  step false = number-others t.entries (new_handle t i private) id (λ is. omega (arith, above, is))

others-given : (t : HandleTable) (ms : List Match) (id : ℕ) → AllByRecursion (IsNotOf id) ms
    → handle_number (given t ms).entries id ≡ handle_number t.entries id
others-given t [] id above = refl
others-given t (m ∷ ms) id above = others-given (with_one t m) ms id above.1 ∙ others-one t m id above.0

-- ---- token objects by rising ids

-- a token object with the handle that a table has for it
abbrev pub token_by : List Handle → Kept → TokenObject
token_by hs e = record { object = e.1; handle = handle_number hs e.0 }

tokens-others : (hs : List Handle) (h : Handle) (test : Kept → Bool) (low last : ℕ) (es : List Kept) → IdsRise low es last
    → h.id ≤ low → map (token_by (hs ++ h ∷ [])) (filter test es) ≡ map (token_by hs) (filter test es)
tokens-others hs h test low last [] ids below = refl
tokens-others hs h test low last (e ∷ es) ids below =
    let l : low < e.0 = ids.0 in
    step (test e) (number-others hs h e.0 (λ is. omega (arith, l, below, is)))
    (tokens-others hs h test e.0 last es ids.2 (omega (arith, l, below))) where
      step : (b : Bool) → handle_number (hs ++ h ∷ []) e.0 ≡ handle_number hs e.0
          → map (token_by (hs ++ h ∷ [])) (filter test es) ≡ map (token_by hs) (filter test es)
          → map (token_by (hs ++ h ∷ [])) (cond b (e ∷ filter test es) (filter test es))
          ≡ map (token_by hs) (cond b (e ∷ filter test es) (filter test es))
      step true n rest =
          let f : Option ℕ → TokenObject = λ x. record { object = e.1; handle = x } in
          ap (λ x. f x ∷ map (token_by (hs ++ h ∷ [])) (filter test es)) n ∙ ap (λ xs. token_by hs e ∷ xs) rest
      step false n rest = rest

module _ (login : Option UserType) (template : List Entry) where
  abbrev pub seen : List Kept → List Kept
  seen es = filter (λ e. sees login e.1) es

  above-found : (low last : ℕ) (id : ℕ) (es : List Kept) → IdsRise low es last → id ≤ low
      → AllByRecursion (IsNotOf id) (kept_found login template es)
  above-found low last id [] ids below = tt
  above-found low last id (e ∷ es) ids below =
      let l : low < e.0 = ids.0 in
      step (finds login template e.1) (omega (arith, l, below)) (above-found e.0 last id es ids.2 (omega (arith, l, below))) where
        step : (b : Bool) → id < e.0 → AllByRecursion (IsNotOf id) (kept_found login template es)
            → AllByRecursion (IsNotOf id)
            (map (λ x. token_match login template x.0 x.1)
            (cond b (e ∷ filter (λ x. finds login template x.1) es) (filter (λ x. finds login template x.1) es)))
        step true here rest = (here, rest)
        step false here rest = rest

  abbrev pub before : HandleTable → List Kept → List TokenObject
  before t es = map (token_by t.entries) (seen es)

  -- what the application sees of it, the next handle, and the handles that are collected
  abbrev Numbered : HandleTable → List Kept → Type 0
  Numbered t es =
      (map (token_by (given t (kept_found login template es)).entries) (seen es) ≡ with_handles template t.next_number (before t es))
      × ((given t (kept_found login template es)).next_number ≡ next_after template t.next_number (before t es))
      × (numbers t (kept_found login template es) ≡ handles_found template (with_handles template t.next_number (before t es)))

  -- where the first is seen and found: by the handle that it has
  module _ (t : HandleTable) (e : Kept) (es : List Kept) where
    abbrev with_first : Option ℕ → HandleTable
    with_first o = cond (is_some o) t (pushed t e.0 (flag e.1 attr.Private))

    abbrev first : Option ℕ → TokenObject
    first o = record { object = e.1; handle = o }

    abbrev first_seen : Option ℕ → List TokenObject
    first_seen o = cond (is_none o) (first (Some t.next_number) ∷ with_handles template (t.next_number + 1) (before t es))
        (first o ∷ with_handles template t.next_number (before t es))

    abbrev NumberedFirst : Option ℕ → Type 0
    NumberedFirst o =
        let ms = kept_found login template es in
        (map (token_by (given (with_first o) ms).entries) (e ∷ seen es) ≡ first_seen o)
        × ((given (with_first o) ms).next_number
        ≡ cond (is_none o) (next_after template (t.next_number + 1) (before t es)) (next_after template t.next_number (before t es)))
        × (unwrap_or (handle_number (with_first o).entries e.0) 0 ∷ numbers (with_first o) ms ≡ handles_found template (first_seen o))

    numbered-first : (last : ℕ) (o : Option ℕ) → IdsRise e.0 es last → template_matches template e.1 ≡ true
        → ((u : HandleTable) → Numbered u es) → handle_number t.entries e.0 ≡ o → NumberedFirst o
    numbered-first last (Some n) ids found further is =
        let ms = kept_found login template es in
        let rest = further t in (
          ap (λ x. first x ∷ map (token_by (given t ms).entries) (seen es)) (stays-given t ms e.0 n is)
              ∙ ap (λ ts. first (Some n) ∷ ts) rest.0,
          rest.1,
          rw (found, is) (ap (λ ns. n ∷ ns) rest.2),
        )
    numbered-first last None ids found further is =
        let ms = kept_found login template es in
        let t' = pushed t e.0 (flag e.1 attr.Private) in
        let rest = further t' in
        let here : handle_number t'.entries e.0 ≡ Some t.next_number = number_of-push t.entries (new_handle t e.0 (flag e.1 attr.Private)) is in
        let same = tokens-others t.entries (new_handle t e.0 (flag e.1 attr.Private)) (λ x. sees login x.1) e.0 last es ids
        (omega arith) in (
          ap (λ x. first x ∷ map (token_by (given t' ms).entries) (seen es)) (stays-given t' ms e.0 t.next_number here)
              ∙ ap (λ ts. first (Some t.next_number) ∷ ts) (rest.0 ∙ ap (with_handles template (t.next_number + 1)) same),
          rest.1 ∙ ap (next_after template (t.next_number + 1)) same,
          rw (found, here) (ap (λ ns. t.next_number ∷ ns)
              (rest.2 ∙ ap (λ ts. handles_found template (with_handles template (t.next_number + 1) ts)) same)),
        )

    -- by whether it is seen and whether it is found
    abbrev shown_if : Bool → List Kept
    shown_if visible = cond visible (e ∷ seen es) (seen es)

    abbrev found_if : Bool → List Match
    found_if found = map (λ x. token_match login template x.0 x.1)
        (cond found (e ∷ filter (λ x. finds login template x.1) es) (filter (λ x. finds login template x.1) es))

    abbrev NumberedIf : Bool → Bool → Type 0
    NumberedIf visible found =
        let ms = found_if (visible && found) in
        let ts = map (token_by t.entries) (shown_if visible) in
        (map (token_by (given t ms).entries) (shown_if visible) ≡ with_handles template t.next_number ts)
        × ((given t ms).next_number ≡ next_after template t.next_number ts)
        × (numbers t ms ≡ handles_found template (with_handles template t.next_number ts))

    numbered-if : (last : ℕ) (visible found : Bool) → IdsRise e.0 es last → template_matches template e.1 ≡ found
        → ((u : HandleTable) → Numbered u es) → NumberedIf visible found
    numbered-if last false found ids is further = further t
    numbered-if last true false ids is further =
        let o = handle_number t.entries e.0 in
        let ms = kept_found login template es in
        let rest = further t in
        let taken : List TokenObject = first (Some t.next_number) ∷ with_handles template (t.next_number + 1) (before t es) in
        let left : List TokenObject = first o ∷ with_handles template t.next_number (before t es) in
        let here : numbers t ms ≡ handles_found template left = rw is rest.2 in (
          ap (λ x. first x ∷ map (token_by (given t ms).entries) (seen es))
              (others-given t ms e.0 (above-found e.0 last e.0 es ids (omega arith)))
              ∙ ap (λ ts. first o ∷ ts) rest.0
              ∙ sym (ap (λ m. cond (m && is_none o) taken left) is),
          rest.1 ∙ sym (ap (λ m. cond (m && is_none o) (next_after template (t.next_number + 1) (before t es))
              (next_after template t.next_number (before t es))) is),
          here ∙ sym (ap (λ m. handles_found template (cond (m && is_none o) taken left)) is),
        )
    numbered-if last true true ids is further =
        let o = handle_number t.entries e.0 in
        let r = numbered-first last o ids is further refl in
        let taken : List TokenObject = first (Some t.next_number) ∷ with_handles template (t.next_number + 1) (before t es) in
        let left : List TokenObject = first o ∷ with_handles template t.next_number (before t es) in (
          r.0 ∙ sym (ap (λ m. cond (m && is_none o) taken left) is),
          r.1 ∙ sym (ap (λ m. cond (m && is_none o) (next_after template (t.next_number + 1) (before t es))
              (next_after template t.next_number (before t es))) is),
          r.2 ∙ sym (ap (λ m. handles_found template (cond (m && is_none o) taken left)) is),
        )

  pub numbered : (t : HandleTable) (low last : ℕ) (es : List Kept) → IdsRise low es last → Numbered t es
  numbered t low last [] ids = (refl, refl, refl)
  numbered t low last (e ∷ es) ids =
      numbered-if t e es last (sees login e.1) (template_matches template e.1) ids.2 refl (λ u. numbered u e.0 last es ids.2)

-- ---- session objects keep theirs

pub given-own : (t : HandleTable) (ms : List Match) (hs : List ℕ) → given t (ms ++ map (λ h. SessionMatch h) hs) ≡ given t ms
given-own t [] [] = refl
given-own t [] (h ∷ hs) = given-own t [] hs
given-own t (m ∷ ms) hs = given-own (with_one t m) ms hs

pub numbers-own : (t : HandleTable) (ms : List Match) (hs : List ℕ) → numbers t (ms ++ map (λ h. SessionMatch h) hs) ≡ numbers t ms ++ hs
numbers-own t [] [] = refl
numbers-own t [] (h ∷ hs) = ap (λ ns. h ∷ ns) (numbers-own t [] hs)
numbers-own t (m ∷ ms) hs = ap (λ ns. number_of_one t m ∷ ns) (numbers-own (with_one t m) ms hs)

pub all-own : (P : Match → Type 0) (ms : List Match) (hs : List ℕ) → ((h : ℕ) → P (SessionMatch h)) → AllByRecursion P ms
    → AllByRecursion P (ms ++ map (λ h. SessionMatch h) hs)
all-own P [] [] own all = tt
all-own P [] (h ∷ hs) own all = (own h, all-own P [] hs own tt)
all-own P (m ∷ ms) hs own all = (all.0, all-own P ms hs own all.1)

pub own-handles : (template : List Entry) (es : List OwnObject)
    → own_matches template es ≡ map (λ h. SessionMatch h) (map (λ e. e.handle) (filter (λ e. template_matches template e.object) es))
own-handles template es = sym
    (map-map (λ (e : OwnObject). e.handle) (λ h. SessionMatch h) (filter (λ e. template_matches template e.object) es))

-- ---- one further

pub left-one : {X : Type 0} (xs : List X) (i : ℕ) → i < length xs → length (drop i xs) ≡ length (drop (i + 1) xs) + 1
left-one xs i inside = let n = length-drop i xs in let m = length-drop (i + 1) xs in omega (arith, inside, n, m)

room-one : (t : HandleTable) (m : Match) (left : ℕ) → HasRoomFor t (left + 1) → HasRoomFor (with_one t m) left
room-one t (SessionMatch handle) left room = omega (arith, room)
room-one t (TokenMatch id private) left room = step (is_some (handle_number t.entries id)) where
  step : (b : Bool) → HasRoomFor (cond b t (pushed t id private)) left
  step true = omega (arith, room)
  step false = let n = length-append t.entries (new_handle t id private ∷ []) in omega (arith, room, n)

below-one : (t : HandleTable) (m : Match) (left : ℕ) → t.next_number + (left + 1) < 2 ^ 64 → (with_one t m).next_number + left < 2 ^ 64
below-one t (SessionMatch handle) left below = omega (arith, below)
below-one t (TokenMatch id private) left below = step (is_some (handle_number t.entries id)) where
  step : (b : Bool) → (cond b t (pushed t id private)).next_number + left < 2 ^ 64
  step true = omega (arith, below)
  step false = omega (arith, below)

module _ (ms : List Match) (i : ℕ) (d : Match) (inside : i < length ms) where
  pub room-more : (t : HandleTable) → HasRoomFor t (length (drop i ms)) → HasRoomFor (with_one t (get_or ms i d)) (length (drop (i + 1) ms))
  room-more t room = room-one t (get_or ms i d) (length (drop (i + 1) ms)) (rw (left-one ms i inside) at room)

  pub below-more : (t : HandleTable) → t.next_number + length (drop i ms) < 2 ^ 64
      → (with_one t (get_or ms i d)).next_number + length (drop (i + 1) ms) < 2 ^ 64
  below-more t below = below-one t (get_or ms i d) (length (drop (i + 1) ms)) (rw (left-one ms i inside) at below)

  pub may-more : (login : Option UserType) → AllByRecursion (MayFind login) (drop i ms) → MayFind login (get_or ms i d)
      × AllByRecursion (MayFind login) (drop (i + 1) ms)
  may-more login may = rw (drop_more ms i d inside) at may

  pub given-more : (t : HandleTable) → given (with_one t (get_or ms i d)) (drop (i + 1) ms) ≡ given t (drop i ms)
  given-more t = sym (ap (given t) (drop_more ms i d inside))

  pub numbers-more : (t : HandleTable) (ns : List ℕ)
      → (ns ++ number_of_one t (get_or ms i d) ∷ []) ++ numbers (with_one t (get_or ms i d)) (drop (i + 1) ms) ≡ ns ++ numbers t (drop i ms)
  numbers-more t ns = append_assoc ns (number_of_one t (get_or ms i d) ∷ [])
      (numbers (with_one t (get_or ms i d)) (drop (i + 1) ms)) ∙ sym (ap (λ xs. ns ++ numbers t xs) (drop_more ms i d inside))

pub may-rest : (login : Option UserType) (ms : List Match) (i : ℕ) → i < length ms → AllByRecursion (MayFind login) (drop i ms)
    → AllByRecursion (MayFind login) (drop (i + 1) ms)
may-rest login ms i inside may = (may-more ms i (SessionMatch 0) inside login may).1
