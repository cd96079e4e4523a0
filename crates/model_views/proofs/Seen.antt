-- A change by others alters what an application sees just where `is_seen` is true.
use Rattle.std.proofs.Common.{◌≡◌, ℕ, true, false, List, map, Option, Some, None, refl, sym, ◌∙◌, ap}
use Rattle.std.specs.Prelude.{◌==◌, ◌&&◌, nat_eq, is_some}
use Rattle.std.specs.Bool.{Decides, beq}
use Rattle.std.specs.Cmp.Lexicographic.{pointwise}
use Rattle.std.specs.Option.{option_eq, option_map}
use Rattle.std.specs.Str.{bytes_eq}
use Rattle.std.proofs.lemmas.Bool.{both_ways, not-true, not-false}
use Rattle.std.proofs.lemmas.Bool.Decides.{Decides-eqb, Decides-and, Decides-like}
use Rattle.std.proofs.lemmas.Slice.Eq.{bytes_eq-Decides, slice_eq-Decides}
use Rattle.attrs.specs.Sameness.{same_object, same_object-Decides}
use Rattle.pin_record.specs.Verifiers.{PinVerifier}
use Rattle.pin_record.specs.Records.{PinState, TokenRecord}
use Rattle.model_views.specs.Views.{TokenObject, View, mask_verifier, mask_pin, mask_record, mask_token_object, mask}
use Rattle.model_views.proofs.Masks.{record-twice}
use Rattle.model_views.specs.Changes.{Change, Stays, Insert, Replace, Remove, Records, Resets, seen, same_pin, same_record, same_token_object, same_shared, is_seen}

-- ---- the same is equal

same_handle-Decides : (x y : Option ℕ) → Decides (option_eq nat_eq x y) (x ≡ y)
same_handle-Decides None None = (λ e. refl, λ e. refl)
same_handle-Decides None (Some y) = (λ e. let k : false ≡ true = e in cc, λ e. cc)
same_handle-Decides (Some x) None = (λ e. let k : false ≡ true = e in cc, λ e. cc)
same_handle-Decides (Some x) (Some y) = Decides-like {P = x ≡ y} {Q = Some x ≡ Some y} (nat_eq x y) (ap Some) (λ e. cc) (Decides-eqb x y)

same_token_object-Decides : (t u : TokenObject) → Decides (same_token_object t u) (t ≡ u)
same_token_object-Decides t u =
    Decides-like {P = (t.object ≡ u.object) × (t.handle ≡ u.handle)} {Q = t ≡ u} (same_token_object t u)
    (λ p i. record { object = p.0 i; handle = p.1 i })
    (λ p. (ap (λ (x : TokenObject). x.object) p, ap (λ (x : TokenObject). x.handle) p))
    (Decides-and (same_object t.object u.object) (option_eq nat_eq t.handle u.handle) (same_object-Decides t.object u.object)
    (same_handle-Decides t.handle u.handle))

-- of verifiers that are masked it is seen whether they are there
same_set-Decides : (v w : Option PinVerifier)
    → Decides (beq (is_some v) (is_some w)) (option_map mask_verifier v ≡ option_map mask_verifier w)
same_set-Decides None None = (λ e. refl, λ e. refl)
same_set-Decides None (Some w) = (λ e. let k : false ≡ true = e in cc, λ e. cc)
same_set-Decides (Some v) None = (λ e. let k : false ≡ true = e in cc, λ e. cc)
same_set-Decides (Some v) (Some w) = (λ e. refl, λ e. refl)

same_pin-Decides : (p q : PinState) → Decides (same_pin p q) (mask_pin p ≡ mask_pin q)
same_pin-Decides p q =
    Decides-like {P = (option_map mask_verifier p.verifier ≡ option_map mask_verifier q.verifier)
    × (p.tries ≡ q.tries)} {Q = mask_pin p ≡ mask_pin q} (same_pin p q)
    (λ h i. record { verifier = h.0 i; tries = h.1 i })
    (λ h. (ap (λ (x : PinState). x.verifier) h, ap (λ (x : PinState). x.tries) h))
    (Decides-and (beq (is_some p.verifier) (is_some q.verifier)) (p.tries == q.tries) (same_set-Decides p.verifier q.verifier)
    (Decides-eqb p.tries q.tries))

same_record-Decides : (r s : TokenRecord) → Decides (same_record r s) (mask_record r ≡ mask_record s)
same_record-Decides r s =
    Decides-like {P = (r.label ≡ s.label)
    × ((mask_pin r.so ≡ mask_pin s.so) × (mask_pin r.user ≡ mask_pin s.user))} {Q = mask_record r ≡ mask_record s} (same_record r s)
    (λ h i. record { label = h.0 i; so = h.1.0 i; user = h.1.1 i })
    (λ h. (ap (λ (x : TokenRecord). x.label) h, (ap (λ (x : TokenRecord). x.so) h, ap (λ (x : TokenRecord). x.user) h)))
    (Decides-and (bytes_eq r.label s.label) (same_pin r.so s.so && same_pin r.user s.user) (bytes_eq-Decides r.label s.label)
    (Decides-and (same_pin r.so s.so) (same_pin r.user s.user) (same_pin-Decides r.so s.so) (same_pin-Decides r.user s.user)))

-- ---- a view and what others make of it

-- others change the record and the token objects alone
altered : (v : View) (change : Change)
    → mask (seen change v) ≡ record
    (mask v) { token_record = mask_record (seen change v).token_record; tokens = map mask_token_object (seen change v).tokens }
altered v Stays = refl
altered v _ = refl

same_shared-Decides : (v : View) (change : Change) → Decides (same_shared (mask v) (mask (seen change v))) (mask v ≡ mask (seen change v))
same_shared-Decides v change =
    let new = (seen change v).token_record in
    let r = mask_record new in
    let ts = map mask_token_object (seen change v).tokens in
    let f : TokenRecord → List TokenObject → View = λ x xs. record (mask v) { token_record = x; tokens = xs } in
    Decides-like {P = (mask_record (mask_record v.token_record) ≡ mask_record r)
    × (map mask_token_object v.tokens ≡ ts)} {Q = mask v ≡ mask (seen change v)} (same_shared (mask v) (mask (seen change v)))
    (λ h. ap (λ x. f x (map mask_token_object v.tokens)) (sym (record-twice v.token_record) ∙ h.0 ∙ record-twice new) ∙ ap (f r) h.1
    ∙ sym (altered v change))
    (λ h. (ap (λ (u : View). mask_record u.token_record) h, ap (λ (u : View). u.tokens) h))
    (Decides-and (same_record (mask_record v.token_record) r) (pointwise same_token_object (map mask_token_object v.tokens) ts)
    (same_record-Decides (mask_record v.token_record) r)
    (slice_eq-Decides {E = same_token_object} same_token_object-Decides (map mask_token_object v.tokens) ts
    (pointwise same_token_object (map mask_token_object v.tokens) ts) refl))

pub unseen-view : (v : View) (change : Change) → is_seen v change ≡ false → mask v ≡ mask (seen change v)
unfolding is_seen
unseen-view v change is = (same_shared-Decides v change).0 (not-false (same_shared (mask v) (mask (seen change v))) is)

pub seen-view : (v : View) (change : Change) → is_seen v change ≡ true → mask v ≡ mask (seen change v) → ⊥
unfolding is_seen
seen-view v change is same = let t = same_shared (mask v) (mask (seen change v)) in
    both_ways t (not-true t is) ((same_shared-Decides v change).1 same)
