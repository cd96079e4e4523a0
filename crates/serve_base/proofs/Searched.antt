-- What a search finds by the list of the token objects is what it finds among the objects.
use Rattle.std.proofs.Common.{◌≡◌, ℕ, zero, suc, ◌+◌, ◌<◌, Bool, true, false, cond, not, List, [], ◌∷◌, ◌++◌, length, get_or, set, drop, map, Option, Some, None, refl, sym, ◌∙◌, ap, subst, add-one, append_assoc, arith}
use Rattle.std.specs.Prelude.{find, filter, ◌==◌, ◌&&◌, ◌||◌}
use Rattle.std.specs.List.{AllByRecursion}
use Rattle.std.specs.Option.{option_map}
use Rattle.std.proofs.lemmas.Bool.{eq-eqb, ne_eqb}
use Rattle.std.proofs.lemmas.List.{append-nil}
use Rattle.std.proofs.lemmas.List.Elements.{All-set}
use Rattle.ck_types.specs.declared.attr_type.AttrType.TheVariants as attr
use Rattle.ck_types.specs.declared.entry.Entry.{Entry}
use Rattle.ck_types.specs.declared.user_type.UserType.{UserType}
use Rattle.keep.specs.Contents.{Contents, Kept, IdsRise, IsSound, ids_of, object_at}
use Rattle.attrs.specs.Objects.{flag}
use Rattle.find.specs.Marks.{ObjectMark, excludes, mark_of, wanted_of}
use Rattle.find.specs.MarkLaws.{template_matches-excluded}
use Rattle.find.specs.Matching.{template_matches}
use Rattle.guard.specs.Access.{is_user_in}
use Rattle.serve_base.specs.declared.listed.ObjectEntry.{ObjectEntry}
use Rattle.serve_base.specs.declared.searching.Match.{Match}
use Rattle.serve_base.specs.Listing.{AreMarks, IsMarkOf, all_ids, listed_ids}
use Rattle.serve_base.specs.Searching.{finds, token_match, kept_found, found_of, found_in, found_at, passes_over}

module _ (login : Option UserType) (template : List Entry) where
  by-objects : (object_of : ℕ → Option (List Entry)) (low last : ℕ) (es : List Kept) → IdsRise low es last
      → ((id : ℕ) → low < id → object_of id ≡ option_map (λ e. e.1) (find (λ e. e.0 == id) es))
      → found_at login template object_of (map (λ e. e.0) es) ≡ kept_found login template es
  by-objects object_of low last [] ids there = refl
  by-objects object_of low last (e ∷ es) ids there =
      let here : object_of e.0 ≡ Some e.1 =
      there e.0 ids.0 ∙ ap (λ b. option_map (λ (x : Kept). x.1) (cond b (Some e) (find (λ x. x.0 == e.0) es))) (eq-eqb e.0 e.0 refl) in
      let others : (id : ℕ) → e.0 < id → object_of id ≡ option_map (λ x. x.1) (find (λ x. x.0 == id) es) =
      λ id above. there id (let l : low < e.0 = ids.0 in omega arith)
      ∙ ap (λ b. option_map (λ (x : Kept). x.1) (cond b (Some e) (find (λ x. x.0 == id) es)))
      (ne_eqb e.0 id (λ is. omega (arith, above))) in
      ap (λ o. found_of login template e.0 o ++ found_at login template object_of (map (λ x. x.0) es)) here
      ∙ ap (λ ms. found_of login template e.0 (Some e.1) ++ ms) (by-objects object_of e.0 last es ids.2 others)
      ∙ step (finds login template e.1) where
        step : (b : Bool) → cond b (token_match login template e.0 e.1 ∷ []) [] ++ kept_found login template es
            ≡ map (λ x. token_match login template x.0 x.1)
            (cond b (e ∷ filter (λ x. finds login template x.1) es) (filter (λ x. finds login template x.1) es))
        step true = refl
        step false = refl

  pub found-objects : (c : Contents) → IsSound c → found_at login template (object_at c) (ids_of c) ≡ kept_found login template c.objects
  found-objects c sound = by-objects (object_at c) 0 c.last_id c.objects sound.ids (λ id above. refl)

  -- ---- objects that are passed over

  hides : (private user excluded matches : Bool) → ((private && not user) || excluded) ≡ true → (excluded ≡ true → matches ≡ false)
      → ((not private || user) && matches) ≡ false
  hides true true excluded matches h rest = rest h
  hides true false excluded matches h rest = refl
  hides false user excluded matches h rest = rest h

  passed-hidden : (o : List Entry) → passes_over login (wanted_of template) (mark_of o) ≡ true → finds login template o ≡ false
  passed-hidden o h = hides (flag o attr.Private) (is_user_in login) (excludes (wanted_of template) (mark_of o))
      (template_matches template o) h (template_matches-excluded o template)

  -- nothing is found of an object that is passed over
  none-passed : (id : ℕ) (found : List Match) (o : Option (List Entry)) (mark : ObjectMark)
      → passes_over login (wanted_of template) mark ≡ true → IsMarkOf o (Some mark) → found ≡ found ++ found_of login template id o
  none-passed id found None mark passes is = sym (append-nil found)
  none-passed id found (Some o) mark passes is =
      let hidden : finds login template o ≡ false = passed-hidden o (ap (passes_over login (wanted_of template)) (sym is) ∙ passes) in
      sym (ap (λ b. found ++ cond b (token_match login template id o ∷ []) []) hidden ∙ append-nil found)

  pub found-passed : (object_of : ℕ → Option (List Entry)) (e : ObjectEntry) (found : List Match) (mark : ObjectMark) → e.removed ≡ false
      → passes_over login (wanted_of template) mark ≡ true → IsMarkOf (object_of e.id) (Some mark)
      → found ≡ found ++ found_in login template object_of e
  found-passed object_of e found mark there passes is =
      none-passed e.id found (object_of e.id) mark passes is
      ∙ ap (λ r. found ++ cond r [] (found_of login template e.id (object_of e.id))) (sym there)

  -- ---- from one object of the list to the next

  found-next : (object_of : ℕ → Option (List Entry)) (xs : List ObjectEntry) (at : ℕ) (d e : ObjectEntry) → at < length xs
      → found_at login template object_of (listed_ids (drop at xs)) ≡ found_in login template object_of (get_or xs at d)
      ++ found_at login template object_of (listed_ids (drop (suc at) (set xs at e)))
  found-next object_of [] at d e lt = absurd (omega (arith, lt))
  found-next object_of (x ∷ xs) zero d e lt = step x.removed where
    step : (r : Bool) → found_at login template object_of (cond r (listed_ids xs) (x.id ∷ listed_ids xs))
        ≡ cond r [] (found_of login template x.id (object_of x.id)) ++ found_at login template object_of (listed_ids xs)
    step true = refl
    step false = refl
  found-next object_of (x ∷ xs) (suc at) d e lt = found-next object_of xs at d e (omega (arith, lt))

  pub walked : (object_of : ℕ → Option (List Entry)) (xs : List ObjectEntry) (at : ℕ) (d e : ObjectEntry) (was now all : List Match) → at < length xs
      → was ++ found_at login template object_of (listed_ids (drop at xs)) ≡ all
      → now ≡ was ++ found_in login template object_of (get_or xs at d)
      → now ++ found_at login template object_of (listed_ids (drop (at + 1) (set xs at e))) ≡ all
  walked object_of xs at d e was now all lt before is =
      let rest = found_at login template object_of (listed_ids (drop (suc at) (set xs at e))) in
      let here = found_in login template object_of (get_or xs at d) in
      ap (λ n. now ++ found_at login template object_of (listed_ids (drop n (set xs at e)))) (add-one at)
      ∙ ap (λ ms. ms ++ rest) is ∙ append_assoc was here rest ∙ ap (λ ms. was ++ ms) (sym (found-next object_of xs at d e lt)) ∙ before

pub ids-noted : (xs : List ObjectEntry) (at : ℕ) (d e : ObjectEntry) → at < length xs → e.id ≡ (get_or xs at d).id
    → e.removed ≡ (get_or xs at d).removed → listed_ids (set xs at e) ≡ listed_ids xs
ids-noted [] at d e lt same gone = absurd (omega (arith, lt))
ids-noted (x ∷ xs) zero d e lt same gone = ap (λ r. cond r (listed_ids xs) (e.id ∷ listed_ids xs)) gone
    ∙ ap (λ id. cond x.removed (listed_ids xs) (id ∷ listed_ids xs)) same
ids-noted (x ∷ xs) (suc at) d e lt same gone =
    ap (λ ids. cond x.removed ids (x.id ∷ ids)) (ids-noted xs at d e (omega (arith, lt)) same gone)

pub all-noted : (xs : List ObjectEntry) (at : ℕ) (d e : ObjectEntry) → at < length xs → e.id ≡ (get_or xs at d).id
    → all_ids (set xs at e) ≡ all_ids xs
all-noted [] at d e lt same = absurd (omega (arith, lt))
all-noted (x ∷ xs) zero d e lt same = ap (λ id. id ∷ all_ids xs) same
all-noted (x ∷ xs) (suc at) d e lt same = ap (λ ids. x.id ∷ ids) (all-noted xs at d e (omega (arith, lt)) same)

pub marks-noted : (c : Contents) (xs : List ObjectEntry) (at : ℕ) (d e : ObjectEntry) → e.id ≡ (get_or xs at d).id → AreMarks c xs
    → IsMarkOf (object_at c (get_or xs at d).id) e.mark → AreMarks c (set xs at e)
marks-noted c xs at d e same marks is =
    All-set (λ x. IsMarkOf (object_at c x.id) x.mark) xs at e (subst (λ id. IsMarkOf (object_at c id) e.mark) (sym same) is) marks

pub each-id : (P : ℕ → Type 0) (xs : List ObjectEntry) (at : ℕ) (d : ObjectEntry) → at < length xs → (get_or xs at d).removed ≡ false
    → AllByRecursion P (listed_ids xs) → P (get_or xs at d).id
each-id P [] at d lt there all = absurd (omega (arith, lt))
each-id P (x ∷ xs) zero d lt there all = let one : AllByRecursion P (x.id ∷ listed_ids xs) = rw there at all in one.0
each-id P (x ∷ xs) (suc at) d lt there all = each-id P xs at d (omega (arith, lt)) there (rest x.removed all) where
  rest : (r : Bool) → AllByRecursion P (cond r (listed_ids xs) (x.id ∷ listed_ids xs)) → AllByRecursion P (listed_ids xs)
  rest true all = all
  rest false all = all.1
