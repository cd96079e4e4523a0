-- What a mark decides is what a search decides by its object.
use Rattle.std.proofs.Common.{◌≡◌, ℕ, Bool, true, false, cond, not, List, [], ◌∷◌, ◌++◌, Option, Some, None, is_some, refl, sym, ◌∙◌, ap}
use Rattle.std.specs.Prelude.{◌&&◌, ◌||◌}
use Rattle.ck_types.specs.declared.attr_type.AttrType.TheVariants as attr
use Rattle.ck_types.specs.declared.entry.Entry.{Entry}
use Rattle.ck_types.specs.declared.user_type.UserType.{UserType}
use Rattle.attrs.specs.Objects.{flag}
use Rattle.find.specs.Codes.{are_decided, codes_match}
use Rattle.find.specs.CodeLaws.{codes_match-decided}
use Rattle.find.specs.Marks.{ObjectMark, excludes, mark_of, wanted_of}
use Rattle.find.specs.Matching.{template_matches}
use Rattle.guard.specs.Access.{is_user_in}
use Rattle.serve_base.specs.declared.listed.ObjectEntry.{ObjectEntry}
use Rattle.serve_base.specs.declared.searching.Match.{Match}
use Rattle.serve_base.specs.Listing.{IsMarkOf}
use Rattle.serve_base.specs.Searching.{finds, found_in, found_of, marked_match, passes_over, token_match}

module _ (login : Option UserType) (template : List Entry) where
  shows : (private user excluded matches : Bool) → ((private && not user) || excluded) ≡ false → ((not private || user) && matches) ≡ matches
  shows true true excluded matches h = refl
  shows true false excluded matches h = absurd cc
  shows false user excluded matches h = refl

  finds-decided : (o : List Entry) → passes_over login (wanted_of template) (mark_of o) ≡ false → are_decided template ≡ true
      → codes_match (mark_of o).codes template ≡ finds login template o
  finds-decided o shown decided = codes_match-decided o template decided
      ∙ sym (shows (flag o attr.Private) (is_user_in login) (excludes (wanted_of template) (mark_of o)) (template_matches template o) shown)

  of-mark : (id : ℕ) (o : Option (List Entry)) (mark : ObjectMark) → passes_over login (wanted_of template) mark ≡ false
      → are_decided template ≡ true → is_some o ≡ true → IsMarkOf o (Some mark) → marked_match template id mark ≡ found_of login template id o
  of-mark id None mark shown decided there is = absurd cc
  of-mark id (Some o) mark shown decided there is =
      ap (marked_match template id) is
      ∙ ap (λ b. cond b (token_match login template id o ∷ []) [])
      (finds-decided o (ap (passes_over login (wanted_of template)) (sym is) ∙ shown) decided)

  pub found-decided : (object_of : ℕ → Option (List Entry)) (e : ObjectEntry) (found : List Match) (mark : ObjectMark) → e.removed ≡ false
      → passes_over login (wanted_of template) mark ≡ false → are_decided template ≡ true → is_some (object_of e.id) ≡ true
      → IsMarkOf (object_of e.id) (Some mark)
      → found ++ marked_match template e.id mark ≡ found ++ found_in login template object_of e
  found-decided object_of e found mark listed shown decided there is =
      ap (λ ms. found ++ ms) (of-mark e.id (object_of e.id) mark shown decided there is)
      ∙ ap (λ r. found ++ cond r [] (found_of login template e.id (object_of e.id))) (sym listed)

-- a private object that isn't passed over is the user's
pub shown-private : (login : Option UserType) (template : List Entry) (mark : ObjectMark)
    → passes_over login (wanted_of template) mark ≡ false → mark.private ≡ true → is_user_in login ≡ true
shown-private login template mark shown private = step mark.private (is_user_in login) (excludes (wanted_of template) mark) shown private where
  step : (private user excluded : Bool) → ((private && not user) || excluded) ≡ false → private ≡ true → user ≡ true
  step true true excluded h is = refl
  step true false excluded h is = absurd cc
  step false user excluded h is = absurd cc
