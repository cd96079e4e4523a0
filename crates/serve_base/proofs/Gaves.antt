-- What an event at a desk does to the store.
use Rattle.std.proofs.Common.{◌≡◌, Option, inl, inr, refl, sym, subst, ap}
use Rattle.ck_types.specs.declared.user_type.UserType.{UserType}
use Rattle.keep.specs.Contents.{Contents}
use Rattle.keep.specs.Keeping.{Terms}
use Rattle.desk.specs.Desks.{DeskState}
use Rattle.model_views.specs.Views.{sees}
use Rattle.model_views.specs.Changes.{Stays, in_list}
use Rattle.ck_calls.specs.declared.reply.Reply.{Reply}
use Rattle.model_views.specs.Answering.{Said, Replies, Answer, replies}
use Rattle.serve_base.specs.Shown.{objects_of, view_of, Fits, GivesAnswer}
use Rattle.serve_base.specs.Stores.{StoreState, StoreHas, LeavesAlone, LeavesAsBefore, GaveAnswer}

module _ {K : Type 0} (terms : Terms K) (a : Answer) (login : Option UserType) (c : Contents) (old new : StoreState K) (said : Said)
    (desk : DeskState) where
  -- an answer that changes nothing
  pub gave-quiet : StoreHas terms new c → LeavesAsBefore terms old new → a.change ≡ Stays → GivesAnswer a login c said c desk
      → GaveAnswer terms a login c old new said desk
  gave-quiet h leaves stays gives =
      record { contents = c; has = h; gives = gives; leaves = λ d may. inl (leaves d may, ap (in_list (sees login) (objects_of c)) stays) }

  -- and one that changes
  pub gave-change : (c' : Contents) → StoreHas terms new c' → LeavesAlone terms new c' → GivesAnswer a login c said c' desk
      → GaveAnswer terms a login c old new said desk
  gave-change c' h leaves gives = record { contents = c'; has = h; gives = gives; leaves = λ d may. inr (leaves d may) }

-- the same answer, written otherwise
pub gave-is : {K : Type 0} (terms : Terms K) (a b : Answer) (login : Option UserType) (c : Contents) (old new : StoreState K)
    (said : Said) (desk : DeskState) → a ≡ b → GaveAnswer terms b login c old new said desk → GaveAnswer terms a login c old new said desk
gave-is terms a b login c old new said desk is gave = subst (λ x. GaveAnswer terms x login c old new said desk) (sym is) gave

-- a reply that changes nothing
pub gave-reply : {K : Type 0} (terms : Terms K) (a : Answer) (c : Contents) (old new : StoreState K) (desk : DeskState)
    (reply : Reply) → StoreHas terms new c → LeavesAsBefore terms old new → Fits c desk.handles.entries
    → a ≡ replies (view_of c desk) reply → GaveAnswer terms a desk.sessions.login c old new (Replies reply) desk
gave-reply terms a c old new desk reply h leaves fits is =
    gave-is terms a (replies (view_of c desk) reply) desk.sessions.login c old new (Replies reply) desk is
    (gave-quiet terms _ _ c old new _ desk h leaves refl (record { says = refl; view = refl; changes = refl; fits = fits }))
