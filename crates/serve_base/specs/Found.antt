-- What is found under a handle.
use Rattle.std.specs.Prelude.{◌≡◌, ℕ, true, List, Option, Some, None}
use Rattle.ck_types.specs.declared.entry.Entry.{Entry}
use Rattle.handles.specs.Handles.{object_of}
use Rattle.keep.specs.Contents.{Contents, object_at as kept_at}
use Rattle.desk.specs.Desks.{DeskState}
use Rattle.serve_base.specs.declared.finding.Found.{Found}
use Rattle.model_views.specs.Views.{sees}
use Rattle.model_views.specs.Answering.{object_at, index_of}
use Rattle.serve_base.specs.Shown.{view_of}

-- it is a token object of an id, or a session object
abbrev pub IsObjectAt : Contents → DeskState → ℕ → List Entry → Option ℕ → Type 0
IsObjectAt c d handle o (Some id) = (object_of d.handles.entries handle ≡ Some id) × (kept_at c id ≡ Some o) × (sees d.sessions.login o ≡ true)
IsObjectAt c d handle o None = index_of (view_of c d).tokens handle ≡ None

-- the object that the application sees under the handle
abbrev pub IsFound : Contents → DeskState → ℕ → Option Found → Type 0
IsFound c d handle None = object_at (view_of c d) handle ≡ None
IsFound c d handle (Some found) = (object_at (view_of c d) handle ≡ Some found.object) × IsObjectAt c d handle found.object found.id

-- the session object, if there is one
abbrev pub IsOwn : Option (List Entry) → Option Found → Type 0
IsOwn own None = own ≡ None
IsOwn own (Some found) = (own ≡ Some found.object) × (found.id ≡ None)
