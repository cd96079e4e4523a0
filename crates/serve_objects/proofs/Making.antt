-- What is answered where a template makes an object.
use Rattle.std.proofs.Common.{◌≡◌, ℕ, false, not, List, [], Some, None, refl}
use Rattle.std.specs.Prelude.{◌&&◌}
use Rattle.ck_types.specs.declared.entry.Entry.{Entry}
use Rattle.ck_types.specs.declared.attr_type.AttrType.TheVariants as attr
use Rattle.ck_types.specs.declared.session_state.SessionState.{SessionState}
use Rattle.attrs.specs.Objects.{flag}
use Rattle.guard.specs.Access.{is_rw}
use Rattle.templates.specs.declared.making.Making.TheVariants.{Create, Copy, Set}
use Rattle.templates.specs.Faults.{template_fault}
use Rattle.templates.specs.Made.{object_made, given_value}
use Rattle.sessions.specs.declared.Session.{Session}
use Rattle.sessions.specs.Sessions.{state_of}
use Rattle.ops.specs.Operations.{Operations}
use Rattle.model_views.specs.Views.{View}
use Rattle.model_views.specs.Answering.{session_of, object_at, index_of}
use Rattle.model_answers.specs.CreateObject.{create_object}
use Rattle.model_answers.specs.CopyObject.{copy_object}
use Rattle.model_answers.specs.SetAttributeValue.{puts_object, set_attribute_value}
use Rattle.model_answers.specs.CreateObject.{adds_where}

-- ---- the answers

module _ (v : View) (session : ℕ) (template : List Entry) (s : Session Operations) (there : session_of v session ≡ Some s) where
  abbrev pub state : SessionState
  state = state_of v.sessions.login s.read_write

  module _ (random : List ℕ) where
    pub create-is : (o : List Entry) → template_fault Create state [] template ≡ None
        → object_made Create [] template random (given_value template) ≡ o
        → create_object v session template random ≡ adds_where v session state o
    create-is o fault is = rw (there, fault, is) refl

  module _ (handle : ℕ) (o : List Entry) (found : object_at v handle ≡ Some o) where
    module _ (random : List ℕ) (free : not (flag o attr.Copyable) ≡ false) where
      pub copy-is : (made : List Entry) → template_fault Copy state o template ≡ None → object_made Copy o template random [] ≡ made
          → copy_object v session handle template random ≡ adds_where v session state made
      copy-is made fault is = rw (there, found, free, fault, is) refl

    module _ (writable : (flag o attr.Token && not (is_rw state)) ≡ false) (modifiable : not (flag o attr.Modifiable) ≡ false) where
      pub set-is : (made : List Entry) → template_fault Set state o template ≡ None → object_made Set o template [] [] ≡ made
          → set_attribute_value v session handle template ≡ puts_object v handle made (index_of v.tokens handle)
      set-is made fault is = rw (there, found, writable, modifiable, fault, is) refl
