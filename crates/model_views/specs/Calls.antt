-- What the definitions of the calls cite.
pub use Rattle.ck_types.specs.declared.entry.Entry.{Entry}
pub use Rattle.ck_types.specs.declared.rv.Rv.{Rv}
pub use Rattle.ck_types.specs.declared.rv.Rv.TheVariants.{Ok}
pub use Rattle.ck_types.specs.declared.session_state.SessionState.{SessionState}
pub use Rattle.ck_types.specs.declared.user_type.UserType.{UserType}
pub use Rattle.ck_calls.specs.declared.reply.Reply.{Reply}
pub use Rattle.ck_calls.specs.declared.reply.Reply.TheVariants.{Code}
pub use Rattle.attrs.specs.Objects.{attribute, attribute_of, flag, class_of, key_type_of, number_of}
pub use Rattle.precede.specs.declared.condition.Condition.{Condition}
pub use Rattle.sessions.specs.declared.Session.{Session}
pub use Rattle.sessions.specs.Sessions.{state_of}
pub use Rattle.ops.specs.Operations.{Operation, Operations, no_operations}
pub use Rattle.model_views.specs.Views.{View, TokenObject, SessionObject, seen_by}
pub use Rattle.model_views.specs.Changes.{Stays, Insert, Replace, Remove, rewritten}
pub use Rattle.model_views.specs.Answering.{
  Answer,
  Replies,
  replies,
  refuses,
  refuses_by,
  becomes,
  asks,
  answered,
  session_of,
  with_operation,
  index_of,
  object_at,
}
pub use Rattle.model_views.specs.Checked.{
  checked,
  checked_by,
  reads,
  writes,
  state_in,
  flag_at,
  is_aes,
  is_of_type,
  made_by,
  refuses_template,
}
