-- What calls of PINs do to a record that was read before.
use Rattle.std.specs.Prelude.{ℕ, List, Option, Some, None}
use Rattle.ck_types.specs.declared.entry.Entry.{Entry}
use Rattle.ck_types.specs.declared.rv.Rv.{Rv}
use Rattle.ck_types.specs.declared.user_type.UserType.{UserType}
use Rattle.ck_types.specs.declared.user_type.UserType.TheVariants.{So, User}
use Rattle.ck_calls.specs.declared.function.Function.{Function}
use Rattle.ck_calls.specs.declared.reply.Reply.TheVariants.{Code}
use Rattle.pin_record.specs.Records.{TokenRecord}
use Rattle.keep.specs.Contents.{Contents}
use Rattle.model_views.specs.Views.{View, Task}
use Rattle.model_views.specs.Answering.{Answer, Reveal, asks_checked}
use Rattle.model_session_answers.specs.Pins.{stores}
use Rattle.serve_base.specs.Shown.{objects_of}

-- a check of a PIN begins with its charge in this record
abbrev pub asks_charged : TokenRecord → View → Function → ℕ → Task → UserType → Answer
asks_charged r v function session task who = asks_checked (record v { token_record = r }) function session task who

-- a code, and this record
abbrev pub codes_with : Rv → TokenRecord → View → Answer
codes_with code r v = stores (Code code) r v

-- the token objects, which a right PIN reveals to the user
abbrev pub objects_for : UserType → Contents → Option (List (List Entry))
objects_for So c = None
objects_for User c = Some (objects_of c)

-- and how many other checks of the PIN are in progress, which it reveals to both
abbrev pub right_reveal : UserType → ℕ → Contents → Reveal
right_reveal who under_way c = record { objects = objects_for who c; under_way = Some under_way; others_have_sessions = None }
