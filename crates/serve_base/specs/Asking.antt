-- Jobs that are returned where the output buffer is long enough for their results.
use Rattle.std.specs.Prelude.{ℕ, nat_lt, Option, is_none, if◌then◌else◌}
use Rattle.std.specs.Option.{unwrap_or}
use Rattle.ck_calls.specs.declared.function.Function.{Function}
use Rattle.ck_calls.specs.declared.reply.Output.TheVariants as output
use Rattle.ck_calls.specs.declared.reply.Reply.TheVariants.{Output, BufferTooSmall}
use Rattle.model_views.specs.Views.{View, Task}
use Rattle.model_views.specs.Answering.{Answer, replies, asks}

-- a job for the task where the output buffer has the length that is needed; else that length
abbrev pub asks_within : Function → ℕ → Task → ℕ → Option ℕ → View → Answer
asks_within f session task wanted buffer_len v =
    if is_none buffer_len then replies v (Output (output.Length wanted))
    else if nat_lt (unwrap_or buffer_len 0) wanted then replies v (BufferTooSmall wanted) else asks v f session task
