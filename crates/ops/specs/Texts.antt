-- What the definitions of the work with keys cite of texts in parts and of message authentication codes.
pub use Rattle.streams.specs.declared.mechanism.Mechanism.{Mechanism}
pub use Rattle.streams.specs.declared.part.Part.{Part}
pub use Rattle.streams.specs.declared.part.Part.TheVariants.{Update, Last}
pub use Rattle.streams.specs.Lengths.{length_so_far, whole_length, refuses_length, ends_counters}
pub use Rattle.streams.specs.Outputs.{first_text, update_output, last_output}
pub use Rattle.streams.specs.Streamed.{Direction, after_piece}
pub use Rattle.macs.specs.Authentication.{longer}
pub use Rattle.macs.specs.Tags.{tag_of}
