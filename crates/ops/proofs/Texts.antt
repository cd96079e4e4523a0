-- What proofs of the work with keys cite of texts in parts.
pub use Rattle.streams.proofs.FirstTexts.{first_text-only, first_text-none}
