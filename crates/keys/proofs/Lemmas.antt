-- The lemmas of these proofs that the crates above cite.
pub use Rattle.keys.proofs.TextOctets.{octets_of_utf8, string_octets}
pub use Rattle.keys.proofs.CompactTexts.{text_is_utf8}
pub use Rattle.keys.proofs.ReadingBack.{numbers_whole, reads_back}
pub use Rattle.keys.proofs.DeepTexts.{deep_texts}
pub use Rattle.keys.proofs.JsonParts.{keep_json}
pub use Rattle.keys.proofs.Floats.{no_float_in_member, no_float_members_of, no_float_put_in}
pub use Rattle.keys.proofs.WholeNumbers.{no_float_in_members}
pub use Rattle.keys.proofs.ValuesRead.{reads_json}
pub use Rattle.keys.proofs.UrlTexts.{url_texts_are_json}
