-- The lemmas of these proofs that the crates above cite, and those that docs/LIBRARY.md names for callers.
pub use Rattle.octets.proofs.Meanings.{text_of_meaning, meaning_of_text, decodes_exactly}
pub use Rattle.octets.proofs.Spared.{not_told, stands_first}
pub use Rattle.octets.proofs.Unread.{encoding_fixes_nothing, decoding_fixes_nothing, unread_untouched}
pub use Rattle.octets.proofs.Groups.{base64url_whole-append, base64url_whole_part, length-base64url, base64url-nil}
pub use Rattle.octets.proofs.Characters.{has_url_characters, spells_six_bits}
pub use Rattle.octets.proofs.Decoded.{IsOctets-nil, first_or, IsOctets-append, IsOctets-take, IsOctets-drop, IsOctets-front, IsOctets-back, octets_of_meaning, decoded-nil}
pub use Rattle.octets.proofs.Growing.{encoding_grows, as_it_is_grows, kept_up_by_none}
pub use Rattle.octets.proofs.Prefixes.{AppendsPrefixOf-all, AppendsPrefixOf-none, AppendsPrefixOf-front, AppendsPrefixOf-part, AppendsPrefixOf-kept}
pub use Rattle.octets.proofs.Steps.{steps, passed, same_answer, is_there, refused_alike, not_memory, if_weaker}
pub use Rattle.octets.proofs.Agreement.{plan_from-without_random, AgreesUnlessExternal-map, plan_from-by_plan, planned_without_content, on_success, at_refusal, on_refusal, of_refusal, seen_possible, agrees_last, appended-append, whole_is, both_written}
pub use Rattle.octets.proofs.Streaming.{AppendsPrefixOf-Begins}
pub use Rattle.octets.proofs.Decoding.{cut, IsOctets-without_line_end, reading_starts, settling_grows, settling_begins, settling_keeps_up}
pub use Rattle.octets.proofs.Chunks.{chunk_is, length-chunk, chunk_octets, chunk_front, chunk_back, chunk_written, length-written, chunk_kept, chunk_more, chunks_joined, same_chunks, length-joined, chunk-joined}
pub use Rattle.octets.proofs.Sums.{chunk_at}
pub use Rattle.octets.proofs.Pumping.{begins_behind, behind_grows, behind_refused, behind_nothing, beginning_behind_nothing, keeps_up, passed_on, whole_stands}
pub use Rattle.octets.proofs.Contents.{contents_possible}
