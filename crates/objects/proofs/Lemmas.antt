-- The lemmas of these proofs that the crates above cite.
pub use Rattle.objects.specs.Values.{Entries}
pub use Rattle.objects.proofs.Names.{not_there, get_member-all_members}
pub use Rattle.objects.proofs.Each.{with_done, as_many, reading}
pub use Rattle.objects.proofs.EachRead.{all_passed, all_then, all_both, all_images, each_keeps}
pub use Rattle.objects.proofs.Members.{put_if_there, first_there, IsJsonIfThere, AreJsonEntries}
pub use Rattle.objects.proofs.Spelling.{name_is_json}
pub use Rattle.objects.proofs.SpellingJwe.{jwe_is_built}
pub use Rattle.objects.proofs.JweWritten.{jwe_refused}
pub use Rattle.objects.proofs.JweFrames.{is_jwe_frame}
pub use Rattle.objects.proofs.SpellingJws.{signature_spelled, parts_spelled, spelled, jws_is_built, object_keeps}
pub use Rattle.objects.proofs.JwsWritten.{jws_refused}
pub use Rattle.objects.proofs.JwsFrames.{is_jws_frame}
