-- What shared headers say of a parameter is what each joint header says of it.
use Rattle.std.proofs.Common.{◌≡◌, ℕ, List, codes, Option, Some, None, IfSome, Ok, sym, ap, ◌∙◌}
use Rattle.std.specs.Option.{option_or}
use Rattle.serde_json.specs.Data.{Data, Members, no_members}
use Rattle.serde_json.specs.Find.{as_str, get_member}
use Rattle.objects.specs.Headers.{all_members, parameter_if_there, string_parameter, salt_octets, salt_parameter, parameter_octets, octets_parameter}
use Rattle.octets.specs.Outcomes.{if_there}
use Rattle.objects.specs.declared.header.shared.SharedParameters.{SharedParameters}
use Rattle.objects.specs.Code.SharedParameters.{AreReadIn}
use Rattle.objects.proofs.Names.{get_member-all_members}
use Rattle.octets.proofs.Lemmas.{steps}

module _ (p u h : Members) where
  -- A string that the shared headers have is that of the joint header.
  string_in_joint : (name text : List ℕ) → string_parameter name (all_members p u no_members) ≡ Ok (Some text)
      → string_parameter name (all_members p u h) ≡ Ok (Some text)
  unfolding string_parameter
  string_in_joint name text is =
      ap (parameter_if_there as_str) (get_member-all_members name p u h)
      ∙ by_parts (get_member name p) (get_member name u) (get_member name h)
      (ap (parameter_if_there as_str) (sym (get_member-all_members name p u no_members)) ∙ is)
    where
      by_parts : (a b c : Option Data) → parameter_if_there as_str (option_or a (option_or b None)) ≡ Ok (Some text)
          → parameter_if_there as_str (option_or a (option_or b c)) ≡ Ok (Some text)
      by_parts (Some x) b c there = there
      by_parts None (Some x) c there = there
      by_parts None None c there = cc there

  octets_in_joint : (name octets : List ℕ) → octets_parameter name (all_members p u no_members) ≡ Ok (Some octets)
      → octets_parameter name (all_members p u h) ≡ Ok (Some octets)
  unfolding octets_parameter
  octets_in_joint name octets is =
      let text = steps (string_parameter name (all_members p u no_members)) (if_there parameter_octets) (Some octets) is in
      by_text text.0 text.1 text.2
    where
      by_text : (text : Option (List ℕ)) → string_parameter name (all_members p u no_members) ≡ Ok text → if_there parameter_octets text ≡ Ok (Some octets)
          → octets_parameter name (all_members p u h) ≡ Ok (Some octets)
      by_text None there h = cc h
      by_text (Some text) there h = rw (string_in_joint name text there) h

  salt_in_joint : (name octets : List ℕ) → salt_parameter name (all_members p u no_members) ≡ Ok (Some octets)
      → salt_parameter name (all_members p u h) ≡ Ok (Some octets)
  unfolding salt_parameter
  salt_in_joint name octets is =
      let text = steps (string_parameter name (all_members p u no_members)) (if_there salt_octets) (Some octets) is in
      by_text text.0 text.1 text.2
    where
      by_text : (text : Option (List ℕ)) → string_parameter name (all_members p u no_members) ≡ Ok text → if_there salt_octets text ≡ Ok (Some octets)
          → salt_parameter name (all_members p u h) ≡ Ok (Some octets)
      by_text None there h = cc h
      by_text (Some text) there h = rw (string_in_joint name text there) h

  if_some : (found : Option (List ℕ)) (P Q : List ℕ → Type 0) → ((x : List ℕ) → P x → Q x) → IfSome found P → IfSome found Q
  if_some None P Q to h = tt
  if_some (Some x) P Q to h = to x h

  pub read_in_joint : (shared : SharedParameters) → AreReadIn (all_members p u no_members) shared → AreReadIn (all_members p u h) shared
  read_in_joint shared read = record {
    alg = if_some shared.alg _ _ (string_in_joint (codes "alg")) read.alg;
    enc = if_some shared.enc _ _ (string_in_joint (codes "enc")) read.enc;
    p2s = if_some shared.p2s _ _ (salt_in_joint (codes "p2s")) read.p2s;
    iv = if_some shared.iv _ _ (octets_in_joint (codes "iv")) read.iv;
    tag = if_some shared.tag _ _ (octets_in_joint (codes "tag")) read.tag;
  }
