-- The texts of headers are octets, and read back as their members.
use Rattle.std.proofs.Common.{◌≡◌, ◌≤◌, ℕ, nat_le, Bool, true, false, cond, if◌then◌else◌, List, length, Option, Some, None, Ok, refl, subst, arith}
use Rattle.std.proofs.lemmas.Bool.{leb-true, le-leb}
use Rattle.std.specs.Option.{ok_or}
use Rattle.serde_json.specs.Data.{Data, Members, no_members, member, object, depth}
use Rattle.serde_json.specs.Find.{get, as_object}
use Rattle.serde_json.specs.Written.{compact_text}
use Rattle.octets.specs.declared.refusal.Refusal.TheVariants.{Form}
use Rattle.octets.specs.Octets.{IsOctets}
use Rattle.octets.proofs.Lemmas.{IsOctets-nil, same_answer}
use Rattle.keys.specs.Json.{json_value}
use Rattle.keys.specs.JsonTexts.{IsJson, AreJsonMembers}
use Rattle.keys.specs.Limits.{Limits}
use Rattle.keys.proofs.Lemmas.{octets_of_utf8, text_is_utf8, reads_back, keep_json}
use Rattle.objects.specs.Headers.{header_at, members_if_there, protected_members, members_of_json}
use Rattle.objects.specs.Texts.{header_depth, listed_header_depth, depth_of_each}
use Rattle.tokens.specs.Template.{header_text, is_shallow}

-- ---- the headers of a value

-- A header in a JSON value is JSON.
pub members_json : (d : Data) (name : List ℕ) (m : Members) → IsJson d → header_at name d ≡ Ok m → AreJsonMembers m
unfolding header_at
members_json d name m json h = by_found (get name d) refl h
  where
    by_members : (v : Data) (o : Option Members) → IsJson v → as_object v ≡ o → ok_or o Form ≡ Ok m → AreJsonMembers m
    by_members v None j e is = cc is
    by_members v (Some ms) j e is = subst AreJsonMembers (same_answer ms m is) (keep_json.members_of v ms j e).0

    by_found : (o : Option Data) → get name d ≡ o → members_if_there o ≡ Ok m → AreJsonMembers m
    by_found None e is = subst AreJsonMembers (same_answer no_members m is) tt
    by_found (Some v) e is = by_members v (as_object v) (keep_json.found name d v json e).0 refl is

-- ---- the text of a header

-- The text of the header is octets and reads back.
pub record ReadsBack (m : Members) : Type 0 where
  pub members : protected_members (header_text m) ≡ Ok m
  pub octets : IsOctets (header_text m)

-- If the limits allow no more depth than a text may have, a header within the limits may be in a text.
pub stands : (limits : Limits) (m : Members) → limits.depth ≤ listed_header_depth → is_shallow limits m ≡ true → depth (object m) ≤ listed_header_depth
stands limits m most h = let few : depth (object m) ≤ limits.depth = leb-true (depth (object m)) limits.depth h in omega (arith, most, few)

-- The text of a header reads back, if the header is JSON and not nested too deeply for a text.
pub read_back : (m : Members) → AreJsonMembers m → depth (object m) ≤ listed_header_depth → ReadsBack m
unfolding protected_members members_of_json
read_back no_members json shallow = record { members = refl; octets = IsOctets-nil }
read_back (member k value rest) json shallow =
    let d = object (member k value rest) in
    let back : json_value (compact_text d) ≡ Ok d = reads_back d json (omega (arith, shallow)) in
    record {
      members = by_length (nat_le (length (compact_text d)) 0) refl back;
      octets = octets_of_utf8 (compact_text d) (text_is_utf8 d json);
    }
  where
    by_length : (b : Bool) → nat_le (length (compact_text (object (member k value rest)))) 0 ≡ b
        → json_value (compact_text (object (member k value rest))) ≡ Ok (object (member k value rest))
        → cond b (Ok no_members) (members_of_json (compact_text (object (member k value rest)))) ≡ Ok (member k value rest)
    by_length false e back = rw back refl
    by_length true e back = absurd (omega (arith, leb-true _ 0 e))

-- A header that may be in a text may be there for any number of recipients or signatures.
pub shallow_enough : (d n : ℕ) → d ≤ listed_header_depth → nat_le d (depth_of_each n) ≡ true
shallow_enough d n h = by_few (nat_le n 1)
  where
    by_few : (few : Bool) → nat_le d (if few then header_depth else listed_header_depth) ≡ true
    by_few true = le-leb d header_depth (omega (arith, h))
    by_few false = le-leb d listed_header_depth h
