-- The content of an object, which may be detached: its place in a text, reading it from a text, and that it decodes to octets.
use Rattle.std.proofs.Common.{◌≡◌, ℕ, List, [], ◌∷◌, Bool, true, false, not, Option, Some, None, Ok, IsUtf8, is_some, refl, sym, ap, ◌∙◌, subst}
use Rattle.std.specs.List.{list_all}
use Rattle.std.specs.Option.{option_or}
use Rattle.serde_json.specs.Data.{Data, object}
use Rattle.octets.specs.declared.refusal.Refusal.TheVariants.{Form}
use Rattle.octets.specs.Base64url.{base64url, decoded, is_url_character}
use Rattle.octets.specs.Octets.{IsOctets}
use Rattle.octets.specs.Outcomes.{needs}
use Rattle.octets.proofs.Lemmas.{IsOctets-nil, decoded-nil, steps, passed, same_answer, decodes_exactly, octets_of_meaning, text_of_meaning}
use Rattle.keys.specs.JsonTexts.{IsJson}
use Rattle.objects.specs.Texts.{kept, text_at, has_text, content_by, content_text, handed_in, AreOctetsHandedIn}
use Rattle.objects.specs.Values.{Entries, content_there}
use Rattle.objects.proofs.Characters.{IsUrlText}
use Rattle.objects.proofs.Members.{put_all, first_there, IsJsonIfThere}
use Rattle.objects.proofs.ReadJson.{text_octets, required_octets}
use Rattle.objects.proofs.Spelling.{name_is_json, text_found, required_found, required_entry}

-- ---- as a member of a JSON text

-- The entry of the content is JSON.
pub content_entry : (detach : Bool) (n : ℕ) (name text : List ℕ) → list_all is_url_character name ≡ true → IsUtf8 text
    → IsUtf8 name × IsJsonIfThere n (content_there detach text)
content_entry false n name text is h = required_entry n name text is h
content_entry true n name text is h = (name_is_json name is, tt)

-- The text of the content is read from its member. If it is detached, it is the text of the content that is handed in.
pub content_found : (detach : Bool) (name : List ℕ) (es : Entries) (content text : List ℕ) → base64url content ≡ text
    → first_there name es ≡ option_or (content_there detach text) None → content_text (handed_in detach content) name (object (put_all es)) ≡ Ok text
content_found false name es content text same is = required_found name es text is
content_found true name es content text same is = rw (text_found name es [] is) (ap Ok same)

-- The content that is handed in is octets, if the content is.
pub handed_octets : (detach : Bool) (content : List ℕ) → IsOctets content → AreOctetsHandedIn (handed_in detach content)
handed_octets false content is = tt
handed_octets true content is = is

-- ---- as a part of a compact text

-- The base64url text of no octets is empty.
pub no_octets : base64url [] ≡ []
no_octets = sym ((decodes_exactly.meaning [] [] IsOctets-nil IsOctets-nil).0 decoded-nil)

-- The text that remains of a base64url text is a base64url text.
pub kept_characters : (detach : Bool) (text : List ℕ) → IsUrlText text → IsUrlText (kept detach text)
kept_characters false text h = h
kept_characters true text h = tt

-- The text of the content is read from its part and the content that is handed in.
pub kept_read : (detach : Bool) (content : List ℕ) → content_by (handed_in detach content) (kept detach (base64url content)) ≡ Ok (base64url content)
kept_read false content = refl
kept_read true content = refl

-- A text that has no characters is empty.
no_text : (text : List ℕ) → not (has_text text) ≡ true → text ≡ []
no_text [] h = refl
no_text (c ∷ text) h = cc h

-- The part of a compact text is what remains of the text of the content that is read.
pub part_is : (detached : Option (List ℕ)) (part text content : List ℕ) → IsOctets part → content_by detached part ≡ Ok text → decoded text ≡ Ok content
    → part ≡ kept (is_some detached) (base64url content)
part_is None part text content is h decodes = text_of_meaning part content is (ap decoded (same_answer part text h) ∙ decodes)
part_is (Some handed) part text content is h decodes =
    let a = steps (needs (not (has_text part)) Form) _ text h in
    no_text part (passed _ Form a.0 a.1)

-- ---- the octets of its text

-- if the text decodes, it decodes to octets
abbrev pub MeansOctets : List ℕ → Type 0
MeansOctets text = (octets : List ℕ) → decoded text ≡ Ok octets → IsOctets octets

-- The text of octets decodes to octets.
text_means_octets : (content : List ℕ) → IsOctets content → MeansOctets (base64url content)
text_means_octets content is octets decodes = subst IsOctets (same_answer content octets (sym (decodes_exactly.round_trip content is) ∙ decodes)) is

-- The text that is read from a part decodes to octets.
pub part_octets : (detached : Option (List ℕ)) (part text : List ℕ) → AreOctetsHandedIn detached → IsOctets part
    → content_by detached part ≡ Ok text → MeansOctets text
part_octets None part text handed is h = subst MeansOctets (same_answer part text h) (λ octets decodes. octets_of_meaning part octets is decodes)
part_octets (Some content) part text handed is h =
    let a = steps (needs (not (has_text part)) Form) _ text h in
    subst MeansOctets (same_answer (base64url content) text a.2) (text_means_octets content handed)

-- The text that is read from a member decodes to octets.
pub member_octets : (detached : Option (List ℕ)) (name : List ℕ) (d : Data) (text : List ℕ) → AreOctetsHandedIn detached → IsJson d
    → content_text detached name d ≡ Ok text → MeansOctets text
member_octets None name d text handed is h = λ octets decodes. octets_of_meaning text octets (required_octets name d text is h) decodes
member_octets (Some content) name d text handed is h =
    let a = steps (text_at name d) (content_by (Some content)) text h in
    part_octets (Some content) a.0 text handed (text_octets name d a.0 is a.1) a.2
