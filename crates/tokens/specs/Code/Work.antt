-- The work of decrypting, as a call counts it for a report.
use Rattle.std.specs.Prelude.{ℕ, ◌+◌, ◌*◌, ◌≤◌, List, [], ◌∷◌, is_some, if◌then◌else◌, Result, Ok, Err}
use Rattle.octets.specs.declared.refusal.Refusal.{Refusal}
use Rattle.octets.specs.declared.refusal.Refusal.TheVariants.{Memory}
use Rattle.ciphers.specs.declared.key_alg.KeyAlg.{KeyAlg}
use Rattle.ciphers.specs.declared.key_alg.KeyManagementMode.{KeyManagementMode}
use Rattle.ciphers.specs.declared.key_alg.KeyManagementMode.TheVariants as mode
use Rattle.ciphers.specs.Algorithms.{mode_of}
use Rattle.keys.specs.Limits.{limits}
use Rattle.objects.specs.Jwe.{EncryptedObject}
use Rattle.tokens.specs.Decrypting.{Pair, iterations_of, SealedContent, sealed_content, cek_of, opened_by}

-- iterations of PBKDF2, encrypted keys that were unwrapped, and contents that were opened or tried
pub record WorkCounts : Type 0 where
  pub iterations : ℕ
  pub unwraps : ℕ
  pub openings : ℕ

abbrev pub no_work : WorkCounts
no_work = record { iterations = 0; unwraps = 0; openings = 0 }

-- both together
abbrev pub plus : WorkCounts → WorkCounts → WorkCounts
plus v w = record { iterations = v.iterations + w.iterations; unwraps = v.unwraps + w.unwraps; openings = v.openings + w.openings }

-- how many encrypted keys are unwrapped: none if the key is used directly
abbrev pub unwraps_in : KeyManagementMode → ℕ
unwraps_in mode.Direct = 0
unwraps_in mode.KeyWrap = 1
unwraps_in mode.Password = 1
unwraps_in mode.GcmKeyWrap = 1

abbrev pub unwraps_of : KeyAlg → ℕ
unwraps_of alg = unwraps_in (mode_of alg)

-- with one pair more, which opens or tries the content if it delivers a content encryption key
abbrev pub with_pair : WorkCounts → Pair → WorkCounts
with_pair w pair = record {
  iterations = w.iterations + iterations_of pair;
  unwraps = w.unwraps + unwraps_of pair.algorithms.management;
  openings = w.openings + (if is_some (cek_of pair) then 1 else 0);
}

-- with the pairs up to and including the first that opens
abbrev pub with_pairs : SealedContent → WorkCounts → List Pair → WorkCounts
with_pairs s w [] = w
with_pairs s w (pair ∷ pairs) = if is_some (opened_by s pair) then with_pair w pair else with_pairs s (with_pair w pair) pairs

-- The work that is reported with a result: that of all pairs that were tried, or none if the pairs are refused or memory ran out.
abbrev pub work_told : {X : Type 0} → EncryptedObject → Result (List Pair) Refusal → Result X Refusal → WorkCounts
work_told o (Err r) result = no_work
work_told o (Ok pairs) (Err Memory) = no_work
work_told o (Ok pairs) result = with_pairs (sealed_content o) no_work pairs

-- the work is within the limits of an object and a set
pub record IsBounded (w : WorkCounts) : Type 0 where
  pub iterations : w.iterations ≤ limits.p2c_sum
  pub unwraps : w.unwraps ≤ limits.keys * limits.recipients
  pub openings : w.openings ≤ limits.keys * limits.recipients
