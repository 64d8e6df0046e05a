-- The text of a refusal, and the refusal of a fault.
use Rattle.std.specs.Prelude.{ℕ, List, codes}
use Rattle.octets.specs.declared.refusal.Refusal.{Refusal}
use Rattle.octets.specs.declared.refusal.Refusal.TheVariants.{Usage, Read, Write, Memory, Random, Base64, Json, Number, Key, Form, Header, Unsupported, NoAlgorithm, KeyDoesNotFit, Limit, NotCompact, NotOpened}
use Rattle.octets.specs.declared.refusal.Fault.{Fault}
use Rattle.octets.specs.declared.refusal.Fault.TheVariants.{Reading, Writing}

-- the number, a space and the name
abbrev pub refusal_text : Refusal → List ℕ
refusal_text Usage = codes "1 Usage"
refusal_text Read = codes "2 Read"
refusal_text Write = codes "3 Write"
refusal_text Memory = codes "4 Memory"
refusal_text Random = codes "5 Random"
refusal_text Base64 = codes "6 Base64"
refusal_text Json = codes "7 Json"
refusal_text Number = codes "8 Number"
refusal_text Key = codes "9 Key"
refusal_text Form = codes "10 Form"
refusal_text Header = codes "11 Header"
refusal_text Unsupported = codes "12 Unsupported"
refusal_text NoAlgorithm = codes "13 NoAlgorithm"
refusal_text KeyDoesNotFit = codes "14 KeyDoesNotFit"
refusal_text Limit = codes "15 Limit"
refusal_text NotCompact = codes "16 NotCompact"
refusal_text NotOpened = codes "17 NotOpened"

-- the refusal of a device's fault
abbrev pub refusal_of : Fault → Refusal
refusal_of Reading = Read
refusal_of Writing = Write
