-- The kind of each command.
use Prim.Native.String.{String}
use Rattle.std.proofs.Common.{◌≡◌, Bool, true, false, is_some, Result, Ok, refl, ap}
use Rattle.std.specs.Option.{ok_or}
use Rattle.std.specs.Str.{byte}
use Rattle.prf.specs.declared.digests.HashAlg.{HashAlg}
use Rattle.octets.specs.declared.refusal.Refusal.{Refusal}
use Rattle.octets.specs.declared.refusal.Refusal.TheVariants.{Usage}
use Rattle.octets.specs.Outcomes.{◌>>=◌}
use Rattle.octets.specs.Plan.{by_text}
use Rattle.keys.specs.Limits.{limits}
use Rattle.jose.specs.declared.words.table.Command.{Command}
use Rattle.jose.specs.declared.words.table.Command.TheVariants.{JwkThp, JwsSig, JwsVer, JwsFmt, JweEnc, JweDec, JweFmt}
use Rattle.jose.specs.Invocations.{InvocationView, Settings, value_at, hash_asked}
use Rattle.keys.specs.Thumbprints.{thp_answer}
use Rattle.tokens.specs.Jwe.{dec_answer, jwe_fmt_answer}
use Rattle.tokens.specs.Jws.{ver_answer, jws_fmt_answer}
use Rattle.jose.specs.Ports.{on_text, on_content}
use Rattle.jose.proofs.Doing.{IsWhole}
use Rattle.jose.proofs.Streamed.{IsStreamer}

abbrev pub invoked : Command → Settings → InvocationView
invoked command options = record { command = command; options = options }

abbrev pub is_given : String → Settings → Bool
is_given letter options = is_some (value_at (byte letter) options)

pub thp_is : (options : Settings) (hash : HashAlg) → ok_or (hash_asked options) Usage ≡ Ok hash
    → IsWhole (invoked JwkThp options) false false true false (λ text keys detached. on_text (thp_answer hash text))
thp_is options hash asked = record {
  text = refl;
  keys = refl;
  content = refl;
  memory = refl;
  holds = refl;
  draft = λ text keys. ap (λ (h : Result HashAlg Refusal). by_text (h >>= λ hash. on_text (thp_answer hash text))) asked;
  text_out = refl;
  content_out = refl;
}

pub ver_is : (options : Settings) (given all wanted : Bool) → given ≡ is_given "I" options → all ≡ is_given "a" options → wanted ≡ is_given "O" options
    → IsWhole (invoked JwsVer options) true given false wanted (λ text keys detached. on_content (ver_answer limits all wanted keys detached text))
ver_is options given all wanted given_is all_is wanted_is =
    rw (given_is, all_is, wanted_is) (record {
      text = refl;
      keys = refl;
      content = refl;
      memory = refl;
      holds = refl;
      draft = λ text keys. refl;
      text_out = refl;
      content_out = refl;
    })

pub dec_is : (options : Settings) (given : Bool) → given ≡ is_given "I" options
    → IsWhole (invoked JweDec options) true given false true (λ text keys detached. on_content (dec_answer limits keys detached text))
dec_is options given given_is = rw given_is (record
    { text = refl; keys = refl; content = refl; memory = refl; holds = refl; draft = λ text keys. refl; text_out = refl; content_out = refl })

pub jws_fmt_is : (options : Settings) (given compact detach : Bool) → given ≡ is_given "I" options → compact ≡ is_given "c" options
    → detach ≡ is_given "O" options
    → IsWhole (invoked JwsFmt options) false given true detach (λ text keys detached. jws_fmt_answer limits compact detach detached text)
jws_fmt_is options given compact detach given_is compact_is detach_is =
    rw (given_is, compact_is, detach_is) (record {
      text = refl;
      keys = refl;
      content = refl;
      memory = refl;
      holds = refl;
      draft = λ text keys. refl;
      text_out = refl;
      content_out = refl;
    })

pub jwe_fmt_is : (options : Settings) (given compact detach : Bool) → given ≡ is_given "I" options → compact ≡ is_given "c" options
    → detach ≡ is_given "O" options
    → IsWhole (invoked JweFmt options) false given true detach (λ text keys detached. jwe_fmt_answer limits compact detach detached text)
jwe_fmt_is options given compact detach given_is compact_is detach_is =
    rw (given_is, compact_is, detach_is) (record {
      text = refl;
      keys = refl;
      content = refl;
      memory = refl;
      holds = refl;
      draft = λ text keys. refl;
      text_out = refl;
      content_out = refl;
    })

pub sig_is : (options : Settings) (detach : Bool) → detach ≡ is_given "O" options → IsStreamer (invoked JwsSig options) detach
sig_is options detach detach_is = rw detach_is (record {
  reader = record {
    text = refl;
    keys = refl;
    content = λ none. refl;
    template = refl;
    memory = refl;
    refuses = λ text keys refusal refused. refl;
    draws = λ given text keys. cc;
    streams = λ streams. refl;
    streamed = λ streams. refl;
  };
  streams = refl;
  content = refl;
  text_out = refl;
  content_out = refl;
})

pub enc_is : (options : Settings) (detach : Bool) → detach ≡ is_given "O" options → IsStreamer (invoked JweEnc options) detach
enc_is options detach detach_is = rw detach_is (record {
  reader = record {
    text = refl;
    keys = refl;
    content = λ none. refl;
    template = refl;
    memory = refl;
    refuses = λ text keys refusal refused. refl;
    draws = λ given text keys. cc;
    streams = λ streams. refl;
    streamed = λ streams. refl;
  };
  streams = refl;
  content = refl;
  text_out = refl;
  content_out = refl;
})
