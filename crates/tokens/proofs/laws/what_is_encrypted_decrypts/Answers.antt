use Rattle.keys.specs.Limits.{limits}
use Rattle.tokens.proofs.Encrypting.RoundTrip.{encrypted_decrypts}
use Rattle.tokens.proofs.Encrypting.SoundLimits.{these_are_sound}
use Rattle.tokens.proofs.laws.what_is_encrypted_decrypts.Goals as goal

pub returns-clause-all : goal.returns-clause-all
returns-clause-all c =
    encrypted_decrypts (record {
      octets = record { opened = c.what_is_opened_is_octets.ensures; delivering = c.what_delivers_is_octets.ensures };
      opens = c.opens_exactly.ensures;
      delivers = c.delivers_exactly.ensures;
      spells = c.jwe_texts_spell_objects.ensures;
    })

pub returns-clause-here : goal.returns-clause-here
returns-clause-here c = returns-clause-all c limits these_are_sound
