use Rattle.jose.specs.Invocations.{settings_view}
use Rattle.jose.proofs.Made.{made}
use Rattle.jose.proofs.commands.jwk.generate.Goals as goal

pub returns : goal.returns
returns g c =
    let key = rw c.deref.ensures.value at c.write_key.ensures in
    rw c.requires.command (made (settings_view c.args.invocation.now.options.items) c.write_key.result c.in_ok-template.ensures
    (record {
      answer = key.answer;
      drawn = key.drawn;
      at_most = key.at_most;
      beginning = key.beginning;
      held_back = key.held_back;
      finished = key.finished;
      unfinished = key.unfinished;
      content_last = key.content_last;
      faults = key.faults;
    }))
