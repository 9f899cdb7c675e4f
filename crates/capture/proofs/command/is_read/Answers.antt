use Rattle.std.proofs.Common.{◌∙◌, sym, refl}
use Rattle.capture.proofs.Replies.{only_word}
use Rattle.capture.proofs.command.is_read.Goals as goal

pub returns-in-Some-read : goal.returns-in-Some-read
returns-in-Some-read c =
    (λ yes. only_word c.args.words.now _ (sym c.len.ensures ∙ c.if-len-eq1.true) (rw c.in-Some-read.is-read at c.in-Some-read.ensures), λ e. refl)
