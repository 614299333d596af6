use Rattle.std.proofs.Common.{refl}
use Rattle.event.specs.Words.{codes, word_text}
use Rattle.event.proofs.Event.word.Goals as goal

pub returns-in-None : goal.returns-in-None
unfolding word_text codes
returns-in-None c = rw c.in-None.is refl

pub returns-in-Moved : goal.returns-in-Moved
unfolding word_text codes
returns-in-Moved c = rw c.in-Moved.is refl

pub returns-in-Cmd : goal.returns-in-Cmd
unfolding word_text codes
returns-in-Cmd c = rw c.in-Cmd.is refl

pub returns-in-Data : goal.returns-in-Data
unfolding word_text codes
returns-in-Data c = rw c.in-Data.is refl

pub returns-in-Stat : goal.returns-in-Stat
unfolding word_text codes
returns-in-Stat c = rw c.in-Stat.is refl

pub returns-in-Took : goal.returns-in-Took
unfolding word_text codes
returns-in-Took c = rw c.in-Took.is refl

pub returns-in-Heard : goal.returns-in-Heard
unfolding word_text codes
returns-in-Heard c = rw c.in-Heard.is refl

pub returns-in-Clear : goal.returns-in-Clear
unfolding word_text codes
returns-in-Clear c = rw c.in-Clear.is refl

pub returns-in-Trigger : goal.returns-in-Trigger
unfolding word_text codes
returns-in-Trigger c = rw c.in-Trigger.is refl

pub returns-in-Ended : goal.returns-in-Ended
unfolding word_text codes
returns-in-Ended c = rw c.in-Ended.is refl

pub returns-in-Passed : goal.returns-in-Passed
unfolding word_text codes
returns-in-Passed c = rw c.in-Passed.is refl

pub returns-in-Noacc : goal.returns-in-Noacc
unfolding word_text codes
returns-in-Noacc c = rw c.in-Noacc.is refl

pub returns-in-Read : goal.returns-in-Read
unfolding word_text codes
returns-in-Read c = rw c.in-Read.is refl

pub returns-in-Lines : goal.returns-in-Lines
unfolding word_text codes
returns-in-Lines c = rw c.in-Lines.is refl
