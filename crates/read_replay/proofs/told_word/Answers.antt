-- `read_replay::told_word` meets its contract: by the test on the file's end: a word that is there is read (`word_there`), one behind it is 0 (`word_behind`).
use Rattle.read_replay.proofs.Records.{word_there, word_behind}
use Rattle.read_replay.proofs.told_word.Goals as goal

pub returns-then-k-words : goal.returns-then-k-words
returns-then-k-words c = word_there _ _ _ c.if-k-words.true c.u32_le.ensures

pub returns-else-k-words : goal.returns-else-k-words
returns-else-k-words c = word_behind _ _ c.if-k-words.false
