-- `put_message` meets its contract: its own line is put, and the lines of its records after it.
use Rattle.lines.proofs.Puts.{put_more}
use Rattle.diameter.specs.Answers.{message_as}
use Rattle.lines.proofs.put_message.Goals as goal

pub returns : goal.returns
unfolding message_as
returns c = put_more c.put_line-at.ensures c.put_records.ensures
