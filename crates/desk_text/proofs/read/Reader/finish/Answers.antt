use Rattle.std.proofs.Common.{rules}
use Rattle.desk_text.proofs.Reading.{finish_none, finish_asked}
use Rattle.desk_text.proofs.read.Reader.finish.Goals as goal

pub returns-then-ne : goal.returns-then-ne
returns-then-ne c = finish_none _ c.at_end-reader.result _ c.at_end-reader.ensures (search rules)

pub returns : goal.returns
returns c =
    finish_asked _ c.at_end-reader.result _ c.at_end-reader.ensures _ _ _ _ _ (search rules) c.from-starts.ensures c.from-goals.ensures
    c.first_line.ensures c.key_bytes.ensures c.key_bytes-2.ensures
