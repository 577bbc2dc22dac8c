use Rattle.std.proofs.Common.{rules}
use Rattle.desk_text.proofs.Reading.{padded_more}
use Rattle.desk_text.proofs.read.key_bytes.Goals as goal

pub loop-i-preserved : goal.loop-i-preserved
loop-i-preserved c = padded_more _ _ _ _ c.loop-i.invariant (search rules) c.requires c.key_byte.ensures
