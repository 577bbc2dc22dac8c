use Rattle.desk_text.proofs.Printing.{put_then}
use Rattle.desk_text.proofs.print.put_plan.Goals as goal

pub returns : goal.returns
returns c = put_then (rw (c.as_str.ensures.value, c.number_line-line.ensures) at c.put-next.ensures) c.put_steps.ensures
