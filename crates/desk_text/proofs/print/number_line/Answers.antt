use Rattle.std.proofs.Common.{arith, rules, refl, ap, length}
use Rattle.desk_text.proofs.Printing.{line_more, line_end}
use Rattle.desk_text.proofs.print.number_line.Goals as goal

pub loop-i-preserved : goal.loop-i-preserved
loop-i-preserved c = record {
  so_far =
      rw (c.push_str-in-loop-i.ensures.bytes, c.push_str.ensures.bytes, c.parting.ensures)
      (line_more _ _ _ _ _ _ c.loop-i-test.true refl (search rules) c.format.ensures.text refl c.loop-i.invariant.so_far);
  room = omega (arith, c.push_str-in-loop-i.ensures.len, c.push_str.ensures.len, c.format.ensures.fits, ap length c.parting.ensures, c.loop-i.invariant.room);
}

pub returns : goal.returns
returns c = line_end _ _ _ c.loop-i-test.false c.loop-i.invariant.so_far
