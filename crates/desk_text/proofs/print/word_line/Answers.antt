use Rattle.std.proofs.Common.{[], ◌∷◌, arith, append_assoc}
use Rattle.desk_text.specs.Text.{decimal}
use Rattle.desk_text.proofs.Printing.{decimal_is}
use Rattle.desk_text.proofs.print.word_line.Goals as goal

pub returns : goal.returns
returns c =
    rw (c.push_str-3.ensures.bytes, c.push_str-2.ensures.bytes, c.push_str.ensures.bytes, c.new-line.ensures, c.format.ensures.text, decimal_is c.args.n (omega arith))
    (append_assoc c.args.word.now (decimal c.args.n) (10 ∷ []))
