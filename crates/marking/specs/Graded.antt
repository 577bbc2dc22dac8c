-- What the results of the inner functions stand for.
use Rattle.std.specs.Prelude.{ℕ, Result, Ok, Err}
use Rattle.costs.specs.Refusal.{number_of, place_of}
use Rattle.costs.specs.declared.Refusal.{Refusal}
use Rattle.marking.specs.Marking.{no_mark}
use Rattle.marking.specs.declared.Graded.{Graded}
use Rattle.marking.specs.declared.Score.{Score}
use Rattle.marking.specs.declared.Score.TheVariants.{Passed, Missed, Dear}
use Rattle.marking.specs.declared.Marked.{Marked}

-- the number of a mark
abbrev pub mark_number : Score → ℕ
mark_number Passed = 0
mark_number Missed = 1
mark_number Dear = 2

-- no refusal, the mark's number and the greatest length
abbrev pub graded : Graded → Marked
graded g = record { refusal = 0; index = 0; mark = mark_number g.mark; highest = g.highest }

-- the mark, or the number of a refusal and the index beside it
abbrev pub marked_of : Result Graded Refusal → Marked
marked_of (Ok g) = graded g
marked_of (Err r) = no_mark (number_of r) (place_of r)
