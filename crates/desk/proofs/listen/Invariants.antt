-- The reader comes from the first by pieces, and by what was taken of the input.
use Rattle.desk_text.specs.Noted.{noted}
use Rattle.desk_text.specs.Pieces.{FedPieces}
use Rattle.desk.specs.Bytes.{Listened}
use Rattle.desk.proofs.listen.Given as goal

abbrev pub invariant-loop : goal.invariant-loop
invariant-loop g l = record {
  fed : FedPieces (noted l.initial.reader l.initial.list) (noted l.reader l.list);
  taken : Listened (noted l.initial.reader l.initial.list) (noted l.reader l.list) (g.R.Read.remaining l.initial.input) (g.R.Read.remaining l.input);
}
