-- Why a run ended, as the search has it.
use Rattle.astar.specs.Search.{Ending as Ended, drained, cutOff, states, expansions}
use Rattle.run.specs.declared.Ending.{Ending}
use Rattle.run.specs.declared.Ending.TheVariants.{Drained, CutOff, States, Expansions}

abbrev pub ended_by : Ending → Ended
ended_by Drained = drained
ended_by CutOff = cutOff
ended_by States = states
ended_by Expansions = expansions
