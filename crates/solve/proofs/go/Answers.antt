use Rattle.search.proofs.Laws.{window_held}
use Rattle.solve.proofs.Laws.{start_waits, went}
use Rattle.solve.proofs.go.Goals as goal

pub begin-sizes-requires-clause-window : goal.begin-sizes-requires-clause-window
begin-sizes-requires-clause-window c = window_held c.args.question.now _ c.requires.window

pub run-requires-clause-all_valid : goal.run-requires-clause-all_valid
run-requires-clause-all_valid c = start_waits _ _ _ _ _ _ c.begin-sizes.ensures c.requires.window

pub returns : goal.returns
returns c = went _ _ _ _ _ _ _ _ _ _ _ c.begin-sizes.ensures c.run.ensures
