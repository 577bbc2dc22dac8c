-- The window's length by its function, the rest as it was.
use Rattle.replay.proofs.narrowed.Goals as goal

pub returns : goal.returns
returns c = λ kinds. rw c.window_above.ensures
