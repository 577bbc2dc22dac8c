-- What the code is given, as the definitions have it.
use Rattle.std.specs.Prelude.{ℕ, ◌++◌, List, length, min}
use Rattle.costs.specs.declared.Step.{Step}
use Rattle.successors.specs.declared.Asked.{Asked}
use Rattle.successors.specs.Successors.{Question, zeros, dups, others, loads, grown}
use Rattle.successors.specs.Whole.{asked}

-- the question
abbrev pub question_of : Asked → Question
question_of q = asked q.cfg q.kinds.now q.prices.now q.goal.now

-- the push of zero, where a window of n keys may grow
abbrev pub zeros_of : Asked → ℕ → List Step
zeros_of q n = grown q.cfg.max_len n (zeros q.kinds.now q.keys.now)

-- the Dups of a window, the pushes of other immediates and the loads, where Dups reach so many places
abbrev pub rest_of : Asked → List ℕ → ℕ → List Step
rest_of q w reach = dups q.kinds.now q.goal.now w reach ++ (others q.kinds.now q.prices.now q.keys.now w reach ++ loads q.kinds.now q.keys.now w reach)

-- the same, where the window may grow
abbrev pub grown_of : Asked → List ℕ → List Step
grown_of q w = grown q.cfg.max_len (length w) (rest_of q w (min (length w) q.cfg.dup_max))
