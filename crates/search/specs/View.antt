-- The question as the definitions have it; the successors of a window as the loop offers them, one after the other; and what is true of every
-- state drawn.
use Rattle.std.specs.Prelude.{◌≡◌, List, [], ℕ, ◌≤◌, length}
use Rattle.costs.specs.declared.Cost.{Cost}
use Rattle.costs.specs.Packed.{cost_of}
use Rattle.window.specs.Pack.{Keys, pack}
use Rattle.window.specs.declared.PackedState.{PackedState}
use Rattle.window.specs.State.{whole}
use Rattle.algebra.specs.GasBytes.{gas_bytes}
use Rattle.astar.specs.Search.{Entry, Succ, Work, offers}
use Rattle.successors.specs.Successors.{Question as Posed}
use Rattle.successors.specs.View.{question_of}
use Rattle.problem.specs.Problem.{problem_of}
use Rattle.moves.specs.Moves.{Parent}
use Rattle.offer.specs.Rules.{Rules}
use Rattle.offer.specs.View.{hand_of}
use Rattle.heap.specs.declared.Entry.{Entry as Waiting}
use Rattle.offer.specs.declared.Held.{Held}
use Rattle.offer.specs.declared.Origin.{Origin}
use Rattle.search.specs.declared.Question.{Question}

-- the question that is posed
abbrev pub posed : Question → Posed
posed x = question_of x.asked

-- h is the estimate of a state, and have the counts of its keys
abbrev pub Stands : Question → PackedState → ℕ → List ℕ → Type 0
Stands x state h have = Parent x.weights.prices.now x.weights.dup h have x.weights.want.now state x.asked.goal.now x.asked.cfg.dup_max

-- what the problem of a question says beside its start and its goal
abbrev pub rules_of : Posed → Rules
rules_of q = record { est = (problem_of q []).est; after = (problem_of q []).after }

-- the work after successors of p were offered, one after the other
abbrev pub all_offered : Posed → Held → Origin → List (Succ Cost ℕ) → Work Cost ℕ → Work Cost ℕ
all_offered q h p xs w = offers gas_bytes (problem_of q []) (hand_of h) (whole p.state) (cost_of p.cost) xs w

-- The state v is a window of the question: keys below 64, within the greatest length.
pub record IsWindow (q : Posed) (v : ℕ) : Type 0 where
  pub keys : List ℕ
  pub packed : v ≡ pack 6 keys
  pub below : Keys 6 keys
  pub fits : length keys ≤ q.rules.max_len

-- The open entry e is of a window of the question, and its f is its g and the window's estimate.
pub record Awaits (q : Posed) (e : Entry Cost) : Type 0 where
  pub window : IsWindow q e.state
  pub summed : e.f ≡ gas_bytes.◌⊞◌ e.g ((problem_of q []).est e.state)

-- the state of an open entry, and its cost
abbrev pub origin_of : Waiting ℕ → Origin
origin_of e = record { state = e.state; cost = e.g }
