-- The tests of the code are the order of the search.
use mathlib.Core.Path.{◌≡◌}
use lib.Dec.{leb}
use Rattle.costs.specs.declared.Cost.{Cost}
use Rattle.costs.specs.Cost.{no_more}
use Rattle.window.specs.State.{whole}
use Rattle.algebra.specs.GasBytes.{le_is}
use Rattle.astar.specs.Cost.{lex}
use Rattle.astar.specs.Search.{before}
use Rattle.face.specs.Open.{no_later}
use Rattle.heap.specs.declared.Entry.{Entry}

-- ---- entries

pub no_later_is : (a b : Entry Cost) → no_later a b ≡ lex (no_more a.f b.f) (no_more b.f a.f) (lex (no_more a.g b.g) (no_more b.g a.g) (leb (whole a.state) (whole b.state)))
unfolding no_later before
no_later_is a b = rw (le_is a.f b.f, le_is b.f a.f, le_is a.g b.g, le_is b.g a.g)
