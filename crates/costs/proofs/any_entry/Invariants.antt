-- The entries so far and those that are left decide.
use Rattle.std.specs.Prelude.{◌≡◌, ◌||◌, false, drop}
use Rattle.std.specs.List.{fold}
use Rattle.costs.proofs.any_entry.Given as goal

abbrev pub invariant-loop-entry : goal.invariant-loop-entry
invariant-loop-entry g l = fold (λ any x. any || g.f x) false l.list ≡ fold (λ any x. any || g.f x) l.any (drop l.entry-index l.list)
