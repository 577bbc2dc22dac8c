-- `window::PackedState::dup` meets its contract.
use Rattle.std.proofs.Common.{subst}
use mathlib.Core.List.{◌∷◌}
use Prim.Native.Nat.{ℕ}
use Rattle.window.specs.Laws.{key_lt}
use Rattle.window.specs.State.{Held}
use Rattle.window.proofs.PackedState.dup.Goals as goal

pub get-requires : goal.get-requires
get-requires c = (c.requires.0, c.requires.1, c.requires.2)

pub push-requires : goal.push-requires
push-requires c =
    let p = c.requires in
    ((p.0, p.1, p.3), rw (c.get.ensures p.0 p.1 p.2) (key_lt 6 p.0 c.args.pos p.1.keys))

pub returns : goal.returns
returns c = λ xs h l. subst (λ (k : ℕ). Held 6 c.push.result (k ∷ xs)) (c.get.ensures xs h l) (c.push.ensures xs h)
