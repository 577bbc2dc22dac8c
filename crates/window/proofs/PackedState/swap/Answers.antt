-- `window::PackedState::swap` meets its contract.
use Rattle.std.proofs.Math.Path.{◌≡◌}
use Rattle.std.specs.Prelude.{refl, length, set}
use Rattle.std.proofs.Common.{subst₂, arith, lt-length-set}
use mathlib.Core.List.{List, [], ◌∷◌}
use Prim.Native.Nat.{ℕ, zero, suc, ◌<◌}
use Rattle.std.proofs.Math.ListN.{get_or}
use Rattle.window.specs.Laws.{key_lt}
use Rattle.window.specs.State.{Held}
use Rattle.window.proofs.PackedState.swap.Goals as goal

first : (d : ℕ) (xs : List ℕ) → d < length xs → 0 < length xs
first d xs l = omega arith

-- the key at d is still there once it stands on top too
still : (xs : List ℕ) (d o : ℕ) → d < length xs → o ≡ get_or xs d 0 → o ≡ get_or (set xs 0 o) d 0
still [] d o l e = absurd (omega arith)
still (x ∷ xs) zero o l e = refl
still (x ∷ xs) (suc d) o l e = e

pub get-top-requires : goal.get-top-requires
get-top-requires c = (c.requires.0, c.requires.1, first c.args.depth c.requires.0 c.requires.2)

pub replace-requires : goal.replace-requires
replace-requires c =
    let p = c.requires in
    let f = first c.args.depth p.0 p.2 in (
      (p.0, p.1, f, c.get-top.ensures p.0 p.1 f),
      rw (c.get-other.ensures p.0 p.1 p.2) (key_lt 6 p.0 c.args.depth p.1.keys),
    )

pub replace-requires-2 : goal.replace-requires-2
replace-requires-2 c =
    let p = c.requires in
    let f = first c.args.depth p.0 p.2 in
    let o = c.get-other.result in (
      (
        set p.0 0 o,
        c.replace.ensures p.0 p.1 f,
        lt-length-set p.0 0 o p.2,
        still p.0 c.args.depth o p.2 (c.get-other.ensures p.0 p.1 p.2),
      ),
      rw (c.get-top.ensures p.0 p.1 f) (key_lt 6 p.0 0 p.1.keys),
    )

pub returns : goal.returns
returns c = λ xs h l.
    let d = c.args.depth in
    let f = first d xs l in
    let o = c.get-other.result in
    subst₂ (λ (y z : ℕ). Held 6 c.replace-2.result (set (set xs 0 y) d z))
    (c.get-other.ensures xs h l) (c.get-top.ensures xs h f)
    (c.replace-2.ensures (set xs 0 o) (c.replace.ensures xs h f) (lt-length-set xs 0 o l))
