-- What the rest of the steps reach from the window so far decides.
use Rattle.std.proofs.Common.{sym, ap, arith, ◌∙◌}
use Rattle.std.specs.Prelude.{ℕ, ◌<◌, ◌≤◌, ◌+◌, ◌≡◌, max, refl, List, Some, None}
use Rattle.std.proofs.Math.ListN as list
use Rattle.costs.specs.Step.{decoded}
use Rattle.replay.specs.Machine as machine
use Rattle.replay.specs.Machine.{Rules, rules_of}
use Rattle.replay.specs.Highest.{climb_on, climbs, climbs_not, highest_turn_stops, highest_turn_goes, highest_ends, highest_start}
use Rattle.replay.proofs.rules.Rules.highest.Invariants.{Way}
use Rattle.replay.proofs.rules.Rules.highest.Goals as goal

module _ (q : Rules) (start steps : List ℕ) where
  first : Way q start steps (list.length start) (list.length start) 0
  first = record { window = start; long = refl; low = omega arith; reaches = omega (arith, highest_start q steps start) }

  module _ (n most i : ℕ) (a : Way q start steps n most i) where
    -- the code at i on the window
    stopped : i < list.length steps → climb_on q (decoded (list.get_or steps i 0)) n ≡ None → most ≡ machine.highest q steps start
    stopped h e =
        let z = climbs_not q (decoded (list.get_or steps i 0)) a.window (ap (climb_on q (decoded (list.get_or steps i 0))) a.long ∙ e) in
        omega (arith, a.reaches, a.low, a.long, highest_turn_stops q steps i a.window h z)

    went : (m : ℕ) → i < list.length steps → climb_on q (decoded (list.get_or steps i 0)) n ≡ Some m → Way q start steps m (max most m) (i + 1)
    went m h e =
        let z = climbs q (decoded (list.get_or steps i 0)) a.window m (ap (climb_on q (decoded (list.get_or steps i 0))) a.long ∙ e) in
        record {
          window = z.0;
          long = z.2;
          low = omega arith;
          reaches = omega (arith, a.reaches, a.low, a.long, z.2, highest_start q (list.drop (i + 1) steps) z.0, highest_turn_goes q steps i a.window z.0 h z.1);
        }

    ended : list.length steps ≤ i → most ≡ machine.highest q steps start
    ended h = omega (arith, a.reaches, a.low, a.long, highest_ends q steps i a.window h)

pub loop-code-init : goal.loop-code-init
loop-code-init c = first _ c.args.start.now c.args.steps.now

pub loop-code-preserved : goal.loop-code-preserved
loop-code-preserved c =
    rw c.max-most.ensures (went _ _ _ _ _ _ c.loop-code.invariant _ c.loop-code-test.true (sym c.climb.ensures ∙ c.in-Some.is))

pub returns-in_default : goal.returns-in_default
returns-in_default c =
    stopped _ _ _ _ _ _ c.loop-code.invariant c.loop-code-test.true (sym c.climb.ensures ∙ c.in_default.is)

pub returns : goal.returns
returns c = ended _ _ _ _ _ _ c.loop-code.invariant c.loop-code-test.false
