-- A refusal by the table; else what the run's contract gives of its answer and its result list.
use Rattle.std.proofs.Common.{sym, ap, ap₂, arith, rules, ◌∙◌}
use Rattle.std.specs.Prelude.{◌≡◌, ◌≤◌, ℕ, List, ◌++◌, Err, length, take, drop}
use Rattle.std.proofs.Math.Seq.{take-append_seam}
use Rattle.std.proofs.lemmas.Grind.{common_steps}
use Rattle.costs.specs.declared.Cost.{Cost}
use Rattle.costs.specs.declared.Refusal.{Refusal}
use Rattle.costs.specs.Cost.{no_more}
use Rattle.costs.specs.Price.{cost_for_steps}
use Rattle.costs.specs.Refusal.{number_of, place_of, never_zero}
use Rattle.replay.specs.Machine.{Rules, ran_on, Outcome, ends, highest}
use Rattle.replay.specs.Beneath.{narrowed}
use Rattle.replay.specs.Replay as replay
use Rattle.replay.specs.Held.{ended, stepped, replayed_of, mapped}
use Rattle.replay.specs.declared.Replayed.{Replayed}
use Rattle.replay.specs.Laws as laws
use Rattle.replay.specs.Laws.{Accepted, accepted, never_refuses}
use Rattle.marking.specs.Marking.{marked, marked_on, mark_refusal, mark_of, no_mark, are_keys_same}
use Rattle.marking.specs.Laws.{replays, answer_refused, outcome_refuses, outcome_runs}
use Rattle.marking.proofs.try_mark.Goals as goal

module _ (q : Rules) (prices start goal steps : List ℕ) (most : Cost) where
  -- a refusal by the table
  refused : (r : Refusal) → number_of r ≡ mark_refusal q prices start goal (length steps) → place_of r ≡ 0 → no_mark (number_of r) (place_of r) ≡ marked q prices start goal steps most
  unfolding marked_on
  refused r e z = rw (outcome_refuses q prices start goal steps (number_of r) e (never_zero r), z)

  module _ (e : 0 ≡ mark_refusal q prices start goal (length steps)) where
    -- what the run may rest on
    rests : Accepted q start (length steps) 21 (length steps)
    rests = accepted q start (length steps) 21 (length steps) (replays q prices start goal (length steps) 21 (length steps) (omega arith) (omega arith) (sym e))

    fits : length start ≤ 21
    fits = omega (arith, rests.fits, rests.window)

    module _ (run : Rules) (runs : run ≡ narrowed q) (old : List ℕ) (r : Replayed) (written : List ℕ) (k : ◌≡◌ {A = Replayed × List ℕ} (r, written) (replay.carried run start steps old)) where
      abbrev high : ℕ
      high = highest (narrowed q) steps start

      abbrev came : Outcome
      came = ran_on (narrowed q) 0 steps start

      carried : ◌≡◌ {A = Replayed × List ℕ} (r, written) (replay.reached high came old)
      carried = k ∙ ap (λ (x : Rules). replay.carried x start steps old) runs

      answered : r ≡ replay.answer_of high came
      answered = ap (λ (p : Replayed × List ℕ). p.0) carried

      -- a step that is not allowed
      stopped : (r.refusal ≡ 0 → ⊥) → no_mark r.refusal r.index ≡ marked q prices start goal steps most
      unfolding marked_on
      stopped n =
          rw (outcome_runs q prices start goal steps (sym e))
          (rw answered (sym (answer_refused goal _ high came (λ z. n (ap (λ (x : Replayed). x.refusal) answered ∙ z)))))

      -- where the answer has no number, the steps end at a window, which the result list holds
      record AtEnd : Type 0 where
        window : List ℕ
        ends_at : came ≡ ends window
        counted : r.length ≡ length window
        highest_is : r.highest ≡ high
        rest : List ℕ
        held : written ≡ window ++ rest

      at_end : r.refusal ≡ 0 → AtEnd
      at_end h =
          let e = laws.ended high came (never_refuses _ _ _ _) (ap (λ (x : Replayed). x.refusal) (sym answered) ∙ h) in
          let g = answered ∙ ap (replay.answer_of high) e.1 in
          record {
            window = e.0;
            ends_at = e.1;
            counted = ap (λ (x : Replayed). x.length) g;
            highest_is = ap (λ (x : Replayed). x.highest) g;
            rest = drop (length e.0) old;
            held = ap (λ (p : Replayed × List ℕ). p.1) carried ∙ ap (λ (o : Outcome). replay.result_of o old) e.1;
          }

      finished : (n m : ℕ) → r.refusal ≡ 0 → m ≡ r.highest → n ≡ mark_of goal (no_more (cost_for_steps prices steps) most) (take r.length written) →
          record { refusal = 0; index = 0; mark = n; highest = m } ≡ marked q prices start goal steps most
      unfolding marked_on
      finished n m h f g =
          let a = at_end h in
          let t : take r.length written ≡ a.window = ap₂ take a.counted a.held ∙ take-append_seam a.window a.rest in
          rw (outcome_runs q prices start goal steps (sym e) ∙ a.ends_at, f ∙ a.highest_is, g ∙ ap (mark_of goal (no_more (cost_for_steps prices steps) most)) t)

pub returns-in_err-check : goal.returns-in_err-check
returns-in_err-check c =
    let k : c.from_residual.result ≡ Err c.in_err-check.field-0.0 = grind (arith, common_steps) in
    rw k (refused _ _ _ _ _ _ _ c.in_err-check.ensures.refusal c.in_err-check.ensures.index)

pub narrowed-requires : goal.narrowed-requires
narrowed-requires c =
    let a = rests _ _ _ _ _ c.args.most c.in_ok-check.ensures.refusal in
    (a.window, a.kinds)

pub carry_out-requires : goal.carry_out-requires
carry_out-requires c =
    let e = c.in_ok-check.ensures.refusal in
    let a = rests _ _ _ _ _ c.args.most e in
    (a.keys, fits _ _ _ _ _ c.args.most e, omega arith)

pub returns-in_err-ended : goal.returns-in_err-ended
returns-in_err-ended c =
    let e = c.in_ok-check.ensures.refusal in
    let k : c.from_residual-in_err-ended.result ≡ Err c.in_err-ended.field-0.0 = grind (arith, common_steps) in
    let m : replayed_of (Err c.in_err-ended.field-0.0) ≡ stepped c.carry_out.result = sym (ap replayed_of c.in_err-ended.was) ∙ mapped _ _ c.map_err.ensures.cases in
    rw k
    (ap (λ (r : Replayed). no_mark r.refusal r.index) m
    ∙ stopped _ _ _ _ _ _ e _ c.narrowed.ensures _ _ _ c.carry_out.ensures (λ z. never_zero c.in_err-ended.field-0.0 (ap (λ (r : Replayed). r.refusal) m ∙ z)))

pub returns : goal.returns
returns c =
    let e = c.in_ok-check.ensures.refusal in
    let m : ended c.in_ok-ended.ended ≡ stepped c.carry_out.result = sym (ap replayed_of c.in_ok-ended.was) ∙ mapped _ _ c.map_err.ensures.cases in
    let z : (stepped c.carry_out.result).refusal ≡ 0 = ap (λ (r : Replayed). r.refusal) (sym m) in
    let l : c.in_ok-ended.ended.length ≡ (stepped c.carry_out.result).length = ap (λ (r : Replayed). r.length) m in
    let s : c.eq-reached.result ≡ are_keys_same (take c.in_ok-ended.ended.length c.carry_out.new.res) c.args.goal.now = c.eq-reached.ensures ∙ search rules in
    finished _ _ _ _ _ _ e _ c.narrowed.ensures _ _ _ c.carry_out.ensures _ _ z (ap (λ (r : Replayed). r.highest) m)
    (c.grade.ensures ∙ rw (s, c.no_more-within.ensures, c.cost_for_steps.ensures, l))
