-- What replay gives, stepping back takes back; and what stepping back gives, replay leads forth.
use Rattle.std.specs.Prelude.{ℕ, ◌+◌, ◌<◌, ◌≤◌, Bool, false, List, ◌≡◌, ltb, length, take, drop}
use Rattle.std.proofs.Common.{ap, sym, subst, ◌∙◌, arith, lt-ltb, le-ltb, length-append, take_at}
use Rattle.costs.specs.Choice.{◌if◌otherwise◌}
use Rattle.costs.specs.Table.{any_over, count_of}
use Rattle.replay.specs.Beneath.{narrowed, narrowed_most, narrowed_stands, tall_sum}
use Rattle.replay.specs.Laws.{Accepted, accepted, replay_passes, replay_ended, outcome_accepted}
use Rattle.replay.specs.Popped.{kept}
use Rattle.replay.specs.Machine.{Rules, Outcome, ends, ran_on, highest, popped_on}
use Rattle.replay.specs.Replay.{over, answered, replayed}
use Rattle.replay.specs.declared.Replayed.{Replayed}
use Rattle.rewind.specs.Led.{LedBack}
use Rattle.rewind.specs.Rewind.{rewind_refusal, refused, given, rewound}
use Rattle.rewind.specs.Laws as back
use Rattle.rewind.specs.Laws.{rewind_rows, rewound_refused}
use Rattle.rewind.specs.Theorems.{led_fits, led_beneath, led_narrow}
use Rattle.rewind.specs.Back.{given_iff_led, zero_iff_some}
use Rattle.rewind.specs.declared.Rewound.{Rewound}

-- a start that led here has a window no longer than the greatest length after each first part of the steps, the end too, and a stack of no more
-- than 1,024 items
pub way_fits : (q : Rules) (start steps popped end : List ℕ) → LedBack q start steps popped end → (i : ℕ) (w : List ℕ) → ran_on (narrowed q) 0 (take i steps) start ≡ ends w →
    (length w ≤ q.max_len) × (q.beneath + length w ≤ 1024)
way_fits q start steps popped end l i w h =
    let f = (kept (narrowed q) (take i steps) 0 start w (led_fits q start steps popped end l) l.keys h).end_fits in
    (omega (arith, f, narrowed_most q), tall_sum q.beneath (length w) (narrowed_stands q (length w) (led_beneath q start steps popped end l) f))

-- ---- there and back

-- what a replay with number 0 leaves in its lists
record Written (q : Rules) (start steps result popped new keys : List ℕ) (r : Replayed) : Type 0 where
  end : List ℕ
  taken : Accepted q start (length steps) (length result) (length popped)
  leads : ran_on (narrowed q) 0 steps start ≡ ends end
  counted : length (popped_on (narrowed q) steps start) ≡ count_of 0 steps
  len : r.length ≡ length end
  text : new ≡ over end result
  pops : keys ≡ over (popped_on (narrowed q) steps start) popped

over_front : (end old : List ℕ) (n : ℕ) → n ≡ length end → take n (over end old) ≡ end
over_front end old n e = take_at end (drop (length end) old) n (sym e)

over_long : (end old : List ℕ) → length end ≤ length (over end old)
over_long end old = omega (arith, length-append end (drop (length end) old))

module _ (q : Rules) (start steps result popped new keys : List ℕ) (r : Replayed) (e : ◌≡◌ {A = Replayed × List ℕ × List ℕ} (r, new, keys) (replayed q start steps result popped)) (z : r.refusal ≡ 0) where
  written : Written q start steps result popped new keys r
  written =
      let d = replay_ended q start steps (length result) (length popped) (highest (narrowed q) steps start) (ap (λ (x : Replayed × List ℕ × List ℕ). x.0.refusal) (sym e) ∙ z) in
      let t = accepted q start (length steps) (length result) (length popped) d.1 in
      let o = e ∙ ap (λ (x : Outcome). answered (highest (narrowed q) steps start) x (popped_on (narrowed q) steps start) result popped) (outcome_accepted q start steps (length result) (length popped) d.1 ∙ d.2) in
      record {
        end = d.0;
        taken = t;
        leads = d.2;
        counted = (kept (narrowed q) steps 0 start d.0 t.fits t.low d.2).counted;
        len = ap (λ (x : Replayed × List ℕ × List ℕ). x.0.length) o;
        text = ap (λ (x : Replayed × List ℕ × List ℕ). x.1) o;
        pops = ap (λ (x : Replayed × List ℕ × List ℕ). x.2) o;
      }

  -- the answer's length and the count of Pops are places of the lists
  pub end_within : r.length ≤ length new
  end_within = let w = written in omega (arith, w.len, ap length w.text, over_long w.end result)

  pub popped_within : count_of 0 steps ≤ length keys
  popped_within = let w = written in omega (arith, w.counted, ap length w.pops, over_long (popped_on (narrowed q) steps start) popped)

  -- the start led to the end window in the one list, with the keys in the other popped
  pub replay_led : LedBack q start steps (take (count_of 0 steps) keys) (take r.length new)
  replay_led =
      let w = written in
      let n : take r.length new ≡ w.end = ap (take r.length) w.text ∙ over_front w.end result r.length w.len in
      let p : take (count_of 0 steps) keys ≡ popped_on (narrowed q) steps start = ap (take (count_of 0 steps)) w.pops ∙ over_front (popped_on (narrowed q) steps start) popped (count_of 0 steps) (sym w.counted) in
      let b : q.beneath ≤ 1024 = omega (arith, tall_sum q.beneath (length start) w.taken.stands) in
      led_narrow q start steps (take (count_of 0 steps) keys) (take r.length new) b w.taken.low w.taken.fits (w.leads ∙ ap ends (sym n)) (sym p)

  -- no row before 7 refuses them
  back_rows : (places : ℕ) → rewind_refusal q (take r.length new) (length steps) (take (count_of 0 steps) keys) places ≡ (7 if ltb places 21 otherwise 0)
  back_rows places =
      let b = replay_led in
      let t = written.taken in
      let k = kept (narrowed q) steps 0 start (take r.length new) t.fits t.low b.leads in
      let p = subst (λ (x : List ℕ). any_over 63 x ≡ false) b.pops k.popped_low in
      let d = led_beneath q start steps (take (count_of 0 steps) keys) (take r.length new) b in
      rewind_rows q (take r.length new) (length steps) (take (count_of 0 steps) keys) places t.head k.end_low p (narrowed_stands q (length (take r.length new)) d k.end_fits) (omega (arith, k.end_fits, narrowed_most q))

  -- what replay gives, stepping back takes back
  pub takes_back : (old : List ℕ) → 21 ≤ length old → rewound q (take r.length new) steps (take (count_of 0 steps) keys) old ≡ given start old
  takes_back old l =
      let h = back_rows (length old) ∙ ap (λ (b : Bool). 7 if b otherwise 0) (le-ltb (length old) 21 l) in
      (given_iff_led q (take r.length new) steps (take (count_of 0 steps) keys) old h start).0 replay_led

  -- and gives 7 where there are not 21 places for it
  pub takes_none : (old : List ℕ) → length old < 21 → rewound q (take r.length new) steps (take (count_of 0 steps) keys) old ≡ refused 7 old
  takes_none old l =
      let h = back_rows (length old) ∙ ap (λ (b : Bool). 7 if b otherwise 0) (lt-ltb (length old) 21 l) in
      rewound_refused q (take r.length new) steps (take (count_of 0 steps) keys) old 7 (sym h) (λ z. omega (arith, z))

-- what stepping back gives, replay leads forth
pub leads_forth : (q : Rules) (end steps popped old start result keys : List ℕ) → rewound q end steps popped old ≡ given start old → 21 ≤ length result → length steps ≤ length keys →
    ◌≡◌ {A = Replayed × List ℕ × List ℕ} (replayed q start steps result keys) (record { refusal = 0; index = 0; length = length end; highest = highest (narrowed q) steps start }, over end result, over popped keys)
leads_forth q end steps popped old start result keys e l m =
    let h = ((zero_iff_some q end steps popped old).0 (ap (λ (x : Rewound × List ℕ). x.0.refusal) e)).0 in
    let b = (given_iff_led q end steps popped old h start).1 e in
    let s = back.accepted q end (length steps) popped (length old) h in
    let a = replay_passes q start (length steps) (length result) (length keys) s.head b.keys b.stands b.fits l m in
    ap (λ (x : Outcome). answered (highest (narrowed q) steps start) x (popped_on (narrowed q) steps start) result keys) (outcome_accepted q start steps (length result) (length keys) a ∙ b.leads)
    ∙ ap (λ (x : List ℕ). answered (highest (narrowed q) steps start) (ends end) x result keys) b.pops
